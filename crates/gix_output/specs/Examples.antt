-- Worked examples of the JSON of lines, and of what a terminal is given.
use Rattle.std.specs.Prelude.{◌≡◌, ℕ, List, [], ◌∷◌, ◌++◌, codes, Some, refl}
use Rattle.std.specs.Fmt.{digits}
use Rattle.std.specs.Str.{chars, is_utf8}
use Rattle.hex.specs.Hex.{encode_with}
use Rattle.serde_json.proofs.OnLiterals.{serde_json_on_literals}
use Rattle.serde_json.specs.Read.{read}
use Rattle.gix_output.specs.Json.{data_of, json_of}
use Rattle.gix_output.specs.Terminal.{quoted}
use Rattle.gix_output.specs.declared.json.Shape.{Shape}
use Rattle.gix_output.specs.declared.json.Shape.TheVariants.{Commit, Entry, Ahead, Resolved}

-- this line is written as this JSON, which says what it says
abbrev pub IsWrittenAs : Shape → (line json : List ℕ) → Type 0
IsWrittenAs shape line json = (json_of shape line ≡ json) × (read json ≡ Some (data_of shape line))

-- A commit with two parents. The name of its author has a byte 246, which is no UTF-8.
pub commit_example : IsWrittenAs Commit (codes "c1\ne5\na1 b2\n1700000000\nJ" ++ 246 ∷ codes "rg\nj@x\nSay \"hi\"")
    (codes "{\"author\":{\"hex\":\"4af67267\"},\"email\":\"j@x\",\"id\":\"c1\",\"parents\":[\"a1\",\"b2\"],\"subject\":\"Say \\\"hi\\\"\",\"time\":1700000000,\"tree\":\"e5\"}")
unfolding serde_json_on_literals digits chars is_utf8 encode_with
commit_example = (refl, refl)

-- a root commit, whose time isn't known
pub root_example : IsWrittenAs Commit (codes "c1\ne5\n\n\nA\n\n")
    (codes "{\"author\":\"A\",\"email\":\"\",\"id\":\"c1\",\"parents\":[],\"subject\":\"\",\"time\":null,\"tree\":\"e5\"}")
unfolding serde_json_on_literals digits chars is_utf8 encode_with
root_example = (refl, refl)

-- a time of 20 digits, which is 2 ^ 64
pub great_time_example : IsWrittenAs Commit (codes "c1\ne5\n\n18446744073709551616\nA\n\n")
    (codes "{\"author\":\"A\",\"email\":\"\",\"id\":\"c1\",\"parents\":[],\"subject\":\"\",\"time\":null,\"tree\":\"e5\"}")
unfolding serde_json_on_literals digits chars is_utf8 encode_with
great_time_example = (refl, refl)

-- a path with spaces, quotes and a newline
pub entry_example : IsWrittenAs Entry (codes "100644 b0 a \"b\" c\nd")
    (codes "{\"id\":\"b0\",\"mode\":\"100644\",\"path\":\"a \\\"b\\\" c\\nd\"}")
unfolding serde_json_on_literals digits chars is_utf8 encode_with
entry_example = (refl, refl)

pub ahead_example : IsWrittenAs Ahead (codes "3 5")
    (codes "{\"ahead\":3,\"behind\":5}")
unfolding serde_json_on_literals digits chars is_utf8 encode_with
ahead_example = (refl, refl)

pub excluded_example : IsWrittenAs Resolved (codes "^a1")
    (codes "{\"excluded\":true,\"id\":\"a1\"}")
unfolding serde_json_on_literals digits chars is_utf8 encode_with
excluded_example = (refl, refl)

-- what makes a terminal write in red
pub red_example : quoted 10 (27 ∷ codes "[31m") ≡ codes "\\033[31m"
red_example = refl

-- the same by U+009B
pub control_example : quoted 10 (194 ∷ 155 ∷ codes "31m") ≡ 194 ∷ codes "\\23331m"
control_example = refl

-- where both its bytes come in two pieces
pub piece_example : quoted 194 (155 ∷ []) ≡ codes "\\233"
piece_example = refl

-- letters beyond ASCII stay
pub letter_example : quoted 10 (195 ∷ 164 ∷ []) ≡ 195 ∷ 164 ∷ []
letter_example = refl

-- a tab is quoted, a newline stays, and so does a backslash
pub tab_example : quoted 10 (codes "a\tb\\\n") ≡ codes "a\\011b\\\n"
tab_example = refl
