-- What a line says, as JSON. 10 is a newline, 32 a space, 94 `^`.
use Rattle.std.specs.Prelude.{◌≡◌, ◌≢◌, ℕ, zero, suc, ◌==◌, List, [], ◌∷◌, map, codes, Bool, true, false, if◌then◌else◌, Option, Some, None, option_and_then}
use Rattle.std.specs.List.{All, after_first, before_first, slice_split}
use Rattle.std.specs.Str.{is_utf8}
use Rattle.hex.specs.Hex.{encode_lower}
use Rattle.serde_json.specs.Data.{Data, Num, unsigned, negative, float, null, boolean, number, string, array, object, member, no_members}
use Rattle.serde_json.specs.Find.{as_number}
use Rattle.serde_json.specs.Read.{read}
use Rattle.serde_json.specs.View.{items_of}
use Rattle.serde_json.specs.Written.{compact_text}
use Rattle.gix_output.specs.declared.json.Shape.{Shape}
use Rattle.gix_output.specs.declared.json.Shape.TheVariants.{Commit, Entry, Count, Ahead, Id, Revision, Resolved}

-- what is behind so many such bytes, and what is before the next one
abbrev pub behind : (byte number : ℕ) → List ℕ → List ℕ
behind byte zero text = text
behind byte (suc n) text = behind byte n (after_first (λ b. b == byte) text)

abbrev pub part : (byte number : ℕ) → List ℕ → List ℕ
part byte n text = before_first (λ b. b == byte) (behind byte n text)

-- what is between spaces, and nothing of no text
abbrev pub parts : List ℕ → List (List ℕ)
parts [] = []
parts (b ∷ text) = slice_split (λ c. c == 32) (b ∷ text)

-- bytes as a text, or in hex digits if they aren't UTF-8
abbrev pub bytes_data : List ℕ → Data
bytes_data text = if is_utf8 text then string text else object (member (codes "hex") (string (encode_lower text)) no_members)

-- a number, but for a float: JSON reads one also in `-0`, and in an integer that doesn't fit 64 bits
abbrev pub or_null : Option Num → Data
or_null None = null
or_null (Some (unsigned n)) = number (unsigned n)
or_null (Some (negative z)) = number (negative z)
or_null (Some (float x)) = null

-- the integer of 64 bits that JSON reads in a text
abbrev pub number_data : List ℕ → Data
number_data text = or_null (if is_utf8 text then option_and_then as_number (read text) else None)

-- the ids between spaces
abbrev pub parents_data : List ℕ → Data
parents_data ids = array (items_of (map bytes_data (parts ids)))

abbrev pub commit_data : List ℕ → Data
commit_data line = object (
    member (codes "author") (bytes_data (part 10 4 line)) (
    member (codes "email") (bytes_data (part 10 5 line)) (
    member (codes "id") (bytes_data (part 10 0 line)) (
    member (codes "parents") (parents_data (part 10 2 line)) (
    member (codes "subject") (bytes_data (behind 10 6 line)) (
    member (codes "time") (number_data (part 10 3 line)) (
    member (codes "tree") (bytes_data (part 10 1 line)) no_members)))))))

abbrev pub entry_data : List ℕ → Data
entry_data line = object (
    member (codes "id") (bytes_data (part 32 1 line)) (
    member (codes "mode") (bytes_data (part 32 0 line)) (
    member (codes "path") (bytes_data (behind 32 2 line)) no_members)))

abbrev pub count_data : List ℕ → Data
count_data line = object (member (codes "count") (number_data line) no_members)

abbrev pub ahead_data : List ℕ → Data
ahead_data line = object (
    member (codes "ahead") (number_data (part 32 0 line)) (
    member (codes "behind") (number_data (behind 32 1 line)) no_members))

abbrev pub only_id_data : List ℕ → Data
only_id_data line = object (member (codes "id") (bytes_data line) no_members)

abbrev pub id_and_revision_data : List ℕ → Data
id_and_revision_data line = object (
    member (codes "id") (bytes_data (part 32 0 line)) (
    member (codes "revision") (bytes_data (behind 32 1 line)) no_members))

abbrev pub excluded_data : Bool → List ℕ → Data
excluded_data is_excluded id = object (
    member (codes "excluded") (boolean is_excluded) (
    member (codes "id") (bytes_data id) no_members))

abbrev pub resolved_data : List ℕ → Data
resolved_data [] = excluded_data false []
resolved_data (b ∷ line) = if b == 94 then excluded_data true line else excluded_data false (b ∷ line)

abbrev pub data_of : Shape → List ℕ → Data
data_of Commit = commit_data
data_of Entry = entry_data
data_of Count = count_data
data_of Ahead = ahead_data
data_of Id = only_id_data
data_of Revision = id_and_revision_data
data_of Resolved = resolved_data

-- a line as JSON, in the shortest form
abbrev pub json_of : Shape → List ℕ → List ℕ
json_of shape line = compact_text (data_of shape line)

-- JSON reads in it what the line says, no more and no less
abbrev pub ReadsBack : Shape → List ℕ → Type 0
ReadsBack shape line = read (json_of shape line) ≡ Some (data_of shape line)

-- no line's JSON holds a newline
abbrev pub EachOnOneLine : Type 0
EachOnOneLine = (shape : Shape) (line : List ℕ) → All (λ b. b ≢ 10) (json_of shape line)
