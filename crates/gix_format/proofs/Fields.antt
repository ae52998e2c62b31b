-- What each field says.
use Rattle.std.proofs.Common.{codes, ℕ, ◌≡◌, ◌*◌, ◌&&◌, List, [], ◌∷◌, Bool, true, false, take, drop, refl, ap, ◌∙◌, arith}
use Rattle.std.specs.Prelude.{find, flat_map, not}
use Rattle.std.specs.Fmt.{signed_decimal}
use Rattle.std.specs.List.{list_all}
use Rattle.std.specs.Str.{bytes_eq, str_to_ascii_lowercase}
use Rattle.std.proofs.lemmas.Bool.{cond-false}
use Rattle.std.proofs.lemmas.Bool.Decides.{nat_tests}
use Rattle.gix_hash.specs.declared.ObjectId.{ObjectId}
use Rattle.gix_hash.specs.declared.ObjectId.TheVariants.{Sha1, Sha256}
use Rattle.gix_hash.specs.Id.{id_len, kind_of}
use Rattle.gix_statement.specs.Formats.{Commit, address_in, digits_in, fields, header, hex, lines_in, name_in, offset, said}
use Rattle.gix_format.specs.Pieces.{date_text, field_text, subject_text}

pub digits_in-is : (i : ObjectId) → 2 * id_len (kind_of i) ≡ digits_in i
digits_in-is (Sha1 bytes) = refl
digits_in-is (Sha256 bytes) = refl

by_name : (c : Commit) (b l before letter : ℕ) (value : List ℕ) → field_text c b l ≡ value → before ≡ b → letter ≡ l → field_text c before letter ≡ value
by_name c b l before letter value is p q = ap (λ n. field_text c n letter) p ∙ ap (field_text c b) q ∙ is

pub percent : (c : Commit) (before letter : ℕ) → before ≡ 37 → letter ≡ 37 → field_text c before letter ≡ 37 ∷ []
unfolding field_text
percent c before letter = by_name c 37 37 before letter _ refl

pub newline : (c : Commit) (before letter : ℕ) → before ≡ 37 → letter ≡ 110 → field_text c before letter ≡ 10 ∷ []
unfolding field_text
newline c before letter = by_name c 37 110 before letter _ refl

pub id : (c : Commit) (before letter : ℕ) → before ≡ 37 → letter ≡ 72 → field_text c before letter ≡ hex c.id
unfolding field_text
id c before letter = by_name c 37 72 before letter _ refl

pub short_id : (c : Commit) (before letter : ℕ) → before ≡ 37 → letter ≡ 104 → field_text c before letter ≡ take 10 (hex c.id)
unfolding field_text
short_id c before letter = by_name c 37 104 before letter _ refl

pub tree : (c : Commit) (before letter : ℕ) → before ≡ 37 → letter ≡ 84 → field_text c before letter ≡ str_to_ascii_lowercase (take (digits_in c.id) (drop 5 c.text))
unfolding field_text
tree c before letter = by_name c 37 84 before letter _ refl

pub parents : (c : Commit) (before letter : ℕ) → before ≡ 37 → letter ≡ 80
    → field_text c before letter ≡ drop 1 (flat_map (λ p. 32 ∷ hex p) c.parents)
unfolding field_text
parents c before letter = by_name c 37 80 before letter _ refl

pub subject_line : (c : Commit) (before letter : ℕ) → before ≡ 37 → letter ≡ 115 → field_text c before letter ≡ subject_text c.text
unfolding field_text subject_text
subject_line c before letter = by_name c 37 115 before letter _ refl

pub name : (c : Commit) (before letter : ℕ) → before ≡ 97 → letter ≡ 110 → field_text c before letter ≡ name_in (header (codes "author ") (lines_in c.text))
unfolding field_text
name c before letter = by_name c 97 110 before letter _ refl

pub address : (c : Commit) (before letter : ℕ) → before ≡ 97 → letter ≡ 101 → field_text c before letter ≡ address_in (header (codes "author ") (lines_in c.text))
unfolding field_text
address c before letter = by_name c 97 101 before letter _ refl

pub seconds : (c : Commit) (before letter : ℕ) → before ≡ 99 → letter ≡ 116 → field_text c before letter ≡ signed_decimal c.time
unfolding field_text
seconds c before letter = by_name c 99 116 before letter _ refl

pub date : (c : Commit) (before letter : ℕ) → before ≡ 99 → letter ≡ 105 → field_text c before letter ≡ date_text c.time (offset (header (codes "committer ") (lines_in c.text)))
unfolding field_text date_text
date c before letter = by_name c 99 105 before letter _ refl

pub ruleset what_each_says = (percent, newline, id, short_id, tree, parents, subject_line, name, address, seconds, date)

abbrev Field : Type 0
Field = List ℕ × (Commit → List ℕ)

abbrev all_other : List ℕ → List Field → Bool
all_other name fs = list_all (λ (f : Field). not (bytes_eq f.0 name)) fs

none_among : (fs : List Field) (name : List ℕ) (c : Commit) → all_other name fs ≡ true
    → said (find (λ (f : Field). bytes_eq f.0 name) fs) c ≡ []
none_among [] name c none = refl
none_among ((own, value) ∷ fs) name c none =
    let parts = both (bytes_eq own name) (all_other name fs) none in
    ap (λ o. said o c) (cond-false (bytes_eq own name) _ _ parts.0) ∙ none_among fs name c parts.1
  where
    both : (s t : Bool) → (not s && t) ≡ true → (s ≡ false) × (t ≡ true)
    both true t all = cc
    both false t all = (refl, all)

abbrev Other : (before letter b l : ℕ) → Type 0
Other before letter b l = before ≡ b → letter ≡ l → ⊥

pub none : (c : Commit) (before letter : ℕ) → Other before letter 37 37 → Other before letter 37 110 → Other before letter 37 72
    → Other before letter 37 104 → Other before letter 37 84 → Other before letter 37 80 → Other before letter 37 115
    → Other before letter 97 110 → Other before letter 97 101 → Other before letter 99 116 → Other before letter 99 105
    → field_text c before letter ≡ []
unfolding field_text
none c before letter a b d e f g h i j k l = none_among fields (before ∷ letter ∷ []) c (grind (arith, nat_tests))
