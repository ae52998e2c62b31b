-- What a line says has no float.
use Rattle.std.proofs.Common.{◌≡◌, ◌==◌, ℕ, List, [], ◌∷◌, map, Bool, true, false, if◌then◌else◌, codes, Option, Some, None, option_and_then, refl}
use Rattle.std.specs.Str.{is_utf8}
use Rattle.hex.specs.Hex.{encode_lower}
use Rattle.serde_json.specs.Data.{Num, unsigned, negative, float, string, object, member, no_members}
use Rattle.serde_json.specs.Find.{as_number}
use Rattle.serde_json.specs.Read.{read}
use Rattle.serde_json.specs.View.{items_of}
use Rattle.serde_json.specs.Written.{has_float, items_have_float}
use Rattle.gix_output.specs.Json.{behind, bytes_data, data_of, excluded_data, number_data, or_null, part, parts}
use Rattle.gix_output.specs.declared.json.Shape.{Shape}
use Rattle.gix_output.specs.declared.json.Shape.TheVariants.{Commit, Entry, Count, Ahead, Id, Revision, Resolved}

text_has_none : (text : List ℕ) → has_float (bytes_data text) ≡ false
text_has_none text = by_test (is_utf8 text)
  where
    by_test : (t : Bool) → has_float (if t then string text else object (member (codes "hex") (string (encode_lower text)) no_members)) ≡ false
    by_test true = refl
    by_test false = refl

or_null_has_none : (found : Option Num) → has_float (or_null found) ≡ false
or_null_has_none None = refl
or_null_has_none (Some (unsigned n)) = refl
or_null_has_none (Some (negative z)) = refl
or_null_has_none (Some (float x)) = refl

number_has_none : (text : List ℕ) → has_float (number_data text) ≡ false
number_has_none text = or_null_has_none (if is_utf8 text then option_and_then as_number (read text) else None)

texts_have_none : (texts : List (List ℕ)) → items_have_float (items_of (map bytes_data texts)) ≡ false
texts_have_none [] = refl
texts_have_none (text ∷ texts) = rw (text_has_none text) (texts_have_none texts)

pub line_has_none : (shape : Shape) (line : List ℕ) → has_float (data_of shape line) ≡ false
line_has_none Commit line =
    let author = text_has_none (part 10 4 line) in
    let email = text_has_none (part 10 5 line) in
    let id = text_has_none (part 10 0 line) in
    let parents = texts_have_none (parts (part 10 2 line)) in
    let subject = text_has_none (behind 10 6 line) in
    let time = number_has_none (part 10 3 line) in
    let tree = text_has_none (part 10 1 line) in
    rw (author, email, id, parents, subject, time, tree) refl
line_has_none Entry line =
    rw (text_has_none (part 32 1 line), text_has_none (part 32 0 line), text_has_none (behind 32 2 line)) refl
line_has_none Count line = rw (number_has_none line) refl
line_has_none Ahead line = rw (number_has_none (part 32 0 line), number_has_none (behind 32 1 line)) refl
line_has_none Id line = rw (text_has_none line) refl
line_has_none Revision line = rw (text_has_none (part 32 0 line), text_has_none (behind 32 1 line)) refl
line_has_none Resolved [] = rw (text_has_none []) refl
line_has_none Resolved (b ∷ line) = by_test (b == 94)
  where
    by_test : (t : Bool) → has_float (if t then excluded_data true line else excluded_data false (b ∷ line)) ≡ false
    by_test true = rw (text_has_none line) refl
    by_test false = rw (text_has_none (b ∷ line)) refl
