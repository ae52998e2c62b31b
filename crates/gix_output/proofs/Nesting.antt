-- How deep the JSON of a line nests.
use Rattle.std.proofs.Common.{◌≤◌, ◌==◌, ℕ, List, [], ◌∷◌, map, Bool, true, false, if◌then◌else◌, codes, Option, Some, None, option_and_then, arith}
use Rattle.std.specs.Str.{is_utf8}
use Rattle.std.proofs.Math.Nat.{max-le}
use Rattle.hex.specs.Hex.{encode_lower}
use Rattle.serde_json.specs.Data.{Num, unsigned, negative, float, string, object, member, no_members, depth, items_depth}
use Rattle.serde_json.specs.Find.{as_number}
use Rattle.serde_json.specs.Read.{max_depth, read}
use Rattle.serde_json.specs.View.{items_of}
use Rattle.gix_output.specs.Json.{behind, data_of, excluded_data, number_data, or_null, part, parts, bytes_data}
use Rattle.gix_output.specs.declared.json.Shape.{Shape}
use Rattle.gix_output.specs.declared.json.Shape.TheVariants.{Commit, Entry, Count, Ahead, Id, Revision, Resolved}

text_nests : (text : List ℕ) → depth (bytes_data text) ≤ 1
text_nests text = by_test (is_utf8 text)
  where
    by_test : (t : Bool) → depth (if t then string text else object (member (codes "hex") (string (encode_lower text)) no_members)) ≤ 1
    by_test true = omega arith
    by_test false = omega arith

or_null_nests : (found : Option Num) → depth (or_null found) ≤ 0
or_null_nests None = omega arith
or_null_nests (Some (unsigned n)) = omega arith
or_null_nests (Some (negative z)) = omega arith
or_null_nests (Some (float x)) = omega arith

number_nests : (text : List ℕ) → depth (number_data text) ≤ 0
number_nests text = or_null_nests (if is_utf8 text then option_and_then as_number (read text) else None)

texts_nest : (texts : List (List ℕ)) → items_depth (items_of (map bytes_data texts)) ≤ 1
texts_nest [] = omega arith
texts_nest (text ∷ texts) = max-le (text_nests text) (texts_nest texts)

pub line_nests : (shape : Shape) (line : List ℕ) → depth (data_of shape line) ≤ max_depth
line_nests Commit line =
    let author = text_nests (part 10 4 line) in
    let email = text_nests (part 10 5 line) in
    let id = text_nests (part 10 0 line) in
    let parents = texts_nest (parts (part 10 2 line)) in
    let subject = text_nests (behind 10 6 line) in
    let time = number_nests (part 10 3 line) in
    let tree = text_nests (part 10 1 line) in
    omega arith
line_nests Entry line =
    let id = text_nests (part 32 1 line) in
    let mode = text_nests (part 32 0 line) in
    let path = text_nests (behind 32 2 line) in
    omega arith
line_nests Count line = let count = number_nests line in omega arith
line_nests Ahead line =
    let ahead = number_nests (part 32 0 line) in
    let behind = number_nests (behind 32 1 line) in
    omega arith
line_nests Id line = let id = text_nests line in omega arith
line_nests Revision line =
    let id = text_nests (part 32 0 line) in
    let revision = text_nests (behind 32 1 line) in
    omega arith
line_nests Resolved [] = let id = text_nests [] in omega arith
line_nests Resolved (b ∷ line) = by_test (b == 94)
  where
    by_test : (t : Bool) → depth (if t then excluded_data true line else excluded_data false (b ∷ line)) ≤ max_depth
    by_test true = let id = text_nests line in omega arith
    by_test false = let id = text_nests (b ∷ line) in omega arith
