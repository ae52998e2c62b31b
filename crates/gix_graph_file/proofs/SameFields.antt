-- The fields of a packed row are those of the row in the file.
use Rattle.std.proofs.Common.{◌≡◌, ℕ, ◌/◌, ◌%◌, ◌^◌, ◌<◌, ◌≤◌, Bool, true, false, ltb, eqb, List, ◌++◌, length, take, drop, pos, refl, ap, ◌∙◌, arith, w32, w64, length-append}
use Rattle.gix_graph_file.proofs.Common.{to_be_bytes, from_be_bytes, cast_signed, Kind, ParentPlace, id_len, id_of, AreBytes, word_at, row_len, id_field, tree_field, first_field, second_field, generation_field, time_field, row_of_fields}
use Rattle.gix_graph_file.proofs.Common.{most_rows, no_parent, flag, row_said, first_packed, second_packed}
use Rattle.std.proofs.lemmas.Int.{to_z_pos}
use Rattle.std.proofs.lemmas.Nat.{from_be_bytes-to_be_bytes_8}
use Rattle.gix_commitgraph.proofs.Packed.Fields.{has_parts, row_len-is, word_again}
use Rattle.gix_commitgraph.proofs.Packed.RowTakes.{AreBytes-take, AreBytes-drop}
use Rattle.gix_graph_file.specs.FileTable.{long_at}
use Rattle.gix_graph_file.specs.PackedParts.{row_packed}
use Rattle.gix_graph_file.proofs.SameParents.{place-below}

word_below : (bytes : List ℕ) → AreBytes bytes → from_be_bytes w32 bytes < 2 ^ 32
word_below bytes fits = omega (arith, fits 0, fits 1, fits 2, fits 3)

long_below : (bytes : List ℕ) → AreBytes bytes → from_be_bytes w64 bytes < 2 ^ 64
long_below bytes fits = omega (arith, fits 0, fits 1, fits 2, fits 3, fits 4, fits 5, fits 6, fits 7)

word_at-below : (at : ℕ) (bytes : List ℕ) → AreBytes bytes → word_at at bytes < 2 ^ 32
word_at-below at bytes fits = word_below (take 4 (drop at bytes)) (AreBytes-take 4 (drop at bytes) (AreBytes-drop at bytes fits))

long_at-below : (at : ℕ) (bytes : List ℕ) → AreBytes bytes → long_at at bytes < 2 ^ 64
unfolding long_at
long_at-below at bytes fits = long_below (take 8 (drop at bytes)) (AreBytes-take 8 (drop at bytes) (AreBytes-drop at bytes fits))

first-below : (n word : ℕ) → n ≤ most_rows → first_packed n word < 2 ^ 32
first-below n word few = go (eqb word no_parent) refl
  where
    go : (b : Bool) → eqb word no_parent ≡ b → first_packed n word < 2 ^ 32
    go true e = rw e (omega arith)
    go false e = let below = place-below n word few in rw e (omega arith)

second-below : (n word : ℕ) → n ≤ most_rows → word < 2 ^ 32 → second_packed n word < 2 ^ 32
second-below n word few fits = go (ltb word flag) refl
  where
    go : (b : Bool) → ltb word flag ≡ b → second_packed n word < 2 ^ 32
    go true e = rw e (first-below n word few)
    go false e = rw e fits

time_again : (n : ℕ) (bytes : List ℕ) → n < 2 ^ 34 → bytes ≡ to_be_bytes w64 n → cast_signed w64 (from_be_bytes w64 bytes) ≡ pos n
time_again n bytes lt e = ap (λ (b : List ℕ). cast_signed w64 (from_be_bytes w64 b)) e ∙ ap (cast_signed w64) (from_be_bytes-to_be_bytes_8 n (omega arith)) ∙ to_z_pos w64 n (omega arith)

-- what a packed row says, and what is behind it
pub record HasFields (k : Kind) (n : ℕ) (id tree numbers rest whole : List ℕ) : Type 0 where
  pub id_is : id_field k whole ≡ id_of k id
  pub first : first_field k whole ≡ first_packed n (word_at 0 numbers)
  pub second : second_field k whole ≡ second_packed n (word_at 4 numbers)
  pub row : (parents : List ParentPlace) → row_of_fields k whole parents ≡ row_said k id tree numbers parents
  pub behind : drop (row_len k) whole ≡ rest

generation-below : (n : ℕ) → n < 2 ^ 64 → n / 2 ^ 34 < 2 ^ 32
generation-below n lt = omega arith

seconds-below : (n : ℕ) → n % 2 ^ 34 < 2 ^ 34
seconds-below n = omega arith

pub has_fields : (k : Kind) (n : ℕ) (id tree numbers rest : List ℕ) → n ≤ most_rows → length id ≡ id_len k → length tree ≡ id_len k → AreBytes numbers
    → HasFields k n id tree numbers rest (row_packed n id tree numbers ++ rest)
unfolding row_packed
has_fields k n id tree numbers rest few id_is tree_is fits =
    let long = long_at 8 numbers in
    let whole = row_packed n id tree numbers ++ rest in
    let parts = has_parts (id_len k) id tree (to_be_bytes w32 (first_packed n (word_at 0 numbers))) (to_be_bytes w32 (second_packed n (word_at 4 numbers))) (to_be_bytes w32 (long / 2 ^ 34)) (to_be_bytes w64 (long % 2 ^ 34)) rest id_is tree_is refl refl refl refl in
    let id_here : id_field k whole ≡ id_of k id = ap (id_of k) parts.a_is in
    let tree_here : tree_field k whole ≡ id_of k tree = ap (id_of k) parts.b_is in
    let generation : generation_field k whole ≡ long / 2 ^ 34 = word_again (long / 2 ^ 34) _ (generation-below long (long_at-below 8 numbers fits)) parts.e_is in
    let time : time_field k whole ≡ pos (long % 2 ^ 34) = time_again (long % 2 ^ 34) _ (seconds-below long) parts.f_is in
    record {
      id_is = id_here;
      first = word_again (first_packed n (word_at 0 numbers)) _ (first-below n (word_at 0 numbers) few) parts.c_is;
      second = word_again (second_packed n (word_at 4 numbers)) _ (second-below n (word_at 4 numbers) few (word_at-below 4 numbers fits)) parts.d_is;
      row = λ parents. λ i. record { id = id_here i; tree = tree_here i; parents = parents; generation = generation i; time = time i };
      behind = ap (λ (m : ℕ). drop m whole) (row_len-is k) ∙ parts.rest_is;
    }

pub length-row_packed : (k : Kind) (n : ℕ) (id tree numbers : List ℕ) → length id ≡ id_len k → length tree ≡ id_len k → length (row_packed n id tree numbers) ≡ row_len k
unfolding row_packed
length-row_packed k n id tree numbers id_is tree_is = simp (length-append, id_is, tree_is, row_len-is) (omega arith)
