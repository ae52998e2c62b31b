-- The fields of a packed row.
use Rattle.std.proofs.Common.{◌≡◌, ℕ, ◌+◌, ◌*◌, ◌^◌, ◌<◌, ◌≤◌, List, [], ◌∷◌, ◌++◌, length, take, drop, refl, sym, ap, ◌∙◌, append_assoc, arith, w32, w64, take_at, drop_at, drop-drop, length-append}
use Rattle.gix_commitgraph.proofs.Common.{AllByRecursion, to_be_bytes, from_be_bytes, cast_unsigned, Kind, ObjectId, ParentPlace, At, Fault, id_len, id_of, kind_of, bytes_of, GraphRow, most, no_parent, place_word, first_word}
use Rattle.gix_commitgraph.proofs.Common.{second_word, IsPlaceAmong, IsRowAmong, row_len, id_field, tree_field, first_field, second_field, generation_field, time_field}
use Rattle.std.proofs.lemmas.Nat.{from_be_bytes-to_be_bytes_4, from_be_bytes-to_be_bytes_8}
use Rattle.std.proofs.Math.Facts.{Fits-lt-pow, Fits-of_z, to_z-of_z}
use Rattle.gix_hash.specs.declared.Kind.TheVariants as kind
use Rattle.gix_hash.specs.declared.ObjectId.TheVariants as id
use Rattle.gix_commitgraph.specs.Packed.{row_bytes}

pub after_part : (at next : ℕ) (whole part rest : List ℕ) → drop at whole ≡ part ++ rest → next ≡ at + length part → drop next whole ≡ rest
after_part at next whole part rest e n = ap (λ (m : ℕ). drop m whole) n ∙ sym (drop-drop (length part) at whole) ∙ ap (drop (length part)) e ∙ drop_at part rest (length part) refl

pub part_at : (at n : ℕ) (whole part rest : List ℕ) → drop at whole ≡ part ++ rest → length part ≡ n → take n (drop at whole) ≡ part
part_at at n whole part rest e len = ap (take n) e ∙ take_at part rest n len

-- where each part is, in a row of six parts
pub record HasParts (len : ℕ) (a b c d e f rest whole : List ℕ) : Type 0 where
  pub a_is : take len whole ≡ a
  pub b_is : take len (drop len whole) ≡ b
  pub c_is : take 4 (drop (2 * len) whole) ≡ c
  pub d_is : take 4 (drop (2 * len + 4) whole) ≡ d
  pub e_is : take 4 (drop (2 * len + 8) whole) ≡ e
  pub f_is : take 8 (drop (2 * len + 12) whole) ≡ f
  pub rest_is : drop (2 * len + 20) whole ≡ rest

pub has_parts : (len : ℕ) (a b c d e f rest : List ℕ) → length a ≡ len → length b ≡ len → length c ≡ 4 → length d ≡ 4 → length e ≡ 4 → length f ≡ 8
    → HasParts len a b c d e f rest ((a ++ (b ++ (c ++ (d ++ (e ++ f))))) ++ rest)
has_parts len a b c d e f rest la lb lc ld le lf =
    let whole = (a ++ (b ++ (c ++ (d ++ (e ++ f))))) ++ rest in
    let at_a : drop 0 whole ≡ a ++ (b ++ (c ++ (d ++ (e ++ (f ++ rest))))) = simp append_assoc in
    let at_b : drop len whole ≡ b ++ (c ++ (d ++ (e ++ (f ++ rest)))) = after_part 0 len whole a (b ++ (c ++ (d ++ (e ++ (f ++ rest))))) at_a (omega arith) in
    let at_c : drop (2 * len) whole ≡ c ++ (d ++ (e ++ (f ++ rest))) = after_part len (2 * len) whole b (c ++ (d ++ (e ++ (f ++ rest)))) at_b (omega arith) in
    let at_d : drop (2 * len + 4) whole ≡ d ++ (e ++ (f ++ rest)) = after_part (2 * len) (2 * len + 4) whole c (d ++ (e ++ (f ++ rest))) at_c (omega arith) in
    let at_e : drop (2 * len + 8) whole ≡ e ++ (f ++ rest) = after_part (2 * len + 4) (2 * len + 8) whole d (e ++ (f ++ rest)) at_d (omega arith) in
    let at_f : drop (2 * len + 12) whole ≡ f ++ rest = after_part (2 * len + 8) (2 * len + 12) whole e (f ++ rest) at_e (omega arith) in
    record {
      a_is = part_at 0 len whole a _ at_a la;
      b_is = part_at len len whole b _ at_b lb;
      c_is = part_at (2 * len) 4 whole c _ at_c lc;
      d_is = part_at (2 * len + 4) 4 whole d _ at_d ld;
      e_is = part_at (2 * len + 8) 4 whole e _ at_e le;
      f_is = part_at (2 * len + 12) 8 whole f _ at_f lf;
      rest_is = after_part (2 * len + 12) (2 * len + 20) whole f rest at_f (omega arith);
    }

pub row_len-is : (k : Kind) → row_len k ≡ 2 * id_len k + 20
row_len-is kind.Sha1 = refl
row_len-is kind.Sha256 = refl

pub id_of-bytes_of : (k : Kind) (i : ObjectId) → kind_of i ≡ k → id_of k (bytes_of i) ≡ i
id_of-bytes_of kind.Sha1 (id.Sha1 bytes) e = refl
id_of-bytes_of kind.Sha1 (id.Sha256 bytes) e = absurd cc
id_of-bytes_of kind.Sha256 (id.Sha1 bytes) e = absurd cc
id_of-bytes_of kind.Sha256 (id.Sha256 bytes) e = refl

-- the fields of the row at the front
pub record HasRow (k : Kind) (w : ℕ) (row : GraphRow) (whole rest : List ℕ) : Type 0 where
  pub id : id_field k whole ≡ row.id
  pub tree : tree_field k whole ≡ row.tree
  pub first : first_field k whole ≡ first_word row.parents
  pub second : second_field k whole ≡ second_word w row.parents
  pub generation : generation_field k whole ≡ row.generation
  pub time : time_field k whole ≡ row.time
  pub behind : drop (row_len k) whole ≡ rest

pub place_word-below : (n : ℕ) (p : ParentPlace) → n ≤ most → IsPlaceAmong n p → place_word p < no_parent
place_word-below n (At i) few lt = omega arith
place_word-below n Fault few lt = omega arith

first_word-below : (n : ℕ) (ps : List ParentPlace) → n ≤ most → AllByRecursion (IsPlaceAmong n) ps → first_word ps < 2 ^ 32
first_word-below n [] few all = omega arith
first_word-below n (p ∷ ps) few all = omega (arith, place_word-below n p few all.0)

second_word-below : (n w : ℕ) (ps : List ParentPlace) → n ≤ most → w ≤ most → AllByRecursion (IsPlaceAmong n) ps → second_word w ps < 2 ^ 32
second_word-below n w [] few fits all = omega arith
second_word-below n w (p ∷ []) few fits all = omega arith
second_word-below n w (p ∷ q ∷ []) few fits all = omega (arith, place_word-below n q few all.1.0)
second_word-below n w (p ∷ q ∷ r ∷ ps) few fits all = omega arith

pub word_again : (n : ℕ) (bytes : List ℕ) → n < 2 ^ 32 → bytes ≡ to_be_bytes w32 n → from_be_bytes w32 bytes ≡ n
word_again n bytes lt e = ap (from_be_bytes w32) e ∙ from_be_bytes-to_be_bytes_4 n lt

pub has_row : (k : Kind) (n w : ℕ) (row : GraphRow) (rest : List ℕ) → n ≤ most → w ≤ most → IsRowAmong k n row → HasRow k w row (row_bytes w row ++ rest) rest
unfolding row_bytes
has_row k n w row rest few fits r =
    let parts = has_parts (id_len k) (bytes_of row.id) (bytes_of row.tree) (to_be_bytes w32 (first_word row.parents)) (to_be_bytes w32 (second_word w row.parents)) (to_be_bytes w32 row.generation) (to_be_bytes w64 (cast_unsigned w64 row.time)) rest r.id.len r.tree.len refl refl refl refl in
    record {
      id = ap (id_of k) parts.a_is ∙ id_of-bytes_of k row.id r.id.kind;
      tree = ap (id_of k) parts.b_is ∙ id_of-bytes_of k row.tree r.tree.kind;
      first = word_again (first_word row.parents) _ (first_word-below n row.parents few r.parents) parts.c_is;
      second = word_again (second_word w row.parents) _ (second_word-below n w row.parents few fits r.parents) parts.d_is;
      generation = word_again row.generation _ r.generation parts.e_is;
      time = rw (parts.f_is, from_be_bytes-to_be_bytes_8 (cast_unsigned w64 row.time) (Fits-lt-pow (Fits-of_z r.time))) (to_z-of_z r.time);
      behind = ap (λ (m : ℕ). drop m (row_bytes w row ++ rest)) (row_len-is k) ∙ parts.rest_is;
    }

pub length-row_bytes : (k : Kind) (n w : ℕ) (row : GraphRow) → IsRowAmong k n row → length (row_bytes w row) ≡ row_len k
unfolding row_bytes
length-row_bytes k n w row r =
    simp (length-append, r.id.len, r.tree.len, row_len-is) (omega arith)
