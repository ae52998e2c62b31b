-- What is read is spelled so.
use Rattle.std.proofs.Common.{◌≡◌, ℕ, zero, suc, ◌+◌, ◌-◌, ◌*◌, ◌<◌, ◌≤◌, true, cond, eqb, List, [], ◌∷◌, ◌++◌, length, take, drop, Option, Some, None, Result, Ok, Err, refl, sym, ap, subst, ◌∙◌, append_assoc, arith, inl, inr, nat_eq}
use Rattle.std.proofs.Common.{codes, w32, flat_map, Less, ltb-true, drop-drop, drop_at, take-append-drop, length-append, length-drop}
use Rattle.gix_commitgraph.proofs.Common.{to_be_bytes, AllByRecursion, starts_with, nat_tests, Kind, ObjectId, Place, Layout, id_cmp, GraphRow, most, overflow_of, row_bytes, overflow_words, layout_name, kind_of_rows, AreBytes}
use Rattle.gix_commitgraph.proofs.Common.{IsRowAmong, ids_of_rows, words_of, row_len, id_field, first_field, second_field, row_of_fields, Places, parents_at, is_above, with_row, row_then, kind_named, may_have, read_packed, IsLaidOut}
use Rattle.gix_commitgraph.proofs.Common.{IsPackedAs, id_total}
use Rattle.std.specs.List.Sorted.{IsStrictlySortedBy}
use Rattle.std.specs.Cmp.Lexicographic.{same_text}
use Rattle.gix_hash.specs.declared.Kind.TheVariants as kind
use Rattle.gix_commitgraph.specs.declared.Place.TheVariants as place
use Rattle.gix_commitgraph.specs.Packed.{rows_bytes, spelling}
use Rattle.gix_commitgraph.specs.PackedReading.{rows_at}
use Rattle.gix_commitgraph.proofs.Packed.ReadAgain.{Begins}
use Rattle.gix_commitgraph.proofs.Packed.Takes.{chosen, parents_take}
use Rattle.gix_commitgraph.proofs.Packed.RowTakes.{part, AreBytes-drop, row_takes, row_among, bytes-words_of, word_back}
use Rattle.gix_commitgraph.proofs.Packed.Whole.{length-rows_bytes}
use Rattle.gix_commitgraph.proofs.Packed.Steps.{length-words_of}
use Rattle.gix_commitgraph.proofs.Packed.RowSearch.{is_Less}

-- ---- ids in order

pub below_all : (i j : ObjectId) (ids : List ObjectId) → id_cmp i j ≡ Less → AllByRecursion (λ x. id_cmp j x ≡ Less) ids → AllByRecursion (λ x. id_cmp i x ≡ Less) ids
below_all i j [] lt all = tt
below_all i j (x ∷ ids) lt all = (id_total.trans i j x lt all.0, below_all i j ids lt all.1)

pub rises : (row : GraphRow) (rows : List GraphRow) → Begins (Some row.id) rows → IsStrictlySortedBy id_cmp (ids_of_rows rows) → IsStrictlySortedBy id_cmp (ids_of_rows (row ∷ rows))
unfolding IsStrictlySortedBy
rises row [] first rising = (tt, tt)
rises row (next ∷ rows) first rising =
    let lt = is_Less (id_cmp row.id next.id) first in
    ((lt, below_all row.id next.id (ids_of_rows rows) lt rising.0), rising)

-- ---- rows

record TakesRows (k : Kind) (n w left : ℕ) (before : Option ObjectId) (bytes words : List ℕ) (rows : List GraphRow) : Type 0 where
  rest : List ℕ
  bytes_is : bytes ≡ rows_bytes w rows ++ rest
  words_is : words ≡ overflow_words rows
  count : length rows ≡ left
  each : AllByRecursion (IsRowAmong k n) rows
  first : Begins before rows
  rising : IsStrictlySortedBy id_cmp (ids_of_rows rows)

-- the row that was read, and the rows behind it
record TakesRow (k : Kind) (r : ℕ) (bytes : List ℕ) (parents : Option Places) (more : List ℕ → Result (List GraphRow) Place) (rows : List GraphRow) : Type 0 where
  read : Places
  others : List GraphRow
  parents_is : parents ≡ Some read
  others_is : more read.1 ≡ Ok others
  rows_is : rows ≡ row_of_fields k bytes read.0 ∷ others

row_then_takes : (k : Kind) (r : ℕ) (bytes : List ℕ) (parents : Option Places) (more : List ℕ → Result (List GraphRow) Place) (rows : List GraphRow) → row_then k r bytes parents more ≡ Ok rows → TakesRow k r bytes parents more rows
row_then_takes k r bytes None more rows e = absurd cc
row_then_takes k r bytes (Some read) more rows e = go (more read.1) refl e
  where
    go : (after : Result (List GraphRow) Place) → more read.1 ≡ after → with_row (row_of_fields k bytes read.0) after ≡ Ok rows → TakesRow k r bytes (Some read) more rows
    go (Err p) is e = absurd cc
    go (Ok others) is e = record { read = read; others = others; parents_is = refl; others_is = is; rows_is = cc }

nothing_left : (words : List ℕ) (rows : List GraphRow) → cond (eqb (length words) 0) (Ok []) (Err place.Overflow) ≡ Ok rows → (rows ≡ []) × (words ≡ [])
nothing_left [] rows e = (cc, refl)
nothing_left (w ∷ words) rows e = absurd (grind (arith, nat_tests, e))

rows_take : (k : Kind) (n m w left r : ℕ) (before : Option ObjectId) (bytes words : List ℕ) (rows : List GraphRow) → n ≤ most
    → row_len k * left ≤ length bytes → AreBytes bytes → w + length words ≡ m → rows_at k n m left r before bytes words ≡ Ok rows
    → TakesRows k n w left before bytes words rows
unfolding rows_at rows_bytes IsStrictlySortedBy
rows_take k n m w zero r before bytes words rows few long fits from e =
    let none = nothing_left words rows e in
    subst (TakesRows k n w 0 before bytes words) (sym none.0) (record { rest = bytes; bytes_is = refl; words_is = none.1; count = refl; each = tt; first = tt; rising = tt })
rows_take k n m w (suc left) r before bytes words rows few long fits from e =
    elim (chosen (is_above before (id_field k bytes)) _ _ (Ok rows) e) [
      | inr h ↦ absurd cc
      | inl h ↦ (
          let t = row_then_takes k r bytes (parents_at n (m - length words) (first_field k bytes) (second_field k bytes) words) _ rows h.1 in
          let at_w : m - length words ≡ w = omega arith in
          let parents_is : parents_at n w (first_field k bytes) (second_field k bytes) words ≡ Some t.read = ap (λ (x : ℕ). parents_at n x (first_field k bytes) (second_field k bytes) words) (sym at_w) ∙ t.parents_is in
          let parents = parents_take n w (first_field k bytes) (second_field k bytes) words t.read few parents_is in
          let row = row_of_fields k bytes t.read.0 in
          let step : row_len k * suc left ≡ row_len k + row_len k * left = grind arith in
          let here : row_bytes w row ++ drop (row_len k) bytes ≡ bytes = row_takes k n w bytes t.read.0 (omega arith) fits parents.first_is parents.second_is in
          let words_len : length words ≡ length (overflow_of row.parents) + length t.read.1 = ap length parents.words_is ∙ length-append (overflow_of row.parents) t.read.1 in
          let others = rows_take k n m (w + length (overflow_of row.parents)) left (r + 1) (Some (id_field k bytes)) (drop (row_len k) bytes) t.read.1 t.others few (omega (arith, length-drop (row_len k) bytes)) (AreBytes-drop (row_len k) bytes fits) (omega arith) t.others_is in
          subst (TakesRows k n w (suc left) before bytes words) (sym t.rows_is) (record {
            rest = others.rest;
            bytes_is = sym here ∙ ap (λ (x : List ℕ). row_bytes w row ++ x) others.bytes_is ∙ sym (append_assoc (row_bytes w row) (rows_bytes (w + length (overflow_of row.parents)) t.others) others.rest);
            words_is = parents.words_is ∙ ap (λ (x : List ℕ). overflow_of row.parents ++ x) others.words_is;
            count = ap suc others.count;
            each = (row_among k n bytes t.read.0 (omega arith) fits parents.among, others.each);
            first = h.0;
            rising = rises row t.others others.first others.rising;
          }))
    ]

-- ---- the head

starts_takes : (bytes name : List ℕ) → starts_with nat_eq bytes name ≡ true → name ≡ take (length name) bytes
starts_takes bytes name e = same_text name (take (length name) bytes) (sym e)

name_takes : (k : Kind) (bytes : List ℕ) → kind_named bytes ≡ Some k → take 4 bytes ≡ layout_name k
name_takes kind.Sha1 bytes e = grind (arith, nat_tests, e, starts_takes bytes (codes "GTR1"))
name_takes kind.Sha256 bytes e = grind (arith, nat_tests, e, starts_takes bytes (codes "GTR2"))

kind_takes : (k : Kind) (n : ℕ) (rows : List GraphRow) → length rows ≡ n → may_have k n ≡ true → AllByRecursion (IsRowAmong k n) rows → kind_of_rows rows ≡ k
kind_takes kind.Sha1 n [] len may each = refl
kind_takes kind.Sha256 n [] len may each = let some : 0 < n = ltb-true 0 n may in absurd (omega arith)
kind_takes k n (row ∷ rows) len may each = each.0.id.kind

head_bytes : (bytes : List ℕ) → take 4 bytes ++ (take 4 (drop 4 bytes) ++ (take 4 (drop 8 bytes) ++ drop 12 bytes)) ≡ bytes
head_bytes bytes = rw (part 8 4 12 bytes refl, part 4 4 8 bytes refl) (take-append-drop 4 bytes)

-- bytes that are laid out and read are kept as what they were read as
pub laid_out_takes : (bytes : List ℕ) (layout : Layout) (rows : List GraphRow) → AreBytes bytes → IsLaidOut bytes layout → read_packed bytes ≡ Ok rows → IsPackedAs bytes layout rows
unfolding spelling
laid_out_takes bytes layout rows fits laid e =
    let k = layout.kind in
    let n = layout.rows in
    let m = layout.words in
    let tail = drop (12 + row_len k * n) bytes in
    let words = words_of tail in
    let tail_len : length tail ≡ 4 * m = length-drop (12 + row_len k * n) bytes ∙ omega (arith, laid.len) in
    let words_len : length words ≡ m = length-words_of tail ∙ omega arith in
    let t = rows_take k n m 0 n 0 None (drop 12 bytes) words rows laid.few (omega (arith, laid.len, length-drop 12 bytes)) (AreBytes-drop 12 bytes fits) (omega arith) (sym laid.read ∙ e) in
    let kind_is = kind_takes k n rows t.count laid.may t.each in
    let rows_len : length (rows_bytes 0 rows) ≡ row_len k * n = length-rows_bytes k n 0 rows t.each ∙ ap (λ (x : ℕ). row_len k * x) t.count in
    let rest_is : t.rest ≡ tail = sym (drop_at (rows_bytes 0 rows) t.rest (row_len k * n) rows_len) ∙ ap (drop (row_len k * n)) (sym t.bytes_is) ∙ drop-drop (row_len k * n) 12 bytes in
    let tail_is : tail ≡ flat_map (to_be_bytes w32) (overflow_words rows) = sym (bytes-words_of tail (AreBytes-drop (12 + row_len k * n) bytes fits) (omega arith)) ∙ ap (flat_map (to_be_bytes w32)) t.words_is in
    let body_is : drop 12 bytes ≡ rows_bytes 0 rows ++ flat_map (to_be_bytes w32) (overflow_words rows) = t.bytes_is ∙ ap (λ (x : List ℕ). rows_bytes 0 rows ++ x) (rest_is ∙ tail_is) in
    let m_is : length (overflow_words rows) ≡ m = ap length (sym t.words_is) ∙ words_len in
    let long : 12 ≤ length bytes = omega (arith, laid.len) in
    let name_is : layout_name (kind_of_rows rows) ≡ take 4 bytes = ap layout_name kind_is ∙ sym (name_takes k bytes laid.name) in
    let n_bytes : to_be_bytes w32 (length rows) ≡ take 4 (drop 4 bytes) = ap (to_be_bytes w32) (t.count ∙ sym laid.rows_is) ∙ word_back 4 bytes (omega arith) fits in
    let m_bytes : to_be_bytes w32 (length (overflow_words rows)) ≡ take 4 (drop 8 bytes) = ap (to_be_bytes w32) (m_is ∙ sym laid.words_is) ∙ word_back 8 bytes (omega arith) fits in
    record {
      sound = record {
        each = subst (λ (x : Kind). AllByRecursion (IsRowAmong x (length rows)) rows) (sym kind_is) (subst (λ (x : ℕ). AllByRecursion (IsRowAmong k x) rows) (sym t.count) t.each);
        rising = t.rising;
        few = omega (arith, t.count, laid.few);
        few_words = omega (arith, laid.few_words);
      };
      spelled = sym ((λ i. name_is i ++ (n_bytes i ++ (m_bytes i ++ sym body_is i))) ∙ head_bytes bytes);
      head = record { kind = sym kind_is; count = sym t.count; words = sym m_is };
    }
