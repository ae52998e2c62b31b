-- What is spelled is read again.
use Rattle.std.proofs.Common.{◌≡◌, ℕ, suc, ◌+◌, ◌-◌, ◌≤◌, true, List, [], ◌∷◌, ◌++◌, length, drop, Option, Some, None, Ok, refl, ap, ◌∙◌, append_assoc, arith, is_lt, Less, lt-ltb, le-ltb, length-append}
use Rattle.gix_commitgraph.proofs.Common.{AllByRecursion, IsStrictlySortedBy, nat_tests, Kind, ObjectId, ParentPlace, At, Fault, id_cmp, GraphRow, most, fault_word, place_word, list_words, overflow_of, first_word, second_word, row_bytes}
use Rattle.gix_commitgraph.proofs.Common.{overflow_words, IsPlaceAmong, IsRowAmong, ids_of_rows, row_len, id_field, first_field, second_field, row_of_fields, place_of, list_at, parents_at, is_above}
use Rattle.std.proofs.lemmas.Map.Keys.{sorted_head, sorted_tail}
use Rattle.gix_commitgraph.specs.Packed.{rows_bytes}
use Rattle.gix_commitgraph.specs.PackedReading.{rows_at}
use Rattle.gix_commitgraph.proofs.Packed.Fields.{place_word-below, has_row}

place_again : (n : ℕ) (p : ParentPlace) → n ≤ most → IsPlaceAmong n p → place_of n (place_word p) ≡ Some p
place_again n (At i) few lt = rw (lt-ltb i n lt) refl
place_again n Fault few lt = rw (le-ltb fault_word n few) refl

list_again : (n : ℕ) (p : ParentPlace) (ps : List ParentPlace) (more : List ℕ) → n ≤ most → IsPlaceAmong n p → AllByRecursion (IsPlaceAmong n) ps
    → list_at n (list_words p ps ++ more) ≡ Some (p ∷ ps, more)
list_again n p [] more few here all = grind (arith, nat_tests, place_word-below n p few here, place_again n p few here)
list_again n p (q ∷ ps) more few here all = grind (arith, nat_tests, place_word-below n p few here, place_again n p few here, list_again n q ps more few all.0 all.1)

-- the parents of a row whose overflow list is at the front of the words
parents_again : (n w : ℕ) (ps : List ParentPlace) (more : List ℕ) → n ≤ most → AllByRecursion (IsPlaceAmong n) ps
    → parents_at n w (first_word ps) (second_word w ps) (overflow_of ps ++ more) ≡ Some (ps, more)
parents_again n w [] more few all = refl
parents_again n w (p ∷ []) more few all = grind (arith, nat_tests, place_again n p few all.0, place_word-below n p few all.0)
parents_again n w (p ∷ q ∷ []) more few all = grind (arith, nat_tests, place_again n p few all.0, place_word-below n p few all.0, place_again n q few all.1.0, place_word-below n q few all.1.0)
parents_again n w (p ∷ q ∷ r ∷ ps) more few all =
    grind (arith, nat_tests, place_again n p few all.0, place_word-below n p few all.0, place_again n q few all.1.0, place_word-below n q few all.1.0, list_again n r ps more few all.1.1.0 all.1.1.1)

-- the first of the rows, if there is one, may follow
abbrev pub Begins : Option ObjectId → List GraphRow → Type 0
Begins before [] = Unit {0}
Begins before (row ∷ rows) = is_above before row.id ≡ true

begins : (i : ObjectId) (rows : List GraphRow) → AllByRecursion (λ j. id_cmp i j ≡ Less) (ids_of_rows rows) → Begins (Some i) rows
begins i [] all = tt
begins i (row ∷ rows) all = ap is_lt all.0

pub begins_none : (rows : List GraphRow) → Begins None rows
begins_none [] = tt
begins_none (row ∷ rows) = refl

row_read : (k : Kind) (n m left r : ℕ) (before : Option ObjectId) (bytes words : List ℕ) (row : GraphRow) (words_left : List ℕ) (rows : List GraphRow)
    → is_above before (id_field k bytes) ≡ true
    → parents_at n (m - length words) (first_field k bytes) (second_field k bytes) words ≡ Some (row.parents, words_left)
    → row_of_fields k bytes row.parents ≡ row
    → rows_at k n m left (r + 1) (Some (id_field k bytes)) (drop (row_len k) bytes) words_left ≡ Ok rows
    → rows_at k n m (suc left) r before bytes words ≡ Ok (row ∷ rows)
unfolding rows_at
row_read k n m left r before bytes words row words_left rows above parents fields others = rw (above, parents, others, fields) refl

pub rows_again : (k : Kind) (n m w r : ℕ) (before : Option ObjectId) (rows : List GraphRow) (more : List ℕ) → n ≤ most → m ≤ most
    → AllByRecursion (IsRowAmong k n) rows → IsStrictlySortedBy id_cmp (ids_of_rows rows) → Begins before rows → w + length (overflow_words rows) ≡ m
    → rows_at k n m (length rows) r before (rows_bytes w rows ++ more) (overflow_words rows) ≡ Ok rows
unfolding rows_at rows_bytes
rows_again k n m w r before [] more few few_words each rising first all_words = refl
rows_again k n m w r before (row ∷ rows) more few few_words each rising first all_words =
    let next = w + length (overflow_of row.parents) in
    let rest = rows_bytes next rows ++ more in
    let words = overflow_words rows in
    let regrouped : (row_bytes w row ++ rows_bytes next rows) ++ more ≡ row_bytes w row ++ rest = append_assoc (row_bytes w row) (rows_bytes next rows) more in
    let words_then = length-append (overflow_of row.parents) words in
    let has = has_row k n w row rest few (omega arith) each.0 in
    let from : m - length (overflow_of row.parents ++ words) ≡ w = omega arith in
    let bytes = row_bytes w row ++ rest in
    let above : is_above before (id_field k bytes) ≡ true = ap (is_above before) has.id ∙ first in
    let parents : parents_at n (m - length (overflow_of row.parents ++ words)) (first_field k bytes) (second_field k bytes) (overflow_of row.parents ++ words) ≡ Some (row.parents, words) =
    (λ j. parents_at n (from j) (has.first j) (has.second j) (overflow_of row.parents ++ words)) ∙ parents_again n w row.parents words few each.0.parents in
    let fields : row_of_fields k bytes row.parents ≡ row = λ j. record { id = has.id j; tree = has.tree j; parents = row.parents; generation = has.generation j; time = has.time j } in
    let others = rows_again k n m next (r + 1) (Some row.id) rows more few few_words each.1 (sorted_tail id_cmp row.id (ids_of_rows rows) rising) (begins row.id rows (sorted_head id_cmp row.id (ids_of_rows rows) rising)) (omega arith) in
    let others_here : rows_at k n m (length rows) (r + 1) (Some (id_field k bytes)) (drop (row_len k) bytes) words ≡ Ok rows =
    (λ j. rows_at k n m (length rows) (r + 1) (Some (has.id j)) (has.behind j) words) ∙ others in
    ap (λ (b : List ℕ). rows_at k n m (suc (length rows)) r before b (overflow_of row.parents ++ words)) regrouped
    ∙ row_read k n m (length rows) r before bytes (overflow_of row.parents ++ words) row words rows above parents fields others_here
