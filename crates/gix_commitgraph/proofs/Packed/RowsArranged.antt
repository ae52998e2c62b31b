-- Rows in another order, taken one after the other.
use Rattle.std.proofs.Common.{◌≡◌, ℕ, ◌+◌, ◌<◌, ◌≤◌, List, [], ◌∷◌, ◌++◌, length, map, get_or, take, refl, sym, ap, subst, ◌∙◌, arith, slice_index, append-nil}
use Rattle.gix_commitgraph.proofs.Common.{AllByRecursion, length-map, take_more, map_push, ParentPlace, Row, GraphRow, row_at, most, overflow_of, row_bytes, overflow_words, IsPlaceAmong, row_seen, rows_seen, Entry, moved, renumbered}
use Rattle.gix_commitgraph.proofs.Common.{arranged, CanArrange}
use Rattle.gix_commitgraph.specs.Packed.{rows_bytes}
use Rattle.gix_commitgraph.proofs.Packed.HandedRows.{read_seen, read_places, length-list_words, words_of_more, words_of_part}
use Rattle.gix_commitgraph.proofs.Packed.Whole.{rows_bytes-append}

-- the row of an entry, by its new number's words
abbrev pub arranged_row : List GraphRow → List ℕ → Entry → GraphRow
arranged_row rows numbers entry = renumbered (slice_index numbers) (row_at rows entry.1)

pub rows_bytes-push : (w : ℕ) (rows : List GraphRow) (row : GraphRow) → rows_bytes w (rows ++ row ∷ []) ≡ rows_bytes w rows ++ row_bytes (w + length (overflow_words rows)) row
unfolding rows_bytes
rows_bytes-push w rows row = rows_bytes-append w rows (row ∷ []) ∙ ap (λ (x : List ℕ). rows_bytes w rows ++ x) (append-nil (row_bytes (w + length (overflow_words rows)) row))

-- new numbers change no lengths
pub length-overflow_of-moved : (ps : List ParentPlace) (number : ℕ → ℕ) → length (overflow_of (map (moved number) ps)) ≡ length (overflow_of ps)
length-overflow_of-moved [] number = refl
length-overflow_of-moved (p ∷ []) number = refl
length-overflow_of-moved (p ∷ q ∷ []) number = refl
length-overflow_of-moved (p ∷ q ∷ r ∷ ps) number = length-list_words (moved number q) (map (moved number) (r ∷ ps)) ∙ omega (arith, length-map ps (moved number), length-list_words q (r ∷ ps))

-- what is known of the row of an entry, as it was read
pub record ReadsEntry (rows : List Row) (order : List Entry) (numbers : List ℕ) (i : ℕ) (row : Row) : Type 0 where
  pub among : AllByRecursion (IsPlaceAmong (length numbers)) row.parents.items
  pub more : arranged (rows_seen rows) (take (i + 1) order) numbers ≡ arranged (rows_seen rows) (take i order) numbers ++ renumbered (slice_index numbers) (row_seen row) ∷ []
  pub words : length (overflow_words (arranged (rows_seen rows) (take (i + 1) order) numbers)) ≡ length (overflow_words (arranged (rows_seen rows) (take i order) numbers)) + length (overflow_of row.parents.items)
  pub few : length (overflow_words (arranged (rows_seen rows) (take i order) numbers)) + length (overflow_of row.parents.items) ≤ most

pub reads_entry : (rows : List Row) (order : List Entry) (numbers : List ℕ) (i : ℕ) (e : Entry) (row : Row) → CanArrange (rows_seen rows) order numbers → i < length order
    → row ≡ get_or rows (get_or order i e).1 row → ReadsEntry rows order numbers i row
reads_entry rows order numbers i e row can lt is =
    let seen_len = length-map rows row_seen in
    let within : (get_or order i e).1 < length rows = omega (arith, can.places.below i e lt, seen_len) in
    let len : length rows ≡ length numbers = omega (arith, can.len, seen_len) in
    let first = arranged (rows_seen rows) (take i order) numbers in
    let seen : row_at (rows_seen rows) (get_or order i e).1 ≡ row_seen row = sym (read_seen rows (get_or order i e).1 row within is) in
    let words : length (overflow_words (arranged (rows_seen rows) (take (i + 1) order) numbers)) ≡ length (overflow_words first) + length (overflow_of row.parents.items) =
    words_of_more (arranged_row (rows_seen rows) numbers) order i e lt
    ∙ ap (λ (x : GraphRow). length (overflow_words first) + length (overflow_of (renumbered (slice_index numbers) x).parents)) seen
    ∙ ap (λ (n : ℕ). length (overflow_words first) + n) (length-overflow_of-moved row.parents.items (slice_index numbers)) in
    record {
      among = subst (λ (n : ℕ). AllByRecursion (IsPlaceAmong n) row.parents.items) len (read_places rows (get_or order i e).1 row can.within within is);
      more = ap (λ (x : List Entry). arranged (rows_seen rows) x numbers) (take_more order i e lt) ∙ map_push (arranged_row (rows_seen rows) numbers) (take i order) (get_or order i e)
          ∙ ap (λ (x : GraphRow). first ++ renumbered (slice_index numbers) x ∷ []) seen;
      words = words;
      few = omega (arith, words, words_of_part (arranged_row (rows_seen rows) numbers) order (i + 1), can.few_words);
    }
