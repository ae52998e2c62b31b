-- Rows in the order of their ids, with the numbers that follow from it.
use Rattle.std.proofs.Common.{◌≡◌, ℕ, zero, suc, ◌+◌, ◌<◌, ◌≤◌, false, List, [], ◌∷◌, length, map, get_or, Some, refl, sym, ap, subst, ◌∙◌, arith, All, slice_index, slice_get, IsPermutation, Contains, option_map, sum_by, Less}
use Rattle.std.proofs.Common.{length-append}
use Rattle.gix_commitgraph.proofs.Common.{AllByRecursion, IsDistinct, IsStrictlySortedBy, length-map, get_or-map, get_or_default, same_lists, All-from_recursion, recursion_from_All, Kind, ObjectId, ParentPlace, At, Fault, id_cmp}
use Rattle.gix_commitgraph.proofs.Common.{is_same, GraphRow, no_row, row_at, most, overflow_of, overflow_words, kind_of_rows, ids_of_rows, IsPlaceAmong, IsRowAmong, AreGraphRows, Entry, entries_from, moved, renumbered, arranged}
use Rattle.gix_commitgraph.proofs.Common.{NeverFall, AlwaysRise, StopsRising, HasPlaces, AreNumbers, CanArrange, HasSameRows, HaveDistinctIds, HavePlacesWithin, IsRowOf, IsInRange, id_total, same_back}
use Rattle.std.specs.Cmp.{tied_itself}
use Rattle.std.proofs.lemmas.List.Sorted.{IsPermutation-sym, IsPermutation-map, length_permutation, All-permutation, Contains-permutation, sum_by-IsPermutation}
use Rattle.std.proofs.lemmas.List.Sums.{sum_by-cons}
use Rattle.std.proofs.lemmas.Map.Keys.{IsDistinct-from_sorted, IsDistinct-IsPermutation, apart_from_distinct, Less-from_sorted, sorted_from_all_adjacent}
use Rattle.std.proofs.lemmas.Option.{slice_get-get_or}
use Rattle.gix_commitgraph.proofs.Packed.RowsArranged.{arranged_row, length-overflow_of-moved}
use Rattle.gix_commitgraph.proofs.Packed.RowSearch.{is_Less}

abbrev no_entry : Entry
no_entry = (no_row.id, 0)

abbrev ids_of : List Entry → List ObjectId
ids_of order = map (λ entry. entry.0) order

-- ---- the entries of rows

length-entries_from : (n : ℕ) (rows : List GraphRow) → length (entries_from n rows) ≡ length rows
length-entries_from n [] = refl
length-entries_from n (row ∷ rows) = ap suc (length-entries_from (suc n) rows)

entry_at : (n : ℕ) (rows : List GraphRow) (k : ℕ) (d : Entry) → k < length rows → get_or (entries_from n rows) k d ≡ ((row_at rows k).id, n + k)
entry_at n [] k d lt = absurd (omega arith)
entry_at n (row ∷ rows) zero d lt = let same : n ≡ n + 0 = omega arith in ap (λ (m : ℕ). (row.id, m)) same
entry_at n (row ∷ rows) (suc k) d lt = let same : suc n + k ≡ n + suc k = omega arith in entry_at (suc n) rows k d (omega arith) ∙ ap (λ (m : ℕ). ((row_at rows k).id, m)) same

ids_of-entries : (n : ℕ) (rows : List GraphRow) → ids_of (entries_from n rows) ≡ ids_of_rows rows
ids_of-entries n [] = refl
ids_of-entries n (row ∷ rows) = ap (λ (x : List ObjectId). row.id ∷ x) (ids_of-entries (suc n) rows)

-- an entry names its row
abbrev IsEntryOf : List GraphRow → Entry → Type 0
IsEntryOf rows entry = (entry.1 < length rows) × (entry.0 ≡ (row_at rows entry.1).id)

entries_name : (rows : List GraphRow) → All (IsEntryOf rows) (entries_from 0 rows)
entries_name rows k d lt =
    let within : k < length rows = omega (arith, length-entries_from 0 rows) in
    let e = entry_at 0 rows k d within in
    subst (IsEntryOf rows) (sym e) ((omega arith), (let same : k ≡ 0 + k = omega arith in ap (λ (n : ℕ). (row_at rows n).id) same))

-- the rows that the entries name are the rows
rows_of-entries : (f : GraphRow → GraphRow) (at : ℕ → GraphRow) (n : ℕ) (rows : List GraphRow) → ((k : ℕ) → k < length rows → at (n + k) ≡ row_at rows k) → map (λ (entry : Entry). f (at entry.1)) (entries_from n rows) ≡ map f rows
rows_of-entries f at n [] is = refl
rows_of-entries f at n (row ∷ rows) is =
    let here : n ≡ n + 0 = omega arith in
    let others = rows_of-entries f at (suc n) rows (λ k lt. let same : suc n + k ≡ n + suc k = omega arith in ap at same ∙ is (suc k) (omega arith)) in
    (λ i. f ((ap at here ∙ is 0 (omega arith)) i) ∷ others i)

-- ---- entries in rising order

module _ (rows : List GraphRow) (order : List Entry) (perm : IsPermutation (entries_from 0 rows) order) where
  pub length-order : length order ≡ length rows
  length-order = length_permutation (entries_from 0 rows) order perm ∙ length-entries_from 0 rows

  order_names : All (IsEntryOf rows) order
  order_names = All-permutation (IsEntryOf rows) (entries_from 0 rows) order perm (entries_name rows)

  distinct_order : HaveDistinctIds rows → IsDistinct is_same (ids_of order)
  distinct_order distinct = IsDistinct-IsPermutation is_same same_back (ids_of (entries_from 0 rows)) (ids_of order) (IsPermutation-map (λ (entry : Entry). entry.0) (entries_from 0 rows) order perm) (subst (IsDistinct is_same) (sym (ids_of-entries 0 rows)) distinct)

  -- where an id isn't above the one before it, two rows have one id
  pub not_distinct : NeverFall order → StopsRising order → HaveDistinctIds rows → ⊥
  not_distinct falls stops distinct =
      let k = stops.0 in
      let lt : k + 1 < length order = stops.1 in
      let a = (get_or order k no_entry).0 in
      let b = (get_or order (k + 1) no_entry).0 in
      let ids = distinct_order distinct in
      let len = length-map order (λ (entry : Entry). entry.0) in
      let apart : is_same (get_or (ids_of order) k a) (get_or (ids_of order) (k + 1) a) ≡ false = apart_from_distinct is_same (ids_of order) k (k + 1) a ids (omega arith) (omega (arith, len)) in
      let at_k = get_or-map (λ (entry : Entry). entry.0) order k no_entry a (omega arith) in
      let at_next = get_or-map (λ (entry : Entry). entry.0) order (k + 1) no_entry a lt in
      grind (arith, stops.2 no_entry, falls k no_entry lt, apart, at_k, at_next, id_total.antisymm b a)

  module _ (rise : AlwaysRise order) where
    pub sorted_order : IsStrictlySortedBy id_cmp (ids_of order)
    sorted_order =
        sorted_from_all_adjacent id_total (ids_of order) no_row.id (λ k lt.
        let within : k + 1 < length order = omega (arith, length-map order (λ (entry : Entry). entry.0)) in
        (λ i. id_cmp (get_or-map (λ (entry : Entry). entry.0) order k no_entry no_row.id (omega arith) i) (get_or-map (λ (entry : Entry). entry.0) order (k + 1) no_entry no_row.id within i)) ∙ is_Less _ (rise k no_entry within))

    pub distinct_rows : HaveDistinctIds rows
    distinct_rows =
        subst (IsDistinct is_same) (ids_of-entries 0 rows)
        (IsDistinct-IsPermutation is_same same_back (ids_of order) (ids_of (entries_from 0 rows)) (IsPermutation-sym (ids_of (entries_from 0 rows)) (ids_of order) (IsPermutation-map (λ (entry : Entry). entry.0) (entries_from 0 rows) order perm)) (IsDistinct-from_sorted id_cmp (ids_of order) sorted_order))

    pub has_places : HasPlaces (length rows) order
    has_places = record {
      below = λ k d lt. (order_names k d lt).0;
      apart = λ j k d lt within same.
          let one = (order_names j d (omega arith)).1 ∙ ap (λ (n : ℕ). (row_at rows n).id) same ∙ sym (order_names k d within).1 in
          let len = length-map order (λ (entry : Entry). entry.0) in
          let less : id_cmp (get_or (ids_of order) j d.0) (get_or (ids_of order) k d.0) ≡ Less = Less-from_sorted id_cmp (ids_of order) j k d.0 sorted_order lt (omega (arith, len)) in
          let at_j = get_or-map (λ (entry : Entry). entry.0) order j d d.0 (omega arith) in
          let at_k = get_or-map (λ (entry : Entry). entry.0) order k d d.0 within in
          let tied = tied_itself id_total (get_or order k d).0 in
          absurd cc;
    }

-- ---- what new numbers keep

all_renumbered : (P Q : GraphRow → Type 0) (number : ℕ → ℕ) → ((row : GraphRow) → P row → Q (renumbered number row)) → (rows : List GraphRow) → AllByRecursion P rows → AllByRecursion Q (map (renumbered number) rows)
all_renumbered P Q number give [] all = tt
all_renumbered P Q number give (row ∷ rows) all = (give row all.0, all_renumbered P Q number give rows all.1)

all_among : (k : Kind) (n : ℕ) (rows : List GraphRow) → AllByRecursion (IsRowOf k) rows → AllByRecursion (λ row. AllByRecursion (IsPlaceAmong n) row.parents) rows → AllByRecursion IsInRange rows → AllByRecursion (IsRowAmong k n) rows
all_among k n [] kinds places range = tt
all_among k n (row ∷ rows) kinds places range = (record { id = kinds.0.id; tree = kinds.0.tree; parents = places.0; generation = range.0.0; time = range.0.1 }, all_among k n rows kinds.1 places.1 range.1)

places_moved : (n : ℕ) (number : ℕ → ℕ) → ((place : ℕ) → place < n → number place < n) → (ps : List ParentPlace) → AllByRecursion (IsPlaceAmong n) ps → AllByRecursion (IsPlaceAmong n) (map (moved number) ps)
places_moved n number below [] all = tt
places_moved n number below (At i ∷ ps) all = (below i all.0, places_moved n number below ps all.1)
places_moved n number below (Fault ∷ ps) all = (tt, places_moved n number below ps all.1)

words_as_sum : (rows : List GraphRow) → length (overflow_words rows) ≡ sum_by (λ row. length (overflow_of row.parents)) rows
words_as_sum [] = refl
words_as_sum (row ∷ rows) = length-append (overflow_of row.parents) (overflow_words rows) ∙ ap (λ (n : ℕ). length (overflow_of row.parents) + n) (words_as_sum rows) ∙ sym (sum_by-cons (λ (x : GraphRow). length (overflow_of x.parents)) row rows)

words_renumbered : (number : ℕ → ℕ) (rows : List GraphRow) → length (overflow_words (map (renumbered number) rows)) ≡ length (overflow_words rows)
words_renumbered number [] = refl
words_renumbered number (row ∷ rows) =
    omega (arith, length-append (overflow_of (map (moved number) row.parents)) (overflow_words (map (renumbered number) rows)), length-append (overflow_of row.parents) (overflow_words rows), length-overflow_of-moved row.parents number, words_renumbered number rows)

kind_of_all : (k : Kind) (rows graph : List GraphRow) → length graph ≡ length rows → kind_of_rows rows ≡ k → AllByRecursion (IsRowOf k) graph → kind_of_rows graph ≡ k
kind_of_all k rows (row ∷ graph) len is all = all.0.id.kind
kind_of_all k [] [] len is all = is
kind_of_all k (row ∷ rows) [] len is all = absurd (omega arith)

-- ---- the arranged rows

module _ (rows : List GraphRow) (order : List Entry) (numbers : List ℕ) (perm : IsPermutation (entries_from 0 rows) order) (told : AreNumbers order numbers) where
  abbrev graph : List GraphRow
  graph = arranged rows order numbers

  abbrev number : ℕ → ℕ
  number = slice_index numbers

  pub length-graph : length graph ≡ length rows
  length-graph = length-map order (arranged_row rows numbers) ∙ length-order rows order perm

  graph_permutes : IsPermutation (map (renumbered number) rows) graph
  graph_permutes = subst (λ (x : List GraphRow). IsPermutation x graph) (rows_of-entries (renumbered number) (row_at rows) 0 rows (λ k lt. let same : 0 + k ≡ k = omega arith in ap (row_at rows) same)) (IsPermutation-map (arranged_row rows numbers) (entries_from 0 rows) order perm)

  pub words_of_graph : length (overflow_words graph) ≡ length (overflow_words rows)
  words_of_graph =
      words_as_sum graph ∙ sum_by-IsPermutation (λ (row : GraphRow). length (overflow_of row.parents)) (map (renumbered number) rows) graph graph_permutes
      ∙ sym (words_as_sum (map (renumbered number) rows)) ∙ words_renumbered number rows

  -- the entry of each place
  entry_of : (place : ℕ) → place < length rows → (k : ℕ) × (k < length order) × ((get_or order k no_entry).1 ≡ place)
  entry_of place lt =
      let entry : Entry = ((row_at rows place).id, place) in
      let same : 0 + place ≡ place = omega arith in
      let len = length-entries_from 0 rows in
      let there : Contains (entries_from 0 rows) entry = (place, (omega arith), entry_at 0 rows place entry lt ∙ ap (λ (n : ℕ). ((row_at rows place).id, n)) same) in
      let found = Contains-permutation (entries_from 0 rows) order entry perm there in
      (found.0, found.1, ap (λ (e : Entry). e.1) (get_or_default order found.0 no_entry entry found.1 ∙ found.2))

  number_of : (place : ℕ) (lt : place < length rows) → number place ≡ (entry_of place lt).0
  number_of place lt = let e = entry_of place lt in ap number (sym e.2) ∙ told.number e.0 no_entry e.1

  number_below : (place : ℕ) → place < length rows → number place < length rows
  number_below place lt = let e = entry_of place lt in omega (arith, number_of place lt, e.1, length-order rows order perm)

  all_graph : (P Q : GraphRow → Type 0) → ((row : GraphRow) → P row → Q (renumbered number row)) → AllByRecursion P rows → AllByRecursion Q graph
  all_graph P Q give all = recursion_from_All Q graph (All-permutation Q (map (renumbered number) rows) graph graph_permutes (All-from_recursion Q (map (renumbered number) rows) (all_renumbered P Q number give rows all)))

  pub has_same_rows : HasSameRows rows graph
  has_same_rows = record {
    number = number;
    count = length-graph;
    same = λ place lt.
        let e = entry_of place lt in
        let len = length-map order (arranged_row rows numbers) in
        let within : e.0 < length graph = omega (arith, e.1, len) in
        ap (slice_get graph) (number_of place lt) ∙ slice_get-get_or graph e.0 no_row within
        ∙ ap Some (get_or-map (arranged_row rows numbers) order e.0 no_entry no_row e.1 ∙ ap (λ (n : ℕ). renumbered number (row_at rows n)) e.2)
        ∙ sym (ap (option_map (renumbered number)) (slice_get-get_or rows place no_row lt));
  }

  pub can_arrange : AlwaysRise order → HavePlacesWithin rows → length (overflow_words rows) ≤ most → CanArrange rows order numbers
  can_arrange rise within few_words = record {
    within = within;
    places = has_places rows order perm rise;
    len = told.len ∙ length-order rows order perm;
    small = told.small;
    few_words = omega (arith, words_of_graph);
  }

  module _ (k : Kind) (kind : kind_of_rows rows ≡ k) (kinds : AllByRecursion (IsRowOf k) rows) where
    kinds_of_graph : AllByRecursion (IsRowOf k) graph
    kinds_of_graph = all_graph (IsRowOf k) (IsRowOf k) (λ row r. record { id = r.id; tree = r.tree }) kinds

    pub kind_of_graph : kind_of_rows graph ≡ k
    kind_of_graph = kind_of_all k rows graph length-graph kind kinds_of_graph

    ids_of_graph : ids_of order ≡ ids_of_rows graph
    ids_of_graph = by_names order (order_names rows order perm)
      where
        by_names : (entries : List Entry) → All (IsEntryOf rows) entries → ids_of entries ≡ ids_of_rows (arranged rows entries numbers)
        by_names entries names =
            same_lists _ _ (length-map entries (λ (entry : Entry). entry.0) ∙ sym (length-map (arranged rows entries numbers) (λ (row : GraphRow). row.id) ∙ length-map entries (arranged_row rows numbers)))
            (λ j d lt.
            let within : j < length entries = omega (arith, length-map entries (λ (entry : Entry). entry.0)) in
            get_or-map (λ (entry : Entry). entry.0) entries j no_entry d within ∙ (names j no_entry within).1
            ∙ sym (get_or-map (λ (row : GraphRow). row.id) (arranged rows entries numbers) j no_row d (omega (arith, length-map entries (arranged_row rows numbers))) ∙ ap (λ (row : GraphRow). row.id) (get_or-map (arranged_row rows numbers) entries j no_entry no_row within)))

    pub are_graph_rows : AlwaysRise order → HavePlacesWithin rows → length rows ≤ most → length (overflow_words rows) ≤ most → AllByRecursion IsInRange graph → AreGraphRows graph
    are_graph_rows rise within few few_words range =
        let n = length rows in
        let places : AllByRecursion (λ row. AllByRecursion (IsPlaceAmong n) row.parents) graph =
        all_graph (λ row. AllByRecursion (IsPlaceAmong n) row.parents) (λ row. AllByRecursion (IsPlaceAmong n) row.parents) (λ row. places_moved n number number_below row.parents) within in
        let sound = all_among k n graph kinds_of_graph places range in
        record {
          each = subst (λ (x : Kind). AllByRecursion (IsRowAmong x (length graph)) graph) (sym kind_of_graph) (subst (λ (x : ℕ). AllByRecursion (IsRowAmong k x) graph) (sym length-graph) sound);
          rising = subst (IsStrictlySortedBy id_cmp) ids_of_graph (sorted_order rows order perm rise);
          few = omega (arith, length-graph);
          few_words = omega (arith, words_of_graph);
        }
