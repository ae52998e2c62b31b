-- The rows that the reader finds in a file are those of the page, by the bytes of the file's chunks.
use Rattle.std.proofs.Common.{◌≡◌, ℕ, zero, suc, ◌+◌, ◌-◌, ◌*◌, ◌/◌, ◌%◌, ◌^◌, ◌<◌, ◌≤◌, true, eqb, List, [], ◌∷◌, take, drop, length, map, slice_get, pos, Option, Some, None, Result, Ok, Err, refl, sym, ap, subst, ◌∙◌, arith, w32, w64, ⊎_elim, drop-drop}
use Rattle.std.specs.Int.{from_be_bytes}
use Rattle.std.specs.List.{AllByRecursion}
use Rattle.std.specs.List.Sorted.{IsStrictlySortedBy}
use Rattle.std.proofs.lemmas.List.{drop-take, take-take}
use Rattle.gix_hash.specs.declared.Kind.{Kind}
use Rattle.gix_hash.specs.declared.ObjectId.{ObjectId}
use Rattle.gix_hash.specs.Id.{id_cmp, id_len, id_of}
use Rattle.gix_commitgraph.specs.declared.ParentPlace.{ParentPlace}
use Rattle.gix_commitgraph.specs.declared.ParentPlace.TheVariants.{At}
use Rattle.gix_commitgraph.specs.Packed.{ids_of_rows}
use Rattle.gix_commitgraph.specs.Rows.{GraphRow}
use Rattle.gix_commitgraph.specs.PackedReading.{word_at, is_above, with_row}
use Rattle.gix_commitgraph.proofs.Packed.Takes.{chosen}
use Rattle.gix_graph_file.specs.declared.error.Error.{Error}
use Rattle.gix_graph_file.specs.declared.error.Error.TheVariants as error
use Rattle.gix_graph_file.specs.FileTable.{long_at}
use Rattle.gix_graph_file.specs.FileRows.{Parents, parents_said, row_said, row_then, rows_from}
use Rattle.gix_statement.specs.CommitGraph.{number_at, bytes_at, AreParents}
use Rattle.gix_commands.proofs.FileNumbers.{word_is, long_is}
use Rattle.gix_commands.proofs.FileParents.{NoFault, Left, parents_say}
use Rattle.gix_commitgraph.proofs.Packed.Read.{rises}
use Rattle.gix_commitgraph.proofs.Packed.ReadAgain.{Begins}

-- a row that is read, by the chunks' bytes; its parents are among so many rows
pub record IsRead (k : Kind) (ids data_of edges : List ℕ) (n j : ℕ) (row : GraphRow) : Type 0 where
  pub id : row.id ≡ id_of k (bytes_at (id_len k * j) (id_len k) ids)
  pub tree : row.tree ≡ id_of k (bytes_at ((id_len k + 16) * j) (id_len k) data_of)
  pub numbers : List ℕ
  pub parents : AreParents edges (number_at ((id_len k + 16) * j + id_len k) 4 data_of) (number_at ((id_len k + 16) * j + id_len k + 4) 4 data_of) numbers
  pub places : row.parents ≡ map At numbers
  pub within : AllByRecursion (λ (i : ℕ). i < n) numbers
  pub generation : row.generation ≡ number_at ((id_len k + 16) * j + id_len k + 8) 8 data_of / 2 ^ 34
  pub time : row.time ≡ pos (number_at ((id_len k + 16) * j + id_len k + 8) 8 data_of % 2 ^ 34)

-- a part of the 16 bytes behind a tree's id
part_of : (w at s c place : ℕ) (whole : List ℕ) → s + c ≤ 16 → place ≡ at + w + s → take c (drop s (take 16 (drop w (drop at whole)))) ≡ bytes_at place c whole
part_of w at s c place whole fits is =
    let long : 16 ≡ s + (16 - s) = omega (arith, fits) in
    ap (λ n. take c (drop s (take n (drop w (drop at whole))))) long
    ∙ ap (take c) (drop-take s (16 - s) (drop w (drop at whole)))
    ∙ take-take c (16 - s) (drop s (drop w (drop at whole))) (omega (arith, fits))
    ∙ ap (λ (x : List ℕ). take c (drop s x)) (drop-drop w at whole)
    ∙ ap (take c) (drop-drop s (at + w) whole)
    ∙ ap (λ n. take c (drop n whole)) (sym is)

word_part : (w at s place : ℕ) (whole : List ℕ) → s + 4 ≤ 16 → place ≡ at + w + s → place + 4 ≤ length whole → word_at s (take 16 (drop w (drop at whole))) ≡ number_at place 4 whole
word_part w at s place whole fits is long = ap (from_be_bytes w32) (part_of w at s 4 place whole fits is) ∙ sym (word_is place whole long)

long_part : (w at s place : ℕ) (whole : List ℕ) → s + 8 ≤ 16 → place ≡ at + w + s → place + 8 ≤ length whole → long_at s (take 16 (drop w (drop at whole))) ≡ number_at place 8 whole
unfolding long_at
long_part w at s place whole fits is long = ap (from_be_bytes w64) (part_of w at s 8 place whole fits is) ∙ sym (long_is place whole long)

Rest : (List ParentPlace → GraphRow) → Option Parents → (List ℕ → Result (List GraphRow) Error) → List GraphRow → Type 0
Rest row said more rows = (p : Parents) × (rest : List GraphRow) × (said ≡ Some p) × (more p.1 ≡ Ok rest) × (row p.0 ∷ rest ≡ rows)

with_row_is : (row : GraphRow) (read : Result (List GraphRow) Error) (rows : List GraphRow) → with_row row read ≡ Ok rows → (rest : List GraphRow) × (read ≡ Ok rest) × (row ∷ rest ≡ rows)
with_row_is row (Ok rest) rows e = (rest, refl, cc)
with_row_is row (Err f) rows e = absurd (let no : ◌≡◌ {A = Result (List GraphRow) Error} (Err f) (Ok rows) = e in cc)

row_then_is : (r : ℕ) (row : List ParentPlace → GraphRow) (said : Option Parents) (more : List ℕ → Result (List GraphRow) Error) (rows : List GraphRow) → row_then r row said more ≡ Ok rows → Rest row said more rows
unfolding Rest
row_then_is r row None more rows e = absurd (let no : ◌≡◌ {A = Result (List GraphRow) Error} (Err (error.Parents r)) (Ok rows) = e in cc)
row_then_is r row (Some p) more rows e = let w = with_row_is (row p.0) (more p.1) rows e in (p, w.0, refl, w.1, w.2)

-- ids rise; that aside, what the first of the rows that are left says
first_row : (k : Kind) (n m left r : ℕ) (before : Option ObjectId) (ids commits words : List ℕ) (rows : List GraphRow) → rows_from k n m (suc left) r before ids commits words ≡ Ok rows
    → Rest (row_said k (take (id_len k) ids) (take (id_len k) commits) (take 16 (drop (id_len k) commits)))
    (parents_said n (m - length words) (word_at 0 (take 16 (drop (id_len k) commits))) (word_at 4 (take 16 (drop (id_len k) commits))) words)
    (rows_from k n m left (r + 1) (Some (id_of k (take (id_len k) ids))) (drop (id_len k) ids) (drop 16 (drop (id_len k) commits))) rows
unfolding rows_from
first_row k n m left r before ids commits words rows e = ⊎_elim
    (λ h. row_then_is r _ _ _ rows h.1)
    (λ h. absurd (let no : ◌≡◌ {A = Result (List GraphRow) Error} (Err (error.Order r)) (Ok rows) = h.1 in cc))
    (chosen (is_above before (id_of k (take (id_len k) ids))) _ (Err (error.Order r)) (Ok rows) e)

no_row_left : (k : Kind) (n m r : ℕ) (before : Option ObjectId) (ids commits words : List ℕ) (rows : List GraphRow) → rows_from k n m 0 r before ids commits words ≡ Ok rows → [] ≡ rows
unfolding rows_from
no_row_left k n m r before ids commits words rows e = ⊎_elim
    (λ h. let is : ◌≡◌ {A = Result (List GraphRow) Error} (Ok []) (Ok rows) = h.1 in cc)
    (λ h. absurd (let no : ◌≡◌ {A = Result (List GraphRow) Error} (Err error.Edges) (Ok rows) = h.1 in cc))
    (chosen (eqb (length words) 0) (Ok []) (Err error.Edges) (Ok rows) e)

abbrev pub AreRead : Kind → (ids data_of edges : List ℕ) → (n r left : ℕ) → List GraphRow → Type 0
AreRead k ids data_of edges n r left rows = (length rows ≡ left) × ((j : ℕ) (row : GraphRow) → slice_get rows j ≡ Some row → IsRead k ids data_of edges n (r + j) row)

-- rows in front of rows
rows_join : (k : Kind) (ids data_of edges : List ℕ) (n r left : ℕ) (row : GraphRow) (rows : List GraphRow) → IsRead k ids data_of edges n r row → AreRead k ids data_of edges n (r + 1) left rows → AreRead k ids data_of edges n r (suc left) (row ∷ rows)
rows_join k ids data_of edges n r left row rows here more = (ap suc more.0, each)
  where
    each : (j : ℕ) (other : GraphRow) → slice_get (row ∷ rows) j ≡ Some other → IsRead k ids data_of edges n (r + j) other
    each zero other e =
        let same : row ≡ other = cc in
        let at : r ≡ r + 0 = omega arith in
        subst (IsRead k ids data_of edges n (r + 0)) same (subst (λ i. IsRead k ids data_of edges n i row) at here)
    each (suc j) other e = let at : r + 1 + j ≡ r + suc j = omega arith in subst (λ i. IsRead k ids data_of edges n i other) at (more.1 j other e)

module _ (k : Kind) (n m count : ℕ) (ids data_of edges : List ℕ) (long : length data_of ≡ (id_len k + 16) * count) where
  row_says : (r left : ℕ) (words : List ℕ) (read : Parents) → r + suc left ≡ count → Left m edges words
      → (let numbers = take 16 (drop (id_len k) (drop ((id_len k + 16) * r) data_of)) in parents_said n (m - length words) (word_at 0 numbers) (word_at 4 numbers) words ≡ Some read) → NoFault read.0
      → IsRead k ids data_of edges n r (row_said k (take (id_len k) (drop (id_len k * r) ids)) (take (id_len k) (drop ((id_len k + 16) * r) data_of)) (take 16 (drop (id_len k) (drop ((id_len k + 16) * r) data_of))) read.0) × Left m edges read.1
  row_says r left words read counted has e sound =
      let at = (id_len k + 16) * r in
      let numbers = take 16 (drop (id_len k) (drop at data_of)) in
      let fits : at + id_len k + 16 ≤ length data_of = fit (id_len k) r left count counted long in
      let one = word_part (id_len k) at 0 (at + id_len k) data_of (omega arith) (omega arith) (omega (arith, fits)) in
      let two = word_part (id_len k) at 4 (at + id_len k + 4) data_of (omega arith) refl (omega (arith, fits)) in
      let seconds = long_part (id_len k) at 8 (at + id_len k + 8) data_of (omega arith) refl (omega (arith, fits)) in
      let said = parents_say n m (word_at 0 numbers) (word_at 4 numbers) edges words read has e sound in (
        record {
          id = refl;
          tree = refl;
          numbers = said.numbers;
          parents = subst (λ (T : Type 0). T) (λ i. AreParents edges (one i) (two i) said.numbers) said.are;
          places = said.places;
          within = said.within;
          generation = ap (λ (x : ℕ). x / 2 ^ 34) seconds;
          time = ap (λ (x : ℕ). pos (x % 2 ^ 34)) seconds;
        },
        said.left,
      )
    where
      fit : (w r left count : ℕ) → r + suc left ≡ count → length data_of ≡ (w + 16) * count → (w + 16) * r + w + 16 ≤ length data_of
      fit w r left count counted long =
          let e : (w + 16) * count ≡ (w + 16) * r + (w + 16) * left + w + 16 = ap (λ c. (w + 16) * c) (sym counted) ∙ omega arith in
          omega (arith, long, e)

  pub rows_say : (r left : ℕ) (before : Option ObjectId) (left_ids left_data words : List ℕ) (rows : List GraphRow) → r + left ≡ count → left_ids ≡ drop (id_len k * r) ids → left_data ≡ drop ((id_len k + 16) * r) data_of → Left m edges words
      → rows_from k n m left r before left_ids left_data words ≡ Ok rows → AllByRecursion (λ (row : GraphRow). NoFault row.parents) rows → AreRead k ids data_of edges n r left rows
  unfolding Rest
  rows_say r zero before left_ids left_data words rows counted ids_are data_are has e sound =
      subst (AreRead k ids data_of edges n r 0) (no_row_left k n m r before left_ids left_data words rows e) (refl, none)
    where
      none : (j : ℕ) (row : GraphRow) → slice_get [] j ≡ Some row → IsRead k ids data_of edges n (r + j) row
      none j row e = absurd (let no : ◌≡◌ {A = Option GraphRow} None (Some row) = e in cc)
  rows_say r (suc left) before left_ids left_data words rows counted ids_are data_are has e sound =
      let q = first_row k n m left r before left_ids left_data words rows e in
      let all = subst (AllByRecursion (λ (row : GraphRow). NoFault row.parents)) (sym q.4) sound in
      let said_at = subst (λ (x : List ℕ). parents_said n (m - length words) (word_at 0 (take 16 (drop (id_len k) x))) (word_at 4 (take 16 (drop (id_len k) x))) words ≡ Some q.0) data_are q.2 in
      let here = row_says r left words q.0 counted has said_at all.0 in
      let row = subst (λ (T : Type 0). T) (λ i. IsRead k ids data_of edges n r (row_said k (take (id_len k) (sym ids_are i)) (take (id_len k) (sym data_are i)) (take 16 (drop (id_len k) (sym data_are i))) q.0.0)) here.0 in
      let id_on : id_len k * r + id_len k ≡ id_len k * (r + 1) = omega arith in
      let data_on : (id_len k + 16) * r + id_len k + 16 ≡ (id_len k + 16) * (r + 1) = omega arith in
      let later = rows_say (r + 1) left (Some (id_of k (take (id_len k) left_ids))) (drop (id_len k) left_ids) (drop 16 (drop (id_len k) left_data)) q.0.1 q.1 (omega (arith, counted))
      (ap (drop (id_len k)) ids_are ∙ drop-drop (id_len k) (id_len k * r) ids ∙ ap (λ x. drop x ids) id_on)
      (ap (λ (x : List ℕ). drop 16 (drop (id_len k) x)) data_are ∙ ap (drop 16) (drop-drop (id_len k) ((id_len k + 16) * r) data_of) ∙ drop-drop 16 ((id_len k + 16) * r + id_len k) data_of ∙ ap (λ x. drop x data_of) data_on)
      here.1 q.3 all.1 in
      subst (AreRead k ids data_of edges n r (suc left)) q.4 (rows_join k ids data_of edges n r left _ q.1 row later)

-- ---- ids in order

abbrev Rise : Option ObjectId → List GraphRow → Type 0
Rise before rows = Begins before rows × IsStrictlySortedBy id_cmp (ids_of_rows rows)

none_rise : (before : Option ObjectId) → Rise before []
unfolding IsStrictlySortedBy
none_rise before = (tt, tt)

-- the first of the rows that are left is above the one before it
first_above : (k : Kind) (n m left r : ℕ) (before : Option ObjectId) (ids commits words : List ℕ) (rows : List GraphRow) → rows_from k n m (suc left) r before ids commits words ≡ Ok rows → is_above before (id_of k (take (id_len k) ids)) ≡ true
unfolding rows_from
first_above k n m left r before ids commits words rows e = ⊎_elim
    (λ h. h.0)
    (λ h. absurd (let no : ◌≡◌ {A = Result (List GraphRow) Error} (Err (error.Order r)) (Ok rows) = h.1 in cc))
    (chosen (is_above before (id_of k (take (id_len k) ids))) _ (Err (error.Order r)) (Ok rows) e)

pub rows_rise : (k : Kind) (n m left r : ℕ) (before : Option ObjectId) (ids commits words : List ℕ) (rows : List GraphRow) → rows_from k n m left r before ids commits words ≡ Ok rows → Rise before rows
unfolding Rest
rows_rise k n m zero r before ids commits words rows e = subst (Rise before) (no_row_left k n m r before ids commits words rows e) (none_rise before)
rows_rise k n m (suc left) r before ids commits words rows e =
    let q = first_row k n m left r before ids commits words rows e in
    let i = id_of k (take (id_len k) ids) in
    let more = rows_rise k n m left (r + 1) (Some i) (drop (id_len k) ids) (drop 16 (drop (id_len k) commits)) q.0.1 q.1 q.3 in
    let row = row_said k (take (id_len k) ids) (take (id_len k) commits) (take 16 (drop (id_len k) commits)) q.0.0 in
    subst (Rise before) q.4 (first_above k n m left r before ids commits words rows e, rises row q.1 more.0 more.1)
