-- The packed bytes say the same rows as the parts of the file, or the same fault.
use Rattle.std.proofs.Common.{◌≡◌, ℕ, zero, suc, ◌+◌, ◌-◌, ◌*◌, ◌≤◌, Bool, true, false, cond, List, [], ◌∷◌, ◌++◌, length, map, take, drop, Option, Some, None, Result, Ok, Err, refl, sym, ap, subst, ◌∙◌, append_assoc, arith, ne_eqb}
use Rattle.std.proofs.Common.{length-drop, length-take}
use Rattle.std.proofs.lemmas.List.{length-map}
use Rattle.gix_graph_file.proofs.Common.{Kind, ObjectId, ParentPlace, id_len, id_of, GraphRow, AreBytes, word_at, row_len, id_field, first_field, second_field, row_of_fields, parents_at, is_above, Error, most_rows, Parents, parents_said}
use Rattle.gix_graph_file.proofs.Common.{row_said, with_row, row_then, edge_packed, row_packed}
use Rattle.gix_commitgraph.specs.declared.Place.{Place}
use Rattle.gix_commitgraph.specs.declared.Place.TheVariants as place
use Rattle.gix_commitgraph.specs.PackedReading.{rows_at}
use Rattle.gix_commitgraph.specs.PackedReading as packed
use Rattle.gix_commitgraph.proofs.Packed.RowTakes.{AreBytes-take, AreBytes-drop}
use Rattle.gix_graph_file.specs.declared.error.Error.TheVariants as error
use Rattle.gix_graph_file.specs.FileRows.{rows_from}
use Rattle.gix_graph_file.specs.PackedParts.{rows_packed}
use Rattle.gix_graph_file.proofs.SameParents.{packed_behind, parents-same}
use Rattle.gix_graph_file.proofs.SameFields.{HasFields, has_fields}

-- what is read of packed bytes says what is read of a file
abbrev pub Says : Result (List GraphRow) Place → Result (List GraphRow) Error → Type 0
Says (Ok rows) read = read ≡ Ok rows
Says (Err (place.Order r)) read = read ≡ Err (error.Order r)
Says (Err (place.Parents r)) read = read ≡ Err (error.Parents r)
Says (Err place.Overflow) read = read ≡ Err error.Edges
Says (Err place.Head) read = ⊥
Says (Err place.Size) read = ⊥

says-with_row : (row other : GraphRow) (here : Result (List GraphRow) Place) (read : Result (List GraphRow) Error) → row ≡ other → Says here read → Says (packed.with_row row here) (with_row other read)
says-with_row row other (Ok rows) read same h = ap (with_row other) h ∙ ap (λ (x : GraphRow). Ok (x ∷ rows)) (sym same)
says-with_row row other (Err (place.Order r)) read same h = ap (with_row other) h
says-with_row row other (Err (place.Parents r)) read same h = ap (with_row other) h
says-with_row row other (Err place.Overflow) read same h = ap (with_row other) h
says-with_row row other (Err place.Head) read same h = h
says-with_row row other (Err place.Size) read same h = h

says-row_then : (k : Kind) (n r : ℕ) (whole : List ℕ) (row : List ParentPlace → GraphRow) (said : Option Parents) (here : List ℕ → Result (List GraphRow) Place) (more : List ℕ → Result (List GraphRow) Error)
    → ((parents : List ParentPlace) → row_of_fields k whole parents ≡ row parents) → ((words : List ℕ) → Says (here (map (edge_packed n) words)) (more words))
    → Says (packed.row_then k r whole (packed_behind n said) here) (row_then r row said more)
says-row_then k n r whole row None here more rows same = refl
says-row_then k n r whole row (Some p) here more rows same = says-with_row _ (row p.0) (here (map (edge_packed n) p.1)) (more p.1) (rows p.0) (same p.1)

-- no row is left
pub says-end : (k j : Kind) (n m r : ℕ) (before other : Option ObjectId) (bytes ids commits words : List ℕ) → Says (rows_at j n m 0 r before bytes (map (edge_packed n) words)) (rows_from k n m 0 r other ids commits words)
unfolding rows_at rows_from
says-end k j n m r before other bytes ids commits [] = refl
says-end k j n m r before other bytes ids commits (word ∷ words) =
    rw (length-map words (edge_packed n), ne_eqb (suc (length words)) 0 (λ e. omega arith)) refl

-- a row at the front
module _ (k : Kind) (n m left r : ℕ) (before : Option ObjectId) (whole ids commits words : List ℕ) where
  abbrev id : List ℕ
  id = take (id_len k) ids

  abbrev tree : List ℕ
  tree = take (id_len k) commits

  abbrev numbers : List ℕ
  numbers = take 16 (drop (id_len k) commits)

  says-row : (rest : List ℕ) → n ≤ most_rows → HasFields k n id tree numbers rest whole
      → ((words : List ℕ) → Says (rows_at k n m left (r + 1) (Some (id_of k id)) rest (map (edge_packed n) words)) (rows_from k n m left (r + 1) (Some (id_of k id)) (drop (id_len k) ids) (drop 16 (drop (id_len k) commits)) words))
      → Says (rows_at k n m (suc left) r before whole (map (edge_packed n) words)) (rows_from k n m (suc left) r before ids commits words)
  unfolding rows_at rows_from
  says-row rest few has more =
      let packed_words = map (edge_packed n) words in
      let parents : parents_at n (m - length packed_words) (first_field k whole) (second_field k whole) packed_words ≡ packed_behind n (parents_said n (m - length words) (word_at 0 numbers) (word_at 4 numbers) words) =
      (λ i. parents_at n (m - length-map words (edge_packed n) i) (has.first i) (has.second i) packed_words) ∙ parents-same n (m - length words) (word_at 0 numbers) (word_at 4 numbers) words few in
      let here : List ℕ → Result (List GraphRow) Place = rows_at k n m left (r + 1) (Some (id_field k whole)) (drop (row_len k) whole) in
      let here_is : here ≡ rows_at k n m left (r + 1) (Some (id_of k id)) rest = λ i. rows_at k n m left (r + 1) (Some (has.id_is i)) (has.behind i) in
      let more_read = rows_from k n m left (r + 1) (Some (id_of k id)) (drop (id_len k) ids) (drop 16 (drop (id_len k) commits)) in
      let said = parents_said n (m - length words) (word_at 0 numbers) (word_at 4 numbers) words in
      let so : Says (packed.row_then k r whole (packed_behind n said) (rows_at k n m left (r + 1) (Some (id_of k id)) rest)) (row_then r (row_said k id tree numbers) said more_read) =
      says-row_then k n r whole (row_said k id tree numbers) said _ more_read has.row more in
      subst (λ (x : Result (List GraphRow) Place). Says x (cond (is_above before (id_of k id)) (row_then r (row_said k id tree numbers) said more_read) (Err (error.Order r))))
      (sym (λ i. cond (is_above before (has.id_is i)) (packed.row_then k r whole (parents i) (here_is i)) (Err (place.Order r))))
      (by (is_above before (id_of k id)) _ _ so)
    where
      by : (b : Bool) (here : Result (List GraphRow) Place) (read : Result (List GraphRow) Error) → Says here read → Says (cond b here (Err (place.Order r))) (cond b read (Err (error.Order r)))
      by true here read h = h
      by false here read h = refl

rows_packed-suc : (k : Kind) (n left : ℕ) (ids commits : List ℕ)
    → rows_packed k n (suc left) ids commits ≡ row_packed n (take (id_len k) ids) (take (id_len k) commits) (take 16 (drop (id_len k) commits)) ++ rows_packed k n left (drop (id_len k) ids) (drop 16 (drop (id_len k) commits))
unfolding rows_packed
rows_packed-suc k n left ids commits = refl

pub says-rows : (k : Kind) (n m left r : ℕ) (before : Option ObjectId) (ids commits words tail : List ℕ) → n ≤ most_rows
    → id_len k * left ≤ length ids → id_len k * left + 16 * left ≤ length commits → AreBytes commits
    → Says (rows_at k n m left r before (rows_packed k n left ids commits ++ tail) (map (edge_packed n) words)) (rows_from k n m left r before ids commits words)
says-rows k n m zero r before ids commits words tail few ids_fit commits_fit fits = says-end k k n m r before before _ ids commits words
says-rows k n m (suc left) r before ids commits words tail few ids_fit commits_fit fits =
    let id = take (id_len k) ids in
    let tree = take (id_len k) commits in
    let numbers = take 16 (drop (id_len k) commits) in
    let ids_left = drop (id_len k) ids in
    let commits_left = drop 16 (drop (id_len k) commits) in
    let rest = rows_packed k n left ids_left commits_left ++ tail in
    let one : id_len k * suc left ≡ id_len k * left + id_len k = omega arith in
    let has = has_fields k n id tree numbers rest few (omega (arith, length-take (id_len k) ids)) (omega (arith, length-take (id_len k) commits)) (AreBytes-take 16 (drop (id_len k) commits) (AreBytes-drop (id_len k) commits fits)) in
    let more = λ (words : List ℕ). says-rows k n m left (r + 1) (Some (id_of k id)) ids_left commits_left words tail few (omega (arith, length-drop (id_len k) ids)) (omega (arith, length-drop (id_len k) commits, length-drop 16 (drop (id_len k) commits))) (AreBytes-drop 16 (drop (id_len k) commits) (AreBytes-drop (id_len k) commits fits)) in
    let regrouped : rows_packed k n (suc left) ids commits ++ tail ≡ row_packed n id tree numbers ++ rest =
    ap (λ (x : List ℕ). x ++ tail) (rows_packed-suc k n left ids commits) ∙ append_assoc (row_packed n id tree numbers) (rows_packed k n left ids_left commits_left) tail in
    subst (λ (x : List ℕ). Says (rows_at k n m (suc left) r before x (map (edge_packed n) words)) (rows_from k n m (suc left) r before ids commits words)) (sym regrouped)
    (says-row k n m left r before (row_packed n id tree numbers ++ rest) ids commits words rest few has more)
