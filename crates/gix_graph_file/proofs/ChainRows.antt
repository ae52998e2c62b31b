-- Rows of a layer that are read one after the other.
use Rattle.std.proofs.Common.{◌≡◌, ℕ, suc, ◌+◌, ◌-◌, ◌≤◌, Bool, true, false, cond, List, [], ◌∷◌, ◌++◌, length, take, drop, Option, Some, None, Result, Ok, Err, refl, sym, ap, subst, ◌∙◌, append_assoc, add-one, arith, ne_eqb, append-nil}
use Rattle.gix_graph_file.proofs.Common.{Kind, ObjectId, ParentPlace, id_len, id_of, GraphRow, word_at, is_above, Error, Parents, parents_said, row_said, with_row, row_then, prepended, RowRead, row_or_fault}
use Rattle.gix_graph_file.specs.declared.error.Error.TheVariants as error
use Rattle.gix_graph_file.specs.FileRows.{rows_from}
use Rattle.gix_graph_file.specs.ChainSteps.{row_read}

-- a row, and then the rows that are read of the words behind its
abbrev pub and_rows : Result RowRead Error → (List ℕ → Result (List GraphRow) Error) → Result (List GraphRow) Error
and_rows (Ok read) more = with_row read.0 (more read.1)
and_rows (Err e) more = Err e

row-then : (r : ℕ) (row : List ParentPlace → GraphRow) (said : Option Parents) (more : List ℕ → Result (List GraphRow) Error) → row_then r row said more ≡ and_rows (row_or_fault r row said) more
row-then r row None more = refl
row-then r row (Some parents) more = refl

rows-step : (k : Kind) (limit m left r : ℕ) (before : Option ObjectId) (ids commits words : List ℕ)
    → rows_from k limit m (left + 1) r before ids commits words ≡ and_rows (row_read k limit (m - length words) r before (take (id_len k) ids) (take (id_len k) commits) (take 16 (drop (id_len k) commits)) words)
    (rows_from k limit m left (r + 1) (Some (id_of k (take (id_len k) ids))) (drop (id_len k) ids) (drop 16 (drop (id_len k) commits)))
unfolding rows_from row_read
rows-step k limit m left r before ids commits words =
    let id = take (id_len k) ids in
    let numbers = take 16 (drop (id_len k) commits) in
    let said = parents_said limit (m - length words) (word_at 0 numbers) (word_at 4 numbers) words in
    let row = row_said k id (take (id_len k) commits) numbers in
    let more = rows_from k limit m left (r + 1) (Some (id_of k id)) (drop (id_len k) ids) (drop 16 (drop (id_len k) commits)) in
    rw add-one (by (is_above before (id_of k id)) row said more)
  where
    by : (b : Bool) (row : List ParentPlace → GraphRow) (said : Option Parents) (more : List ℕ → Result (List GraphRow) Error)
        → cond b (row_then r row said more) (Err (error.Order r)) ≡ and_rows (cond b (row_or_fault r row said) (Err (error.Order r))) more
    by true row said more = row-then r row said more
    by false row said more = refl

prepended-more : (read next : List GraphRow) (row : GraphRow) (more : Result (List GraphRow) Error) → next ≡ read ++ (row ∷ []) → prepended next more ≡ prepended read (with_row row more)
prepended-more read next row (Ok rows) next_is = ap (λ (x : List GraphRow). Ok x) (ap (λ (x : List GraphRow). x ++ rows) next_is ∙ append_assoc read (row ∷ []) rows)
prepended-more read next row (Err e) next_is = refl

abbrev IsFault : Result (List GraphRow) Error → Type 0
IsFault (Ok rows) = ⊥
IsFault (Err e) = Unit {0}

-- a fault behind rows is the fault
pub prepended-fault : (old : List GraphRow) (all : Result (List GraphRow) Error) (e : Error) → Err e ≡ prepended old all → all ≡ Err e
prepended-fault old (Ok rows) e same = absurd (subst IsFault same tt)
prepended-fault old (Err f) e same = sym same

-- reading a row
module _ (k : Kind) (limit m left r at len : ℕ) (before : Option ObjectId) (ids commits words id tree behind numbers ids_left commits_left : List ℕ) (old read : List GraphRow) (all : Result (List GraphRow) Error)
    (len_is : len ≡ id_len k) (at_is : at ≡ m - length words) (id_is : id ≡ take len ids) (ids_left_is : ids_left ≡ drop len ids) (tree_is : tree ≡ take len commits) (behind_is : behind ≡ drop len commits) (numbers_is : numbers ≡ take 16 behind) (commits_left_is : commits_left ≡ drop 16 behind)
    (so_far : prepended read (rows_from k limit m (left + 1) r before ids commits words) ≡ prepended old all) where
  step : rows_from k limit m (left + 1) r before ids commits words ≡ and_rows (row_read k limit at r before id tree numbers words) (rows_from k limit m left (r + 1) (Some (id_of k id)) ids_left commits_left)
  step = rw (at_is, numbers_is, commits_left_is, behind_is, tree_is, ids_left_is, id_is, len_is) (rows-step k limit m left r before ids commits words)

  pub row-fault : (e : Error) → row_read k limit at r before id tree numbers words ≡ Err e → all ≡ Err e
  row-fault e fault = prepended-fault old all e (sym (ap (prepended read) (step ∙ ap (λ (x : Result RowRead Error). and_rows x (rows_from k limit m left (r + 1) (Some (id_of k id)) ids_left commits_left)) fault)) ∙ so_far)

  pub row-more : (next : List GraphRow) (row : GraphRow) (left_words : List ℕ) (i : ObjectId) → row_read k limit at r before id tree numbers words ≡ Ok (row, left_words) → next ≡ read ++ (row ∷ []) → i ≡ id_of k id
      → prepended next (rows_from k limit m left (r + 1) (Some i) ids_left commits_left left_words) ≡ prepended old all
  row-more next row left_words i found next_is i_is =
      let more = rows_from k limit m left (r + 1) (Some (id_of k id)) ids_left commits_left in
      rw i_is (prepended-more read next row (more left_words) next_is
      ∙ sym (ap (prepended read) (step ∙ ap (λ (x : Result RowRead Error). and_rows x more) found)) ∙ so_far)

-- no row is left
pub rows-end : (k : Kind) (limit m left r : ℕ) (before : Option ObjectId) (ids commits words : List ℕ) (old read : List GraphRow) (all : Result (List GraphRow) Error) → left ≡ 0 → length words ≡ 0
    → prepended read (rows_from k limit m left r before ids commits words) ≡ prepended old all → prepended old all ≡ Ok read
unfolding rows_from
rows-end k limit m left r before ids commits [] old read all none empty so_far = sym (rw none at so_far) ∙ ap (λ (x : List GraphRow). Ok x) (append-nil read)
rows-end k limit m left r before ids commits (word ∷ words) old read all none empty so_far = absurd (suc≢zero empty)
  where
    suc≢zero : suc (length words) ≡ 0 → ⊥
    suc≢zero h = omega (arith, h)

-- no row is left, and words are
pub words-left : (k : Kind) (limit m left r : ℕ) (before : Option ObjectId) (ids commits words : List ℕ) (old read : List GraphRow) (all : Result (List GraphRow) Error) → left ≡ 0 → 1 ≤ length words
    → prepended read (rows_from k limit m left r before ids commits words) ≡ prepended old all → all ≡ Err error.Edges
unfolding rows_from
words-left k limit m left r before ids commits words old read all none some so_far =
    let zero_left : prepended read (rows_from k limit m 0 r before ids commits words) ≡ prepended old all = rw none at so_far in
    prepended-fault old all error.Edges (rw (ne_eqb (length words) 0 (λ e. omega arith)) at zero_left)
