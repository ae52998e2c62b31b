-- The row of an id, among rows in the order of their ids.
use Rattle.std.proofs.Common.{◌≡◌, ℕ, zero, suc, ◌+◌, ◌<◌, ◌≤◌, true, false, List, [], ◌∷◌, length, get_or, Some, None, refl, sym, ap, ◌∙◌, arith, is_lt, is_eq, Ordering, Less, Equal, Greater}
use Rattle.gix_commitgraph.proofs.Common.{IsStrictlySortedBy, get_or-map, length-map, ObjectId, id_cmp, is_same, GraphRow, no_row, row_at, row_of, ids_of_rows, id_total}
use Rattle.std.specs.Ordering.{ordering_reverse}
use Rattle.std.specs.Cmp.{tied_back}
use Rattle.std.proofs.lemmas.Map.Keys.{Less-from_sorted, sorted_tail}

id_at : (rows : List GraphRow) (r : ℕ) → r < length rows → get_or (ids_of_rows rows) r no_row.id ≡ (row_at rows r).id
id_at rows r lt = get_or-map (λ row. row.id) rows r no_row no_row.id lt

rises : (rows : List GraphRow) (r s : ℕ) → IsStrictlySortedBy id_cmp (ids_of_rows rows) → r < s → s < length rows → id_cmp (row_at rows r).id (row_at rows s).id ≡ Less
rises rows r s rising lt within =
    let less = Less-from_sorted id_cmp (ids_of_rows rows) r s no_row.id rising lt (omega (arith, length-map rows (λ (row : GraphRow). row.id))) in
    (λ i. id_cmp (sym (id_at rows r (omega arith)) i) (sym (id_at rows s within) i)) ∙ less

pub is_Less : (o : Ordering) → is_lt o ≡ true → o ≡ Less
is_Less Less e = refl
is_Less Equal e = absurd cc
is_Less Greater e = absurd cc

pub turned : (a b : ObjectId) (o : Ordering) → id_cmp a b ≡ o → id_cmp b a ≡ ordering_reverse o
turned a b o e = id_total.antisymm b a ∙ ap ordering_reverse e

module _ (rows : List GraphRow) (rising : IsStrictlySortedBy id_cmp (ids_of_rows rows)) (i : ObjectId) (middle : ℕ) (within : middle < length rows) where
  pub lower_more : id_cmp (row_at rows middle).id i ≡ Less → (r : ℕ) → r < middle + 1 → id_cmp (row_at rows r).id i ≡ Less
  lower_more e r lt = grind (arith, e, rises rows r middle rising, id_total.trans (row_at rows r).id (row_at rows middle).id i)

  pub higher_more : id_cmp (row_at rows middle).id i ≡ Greater → (r : ℕ) → middle ≤ r → r < length rows → id_cmp (row_at rows r).id i ≡ Greater
  higher_more e r le lt =
      grind (arith, e, turned (row_at rows middle).id i Greater, rises rows middle r rising, id_total.trans i (row_at rows middle).id (row_at rows r).id, turned i (row_at rows r).id Less)

pub row_of-found : (rows : List GraphRow) (i : ObjectId) (r : ℕ) → IsStrictlySortedBy id_cmp (ids_of_rows rows) → r < length rows → id_cmp (row_at rows r).id i ≡ Equal → row_of rows i ≡ Some (row_at rows r)
row_of-found [] i r rising lt e = absurd (omega arith)
row_of-found (row ∷ rows) i zero rising lt e = rw (tied_back id_total row.id i e) refl
row_of-found (row ∷ rows) i (suc r) rising lt e =
    let less = rises (row ∷ rows) 0 (suc r) rising (omega arith) lt in
    let other : id_cmp i row.id ≡ Greater = sym (id_total.congr (row_at rows r).id i row.id e) ∙ turned row.id (row_at rows r).id Less less in
    rw other (row_of-found rows i r (sorted_tail id_cmp row.id (ids_of_rows rows) rising) (omega arith) e)

pub row_of-none : (rows : List GraphRow) (i : ObjectId) → ((r : ℕ) → r < length rows → is_same i (row_at rows r).id ≡ false) → row_of rows i ≡ None
row_of-none [] i other = refl
row_of-none (row ∷ rows) i other = rw (other 0 (omega arith)) (row_of-none rows i (λ r lt. other (suc r) (omega arith)))

pub other_from_less : (i j : ObjectId) → id_cmp j i ≡ Less → is_same i j ≡ false
other_from_less i j e = ap is_eq (turned j i Less e)

pub other_from_greater : (i j : ObjectId) → id_cmp j i ≡ Greater → is_same i j ≡ false
other_from_greater i j e = ap is_eq (turned j i Greater e)
