-- The entries of rows, in the order of their ids.
use Rattle.std.proofs.Common.{◌≡◌, ℕ, suc, ◌+◌, ◌-◌, ◌<◌, ◌≤◌, false, List, [], ◌∷◌, ◌++◌, length, get_or, set, take, sym, ap, ◌∙◌, arith, is_lt, get_or-set_same, get_or-set_other, length-set, length-take}
use Rattle.gix_commitgraph.proofs.Common.{take_more, map_push, get_or_default, length-map, get_or_past, Row, id_cmp, GraphRow, most, row_seen, rows_seen, Entry, entries_from, StopsRising, HasPlaces}

entries_from-push : (n : ℕ) (rows : List GraphRow) (row : GraphRow) → entries_from n (rows ++ row ∷ []) ≡ entries_from n rows ++ (row.id, n + length rows) ∷ []
entries_from-push n [] row = let same : n ≡ n + 0 = omega arith in ap (λ (m : ℕ). (row.id, m) ∷ []) same
entries_from-push n (r ∷ rows) row =
    let same : suc n + length rows ≡ n + suc (length rows) = omega arith in
    ap (λ (x : List Entry). (r.id, n) ∷ x) (entries_from-push (suc n) rows row ∙ ap (λ (m : ℕ). entries_from (suc n) rows ++ (row.id, m) ∷ []) same)

-- one more row, as it was read
pub entries_more : (rows : List Row) (i : ℕ) (row : Row) → i < length rows → row ≡ get_or rows i row → entries_from 0 (rows_seen (take (i + 1) rows)) ≡ entries_from 0 (rows_seen (take i rows)) ++ (row.id, i) ∷ []
entries_more rows i row lt is =
    let read : Row = get_or rows i row in
    let seen : rows_seen (take (i + 1) rows) ≡ rows_seen (take i rows) ++ row_seen read ∷ [] = ap rows_seen (take_more rows i row lt) ∙ map_push row_seen (take i rows) read in
    let len : 0 + length (rows_seen (take i rows)) ≡ i = omega (arith, length-map (take i rows) row_seen, length-take i rows) in
    ap (entries_from 0) seen ∙ entries_from-push 0 (rows_seen (take i rows)) (row_seen read) ∙ (λ j. entries_from 0 (rows_seen (take i rows)) ++ ((sym is j).id, len j) ∷ [])

pub stops : (order : List Entry) (i : ℕ) (e : Entry) → 0 < i → i < length order → is_lt (id_cmp (get_or order (i - 1) e).0 (get_or order i e).0) ≡ false → StopsRising order
stops order i e some lt stop =
    let next : i - 1 + 1 ≡ i = omega arith in
    (i - 1, (omega arith), λ d. rw next ((λ j. is_lt (id_cmp (get_or_default order (i - 1) d e (omega arith) j).0 (get_or_default order i d e lt j).0)) ∙ stop))

-- one more number is written
pub number_more : (order : List Entry) (numbers : List ℕ) (j : ℕ) (e : Entry) → HasPlaces (length order) order → j < length order → length numbers ≡ length order
    → ((k : ℕ) (d : Entry) → k < j → get_or numbers (get_or order k d).1 0 ≡ k)
    → (k : ℕ) (d : Entry) → k < j + 1 → get_or (set numbers (get_or order j e).1 j) (get_or order k d).1 0 ≡ k
number_more order numbers j e places lt len told k d below =
    let there : (get_or order j d).1 ≡ (get_or order j e).1 = ap (λ (x : Entry). x.1) (get_or_default order j d e lt) in
    let place : ℕ = (get_or order j e).1 in
    grind (arith, there, told k d, places.apart k j d, places.below j e lt, get_or-set_same numbers place j 0, get_or-set_other numbers place (get_or order k d).1 j 0)

pub number_small : (numbers : List ℕ) (p n : ℕ) → n ≤ most → ((place : ℕ) → get_or numbers place 0 ≤ most) → (place : ℕ) → get_or (set numbers p n) place 0 ≤ most
number_small numbers p n few small place = grind (arith, small place, get_or-set_same numbers p n 0, get_or-set_other numbers p place n 0, get_or_past (set numbers p n) place 0, length-set numbers p n)
