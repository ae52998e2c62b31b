-- Where the greatest generation that waits is below the depth, all that waits is.
use Rattle.std.proofs.Common.{◌≡◌, ◌≤◌, ◌<◌, ℕ, List, [], ◌∷◌, false, Contains, ap, ⊎_elim, arith, leb-false, nat_cmp, min}
use Rattle.std.proofs.Math.Dec.{leb}
use Rattle.gix_topo.proofs.Common.{nat_tests, ObjectId, GraphRow, least, known_generation, Contains-cons_cases, no_member}
use Rattle.std.specs.BinaryHeap.{lt_by_cmp, IsUpperBound}
use Rattle.gix_revwalk.specs.PriorityQueue.{keys}

no_greater : (k y : ℕ) → lt_by_cmp nat_cmp k y ≡ false → y ≤ k
no_greater k y e = grind (arith, nat_tests)

pub all_below : {W : Type 0} (depth k : ℕ) (queue : List (ℕ × W)) → leb depth k ≡ false → IsUpperBound nat_cmp k (keys queue) → (entry : ℕ × W) → Contains queue entry → entry.0 < depth
all_below depth k [] e h entry m = absurd (no_member entry m)
all_below depth k (x ∷ queue) e h entry m =
    ⊎_elim (λ s. let l : k < depth = leb-false depth k e in let u : x.0 ≤ k = no_greater k x.0 h.0 in let q : x.0 ≡ entry.0 = ap (λ y. y.0) s in omega arith)
    (λ t. all_below depth k queue e h.1 entry t) (Contains-cons_cases entry x queue m)

-- a depth lowered by one id, and then by others
pub least_lower : (rows : List GraphRow) (depth : ℕ) (i : ObjectId) (ids : List ObjectId) → least rows (min depth (known_generation rows i)) ids ≡ least rows depth (i ∷ ids)
least_lower rows depth i [] = omega arith
least_lower rows depth i (j ∷ ids) =
    let h : least rows (min depth (known_generation rows i)) ids ≡ min (known_generation rows i) (least rows depth ids) = least_lower rows depth i ids in
    omega arith

-- a lowered depth is no greater
pub least_below : (rows : List GraphRow) (depth : ℕ) (ids : List ObjectId) → least rows depth ids ≤ depth
least_below rows depth [] = omega arith
least_below rows depth (i ∷ ids) = let l : least rows depth ids ≤ depth = least_below rows depth ids in omega arith

-- the least is no greater than any
pub least_within : (rows : List GraphRow) (depth : ℕ) (ids : List ObjectId) (i : ObjectId) → Contains ids i → least rows depth ids ≤ known_generation rows i
least_within rows depth [] i m = absurd (no_member i m)
least_within rows depth (j ∷ ids) i m =
    ⊎_elim (λ s. let e : known_generation rows j ≡ known_generation rows i = ap (known_generation rows) s in omega arith) (λ t. let l : least rows depth ids ≤ known_generation rows i = least_within rows depth ids i t in omega arith) (Contains-cons_cases i j ids m)
