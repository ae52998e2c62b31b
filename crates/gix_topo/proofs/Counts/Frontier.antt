-- What a change at one id does to what is known of all, and how much two searches have still to do.
use Rattle.std.proofs.Common.{◌≡◌, ◌≤◌, ◌<◌, ℕ, suc, ◌+◌, List, [], ◌∷◌, Bool, true, ◌&&◌, cond, length, Contains, IsPermutation, sum_by, sym, ⊎_elim, ◌∙◌, arith, refl, remove}
use Rattle.gix_topo.proofs.Common.{cases_lt, IsPermutation-remove, IsPermutation-sym, Contains-permutation, sum_by-IsPermutation, ObjectId, id_cmp, is_same, id_total, same_is, Contains-here, Contains-there, Side, Tips, Ends, Progress}
use Rattle.gix_topo.proofs.Common.{Known, Waiting, Frontier, is_side, is_seen, known_of, progress_of, with_progress, reached, waits_for, waiting}
use Rattle.std.proofs.lemmas.List.Recursion.{is_sum_by}
use Rattle.std.specs.FinMap as map
use Rattle.std.proofs.lemmas.List.Sums.{sum_by-cons, sum_by-le-sum_by}

-- sides
pub side_is : (a b : Side) → is_side a b ≡ true → a ≡ b
side_is a b e = grind arith

pub side_itself : (a : Side) → is_side a a ≡ true
side_itself a = grind arith

pub known-insert : (those : map.FinMap id_cmp Known) (i : ObjectId) (known : Known) (j : ObjectId) → known_of (map.insert those i known) j ≡ cond (is_same j i) known (known_of those j)
known-insert those i known j = grind (arith, map.get-insert id_total those i known j)

-- what a change at one id leaves as it was there, it leaves as it was of all
pub kept : {X : Type 0} (part : Known → X) (those : map.FinMap id_cmp Known) (i : ObjectId) (known : Known) (j : ObjectId) → part known ≡ part (known_of those i) → part (known_of (map.insert those i known) j) ≡ part (known_of those j)
kept part those i known j e = grind (arith, known-insert those i known j, same_is j i)

-- a side's progress with an id that it meets or finishes, and that of the other side
pub moved : (those : map.FinMap id_cmp Known) (i : ObjectId) (side other : Side) (p : Progress) (j : ObjectId) → reached (map.insert those i (with_progress side p (known_of those i))) other j ≡ cond (is_same j i && is_side other side) p (reached those other j)
moved those i side other p j = grind (arith, known-insert those i (with_progress side p (known_of those i)) j, same_is j i)

-- counting moves no side
pub unmoved : (those : map.FinMap id_cmp Known) (i : ObjectId) (n : ℕ) (side : Side) (j : ObjectId) → reached (map.insert those i (record (known_of those i) { indegree = n })) side j ≡ reached those side j
unmoved those i n side j = kept (progress_of side) those i (record (known_of those i) { indegree = n }) j (grind arith)

pub waiting-sum : (queue : List (ℕ × Waiting)) (side : Side) (i : ObjectId) → waiting queue side i ≡ sum_by (waits_for side i) queue
waiting-sum queue side i = is_sum_by (λ queue. waiting queue side i) (waits_for side i) refl (λ entry queue. refl) queue

pub waiting-permutation : (side : Side) (i : ObjectId) (old new : List (ℕ × Waiting)) → IsPermutation old new → waiting new side i ≡ waiting old side i
waiting-permutation side i old new p = waiting-sum new side i ∙ sum_by-IsPermutation (waits_for side i) old new p ∙ sym (waiting-sum old side i)

abbrev pub has_seen : Frontier → Side → ObjectId → Bool
has_seen f side i = is_seen (reached f.known side i)

-- what is taken out of a list was in it
pub taken_from : {X : Type 0} (xs left : List X) (x : X) → IsPermutation xs (x ∷ left) → Contains xs x
taken_from xs left x p = Contains-permutation (x ∷ left) xs x (IsPermutation-sym xs (x ∷ left) p) (Contains-here x left)

-- how many sides haven't seen an id
abbrev pub unseen_by : Frontier → ObjectId → ℕ
unseen_by f i = cond (has_seen f Tips i) 0 1 + cond (has_seen f Ends i) 0 1

-- how much a search over these names has still to do
abbrev pub to_do : List ObjectId → Frontier → ℕ
to_do names f = sum_by (unseen_by f) names + length f.queue

-- where one term of a sum is less, and none is more, the sum is less
pub sum_less : {X : Type 0} (f g : X → ℕ) (i : X) (xs : List X) → ((j : X) → f j ≤ g j) → suc (f i) ≤ g i → Contains xs i → suc (sum_by f xs) ≤ sum_by g xs
sum_less f g i xs all l m =
    let p : IsPermutation xs (i ∷ remove xs m.0) = IsPermutation-remove xs m.0 i m.1 (sym m.2) in
    let a : sum_by f (i ∷ remove xs m.0) ≡ sum_by f xs = sum_by-IsPermutation f xs (i ∷ remove xs m.0) p in
    let b : sum_by g (i ∷ remove xs m.0) ≡ sum_by g xs = sum_by-IsPermutation g xs (i ∷ remove xs m.0) p in
    omega (arith, sum_by-cons f i (remove xs m.0), sum_by-cons g i (remove xs m.0), sum_by-le-sum_by f g (remove xs m.0) all)

-- a sum that isn't 0 has a term that isn't
pub some_term : {X : Type 0} (f : X → ℕ) (xs : List X) → 1 ≤ sum_by f xs → (x : X) × Contains xs x × (1 ≤ f x)
some_term f [] l = absurd (omega arith)
some_term f (x ∷ xs) l = ⊎_elim (λ (h : 0 < f x). (x, Contains-here x xs, omega arith))
    (λ (z : f x ≤ 0). let s : (y : _) × Contains xs y × (1 ≤ f y) = some_term f xs (omega (arith, sum_by-cons f x xs)) in (s.0, Contains-there s.0 x xs s.1, s.2)) (cases_lt 0 (f x))
