-- Ready commits by their ids: those that are held, chosen, and joined.
use Rattle.std.proofs.Common.{◌≡◌, ◌+◌, ◌≤◌, ℕ, suc, List, [], ◌∷◌, ◌++◌, length, Bool, true, false, ◌||◌, cond, map, Contains, IsPermutation, sym, ap, subst, ⊎_elim, ◌∙◌, arith, append_assoc, append-nil}
use Rattle.std.proofs.lemmas.List.{map-append}
use Rattle.gix_topo.proofs.Common.{length_permutation, IsPermutation-middle, IsPermutation-map, IsPermutation-sym, Contains-permutation, ObjectId, is_same, is_among}
use Rattle.gix_topo.proofs.Common.{among-append, among_is, Contains-here, Contains-there, Contains-cons_cases, no_member, Sorting, Ready, ready_ids, Chooses, AreDistinct, times-append, times_moved, times_none, times_once}
use Rattle.gix_topo.specs.declared.Sorting.TheVariants as order
use Rattle.gix_revwalk.proofs.NewIds.{times}
use Rattle.gix_topo.proofs.Readiness.IsReady.{among_by, distinct_times}

pub in_ids : (rs : List Ready) (r : Ready) → Contains rs r → Contains (ready_ids rs) r.id
in_ids [] r m = absurd (no_member r m)
in_ids (x ∷ rs) r m = ⊎_elim (λ s. subst (λ j. Contains (x.id ∷ ready_ids rs) j) (ap (λ y. y.id) s) (Contains-here x.id (ready_ids rs))) (λ t. Contains-there r.id x.id (ready_ids rs) (in_ids rs r t)) (Contains-cons_cases r x rs m)

-- what is in a list that was mapped
pub from_map : {X Y : Type 0} (f : X → Y) (xs : List X) (y : Y) → Contains (map f xs) y → (x : X) × Contains xs x × (f x ≡ y)
from_map f [] y m = absurd (no_member y m)
from_map f (x ∷ xs) y m = ⊎_elim (λ s. (x, Contains-here x xs, s)) (λ t. let h = from_map f xs y t in (h.0, Contains-there h.0 x xs h.1, h.2)) (Contains-cons_cases y (f x) (map f xs) m)

pub from_ids : (rs : List Ready) (p : ObjectId) → Contains (ready_ids rs) p → (r : Ready) × Contains rs r × (r.id ≡ p)
from_ids rs p m = from_map (λ r. r.id) rs p m

pub ids-append : (xs ys : List Ready) → ready_ids (xs ++ ys) ≡ ready_ids xs ++ ready_ids ys
ids-append xs ys = map-append (λ r. r.id) xs ys

pub times-permutation : (i : ObjectId) (xs ys : List Ready) → IsPermutation xs ys → times i (ready_ids ys) ≡ times i (ready_ids xs)
times-permutation i xs ys h = times_moved i (ready_ids xs) (ready_ids ys) (IsPermutation-map (λ r. r.id) xs ys h)

pub joined_times : (i : ObjectId) (xs ys : List Ready) → times i (ready_ids (xs ++ ys)) ≡ times i (ready_ids xs) + times i (ready_ids ys)
joined_times i xs ys = ap (times i) (ids-append xs ys) ∙ times-append i (ready_ids xs) (ready_ids ys)

-- what is held
pub holds_times : (these ready : List Ready) → ready ≡ these → (i : ObjectId) → times i (ready_ids ready) ≡ times i (ready_ids these)
holds_times these ready h i = ap (λ rs. times i (ready_ids rs)) h

pub holds_on : (old first mid others new : List Ready) → mid ≡ old ++ first → new ≡ mid ++ others → new ≡ old ++ (first ++ others)
holds_on old first mid others new a b = b ∙ ap (λ xs. xs ++ others) a ∙ append_assoc old first others

-- where the chosen one is, and what is left
pub record Splits (ready : List Ready) (c : Ready) (others : List Ready) : Type 0 where
  pub before : List Ready
  pub behind : List Ready
  pub place : ready ≡ before ++ c ∷ behind
  pub left : others ≡ before ++ behind

pub chosen_splits : (s : Sorting) (ready : List Ready) (c : Ready) (others : List Ready) → Chooses s ready c others → Splits ready c others
chosen_splits order.TopoOrder ready c others h = record { before = others; behind = []; place = h; left = sym (append-nil others) }
chosen_splits order.DateOrder ready c others h = record { before = h.before; behind = h.behind; place = h.place; left = h.left }

chosen_moved : (s : Sorting) (ready : List Ready) (c : Ready) (others : List Ready) → Chooses s ready c others → IsPermutation (c ∷ others) ready
chosen_moved s ready c others h =
    let k : Splits ready c others = chosen_splits s ready c others h in
    subst (IsPermutation (c ∷ others)) (sym k.place) (subst (λ rs. IsPermutation (c ∷ rs) (k.before ++ c ∷ k.behind)) (sym k.left) (IsPermutation-sym _ _ (IsPermutation-middle k.before c k.behind)))

pub chosen_times : (s : Sorting) (ready : List Ready) (c : Ready) (others : List Ready) → Chooses s ready c others → (i : ObjectId) → times i (ready_ids ready) ≡ cond (is_same i c.id) 1 0 + times i (ready_ids others)
chosen_times s ready c others h i = times-permutation i (c ∷ others) ready (chosen_moved s ready c others h)

pub chosen_length : (s : Sorting) (ready : List Ready) (c : Ready) (others : List Ready) → Chooses s ready c others → length ready ≡ suc (length others)
chosen_length s ready c others h = length_permutation (c ∷ others) ready (chosen_moved s ready c others h)

pub chosen_in : (s : Sorting) (ready : List Ready) (c : Ready) (others : List Ready) → Chooses s ready c others → Contains ready c
chosen_in s ready c others h = Contains-permutation (c ∷ others) ready c (chosen_moved s ready c others h) (Contains-here c others)

pub others_in : (s : Sorting) (ready : List Ready) (c : Ready) (others : List Ready) → Chooses s ready c others → (r : Ready) → Contains others r → Contains ready r
others_in s ready c others h r m = Contains-permutation (c ∷ others) ready r (chosen_moved s ready c others h) (Contains-there r c others m)

-- the same by their ids
pub chosen_among : (s : Sorting) (ready : List Ready) (c : Ready) (others : List Ready) → Chooses s ready c others → (i : ObjectId) → is_among i (ready_ids ready) ≡ (is_same i c.id || is_among i (ready_ids others))
chosen_among s ready c others h i = among_by i (ready_ids ready) (c.id ∷ ready_ids others) (chosen_times s ready c others h i)

pub held_among : (others added ready : List Ready) → ready ≡ others ++ added → (i : ObjectId) → is_among i (ready_ids ready) ≡ (is_among i (ready_ids others) || is_among i (ready_ids added))
held_among others added ready h i = among_by i (ready_ids ready) (ready_ids others ++ ready_ids added) (holds_times (others ++ added) ready h i ∙ ap (times i) (ids-append others added)) ∙ among-append i (ready_ids others) (ready_ids added)

-- the chosen one was there once
pub chosen_once : (s : Sorting) (ready : List Ready) (c : Ready) (others : List Ready) → Chooses s ready c others → AreDistinct (ready_ids ready) → AreDistinct (c.id ∷ ready_ids others)
chosen_once s ready c others h d = times_once (c.id ∷ ready_ids others) (λ i.
    let e : times i (ready_ids ready) ≡ cond (is_same i c.id) 1 0 + times i (ready_ids others) = chosen_times s ready c others h i in
    let l : times i (ready_ids ready) ≤ 1 = distinct_times (ready_ids ready) d i in
    omega arith)

-- and so is each one, where what is added is new
pub held_once : (others added ready : List Ready) → ready ≡ others ++ added → AreDistinct (ready_ids others) → AreDistinct (ready_ids added) → ((i : ObjectId) → Contains (ready_ids added) i → is_among i (ready_ids others) ≡ false) → AreDistinct (ready_ids ready)
held_once others added ready h o a apart = times_once (ready_ids ready) (λ i.
    go (is_among i (ready_ids added)) _ _ _ (holds_times (others ++ added) ready h i ∙ joined_times i others added) (distinct_times (ready_ids others) o i) (distinct_times (ready_ids added) a i)
    (λ e. times_none i (ready_ids others) (apart i (among_is i _ e))) (times_none i (ready_ids added)))
  where
    go : (b : Bool) (n m k : ℕ) → n ≡ m + k → m ≤ 1 → k ≤ 1 → (b ≡ true → m ≡ 0) → (b ≡ false → k ≡ 0) → n ≤ 1
    go b n m k j o a x y = grind arith
