-- Members of lists of ids that are made of others.
use Rattle.std.proofs.Common.{◌≡◌, ◌≤◌, ◌&&◌, List, [], ◌∷◌, Bool, true, false, not, cond, Contains, sym, ap, subst, ⊎_elim, ◌∙◌, arith}
use Rattle.std.specs.List.{flat_map}
use Rattle.std.proofs.lemmas.Bool.{and_parts, and_from, not-true, not_from_false}
use Rattle.std.proofs.lemmas.List.Elements.{Contains-append_left, Contains-append_right, Contains-append_cases}
use Rattle.gix_hash.specs.declared.ObjectId.{ObjectId}
use Rattle.gix_hash.specs.Id.{is_same, is_among}
use Rattle.gix_hash.proofs.Ids.Membership.{Contains-here, Contains-there, Contains-cons_cases, no_member, among_from, among_is}
use Rattle.gix_merge_base.specs.Inside.Steps.{others_among}
use Rattle.gix_revwalk.specs.Ids.{AreDistinct, new_ids}
use Rattle.gix_revwalk.proofs.NewIds.{times, times_among, times_once, times-fresh, among_times, among-filter}

-- new ids are distinct, and those of the list that aren't old
pub new_distinct : (old : ObjectId → Bool) (ids : List ObjectId) → AreDistinct (new_ids old ids)
new_distinct old ids = times_once (new_ids old ids) (λ i. let t = times-fresh i old ids in grind arith)

new_test : (old : ObjectId → Bool) (ids : List ObjectId) (i : ObjectId) → Contains (new_ids old ids) i → (not (old i) && is_among i ids) ≡ true
new_test old ids i c =
    let t = times-fresh i old ids in
    let m : 1 ≤ times i (new_ids old ids) = among_times i (new_ids old ids) (among_from i (new_ids old ids) c) in
    grind arith

pub new_within : (old : ObjectId → Bool) (ids : List ObjectId) (i : ObjectId) → Contains (new_ids old ids) i → Contains ids i
new_within old ids i c = among_is i ids (and_parts _ _ (new_test old ids i c)).1

pub new_unknown : (old : ObjectId → Bool) (ids : List ObjectId) (i : ObjectId) → Contains (new_ids old ids) i → old i ≡ false
new_unknown old ids i c = not-true _ (and_parts _ _ (new_test old ids i c)).0

pub new_from : (old : ObjectId → Bool) (ids : List ObjectId) (i : ObjectId) → Contains ids i → old i ≡ false → Contains (new_ids old ids) i
new_from old ids i c e =
    among_is i (new_ids old ids)
    (times_among i (new_ids old ids) 0 (times-fresh i old ids ∙ ap (λ b. cond b 1 0) (and_from _ _ (not_from_false _ e) (among_from i ids c))))

-- what is made of each of some
pub of_some : {X : Type 0} (f : X → List ObjectId) (xs : List X) (i : ObjectId) → Contains (flat_map f xs) i → (x : X) × Contains xs x × Contains (f x) i
of_some f [] i c = absurd (no_member i c)
of_some f (x ∷ xs) i c =
    ⊎_elim (λ h. (x, Contains-here x xs, h)) (λ t. let r = of_some f xs i t in (r.0, Contains-there r.0 x xs r.1, r.2)) (Contains-append_cases (f x) (flat_map f xs) i c)

pub in_all : {X : Type 0} (f : X → List ObjectId) (xs : List X) (x : X) (i : ObjectId) → Contains xs x → Contains (f x) i → Contains (flat_map f xs) i
in_all f [] x i m c = absurd (no_member x m)
in_all f (y ∷ xs) x i m c =
    ⊎_elim (λ e. Contains-append_left (f y) (flat_map f xs) i (subst (λ z. Contains (f z) i) (sym e) c)) (λ t. Contains-append_right (f y) (flat_map f xs) i (in_all f xs x i t c)) (Contains-cons_cases x y xs m)

-- the ids that are others than one
pub others_within : (a : ObjectId) (ids : List ObjectId) (i : ObjectId) → Contains (others_among a ids) i → Contains ids i × (is_same i a ≡ false)
others_within a ids i c =
    let both = and_parts (not (is_same i a)) (is_among i ids) (sym (among-filter i (λ j. not (is_same j a)) ids) ∙ among_from i (others_among a ids) c) in
    (among_is i ids both.1, not-true _ both.0)

pub others_from : (a : ObjectId) (ids : List ObjectId) (i : ObjectId) → Contains ids i → is_same i a ≡ false → Contains (others_among a ids) i
others_from a ids i c e =
    among_is i (others_among a ids) (among-filter i (λ j. not (is_same j a)) ids ∙ and_from _ _ (not_from_false _ e) (among_from i ids c))
