-- Ids that differ, once they are sorted, rise; and lists that rise and have the same members are the same.
use Rattle.std.proofs.Common.{◌≡◌, ◌≢◌, suc, List, [], ◌∷◌, false, AllPairs, Contains, IsPermutation, Less, Equal, Greater, arith, refl, sym, ap, subst, ⊎_elim, ◌∙◌}
use Rattle.std.specs.Bool.{Decides}
use Rattle.std.specs.Cmp.{tied_itself}
use Rattle.std.specs.List.{AllByRecursion, IsDistinct}
use Rattle.std.specs.List.Sorted.{IsSorted}
use Rattle.std.specs.Ordering.{is_lt}
use Rattle.std.specs.declared.cmp.Ordering.{Ordering}
use Rattle.std.proofs.lemmas.Bool.{false≢true}
use Rattle.std.proofs.lemmas.List.Elements.{Contains-get_or}
use Rattle.std.proofs.lemmas.List.Sorted.{ranks_by, sorted_far}
use Rattle.std.proofs.lemmas.Map.Keys.{IsDistinct-IsPermutation}
use Rattle.std.proofs.lemmas.Map.Made.{AllPairs-from_IsDistinct, IsDistinct-from_AllPairs}
use Rattle.std.proofs.lemmas.List.Kept.{AllPairs-cons}
use Rattle.gix_hash.specs.declared.ObjectId.{ObjectId}
use Rattle.gix_hash.specs.Id.{id_cmp, is_same}
use Rattle.gix_hash.proofs.Ids.Membership.{Contains-here, Contains-there, Contains-cons_cases, no_member, id_apart, id_total, same_back, same_from, same_is}
use Rattle.gix_revwalk.specs.Ids.{AreDistinct}

abbrev pub Rises : List ObjectId → Type 0
Rises = AllPairs (λ i j. id_cmp i j ≡ Less)

same_decides : (i j : ObjectId) → Decides (is_same i j) (i ≡ j)
same_decides i j = (same_is i j, same_from i j)

-- ids each of which isn't among those behind it differ
apart : (ids : List ObjectId) → AreDistinct ids → AllPairs (λ i j. i ≢ j) ids
apart [] d = λ i j e l below. absurd (omega (arith, below))
apart (i ∷ ids) d = AllPairs-cons (λ i j. i ≢ j) i ids (λ k e below same. d.0 (subst (Contains ids) (sym same) (Contains-get_or ids k e below))) (apart ids d.1)

-- of two that differ and don't fall the first is below the other
below : (i j : ObjectId) → i ≢ j → is_lt (id_cmp j i) ≡ false → id_cmp i j ≡ Less
below i j differ up = go (id_cmp i j) refl
  where
    go : (o : Ordering) → id_cmp i j ≡ o → id_cmp i j ≡ Less
    go Less e = e
    go Equal e = absurd (differ (id_apart i j e))
    go Greater e = absurd (false≢true (sym up ∙ ap is_lt (id_total.antisymm j i ∙ ap Rattle.std.specs.Ordering.ordering_reverse e)))

pub rises : (ids sorted : List ObjectId) → AreDistinct ids → IsPermutation ids sorted → IsSorted id_cmp sorted → Rises sorted
rises ids sorted distinct moved up i j d l within =
    below _ _
    (AllPairs-from_IsDistinct same_decides sorted (IsDistinct-IsPermutation is_same same_back ids sorted moved (IsDistinct-from_AllPairs same_decides ids (apart ids distinct))) i j d l within)
    (sorted_far (λ x y. is_lt (id_cmp x y)) (ranks_by id_total (λ x. x)) sorted up i j d (omega (arith, l)) within)

not_below_itself : (i : ObjectId) → id_cmp i i ≡ Less → ⊥
not_below_itself i e = let no : Less ≡ Equal = sym e ∙ tied_itself id_total i in cc

below_all : (i j : ObjectId) (ids : List ObjectId) → Rises (i ∷ ids) → Contains ids j → id_cmp i j ≡ Less
below_all i j ids s (k, within, at) = subst (λ x. id_cmp i x ≡ Less) at (s 0 (suc k) j (omega arith) (omega (arith, within)))

rises_behind : (i : ObjectId) (ids : List ObjectId) → Rises (i ∷ ids) → Rises ids
rises_behind i ids s j k d l within = s (suc j) (suc k) d (omega (arith, l)) (omega (arith, within))

behind : (i k : ObjectId) (ids js : List ObjectId) → Rises (i ∷ ids) → Contains ids k → Contains (i ∷ js) k → Contains js k
behind i k ids js s m n = ⊎_elim (λ e. absurd (not_below_itself i (below_all i i ids s (subst (Contains ids) (sym e) m)))) (λ c. c) (Contains-cons_cases k i js n)

-- the first of the one list is the first of the other
same_first : (i j : ObjectId) (ids js : List ObjectId) → Rises (i ∷ ids) → Rises (j ∷ js) → Contains (j ∷ js) i → Contains (i ∷ ids) j → j ≡ i
same_first i j ids js s t up down = ⊎_elim (λ e. e)
    (λ m. ⊎_elim (λ e. sym e) (λ n. absurd (not_below_itself i (id_total.trans i j i (below_all i j ids s n) (below_all j i js t m)))) (Contains-cons_cases j i ids down))
    (Contains-cons_cases i j js up)

pub rising_once : (ids js : List ObjectId) → Rises ids → Rises js → ((k : ObjectId) → Contains ids k → Contains js k) → ((k : ObjectId) → Contains js k → Contains ids k) → ids ≡ js
rising_once [] [] s t up down = refl
rising_once [] (j ∷ js) s t up down = absurd (no_member j (down j (Contains-here j js)))
rising_once (i ∷ ids) [] s t up down = absurd (no_member i (up i (Contains-here i ids)))
rising_once (i ∷ ids) (j ∷ js) s t up down =
    let e : j ≡ i = same_first i j ids js s t (up i (Contains-here i ids)) (down j (Contains-here j js)) in
    let r : ids ≡ js = rising_once ids js (rises_behind i ids s) (rises_behind j js t)
    (λ k m. behind i k ids js s m (subst (λ x. Contains (x ∷ js) k) e (up k (Contains-there k i ids m))))
    (λ k m. behind i k js ids (subst (λ x. Rises (x ∷ js)) e t) m (down k (Contains-there k j js m))) in
    (λ d. sym e d ∷ r d)
