-- Of first common ancestors the best are those that none of them reaches by a parent other than itself.
use Rattle.std.proofs.Common.{◌≡◌, ◌⊎◌, List, [], ◌∷◌, Bool, true, false, Contains, IsPermutation, refl, sym, subst, inl, inr, ⊎_elim, ◌∙◌}
use Rattle.std.specs.List.{flat_map}
use Rattle.std.specs.FinSet as set
use Rattle.std.specs.List.Sorted.{IsSorted}
use Rattle.std.proofs.lemmas.Bool.{false≢true, false_from_ne_true}
use Rattle.std.proofs.lemmas.List.Sorted.{Contains-permutation, IsPermutation-sym}
use Rattle.gix_hash.specs.declared.ObjectId.{ObjectId}
use Rattle.gix_hash.specs.Id.{id_cmp, is_same}
use Rattle.gix_hash.specs.Reach.{Reaches, start, step}
use Rattle.gix_hash.proofs.Ids.Membership.{Contains-here, Contains-there, Contains-cons_cases, no_member, among_from, among_is, same_is, same_from}
use Rattle.gix_hash.proofs.Lists.{only_member}
use Rattle.gix_contained.specs.Contained.{AreContained, empty, reached, passed}
use Rattle.gix_merge_base.specs.Bases.{IsCommon, IsBest, AreBases}
use Rattle.gix_merge_base.specs.Inside.Steps.{AreFirst, Collects, others_among}
use Rattle.gix_merge_base.proofs.Members.{new_distinct, new_within, new_unknown, new_from, of_some, in_all, others_within, others_from}
use Rattle.gix_merge_base.proofs.Rising.{rises}
use Rattle.gix_revwalk.specs.Ids.{new_ids}
use Rattle.gix_revwalk.proofs.Reached.{reaches_from}

module _ (parents : ObjectId → List ObjectId) where
  abbrev pub Leads : ObjectId → ObjectId → Type 0
  Leads a i = Reaches parents (a ∷ []) i

  pub itself : (a : ObjectId) → Leads a a
  itself a = start (Contains-here a [])

  -- what is reached from one that is reached
  pub onward : (starts : List ObjectId) (a i : ObjectId) → Reaches parents starts a → Leads a i → Reaches parents starts i
  onward starts a i r s = reaches_from parents (a ∷ []) starts (λ j m. subst (Reaches parents starts) (only_member a j m) r) i s

  -- what is reached is reached from one of the starts
  pub from_one : (starts : List ObjectId) (i : ObjectId) → Reaches parents starts i → (s : ObjectId) × Contains starts s × Leads s i
  from_one starts i (start m) = (i, m, itself i)
  from_one starts i (step {c = c} r n) = let f = from_one starts c r in (f.0, f.1, step f.2 n)

  -- whoever reaches another one does so by a parent other than itself
  pub leaves : (a i : ObjectId) → Leads a i → (a ≡ i) ⊎ ((q : ObjectId) × Contains (others_among a (parents a)) q × Leads q i)
  leaves a i (start m) = inl (only_member a i m)
  leaves a i (step {c = c} r n) = ⊎_elim (λ e. left e (is_same i a) refl) (λ w. inr (w.0, w.1, step w.2 n)) (leaves a c r)
    where
      left : a ≡ c → (b : Bool) → is_same i a ≡ b → (a ≡ i) ⊎ ((q : ObjectId) × Contains (others_among a (parents a)) q × Leads q i)
      left e true s = inl (sym (same_is i a s))
      left e false s = inr (i, others_from a (parents a) i (subst (λ x. Contains (parents x) i) (sym e) n) s, itself i)

  -- the parents of commits that are others than these
  abbrev pub left_by : List ObjectId → List ObjectId
  left_by ids = flat_map (λ i. others_among i (parents i)) ids

  pub by_other : (ids : List ObjectId) (k q i : ObjectId) → Contains ids k → Contains (others_among k (parents k)) q → Leads q i → Reaches parents (left_by ids) i
  by_other ids k q i m c r = onward (left_by ids) q i (start (in_all (λ x. others_among x (parents x)) ids k q m c)) r

  -- of ids, those that are selected are those that are reached
  contained_reached : (tips ids those : List ObjectId) → AreContained parents tips ids those → (i : ObjectId) → Contains those i → Reaches parents tips i
  contained_reached tips ids those empty i c = absurd (no_member i c)
  contained_reached tips ids those (reached {i = j} {ids = more} {those = rest} r a) i c = ⊎_elim (λ e. subst (Reaches parents tips) e r) (contained_reached tips more rest a i) (Contains-cons_cases i j rest c)
  contained_reached tips ids those (passed {ids = more} n a) i c = contained_reached tips more those a i c

  reached_contained : (tips ids those : List ObjectId) → AreContained parents tips ids those → (i : ObjectId) → Contains ids i → Reaches parents tips i → Contains those i
  reached_contained tips ids those empty i c r = absurd (no_member i c)
  reached_contained tips ids those (reached {i = j} {ids = more} {those = rest} h a) i c r =
      ⊎_elim (λ e. subst (λ x. Contains (j ∷ rest) x) e (Contains-here j rest)) (λ t. Contains-there i j rest (reached_contained tips more rest a i t r)) (Contains-cons_cases i j more c)
  reached_contained tips ids those (passed {i = j} {ids = more} n a) i c r =
      ⊎_elim (λ e. absurd (n (subst (Reaches parents tips) (sym e) r))) (λ t. reached_contained tips more those a i t r) (Contains-cons_cases i j more c)

  module _ (one : ObjectId) (others common : List ObjectId) (first : AreFirst parents one others common) where
    abbrev Common : ObjectId → Type 0
    Common = IsCommon parents one others

    abbrev Best : ObjectId → Type 0
    Best = IsBest parents one others

    below : (c i : ObjectId) → Common c → Leads c i → Common i
    below c i k r = record { of_one = onward (one ∷ []) c i k.of_one r; of_others = onward others c i k.of_others r }

    -- a best one is among the first
    best_first : (c : ObjectId) → Best c → Contains common c
    best_first c b = let k = first.all c b.common in subst (Contains common) (b.alone k.0 (first.each k.0 k.1) k.2) k.1

    -- one that is reached by another parent isn't best
    best_unreached : (c : ObjectId) → Best c → Reaches parents (left_by common) c → ⊥
    best_unreached c b r =
        let q = from_one (left_by common) c r in
        let d = of_some (λ x. others_among x (parents x)) common q.0 q.1 in
        let named = others_within d.0 (parents d.0) q.0 d.2 in
        let leads : Leads d.0 q.0 = step (itself d.0) named.0 in
        let common_d : Common d.0 = first.each d.0 d.1 in
        let same_q : q.0 ≡ c = b.alone q.0 (below d.0 q.0 common_d leads) q.2 in
        let same_d : d.0 ≡ c = b.alone d.0 common_d (onward (d.0 ∷ []) q.0 c leads q.2) in
        false≢true (sym named.1 ∙ same_from q.0 d.0 (same_q ∙ sym same_d))

    -- the others are
    unreached_best : (c : ObjectId) → Contains common c → (Reaches parents (left_by common) c → ⊥) → Best c
    unreached_best c m free = record { common = first.each c m; alone = alone }
      where
        alone : (j : ObjectId) → Common j → Leads j c → j ≡ c
        alone j k r =
            let f = first.all j k in
            ⊎_elim
            (λ e. ⊎_elim (λ s. s) (λ w. absurd (free (by_other common j w.0 c (subst (Contains common) e f.1) w.1 w.2))) (leaves j c r))
            (λ w. absurd (free (by_other common f.0 w.0 c f.1 w.1 (onward (w.0 ∷ []) j c w.2 r))))
            (leaves f.0 j f.2)

    -- what is left of the first, sorted
    pub bases_left : (those : List ObjectId) (marks : set.FinSet id_cmp) (bases : List ObjectId) → AreContained parents (left_by common) common those → Collects those marks
        → IsPermutation (new_ids (set.contains marks) common) bases → IsSorted id_cmp bases → AreBases parents one others bases
    bases_left those marks bases contained_are marks_are moved up = record {
      rising = rises (new_ids (set.contains marks) common) bases (new_distinct (set.contains marks) common) moved up;
      exact = λ i. (
        λ b.
            let c = Contains-permutation bases (new_ids (set.contains marks) common) i (IsPermutation-sym (new_ids (set.contains marks) common) bases moved) b in
            let m : Contains common i = new_within (set.contains marks) common i c in
            let e : set.contains marks i ≡ false = new_unknown (set.contains marks) common i c in
            unreached_best i m (λ r. false≢true (sym e ∙ marks_are i ∙ among_from i those (reached_contained (left_by common) common those contained_are i m r))),
        λ b.
            Contains-permutation (new_ids (set.contains marks) common) bases i moved
            (new_from (set.contains marks) common i (best_first i b)
            (false_from_ne_true _ (λ e. best_unreached i b (contained_reached (left_by common) common those contained_are i (among_is i those (sym (marks_are i) ∙ e)))))),
      );
    }
