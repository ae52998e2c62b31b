-- The heart of the proof that a run is right in each history: a list in one history is a list in every other that has what was gone through.
-- What is listed must name the same, what hidden ids reach the same parents, and what is pending must have the same time.
use Rattle.std.proofs.Common.{◌≡◌, ◌≢◌, ◌≤ℤ◌, ℕ, ℤ, List, [], ◌∷◌, ◌++◌, Contains, codes, flat_map, refl, sym, ap, subst, ◌∙◌, arith, ⊎_elim, append_assoc, append-nil}
use Rattle.std.proofs.lemmas.List.Elements.{All-contains, Contains-append_cases, Contains-push_cases, Contains-get_or}
use Rattle.gix_hash.proofs.Ids.Membership.{Contains-here, Contains-there, no_member}
use Rattle.gix_statement.specs.WholeStatement.{Begins, IsBest, IsFirst, IsNext, IsPending, IsShown, IsWhole, Reaches, start, parent, breadth, newest, oldest, date, topo}

-- the first that has one property has another, where these agree
pub first_same : {I : Type 0} (P Q : I → Type 0) (names : List I) (i : I) → ((j : I) → P j → Q j) → ((j : I) → Q j → P j) → IsFirst P names i → IsFirst Q names i
first_same P Q names i there back (before, after, is, none, p) = (before, after, is, (λ k d below q. none k d below (back _ q)), there i p)

-- what the same names lead to
module _ {I : Type 0} (parents other : I → List I) (from : List I) (same : (c : I) → Reaches parents from c → parents c ≡ other c) where
  pub there_from : (i : I) → Reaches parents from i → Reaches other from i
  there_from i (start s) = start s
  there_from i (parent {child = c} r m) = parent (there_from c r) (subst (λ ps. Contains ps i) (same c r) m)

  pub back_from : (i : I) → Reaches other from i → Reaches parents from i
  back_from i (start s) = start s
  back_from i (parent {child = c} r m) = let before = back_from c r in parent before (subst (λ ps. Contains ps i) (sym (same c before)) m)

-- What an order of a walk that isn't topological is called
abbrev pub IsSimple : List ℕ → Type 0
IsSimple by = Contains (codes "topo" ∷ codes "date" ∷ []) by → ⊥

module _ {I : Type 0} (parents other followed follows : I → List I) (time times : I → ℤ) (starts hidden ids : List I)
    (within : (c i : I) → Contains (follows c) i → Contains (other c) i)
    (same_hidden : (c : I) → Reaches parents hidden c → parents c ≡ other c) where
  same_names : (taken : List I) → ((c : I) → Contains taken c → followed c ≡ follows c) → flat_map followed taken ≡ flat_map follows taken
  same_names [] h = refl
  same_names (c ∷ taken) h = (λ k. h c (Contains-here c taken) k ++ same_names taken (λ i m. h i (Contains-there i c taken m)) k)

  module _ (taken : List I) (part : (c : I) → Contains taken c → followed c ≡ follows c) where
    abbrev Was : I → Type 0
    Was = IsPending parents followed time starts hidden taken

    abbrev Is : I → Type 0
    Is = IsPending other follows times starts hidden taken

    names : starts ++ flat_map followed taken ≡ starts ++ flat_map follows taken
    names = ap (λ ns. starts ++ ns) (same_names taken part)

    pending_there : (i : I) → Was i → Is i
    pending_there i (named, untaken, out) = (subst (λ ns. Contains ns i) names named, untaken, λ r. out (back_from parents other hidden same_hidden i r))

    pending_back : (i : I) → Is i → Was i
    pending_back i (named, untaken, out) = (subst (λ ns. Contains ns i) (sym names) named, untaken, λ r. out (there_from parents other hidden same_hidden i r))

    module _ (same_time : (i : I) → Contains (starts ++ flat_map followed taken) i → time i ≡ times i) where
      new_there : (i : I) → IsBest (λ a b. time b ≤ℤ time a) Was i → IsBest (λ a b. times b ≤ℤ times a) Is i
      new_there i (p, best) = (
        pending_there i p,
        λ j q. let before = pending_back j q in
            subst (λ t. t ≤ℤ times i) (same_time j before.0) (subst (λ t. time j ≤ℤ t) (same_time i p.0) (best j before)),
      )

      new_back : (i : I) → IsBest (λ a b. times b ≤ℤ times a) Is i → IsBest (λ a b. time b ≤ℤ time a) Was i
      new_back i (p, best) = let here = pending_back i p in (
        here,
        λ j q.
            subst (λ t. t ≤ℤ time i) (sym (same_time j q.0)) (subst (λ t. times j ≤ℤ t) (sym (same_time i here.0)) (best j (pending_there j q))),
      )

      old_there : (i : I) → IsBest (λ a b. time a ≤ℤ time b) Was i → IsBest (λ a b. times a ≤ℤ times b) Is i
      old_there i (p, best) = (
        pending_there i p,
        λ j q. let before = pending_back j q in
            subst (λ t. times i ≤ℤ t) (same_time j before.0) (subst (λ t. t ≤ℤ time j) (same_time i p.0) (best j before)),
      )

      old_back : (i : I) → IsBest (λ a b. times a ≤ℤ times b) Is i → IsBest (λ a b. time a ≤ℤ time b) Was i
      old_back i (p, best) = let here = pending_back i p in (
        here,
        λ j q.
            subst (λ t. time i ≤ℤ t) (sym (same_time j q.0)) (subst (λ t. t ≤ℤ times j) (sym (same_time i here.0)) (best j (pending_there j q))),
      )

    -- nothing of times is asked breadth first
    abbrev AreTimed : List ℕ → Type 0
    AreTimed by = by ≢ codes "breadth" → (i : I) → Contains (starts ++ flat_map followed taken) i → time i ≡ times i

    next_there : (by : List ℕ) (i : I) → IsSimple by → AreTimed by → IsNext parents followed time starts hidden taken i by → IsNext other follows times starts hidden taken i by
    next_there by i simple timed (breadth f) = breadth (subst (λ ns. IsFirst Is ns i) names (first_same Was Is _ i pending_there pending_back f))
    next_there by i simple timed (newest f) = let t = timed (λ e. cc) in newest (subst (λ ns. IsFirst (IsBest (λ a b. times b ≤ℤ times a) Is) ns i) names (first_same _ _ _ i (new_there t) (new_back t) f))
    next_there by i simple timed (oldest f) = let t = timed (λ e. cc) in oldest (subst (λ ns. IsFirst (IsBest (λ a b. times a ≤ℤ times b) Is) ns i) names (first_same _ _ _ i (old_there t) (old_back t) f))
    next_there by i simple timed (date ready made f) = absurd (simple (1, omega arith, refl))
    next_there by i simple timed (topo ready made f) = absurd (simple (0, omega arith, refl))

    next_back : (by : List ℕ) (i : I) → IsSimple by → AreTimed by → IsNext other follows times starts hidden taken i by → IsNext parents followed time starts hidden taken i by
    next_back by i simple timed (breadth f) = breadth (subst (λ ns. IsFirst Was ns i) (sym names) (first_same Is Was _ i pending_back pending_there f))
    next_back by i simple timed (newest f) = let t = timed (λ e. cc) in newest (subst (λ ns. IsFirst (IsBest (λ a b. time b ≤ℤ time a) Was) ns i) (sym names) (first_same _ _ _ i (new_back t) (new_there t) f))
    next_back by i simple timed (oldest f) = let t = timed (λ e. cc) in oldest (subst (λ ns. IsFirst (IsBest (λ a b. time a ≤ℤ time b) Was) ns i) (sym names) (first_same _ _ _ i (old_back t) (old_there t) f))
    next_back by i simple timed (date ready made f) = absurd (simple (1, omega arith, refl))
    next_back by i simple timed (topo ready made f) = absurd (simple (0, omega arith, refl))

    pub is_pending : (by : List ℕ) (i : I) → IsSimple by → IsNext parents followed time starts hidden taken i by → Was i
    is_pending by i simple (breadth (before, after, is, none, p)) = p
    is_pending by i simple (newest (before, after, is, none, p)) = p.0
    is_pending by i simple (oldest (before, after, is, none, p)) = p.0
    is_pending by i simple (date ready made f) = absurd (simple (1, omega arith, refl))
    is_pending by i simple (topo ready made f) = absurd (simple (0, omega arith, refl))

  named : (taken : List I) (i : I) → Contains (flat_map follows taken) i → (c : I) × Contains taken c × Contains (follows c) i
  named [] i m = absurd (no_member i m)
  named (c ∷ taken) i m = ⊎_elim
      (λ here. (c, Contains-here c taken, here))
      (λ there. let n = named taken i there in (n.0, Contains-there n.0 c taken n.1, n.2))
      (Contains-append_cases (follows c) (flat_map follows taken) i m)

  -- a list is judged by what is named behind those taken before its last
  module _ (by : List ℕ) (simple : IsSimple by) (same_followed : (taken rest : List I) (i : I) → ids ≡ taken ++ i ∷ rest → (c : I) → Contains taken c → followed c ≡ follows c)
      (timed : by ≢ codes "breadth" → (taken rest : List I) (i : I) → ids ≡ taken ++ i ∷ rest → (j : I) → Contains (starts ++ flat_map followed taken) j → time j ≡ times j) where
    -- each that is listed is reached through what is listed before it
    module _ (next : (taken rest : List I) (i : I) → ids ≡ taken ++ i ∷ rest → IsNext parents followed time starts hidden taken i by) where
      all_reached : (taken rest : List I) → ids ≡ taken ++ rest → ((c : I) → Contains taken c → Reaches follows starts c) → (c : I) → Contains ids c → Reaches follows starts c
      all_reached taken [] is h c m = h c (subst (λ all. Contains all c) (is ∙ append-nil taken) m)
      all_reached taken (i ∷ rest) is h c m =
          all_reached (taken ++ i ∷ []) rest (is ∙ sym (append_assoc taken (i ∷ []) rest)) (λ d n. ⊎_elim (h d) (λ e. subst (Reaches follows starts) e here) (Contains-push_cases taken i d n)) c m
        where
          pending : IsPending other follows times starts hidden taken i
          pending = let part = same_followed taken rest i is in pending_there taken part i (is_pending taken part by i simple (next taken rest i is))

          here : Reaches follows starts i
          here = ⊎_elim (λ s. start s) (λ n. let from = named taken i n in parent (h from.0 from.1) from.2) (Contains-append_cases starts (flat_map follows taken) i pending.0)

    pub begins_there : Begins parents followed time starts hidden by ids → Begins other follows times starts hidden by ids
    begins_there (shown, apart, next) = (
      λ k d below. (all_reached next [] ids refl (λ c m. absurd (no_member c m)) _ (Contains-get_or ids k d below), λ r. (shown k d below).1 (back_from parents other hidden same_hidden _ r)),
      apart,
      λ taken rest i is. next_there taken (same_followed taken rest i is) by i simple (λ late. timed late taken rest i is) (next taken rest i is),
    )

    pub whole_there : ((c : I) → Contains ids c → followed c ≡ follows c) → (by ≢ codes "breadth" → (i : I) → Contains (starts ++ flat_map followed ids) i → time i ≡ times i)
        → Begins parents followed time starts hidden by ids → IsWhole parents followed time starts hidden by ids → IsWhole other follows times starts hidden by ids
    whole_there same_all timed_all (shown, apart, next) (ended, all) = (
      λ i n. ended i (next_back ids same_all by i simple timed_all n),
      λ acyclic i s. found i s.0 s.1,
    )
      where
        all_listed : (i : I) → IsShown parents followed time starts hidden i → Contains ids i
        all_listed = all (λ down. absurd (simple down))

        found : (i : I) → Reaches follows starts i → (Reaches other hidden i → ⊥) → Contains ids i
        found i (start s) out = all_listed i (start s, λ r. out (there_from parents other hidden same_hidden i r))
        found i (parent {child = c} r m) out =
            let listed : Contains ids c = found c r (λ h. out (parent h (within c i m))) in
            let was : IsShown parents followed time starts hidden c = All-contains (IsShown parents followed time starts hidden) ids c shown listed in
            all_listed i (parent was.0 (subst (λ ps. Contains ps i) (sym (same_all c listed)) m), λ h. out (there_from parents other hidden same_hidden i h))
