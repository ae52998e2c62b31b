-- Over a finite history, where a test decides the members, a test decides which commits are ready, and those made ready are computed.
use Rattle.std.proofs.Common.{◌≡◌, ℤ, List, [], ◌∷◌, ◌++◌, Bool, true, false, not, ◌&&◌, ◌||◌, cond, filter, Contains, refl, sym, subst, ⊎_elim, ◌∙◌, arith, true≢false}
use Rattle.gix_topo.proofs.Common.{and_parts, and_from, not-true, not_from_false, false_from_ne_true, Contains-append_cases, ObjectId, is_among, IsChild, IsChildless, IsReady, Keeps, passed, first_places, last_places, by_time}
use Rattle.gix_topo.proofs.Common.{IsMadeReady, among_from, among_is, Contains-here, Contains-there, Contains-cons_cases, no_member}
use Rattle.gix_topo.specs.TopoOrder.{none, kept}
use Rattle.gix_topo.proofs.Readiness.IsReady.{keeps_alike, keeps_from}
use Rattle.gix_topo.proofs.Readiness.RisingTime.{in_by_time}

-- each id of a list passes
abbrev pub all_of : (ObjectId → Bool) → List ObjectId → Bool
all_of p [] = true
all_of p (x ∷ xs) = p x && all_of p xs

pub all_is : (p : ObjectId → Bool) (xs : List ObjectId) → all_of p xs ≡ true → (i : ObjectId) → Contains xs i → p i ≡ true
all_is p [] e i c = absurd (no_member i c)
all_is p (x ∷ xs) e i c = ⊎_elim (λ s. subst (λ y. p y ≡ true) s (and_parts _ _ e).0) (λ t. all_is p xs (and_parts _ _ e).1 i t) (Contains-cons_cases i x xs c)

all_by : (p : ObjectId → Bool) (xs : List ObjectId) → ((i : ObjectId) → Contains xs i → p i ≡ true) → all_of p xs ≡ true
all_by p [] h = refl
all_by p (x ∷ xs) h = and_from _ _ (h x (Contains-here x xs)) (all_by p xs (λ i c. h i (Contains-there i x xs c)))

pub given : (a b : Bool) → (not a || b) ≡ true → a ≡ true → b ≡ true
given a b e t = grind arith

gives : (a b : Bool) → (a ≡ true → b ≡ true) → (not a || b) ≡ true
gives a b f = grind arith

-- what is made ready is in the walk
pub made_member : (time : ObjectId → ℤ) (walked : ObjectId → List ObjectId) (In : ObjectId → Type 0) (tips taken ready : List ObjectId) → IsMadeReady time walked In tips taken ready → (i : ObjectId) → Contains ready i → In i
made_member time walked In tips [] ready h i m = (keeps_from (IsChildless walked In) h.1 i (in_by_time time h.0 i (subst (λ r. Contains r i) h.2 m))).1.member
made_member time walked In tips (c ∷ taken) ready h i m =
    ⊎_elim (λ b. made_member time walked In tips taken h.0 h.2 i b) (λ a. (keeps_from (IsReady walked In (Contains (c ∷ taken))) h.3 i a).1.member)
    (Contains-append_cases h.0 h.1 i (subst (λ r. Contains r i) h.4 m))

module _ (walked : ObjectId → List ObjectId) (In : ObjectId → Type 0) (keys : List ObjectId) (is_member : ObjectId → Bool) where
  -- whether each child was taken
  abbrev pub is_free : List ObjectId → ObjectId → Bool
  is_free taken i = all_of (λ d. not (is_member d && is_among i (walked d)) || is_among d taken) keys

  abbrev pub is_ready : List ObjectId → ObjectId → Bool
  is_ready taken i = is_member i && (not (is_among i taken) && is_free taken i)

  module _ (time : ObjectId → ℤ) (tips : List ObjectId) where
    -- those made ready by the time when these were taken (the latest first)
    abbrev pub made : List ObjectId → List ObjectId
    made [] = by_time time (filter (is_ready []) (first_places tips))
    made (c ∷ taken) = made taken ++ filter (is_ready (c ∷ taken)) (last_places (walked c))

  module _ (finite : (c i : ObjectId) → IsChild walked In c i → is_among c keys ≡ true) (member_is : (i : ObjectId) → is_member i ≡ true → In i) (is_member_by : (i : ObjectId) → In i → is_member i ≡ true) where
    pub ready_is : (taken : List ObjectId) (i : ObjectId) → is_ready taken i ≡ true → IsReady walked In (Contains taken) i
    ready_is taken i e =
        let a : (is_member i ≡ true) × ((not (is_among i taken) && is_free taken i) ≡ true) = and_parts _ _ e in
        let b : (not (is_among i taken) ≡ true) × (is_free taken i ≡ true) = and_parts _ _ a.1 in
        record {
          member = member_is i a.0;
          left = λ c. true≢false (sym (among_from i taken c) ∙ not-true _ b.0);
          children = λ d c. among_is d taken (given _ _ (all_is (λ x. not (is_member x && is_among i (walked x)) || is_among x taken) keys b.1 d (among_is d keys (finite d i c))) (and_from _ _ (is_member_by d c.child) (among_from i (walked d) c.named)));
        }

    pub is_ready_by : (taken : List ObjectId) (i : ObjectId) → IsReady walked In (Contains taken) i → is_ready taken i ≡ true
    is_ready_by taken i r =
        and_from _ _ (is_member_by i r.member) (and_from _ _ (not_from_false _ (false_from_ne_true _ (λ t. r.left (among_is i taken t))))
        (all_by (λ x. not (is_member x && is_among i (walked x)) || is_among x taken) keys (λ d k. gives _ _ (λ e.
        let a : (is_member d ≡ true) × (is_among i (walked d) ≡ true) = and_parts _ _ e in
        among_from d taken (r.children d (record { child = member_is d a.0; parent = r.member; named = among_is i (walked d) a.1 }))))))

    pub keeps : (taken xs : List ObjectId) → Keeps (IsReady walked In (Contains taken)) xs (filter (is_ready taken) xs)
    keeps taken [] = none
    keeps taken (x ∷ xs) = go (is_ready taken x) refl (keeps taken xs)
      where
        go : (b : Bool) → is_ready taken x ≡ b → Keeps (IsReady walked In (Contains taken)) xs (filter (is_ready taken) xs) → Keeps (IsReady walked In (Contains taken)) (x ∷ xs) (cond b (x ∷ filter (is_ready taken) xs) (filter (is_ready taken) xs))
        go true e r = kept (ready_is taken x e) r
        go false e r = passed (λ h. true≢false (sym (is_ready_by taken x h) ∙ e)) r

    module _ (time : ObjectId → ℤ) (tips : List ObjectId) where
      pub made_is : (taken : List ObjectId) → IsMadeReady time walked In tips taken (made time tips taken)
      made_is [] = (
        filter (is_ready []) (first_places tips),
        keeps_alike (IsReady walked In (Contains [])) (IsChildless walked In) (λ i r. record { member = r.member; alone = λ d c. no_member d (r.children d c) }) (λ i r. record { member = r.member; left = λ c. no_member i c; children = λ d c. absurd (r.alone d c) }) (keeps [] (first_places tips)),
        refl,
      )
      made_is (c ∷ taken) = (made time tips taken, filter (is_ready (c ∷ taken)) (last_places (walked c)), made_is taken, keeps (c ∷ taken) (last_places (walked c)), refl)
