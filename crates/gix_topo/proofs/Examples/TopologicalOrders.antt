-- Worked examples: over a finite history, lists in the orders of topological walks are found by computing.
use Rattle.std.proofs.Common.{◌≡◌, ◌≤◌, ℕ, suc, ℤ, pos, List, [], ◌∷◌, Bool, true, false, not, ◌&&◌, ◌||◌, cond, find, reverse, take, Option, Some, None, MatchOption, Contains, refl, sym, ap, subst, inr, ⊎_elim, ◌∙◌, arith, true≢false, leb-true}
use Rattle.std.proofs.Math.Dec.{leb}
use Rattle.gix_topo.proofs.Common.{ints, false≢true, and_parts, and_from, not-true, not_from_false, false_from_ne_true, ObjectId, is_same, is_among, first_new, named_by, IsBestMade, IsListBy, Reaches, start, step, IsAcyclic, IsAtBoundary}
use Rattle.gix_topo.proofs.Common.{IsInWalk, IsAcyclicIn, IsReady, IsLastMade, IsMadeReady, NewestFirst, same_is, among_is, Contains-cons_cases, no_member}
use Rattle.gix_revwalk.specs.Examples.{n, ids, history, sample_in}
use Rattle.gix_revwalk.specs.TimeOrder.{is_no_worse, IsBest}
use Rattle.gix_topo.specs.declared.Sorting.TheVariants as order
use Rattle.gix_revwalk.proofs.Beginnings.{begins_empty, one_list}
use Rattle.gix_revwalk.proofs.Orders.{reached_by_named}
use Rattle.gix_topo.proofs.Readiness.Decided.{all_of, all_is, given, is_ready as is_ready_of, ready_is as ready_of, is_ready_by as of_ready, made as made_by, made_is as made_is_by}
use Rattle.gix_topo.proofs.Run.ReadyInTurn.{is_list, last_or_none, list_tested, one_taken}

-- the list is what the starts reach: it is closed, and each id of it is named by those before
module _ (next : ObjectId → List ObjectId) (starts : List ObjectId) where
  abbrev is_closed : List ObjectId → Bool
  is_closed rs = all_of (λ i. is_among i rs) starts && all_of (λ c. all_of (λ i. is_among i rs) (next c)) rs

  abbrev is_led : List ObjectId → List ObjectId → Bool
  is_led done [] = true
  is_led done (i ∷ rs) = is_among i (named_by next starts done) && is_led (i ∷ done) rs

  reach_in : (rs : List ObjectId) → is_closed rs ≡ true → (i : ObjectId) → Reaches next starts i → is_among i rs ≡ true
  reach_in rs e i (start s) = all_is (λ j. is_among j rs) starts (and_parts _ _ e).0 i s
  reach_in rs e i (step {c = c} r m) = all_is (λ j. is_among j rs) (next c) (all_is (λ d. all_of (λ j. is_among j rs) (next d)) rs (and_parts _ _ e).1 c (among_is c rs (reach_in rs e c r))) i m

  led_reach : (rs done : List ObjectId) → is_led done rs ≡ true → ((c : ObjectId) → Contains done c → Reaches next starts c) → (i : ObjectId) → Contains rs i → Reaches next starts i
  led_reach [] done e h i c = absurd (no_member i c)
  led_reach (x ∷ rs) done e h i c =
      let here : Reaches next starts x = reached_by_named next starts done h x (among_is x _ (and_parts _ _ e).0) in
      ⊎_elim (λ s. subst (Reaches next starts) s here)
      (λ t. led_reach rs (x ∷ done) (and_parts _ _ e).1 (λ d k. ⊎_elim (λ s. subst (Reaches next starts) s here) (λ l. h d l) (Contains-cons_cases d x done k)) i t)
      (Contains-cons_cases i x rs c)

-- the two are one
abbrev pub is_this : Option ObjectId → Option ObjectId → Bool
is_this None None = true
is_this None (Some j) = false
is_this (Some i) None = false
is_this (Some i) (Some j) = is_same i j

pub this_is : (o p : Option ObjectId) → is_this o p ≡ true → o ≡ p
this_is None None e = refl
this_is None (Some j) e = absurd (false≢true e)
this_is (Some i) None e = absurd (false≢true e)
this_is (Some i) (Some j) e = ap Some (same_is i j e)

-- a finite history: the commits that have parents, what tips reach, and what ends reach
module _ (walked : ObjectId → List ObjectId) (tips ends keys reached hidden : List ObjectId) (finite : (c i : ObjectId) → Contains (walked c) i → is_among c keys ≡ true)
    (checked : ((is_closed walked tips reached && is_led walked tips [] reached) && (is_closed walked ends hidden && is_led walked ends [] hidden)) ≡ true) where
  abbrev Member : ObjectId → Type 0
  Member = IsInWalk walked walked tips ends

  abbrev is_member : ObjectId → Bool
  is_member i = is_among i reached && not (is_among i hidden)

  member_is : (i : ObjectId) → is_member i ≡ true → Member i
  member_is i e =
      let a : (is_among i reached ≡ true) × (not (is_among i hidden) ≡ true) = and_parts _ _ e in
      let tip : (is_closed walked tips reached ≡ true) × (is_led walked tips [] reached ≡ true) = and_parts _ _ (and_parts _ _ checked).0 in
      let end : (is_closed walked ends hidden ≡ true) × (is_led walked ends [] hidden ≡ true) = and_parts _ _ (and_parts _ _ checked).1 in
      record { reached = led_reach walked tips reached [] tip.1 (λ c k. absurd (no_member c k)) i (among_is i reached a.0); outside = λ r. true≢false (sym (reach_in walked ends hidden end.0 i r) ∙ not-true _ a.1) }

  is_member_by : (i : ObjectId) → Member i → is_member i ≡ true
  is_member_by i m =
      let tip : (is_closed walked tips reached ≡ true) × (is_led walked tips [] reached ≡ true) = and_parts _ _ (and_parts _ _ checked).0 in
      let end : (is_closed walked ends hidden ≡ true) × (is_led walked ends [] hidden ≡ true) = and_parts _ _ (and_parts _ _ checked).1 in
      and_from _ _ (reach_in walked tips reached tip.0 i m.reached) (not_from_false _ (false_from_ne_true _ (λ h. m.outside (led_reach walked ends hidden [] end.1 (λ c k. absurd (no_member c k)) i (among_is i hidden h)))))

  abbrev is_ready : List ObjectId → ObjectId → Bool
  is_ready = is_ready_of walked Member keys is_member

  ready_is : (taken : List ObjectId) (i : ObjectId) → is_ready taken i ≡ true → IsReady walked Member (Contains taken) i
  ready_is = ready_of walked Member keys is_member (λ c i k. finite c i k.named) member_is is_member_by

  is_ready_by : (taken : List ObjectId) (i : ObjectId) → IsReady walked Member (Contains taken) i → is_ready taken i ≡ true
  is_ready_by = of_ready walked Member keys is_member (λ c i k. finite c i k.named) member_is is_member_by

  module _ (time : ObjectId → ℤ) where
    abbrev made : List ObjectId → List ObjectId
    made = made_by walked Member keys is_member time tips

    made_is : (taken : List ObjectId) → IsMadeReady time walked Member tips taken (made taken)
    made_is = made_is_by walked Member keys is_member (λ c i k. finite c i k.named) member_is is_member_by time tips

    abbrev is_turn : List ObjectId → Option ObjectId → Bool
    is_turn done o = is_this o (first_new (reverse (made (reverse done))) done)

    turn_is : (done : List ObjectId) (o : Option ObjectId) → is_turn done o ≡ true → MatchOption o ((i : ObjectId) → IsLastMade time walked Member tips done i → ⊥) (IsLastMade time walked Member tips done)
    turn_is done o e = last_or_none time walked Member tips done (made (reverse done)) (made_is (reverse done)) o (sym (this_is o _ e))

    abbrev is_topo : List ObjectId → List ObjectId → Bool
    is_topo = is_list is_turn

    -- a list that passes is in topological order
    pub topo_by : (ids : List ObjectId) → is_topo [] ids ≡ true → IsListBy (IsLastMade time walked Member tips) ids
    topo_by ids e = list_tested (IsLastMade time walked Member tips) is_turn turn_is ids [] (begins_empty _) e

  -- the next one is ready, and no member that is ready has a greater time
  module _ (seconds : ObjectId → ℕ) where
    abbrev at : ObjectId → ℤ
    at i = pos (seconds i)

    abbrev is_best : List ObjectId → Option ObjectId → Bool
    is_best done None = all_of (λ j. not (is_ready done j)) reached
    is_best done (Some i) =
        (is_ready done i && all_of (λ j. not (is_ready done j) || leb (seconds j) (seconds i)) reached)
        && is_this (find (λ j. not (is_among j done) && is_no_worse NewestFirst (pos (seconds j)) (pos (seconds i))) (made at (reverse done))) (Some i)

    best_is : (done : List ObjectId) (o : Option ObjectId) → is_best done o ≡ true → MatchOption o ((i : ObjectId) → IsBestMade at walked Member tips done i → ⊥) (IsBestMade at walked Member tips done)
    best_is done None e = λ i n.
        let b : is_ready done i ≡ true = is_ready_by done i n.2.best.among in
        true≢false (sym (all_is (λ j. not (is_ready done j)) reached e i (among_is i reached (and_parts _ _ (and_parts _ _ b).0).0)) ∙ ap not b)
    best_is done (Some i) e =
        let t : ((is_ready done i && all_of (λ j. not (is_ready done j) || leb (seconds j) (seconds i)) reached) ≡ true) × (is_this (find (λ j. not (is_among j done) && is_no_worse NewestFirst (at j) (at i)) (made at (reverse done))) (Some i) ≡ true) = and_parts _ _ e in
        let a : (is_ready done i ≡ true) × (all_of (λ j. not (is_ready done j) || leb (seconds j) (seconds i)) reached ≡ true) = and_parts _ _ t.0 in
        let b : IsBest NewestFirst at (IsReady walked Member (Contains done)) i = record {
          among = ready_is done i a.0;
          best = λ j r.
              let b : is_ready done j ≡ true = is_ready_by done j r in
              let l : seconds j ≤ seconds i = leb-true _ _ (given _ _ (all_is (λ k. not (is_ready done k) || leb (seconds k) (seconds i)) reached a.1 j (among_is j reached (and_parts _ _ (and_parts _ _ b).0).0)) b) in
              omega (arith, ints);
        } in
        (made at (reverse done), made_is at (reverse done), record { best = b; first = this_is _ _ t.1 })

    abbrev is_date : List ObjectId → List ObjectId → Bool
    is_date = is_list is_best

    -- a list that passes is in order by date
    pub date_by : (ids : List ObjectId) → is_date [] ids ≡ true → IsListBy (IsBestMade at walked Member tips) ids
    date_by ids e = list_tested (IsBestMade at walked Member tips) is_best best_is ids [] (begins_empty _) e

-- the sample history
abbrev pub keys_of : List (ℕ × List ℕ) → List ObjectId
keys_of [] = []
keys_of (entry ∷ entries) = n entry.0 ∷ keys_of entries

-- commit n has time n
abbrev pub sample_seconds : List (ℕ × List ℕ) → ObjectId → ℕ
sample_seconds [] i = 0
sample_seconds (entry ∷ entries) i = cond (is_same i (n entry.0)) entry.0 (sample_seconds entries i)

sample_finite : (h : List (ℕ × List ℕ)) (c i : ObjectId) → Contains (sample_in h c) i → is_among c (keys_of h) ≡ true
sample_finite [] c i m = absurd (no_member i m)
sample_finite (entry ∷ h) c i m = go (is_same c (n entry.0)) m (sample_finite h c i)
  where
    go : (b : Bool) → Contains (cond b (ids entry.1) (sample_in h c)) i → (Contains (sample_in h c) i → is_among c (keys_of h) ≡ true) → (b || is_among c (keys_of h)) ≡ true
    go true m r = refl
    go false m r = r m

-- over such a history, what the tips reach and the ends don't
abbrev pub SampleSet : List (ℕ × List ℕ) → List ℕ → List ℕ → ObjectId → Type 0
SampleSet h tips ends = IsInWalk (sample_in h) (sample_in h) (ids tips) (ids ends)

abbrev pub IsSampleTopo : List (ℕ × List ℕ) → List ℕ → List ℕ → List ℕ → Type 0
IsSampleTopo h tips ends order = IsListBy (IsLastMade (λ i. pos (sample_seconds h i)) (sample_in h) (SampleSet h tips ends) (ids tips)) (ids order)

abbrev pub IsSampleDate : List (ℕ × List ℕ) → List ℕ → List ℕ → List ℕ → Type 0
IsSampleDate h tips ends order = IsListBy (IsBestMade (λ i. pos (sample_seconds h i)) (sample_in h) (SampleSet h tips ends) (ids tips)) (ids order)

-- `reached` and `hidden` are what tips and ends reach, each behind a commit that names it
module _ (h : List (ℕ × List ℕ)) (tips ends reached hidden : List ℕ)
    (checked : ((is_closed (sample_in h) (ids tips) (ids reached) && is_led (sample_in h) (ids tips) [] (ids reached)) && (is_closed (sample_in h) (ids ends) (ids hidden) && is_led (sample_in h) (ids ends) [] (ids hidden))) ≡ true) where
  sample_topo : (order : List ℕ) → is_topo (sample_in h) (ids tips) (ids ends) (keys_of h) (ids reached) (ids hidden) (sample_finite h) checked (λ i. pos (sample_seconds h i)) [] (ids order) ≡ true → IsSampleTopo h tips ends order
  sample_topo order e = topo_by (sample_in h) (ids tips) (ids ends) (keys_of h) (ids reached) (ids hidden) (sample_finite h) checked (λ i. pos (sample_seconds h i)) (ids order) e

  sample_date : (order : List ℕ) → is_date (sample_in h) (ids tips) (ids ends) (keys_of h) (ids reached) (ids hidden) (sample_finite h) checked (sample_seconds h) [] (ids order) ≡ true → IsSampleDate h tips ends order
  sample_date order e = date_by (sample_in h) (ids tips) (ids ends) (keys_of h) (ids reached) (ids hidden) (sample_finite h) checked (sample_seconds h) (ids order) e

abbrev pub all_eight : List ℕ
all_eight = 8 ∷ 6 ∷ 7 ∷ 5 ∷ 4 ∷ 3 ∷ 2 ∷ 1 ∷ []

-- with the parents of 8 in the other order
abbrev pub turned : List (ℕ × List ℕ)
turned = (8, 7 ∷ 6 ∷ []) ∷ (7, 4 ∷ []) ∷ (6, 5 ∷ []) ∷ (5, 3 ∷ []) ∷ (4, 2 ∷ []) ∷ (3, 1 ∷ []) ∷ (2, 1 ∷ []) ∷ (1, []) ∷ []

-- with a commit whose first parent is named twice
abbrev pub repeated : List (ℕ × List ℕ)
repeated = (9, 6 ∷ 7 ∷ 6 ∷ []) ∷ history

-- two commits, each the other's parent
abbrev pub round : List (ℕ × List ℕ)
round = (1, 2 ∷ []) ∷ (2, 1 ∷ []) ∷ []

pub one_tip : IsSampleTopo history (8 ∷ []) [] (8 ∷ 7 ∷ 4 ∷ 2 ∷ 6 ∷ 5 ∷ 3 ∷ 1 ∷ [])
one_tip = sample_topo history (8 ∷ []) [] all_eight [] refl (8 ∷ 7 ∷ 4 ∷ 2 ∷ 6 ∷ 5 ∷ 3 ∷ 1 ∷ []) refl

pub parents_turned : IsSampleTopo turned (8 ∷ []) [] (8 ∷ 6 ∷ 5 ∷ 3 ∷ 7 ∷ 4 ∷ 2 ∷ 1 ∷ [])
parents_turned = sample_topo turned (8 ∷ []) [] all_eight [] refl (8 ∷ 6 ∷ 5 ∷ 3 ∷ 7 ∷ 4 ∷ 2 ∷ 1 ∷ []) refl

pub by_date : IsSampleDate history (8 ∷ []) [] (8 ∷ 7 ∷ 6 ∷ 5 ∷ 4 ∷ 3 ∷ 2 ∷ 1 ∷ [])
by_date = sample_date history (8 ∷ []) [] all_eight [] refl (8 ∷ 7 ∷ 6 ∷ 5 ∷ 4 ∷ 3 ∷ 2 ∷ 1 ∷ []) refl

pub two_tips : IsSampleTopo history (7 ∷ 6 ∷ []) [] (7 ∷ 4 ∷ 2 ∷ 6 ∷ 5 ∷ 3 ∷ 1 ∷ [])
two_tips = sample_topo history (7 ∷ 6 ∷ []) [] (7 ∷ 6 ∷ 5 ∷ 4 ∷ 3 ∷ 2 ∷ 1 ∷ []) [] refl (7 ∷ 4 ∷ 2 ∷ 6 ∷ 5 ∷ 3 ∷ 1 ∷ []) refl

pub an_end : IsSampleTopo history (8 ∷ []) (5 ∷ []) (8 ∷ 7 ∷ 4 ∷ 2 ∷ 6 ∷ [])
an_end = sample_topo history (8 ∷ []) (5 ∷ []) all_eight (5 ∷ 3 ∷ 1 ∷ []) refl (8 ∷ 7 ∷ 4 ∷ 2 ∷ 6 ∷ []) refl

pub tip_is_end : IsSampleTopo history (8 ∷ []) (8 ∷ []) []
tip_is_end = sample_topo history (8 ∷ []) (8 ∷ []) all_eight all_eight refl [] refl

pub parent_repeated : IsSampleTopo repeated (9 ∷ []) [] (9 ∷ 6 ∷ 5 ∷ 3 ∷ 7 ∷ 4 ∷ 2 ∷ 1 ∷ [])
parent_repeated = sample_topo repeated (9 ∷ []) [] (9 ∷ 6 ∷ 7 ∷ 5 ∷ 4 ∷ 3 ∷ 2 ∷ 1 ∷ []) [] refl (9 ∷ 6 ∷ 5 ∷ 3 ∷ 7 ∷ 4 ∷ 2 ∷ 1 ∷ []) refl

pub goes_round : IsSampleTopo round (1 ∷ []) [] [] × IsSampleDate round (1 ∷ []) [] []
goes_round = (sample_topo round (1 ∷ []) [] (1 ∷ 2 ∷ []) [] refl [] refl, sample_date round (1 ∷ []) [] (1 ∷ 2 ∷ []) [] refl [] refl)

-- at its first place the repeated parent would come last
pub first_place_refused : IsSampleTopo repeated (9 ∷ []) [] (9 ∷ 7 ∷ 4 ∷ 2 ∷ 6 ∷ 5 ∷ 3 ∷ 1 ∷ []) → ⊥
first_place_refused h =
    let e : ids (9 ∷ 7 ∷ 4 ∷ 2 ∷ 6 ∷ 5 ∷ 3 ∷ 1 ∷ []) ≡ ids (9 ∷ 6 ∷ 5 ∷ 3 ∷ 7 ∷ 4 ∷ 2 ∷ 1 ∷ []) =
    one_list _ (one_taken (λ i. pos (sample_seconds repeated i)) (sample_in repeated) (SampleSet repeated (9 ∷ []) []) (ids (9 ∷ [])) order.TopoOrder) _ _ h parent_repeated in
    false≢true (ap (λ xs. is_among (n 7) (take 2 xs)) (sym e))

-- where each parent is one of these and has a lesser number, so has each ancestor
module _ (walked : ObjectId → List ObjectId) (number : ObjectId → ℕ) (those : List ObjectId) where
  abbrev is_below : ObjectId → ObjectId → Bool
  is_below c p = is_among p those && leb (suc (number p)) (number c)

  abbrev is_falling : Bool
  is_falling = all_of (λ c. all_of (is_below c) (walked c)) those

  parent_below : is_falling ≡ true → (c p : ObjectId) → is_among c those ≡ true → Contains (walked c) p → (is_among p those ≡ true) × (suc (number p) ≤ number c)
  parent_below e c p m named =
      let a : (is_among p those ≡ true) × (leb (suc (number p)) (number c) ≡ true) = and_parts _ _ (all_is (is_below c) (walked c) (all_is (λ d. all_of (is_below d) (walked d)) those e c (among_is c those m)) p named) in
      (a.0, leb-true _ _ a.1)

  ancestor_below : is_falling ≡ true → (i v : ObjectId) → is_among i those ≡ true → Reaches walked (walked i) v → (is_among v those ≡ true) × (suc (number v) ≤ number i)
  ancestor_below e i v m (start named) = parent_below e i v m named
  ancestor_below e i v m (step {c = c} r named) =
      let b : (is_among c those ≡ true) × (suc (number c) ≤ number i) = ancestor_below e i c m r in
      let a : (is_among v those ≡ true) × (suc (number v) ≤ number c) = parent_below e c v b.0 named in
      (a.0, omega (arith, a.1, b.1))

-- with two commits elsewhere, each the other's parent
abbrev pub round_elsewhere : List (ℕ × List ℕ)
round_elsewhere = (21, 22 ∷ []) ∷ (22, 21 ∷ []) ∷ history

-- no commit of the walk from 8 is its own ancestor, though 21 is
pub acyclic_members : IsAcyclicIn (sample_in round_elsewhere) (SampleSet round_elsewhere (8 ∷ []) []) × (IsAcyclic (sample_in round_elsewhere) → ⊥)
acyclic_members = (
  λ i m r.
      let l : (is_among i (ids all_eight) ≡ true) × (suc (sample_seconds round_elsewhere i) ≤ sample_seconds round_elsewhere i) =
      ancestor_below (sample_in round_elsewhere) (sample_seconds round_elsewhere) (ids all_eight) refl i i (reach_in (sample_in round_elsewhere) (ids (8 ∷ [])) (ids all_eight) refl i m.reached) r in
      omega (arith, l.1),
  λ h. h (n 21) (step (start (among_is (n 22) (sample_in round_elsewhere (n 21)) refl)) (among_is (n 21) (sample_in round_elsewhere (n 22)) refl)),
)

-- 6 is in the walk from 8 with the end 5; 3 is reached by the end
pub above_an_end : SampleSet history (8 ∷ []) (5 ∷ []) (n 6) × (SampleSet history (8 ∷ []) (5 ∷ []) (n 3) → ⊥)
above_an_end = (
  member_is (sample_in history) (ids (8 ∷ [])) (ids (5 ∷ [])) (keys_of history) (ids all_eight) (ids (5 ∷ 3 ∷ 1 ∷ [])) (sample_finite history) refl (n 6) refl,
  λ m. true≢false (sym (is_member_by (sample_in history) (ids (8 ∷ [])) (ids (5 ∷ [])) (keys_of history) (ids all_eight) (ids (5 ∷ 3 ∷ 1 ∷ [])) (sample_finite history) refl (n 3) m)),
)

-- With the tip 8 and the hidden tip 7, commit 1 is at the boundary, as a parent of 3. Hidden tips reach it, so painting has to mark it.
pub at_boundary : IsAtBoundary (sample_in history) (ids (8 ∷ [])) (ids (7 ∷ [])) (n 1)
at_boundary =
    let three : SampleSet history (8 ∷ []) (7 ∷ []) (n 3) = member_is (sample_in history) (ids (8 ∷ [])) (ids (7 ∷ [])) (keys_of history) (ids all_eight) (ids (7 ∷ 4 ∷ 2 ∷ 1 ∷ [])) (sample_finite history) refl (n 3) refl in
    inr (n 3, three.reached, three.outside, among_is (n 1) (sample_in history (n 3)) refl)
