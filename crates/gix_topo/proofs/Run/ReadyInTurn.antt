-- What a list has in which each commit is ready when it comes: no id twice, children first, and all of the set where no member is its own ancestor.
-- In either order each is ready when it comes, and one at most comes next.
use Rattle.std.proofs.Common.{◌≡◌, ◌↔◌, ◌⊎◌, ◌≤◌, ℕ, zero, suc, ℤ, List, [], ◌∷◌, ◌++◌, Bool, true, false, not, ◌&&◌, ◌||◌, filter, reverse, length, Option, Some, None, Contains, MatchOption, refl, sym, ap, subst, inl}
use Rattle.std.proofs.Common.{inr, ⊎_elim, ◌∙◌, arith, append_assoc, append-nil, le_refl, true≢false}
use Rattle.gix_topo.proofs.Common.{false_from_ne_true, true_from_ne_false, and_parts, and_from, not-true, list_any-IsPermutation, IsPermutation-reverse, Contains-push_cases, ObjectId, is_same}
use Rattle.gix_topo.proofs.Common.{is_among, IsBeginningBy, IsListBy, NewestFirst, first_new, Reaches, start, step, IsAcyclicIn, IsBestMade, IsLastMade, IsNextBy, IsChild, IsChildless, IsReady, Keeps, passed, first_places, last_places, by_time, IsMadeReady, AreDistinct, Sorting}
use Rattle.gix_topo.proofs.Common.{same_is, same_itself, among-append, among_from, among_is, Contains-here, Contains-there, Contains-cons_cases, no_member, fresh, among-filter, new_less}
use Rattle.std.proofs.lemmas.List.{reverse-append}
use Rattle.gix_topo.specs.declared.Sorting.TheVariants as order
use Rattle.gix_topo.specs.TopoOrder.{none, kept}
use Rattle.gix_revwalk.specs.TimeOrder.{IsFirstBest, is_no_worse}
use Rattle.gix_revwalk.proofs.Beginnings.{begins_as, begins_more, kept_along, once}
use Rattle.gix_revwalk.proofs.Greedy.{Picks, none_has}
use Rattle.gix_revwalk.proofs.OneOrder.{one_best, same_some}
use Rattle.gix_revwalk.proofs.Orders.{found_passes, none_passes}
use Rattle.gix_revwalk.proofs.SomeOrder.{best, best_of, untaken}
use Rattle.gix_topo.proofs.Readiness.IsReady.{among-by_time, keeps_from, keeps_one, AreReady, are_ready_alike, takes_ready, starts_ready}

-- a list of which a test says that each turn is right
abbrev pub is_list : (List ObjectId → Option ObjectId → Bool) → List ObjectId → List ObjectId → Bool
is_list test done [] = test done None
is_list test done (i ∷ ids) = test done (Some i) && is_list test (done ++ i ∷ []) ids

pub list_tested : (Next : List ObjectId → ObjectId → Type 0) (test : List ObjectId → Option ObjectId → Bool) → ((done : List ObjectId) (o : Option ObjectId) → test done o ≡ true → MatchOption o ((i : ObjectId) → Next done i → ⊥) (Next done))
    → (ids done : List ObjectId) → IsBeginningBy Next done → is_list test done ids ≡ true → IsListBy Next (done ++ ids)
list_tested Next test sound [] done begins e = subst (IsListBy Next) (sym (append-nil done)) (record { begins = begins; ends = sound done None e })
list_tested Next test sound (i ∷ ids) done begins e =
    subst (IsListBy Next) (append_assoc done (i ∷ []) ids) (list_tested Next test sound ids (done ++ i ∷ []) (begins_more Next done i begins (sound done (Some i) (and_parts _ _ e).0)) (and_parts _ _ e).1)

through : (walked : ObjectId → List ObjectId) (d i v : ObjectId) → Contains (walked d) i → Reaches walked (walked i) v → Reaches walked (walked d) v
through walked d i v n (start s) = step (start n) s
through walked d i v n (step r m) = step (through walked d i _ n r) m

module _ (walked : ObjectId → List ObjectId) (In : ObjectId → Type 0) where
  abbrev pub IsReadyNext : List ObjectId → ObjectId → Type 0
  IsReadyNext taken = IsReady walked In (Contains taken)

  -- What became ready stays so until it is taken: each commit of a beginning is in any list that ends where nothing is ready.
  also_taken : (others : List ObjectId) → IsListBy IsReadyNext others → (ids : List ObjectId) → IsBeginningBy IsReadyNext ids → (i : ObjectId) → Contains ids i → Contains others i
  also_taken others list = kept_along IsReadyNext (λ taken. (i : ObjectId) → Contains taken i → Contains others i)
      (λ taken x before now i m. ⊎_elim (before i) (λ e. subst (Contains others) e (here taken x before now)) (Contains-push_cases taken x i m)) (λ i c. absurd (no_member i c))
    where
      here : (taken : List ObjectId) (x : ObjectId) → ((i : ObjectId) → Contains taken i → Contains others i) → IsReadyNext taken x → Contains others x
      here taken x before now = among_is x others (true_from_ne_false _ (λ f. list.ends x (record { member = now.member; left = λ t. true≢false (sym (among_from x others t) ∙ f); children = λ d k. before d (now.children d k) })))

  module _ (ids : List ObjectId) (begins : IsBeginningBy IsReadyNext ids) where
    pub each_once : AreDistinct ids
    each_once = once IsReadyNext (λ taken i r. r.left) ids begins

    pub each_member : (i : ObjectId) → Contains ids i → In i
    each_member = kept_along IsReadyNext (λ taken. (i : ObjectId) → Contains taken i → In i) (λ taken x before now i m. ⊎_elim (before i) (λ e. subst In e now.member) (Contains-push_cases taken x i m)) (λ i c. absurd (no_member i c)) ids begins

    -- a child comes before its parents
    pub children_before : (taken rest : List ObjectId) (d p : ObjectId) → ids ≡ taken ++ p ∷ rest → IsChild walked In d p → Contains taken d
    children_before taken rest d p e c = (begins taken rest p e).children d c

  module _ (ids : List ObjectId) (list : IsListBy IsReadyNext ids) where
    -- a member that is missing has a child that is missing, which isn't among those seen on the way
    missing : (finite : List ObjectId) → ((i : ObjectId) → In i → is_among i finite ≡ true) → IsAcyclicIn walked In → (n : ℕ) (seen : List ObjectId) (i : ObjectId) → suc (length (fresh (λ j. is_among j seen) finite)) ≤ n → ((v : ObjectId) → Contains seen v → Reaches walked (walked i) v) →
        In i → is_among i ids ≡ false → ⊥
    missing finite within acyclic zero seen i b above m f = omega arith
    missing finite within acyclic (suc n) seen i b above m f =
        let e : suc (length (fresh (λ j. is_same j i || is_among j seen) finite)) ≡ length (fresh (λ j. is_among j seen) finite) = new_less (λ j. is_among j seen) finite i (within i m) (false_from_ne_true _ (λ t. acyclic i m (above i (among_is i seen t)))) in
        list.ends i (record {
          member = m;
          left = λ c. true≢false (sym (among_from i ids c) ∙ f);
          children = λ d c. among_is d ids (true_from_ne_false _ (λ g.
              missing finite within acyclic n (i ∷ seen) d (omega arith)
              (λ v h. ⊎_elim (λ s. subst (Reaches walked (walked d)) s (start c.named)) (λ t. through walked d i v c.named (above v t)) (Contains-cons_cases v i seen h))
              c.child g));
        })

    pub all_given : (finite : List ObjectId) → ((i : ObjectId) → In i → is_among i finite ≡ true) → IsAcyclicIn walked In → (i : ObjectId) → In i → Contains ids i
    all_given finite within acyclic i m = among_is i ids (true_from_ne_false _ (λ f. missing finite within acyclic (suc (length (fresh (λ j. is_among j []) finite))) [] i (le_refl _) (λ v h. absurd (no_member v h)) m f))

  -- two such lists hold the same
  pub same_set : (ids others : List ObjectId) → IsListBy IsReadyNext ids → IsListBy IsReadyNext others → (i : ObjectId) → Contains ids i ↔ Contains others i
  same_set ids others h k i = (also_taken others k ids h.begins i, also_taken ids h others k.begins i)

pub among-reverse : (i : ObjectId) (xs : List ObjectId) → is_among i (reverse xs) ≡ is_among i xs
among-reverse i xs = sym (list_any-IsPermutation (is_same i) xs (reverse xs) (IsPermutation-reverse xs))

pub reverse_in : (i : ObjectId) (xs : List ObjectId) → Contains (reverse xs) i → Contains xs i
reverse_in i xs c = among_is i xs (sym (among-reverse i xs) ∙ among_from i (reverse xs) c)

pub in_reverse : (i : ObjectId) (xs : List ObjectId) → Contains xs i → Contains (reverse xs) i
in_reverse i xs c = among_is i (reverse xs) (among-reverse i xs ∙ among_from i xs c)

-- it can't be that there is no list of those kept
keeps_some : (P : ObjectId → Type 0) (xs : List ObjectId) → ((ys : List ObjectId) → Keeps P xs ys → ⊥) → ⊥
keeps_some P [] never = never [] none
keeps_some P (x ∷ xs) never = keeps_some P xs (λ ys h. never ys (passed (λ p. never (x ∷ ys) (kept p h)) h))

module _ (time : ObjectId → ℤ) (walked : ObjectId → List ObjectId) (In : ObjectId → Type 0) (tips : List ObjectId) where
  -- there is one list of those made ready
  pub made_one : (taken xs ys : List ObjectId) → IsMadeReady time walked In tips taken xs → IsMadeReady time walked In tips taken ys → xs ≡ ys
  made_one [] xs ys h k = let e : h.0 ≡ k.0 = keeps_one (IsChildless walked In) h.1 k.0 k.1 in h.2 ∙ ap (by_time time) e ∙ sym k.2
  made_one (c ∷ taken) xs ys h k =
      let e : h.0 ≡ k.0 = made_one taken h.0 k.0 h.2 k.2 in
      let f : h.1 ≡ k.1 = keeps_one (IsReady walked In (Contains (c ∷ taken))) h.3 k.1 k.3 in
      h.4 ∙ (λ j. e j ++ f j) ∙ sym k.4

  -- nor that there is none
  made_some : (taken : List ObjectId) → ((ready : List ObjectId) → IsMadeReady time walked In tips taken ready → ⊥) → ⊥
  made_some [] never = keeps_some (IsChildless walked In) (first_places tips) (λ some h. never (by_time time some) (some, h, refl))
  made_some (c ∷ taken) never = made_some taken (λ before h. keeps_some (IsReady walked In (Contains (c ∷ taken))) (last_places (walked c)) (λ added k. never (before ++ added) (before, added, h, k, refl)))

  -- one at most comes next
  pub one_taken : (s : Sorting) (done : List ObjectId) (i j : ObjectId) → IsNextBy s time walked In tips done i → IsNextBy s time walked In tips done j → i ≡ j
  one_taken order.TopoOrder done i j a b = same_some i j (sym a.2 ∙ ap (λ r. first_new (reverse r) done) (made_one (reverse done) a.0 b.0 a.1 b.1) ∙ b.2)
  one_taken order.DateOrder done i j a b =
      one_best NewestFirst time (IsReady walked In (Contains done)) b.0 done i j
      (subst (λ ready. IsFirstBest NewestFirst time (IsReady walked In (Contains done)) ready done i) (made_one (reverse done) a.0 b.0 a.1 b.1) a.2) b.2

  -- the last of those made ready, or none
  pub last_or_none : (done ready : List ObjectId) → IsMadeReady time walked In tips (reverse done) ready → (o : Option ObjectId) → first_new (reverse ready) done ≡ o → MatchOption o ((i : ObjectId) → IsLastMade time walked In tips done i → ⊥) (IsLastMade time walked In tips done)
  last_or_none done ready made (Some i) e = (ready, made, e)
  last_or_none done ready made None e = λ i n. let f : None ≡ Some i = sym e ∙ ap (λ r. first_new (reverse r) done) (made_one (reverse done) ready n.0 made n.1) ∙ n.2 in cc

  -- each was the last of those made ready, when it was taken
  abbrev pub WereTaken : List ObjectId → Type 0
  WereTaken [] = Unit {0}
  WereTaken (c ∷ taken) = ((ready : List ObjectId) → IsMadeReady time walked In tips taken ready → (is_among c ready ≡ true) × (is_among c taken ≡ false)) × WereTaken taken

  pub were_on : (done : List ObjectId) (i : ObjectId) (made : List ObjectId) → IsMadeReady time walked In tips (reverse done) made → WereTaken (reverse done) → Contains made i → is_among i done ≡ false → WereTaken (reverse (done ++ i ∷ []))
  were_on done i made is_made were c untaken =
      subst WereTaken (sym (reverse-append done (i ∷ []))) ((λ ready h. (among_from i ready (subst (λ r. Contains r i) (made_one (reverse done) made ready is_made h) c), among-reverse i done ∙ untaken)), were)

  abbrev pub left_among : List ObjectId → List ObjectId → List ObjectId
  left_among taken ready = filter (λ i. not (is_among i taken)) ready

  module _ (top : (i : ObjectId) → In i → Contains tips i ⊎ ((c : ObjectId) × IsChild walked In c i)) where
    made_more : (c : ObjectId) (taken ready : List ObjectId) (h : IsMadeReady time walked In tips (c ∷ taken) ready) → (is_among c h.0 ≡ true) × (is_among c taken ≡ false) → AreReady walked In (Contains taken) (left_among taken h.0) → AreReady walked In (Contains (c ∷ taken)) (left_among (c ∷ taken) ready)
    made_more c taken ready h here before =
        takes_ready walked In (Contains taken) (Contains (c ∷ taken)) c (left_among taken h.0) (left_among (c ∷ taken) h.0) h.1 (left_among (c ∷ taken) ready)
        (record { before = λ i t. Contains-there i c taken t; now = Contains-here c taken; either = λ i t. ⊎_elim (λ e. inr e) (λ t. inl t) (Contains-cons_cases i c taken t) })
        before (λ i. left taken h.0 i ∙ split i (is_same i c) refl ∙ ap (λ b. is_same i c || b) (sym (left (c ∷ taken) h.0 i)))
        (λ m. true≢false (sym (among_from c _ m) ∙ left (c ∷ taken) h.0 c ∙ ap (λ b. not (b || is_among c taken) && is_among c h.0) (same_itself c)))
        h.3 (λ i. left (c ∷ taken) ready i ∙ ap (λ b. not (is_among i (c ∷ taken)) && b) (ap (is_among i) h.4 ∙ among-append i h.0 h.1) ∙ joined i (is_among i (c ∷ taken)) refl ∙ ap (λ b. b || is_among i h.1) (sym (left (c ∷ taken) h.0 i)))
      where
        left : (done made : List ObjectId) (i : ObjectId) → is_among i (left_among done made) ≡ (not (is_among i done) && is_among i made)
        left done made i = among-filter i (λ j. not (is_among j done)) made

        split : (i : ObjectId) (b : Bool) → is_same i c ≡ b → (not (is_among i taken) && is_among i h.0) ≡ (b || (not (b || is_among i taken) && is_among i h.0))
        split i true e = λ k. not ((ap (λ y. is_among y taken) (same_is i c e) ∙ here.1) k) && (ap (λ y. is_among y h.0) (same_is i c e) ∙ here.0) k
        split i false e = refl

        joined : (i : ObjectId) (b : Bool) → is_among i (c ∷ taken) ≡ b → (not b && (is_among i h.0 || is_among i h.1)) ≡ ((not b && is_among i h.0) || is_among i h.1)
        joined i true e = sym (false_from_ne_true _ (λ t. (keeps_from (IsReady walked In (Contains (c ∷ taken))) h.3 i (among_is i h.1 t)).1.left (among_is i (c ∷ taken) e)))
        joined i false e = refl

    -- those made ready that aren't taken are the ready ones
    made_ready : (taken ready : List ObjectId) → WereTaken taken → IsMadeReady time walked In tips taken ready → AreReady walked In (Contains taken) (left_among taken ready)
    made_ready [] ready were h =
        starts_ready walked In (Contains []) tips h.0 (left_among [] ready) (λ i c. no_member i c) top h.1
        (λ i. among-filter i (λ j. true) ready ∙ ap (is_among i) h.2 ∙ among-by_time time i h.0)
    made_ready (c ∷ taken) ready were h = made_more c taken ready h (were.0 h.0 h.2) (made_ready taken h.0 were.1 h.2)

    pub are_left : (done : List ObjectId) → WereTaken (reverse done) → (ready : List ObjectId) → IsMadeReady time walked In tips (reverse done) ready → AreReady walked In (Contains done) (left_among (reverse done) ready)
    are_left done were ready h = are_ready_alike walked In (Contains (reverse done)) (Contains done) (λ j. reverse_in j done) (λ j. in_reverse j done) (left_among (reverse done) ready) (made_ready (reverse done) ready were h)

    -- in either order what comes next is ready
    pub next_is_ready : (s : Sorting) (done : List ObjectId) (i : ObjectId) → WereTaken (reverse done) → IsNextBy s time walked In tips done i → IsReadyNext walked In done i × WereTaken (reverse (done ++ i ∷ []))
    next_is_ready order.DateOrder done i were h =
        let f : Contains h.0 i × ((not (is_among i done) && is_no_worse NewestFirst (time i) (time i)) ≡ true) = found_passes _ h.0 i h.2.first in
        (h.2.best.among, were_on done i h.0 h.1 were f.0 (not-true _ (and_parts _ _ f.1).0))
    next_is_ready order.TopoOrder done i were h =
        let f : Contains (reverse h.0) i × (not (is_among i done) ≡ true) = found_passes (λ j. not (is_among j done)) (reverse h.0) i h.2 in (
          (are_left done were h.0 h.1).each i (among-filter i (λ j. not (is_among j (reverse done))) h.0 ∙ and_from _ _ (ap not (among-reverse i done) ∙ f.1) (among_from i h.0 (reverse_in i h.0 f.0))),
          were_on done i h.0 h.1 were (reverse_in i h.0 f.0) (not-true _ f.1),
        )

    among_left : (done ready : List ObjectId) (i : ObjectId) → is_among i (untaken done ready) ≡ is_among i (left_among (reverse done) ready)
    among_left done ready i =
        among-filter i (λ j. not (is_among j done)) ready ∙ ap (λ b. not b && is_among i ready) (sym (among-reverse i done)) ∙ sym (among-filter i (λ j. not (is_among j (reverse done))) ready)

    -- and something does where anything is
    pub ready_picks : (s : Sorting) (done : List ObjectId) → WereTaken (reverse done) → (ready : List ObjectId) → IsMadeReady time walked In tips (reverse done) ready → Picks (IsReadyNext walked In) (IsNextBy s time walked In tips) done
    ready_picks order.TopoOrder done were ready made = (first_new (reverse ready) done, go (first_new (reverse ready) done) refl)
      where
        go : (o : Option ObjectId) → first_new (reverse ready) done ≡ o → MatchOption o ((i : ObjectId) → IsReadyNext walked In done i → ⊥) (IsLastMade time walked In tips done)
        go (Some i) e = (ready, made, e)
        go None e = λ i r.
            let m : (not (is_among i (reverse done)) ≡ true) × (is_among i ready ≡ true) = and_parts _ _ (sym (among-filter i (λ j. not (is_among j (reverse done))) ready) ∙ (are_left done were ready made).all i r) in
            let n : not (is_among i done) ≡ false = none_passes (λ j. not (is_among j done)) (reverse ready) i e (in_reverse i ready (among_is i ready m.1)) in
            true≢false (sym m.0 ∙ ap not (among-reverse i done) ∙ n)
    ready_picks order.DateOrder done were ready made = (best NewestFirst time (untaken done ready), go (best NewestFirst time (untaken done ready)) (best_of NewestFirst time (IsReadyNext walked In done) ready done left_is (best NewestFirst time (untaken done ready)) refl))
      where
        left_is : (i : ObjectId) → Contains (untaken done ready) i ↔ IsReadyNext walked In done i
        left_is i =
            let left = are_left done were ready made in
            (λ c. left.each i (sym (among_left done ready i) ∙ among_from i _ c), λ r. among_is i _ (among_left done ready i ∙ left.all i r))

        go : (o : Option ObjectId) → MatchOption o ((i : ObjectId) → IsReadyNext walked In done i → ⊥) (IsFirstBest NewestFirst time (IsReadyNext walked In done) ready done) → MatchOption o ((i : ObjectId) → IsReadyNext walked In done i → ⊥) (IsBestMade time walked In tips done)
        go (Some i) h = (ready, made, h)
        go None h = h

    -- so each is ready when it comes, and a list ends where none is
    pub ready_begins : (s : Sorting) (ids : List ObjectId) → IsBeginningBy (IsNextBy s time walked In tips) ids → IsBeginningBy (IsReadyNext walked In) ids
    ready_begins s = begins_as (IsNextBy s time walked In tips) (λ taken. WereTaken (reverse taken)) (λ taken i were n. (next_is_ready s taken i were n).1) tt (IsReadyNext walked In) (λ taken i were n. (next_is_ready s taken i were n).0)

    pub ready_list : (s : Sorting) (ids : List ObjectId) → IsListBy (IsNextBy s time walked In tips) ids → IsListBy (IsReadyNext walked In) ids
    ready_list s ids list =
        let were : WereTaken (reverse ids) = kept_along (IsNextBy s time walked In tips) (λ taken. WereTaken (reverse taken)) (λ taken i were n. (next_is_ready s taken i were n).1) tt ids list.begins in
        record { begins = ready_begins s ids list.begins; ends = λ i r. made_some (reverse ids) (λ ready made. none_has (IsReadyNext walked In) (IsNextBy s time walked In tips) ids (ready_picks s ids were ready made) list.ends i r) }
