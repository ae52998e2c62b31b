-- What a walk does while it is drawn, whatever faults come: it takes one commit after the other, and may end in a fault. The laws of runs go along these steps.
use Rattle.std.proofs.Common.{◌≡◌, ◌⊎◌, List, [], ◌∷◌, Bool, true, false, Option, Some, None, Result, Ok, Err, Contains, refl, sym, subst, inl, inr, ⊎_elim}
use Rattle.gix_topo.proofs.Common.{Contains-append_cases, Drains, Yields, ObjectId, id_cmp, Objects, Info, Sorting, Error, TopoWalk, Ready, Counted, Chooses, IsNextReady, IsFault, IsLate, Takes, after, Next, refused, no_member}
use Rattle.std.specs.FinSet as set
use Rattle.gix_revwalk.specs.Infos.{IsInfo}
use Rattle.gix_topo.specs.Walk.{ended, given, failed}
use Rattle.gix_topo.proofs.Readiness.ReadyIds.{chosen_in, others_in}

-- where a commit is chosen something is ready
none_chosen : (s : Sorting) (ready : List Ready) (c : Ready) (others : List Ready) → Chooses s ready c others → ready ≡ [] → ⊥
none_chosen s ready c others h e = no_member c (subst (λ rs. Contains rs c) e (chosen_in s ready c others h))

module _ {F P : Type 0} (objects : F → Objects) (faulty : F → ObjectId → Type 0) (answers : P → ObjectId → Bool → P → Type 0) where
  -- the commits taken while these answers are drawn
  pub data Draws : TopoWalk F P → List ObjectId → List (Result Info Error) → TopoWalk F P → Type 0 where
    rests : {w : TopoWalk F P} → Draws w [] [] w
    shows : {w new : TopoWalk F P} {c : Ready} {counted : Counted} {ready : List Ready} {q : P} {info : Info} {ids : List ObjectId} {list : List (Result Info Error)} → Takes objects faulty answers w c counted ready → answers w.predicate c.id true q
        → IsInfo info c.id c.parents c.generation (Some c.time) → Draws (after objects faulty answers w c counted ready q) ids list new → Draws w (c.id ∷ ids) (Ok info ∷ list) new
    hides : {w new : TopoWalk F P} {c : Ready} {counted : Counted} {ready : List Ready} {q : P} {ids : List ObjectId} {list : List (Result Info Error)} → Takes objects faulty answers w c counted ready → answers w.predicate c.id false q
        → Draws (after objects faulty answers w c counted ready q) ids list new → Draws w (c.id ∷ ids) list new
    breaks : {w : TopoWalk F P} (c : Ready) (others : List Ready) {counted : Counted} {taken : set.FinSet id_cmp} {e : Error} → Chooses w.plan.sorting w.ready c others → IsFault objects faulty w.plan (IsNextReady objects w.plan w.taken c.id) e
        → IsLate objects w.plan (IsNextReady objects w.plan w.taken c.id) e → Draws w [] (Err e ∷ []) (record w { counted = counted; ready = []; taken = taken })

  -- what is ready after a commit was taken was so before, or was added
  pub ready_after : {w : TopoWalk F P} {c : Ready} {counted : Counted} {ready : List Ready} (t : Takes objects faulty answers w c counted ready) (r : Ready) → Contains ready r → Contains w.ready r ⊎ Contains t.added r
  ready_after {w} {c} {ready = ready} t r m = ⊎_elim (λ o. inl (others_in w.plan.sorting w.ready c t.others t.chosen r o)) (λ a. inr a) (Contains-append_cases t.others t.added r (subst (λ rs. Contains rs r) t.holds m))

  -- where nothing is ready nothing is drawn
  stays : {w new : TopoWalk F P} {ids : List ObjectId} {list : List (Result Info Error)} → Draws w ids list new → w.ready ≡ [] → (list ≡ []) × (w ≡ new)
  stays rests e = (refl, refl)
  stays (shows {w = w} {c = c} t a is d) e = absurd (none_chosen w.plan.sorting w.ready c t.others t.chosen e)
  stays (hides {w = w} {c = c} t a d) e = absurd (none_chosen w.plan.sorting w.ready c t.others t.chosen e)
  stays (breaks {w = w} c others ch f l) e = absurd (none_chosen w.plan.sorting w.ready c others ch e)

  -- an answer, and what is drawn after it
  one_drawn : {w mid new : TopoWalk F P} {answer : Result Info Error} {list : List (Result Info Error)} → Next objects faulty answers w (Some answer) mid → (ids : List ObjectId) × Draws mid ids list new → (ids : List ObjectId) × Draws w ids (answer ∷ list) new
  one_drawn (given t a is) r = (_, shows t a is r.1)
  one_drawn (refused {c = c} t a next) r = let k = one_drawn next r in (c.id ∷ k.0, hides t a k.1)
  one_drawn {w} {new = new} {answer = answer} {list = list} (failed c others ch f l) r =
      let k : (list ≡ []) × (_ ≡ new) = stays r.1 refl in
      ([], subst (λ x. Draws w [] (answer ∷ x) new) (sym k.0) (subst (Draws w [] (answer ∷ [])) k.1 (breaks c others ch f l)))

  drawn : (list : List (Result Info Error)) (w mid new : TopoWalk F P) → Yields (Next objects faulty answers) w list mid → (ids : List ObjectId) × Draws mid ids [] new → (ids : List ObjectId) × Draws w ids list new
  drawn [] w mid new y r = subst (λ v. (ids : List ObjectId) × Draws v ids [] new) (sym y) r
  drawn (answer ∷ list) w mid new y r = one_drawn y.1 (drawn list y.0 mid new y.2 r)

  pub all_drawn : (list : List (Result Info Error)) (w new : TopoWalk F P) → Yields (Next objects faulty answers) w list new → (ids : List ObjectId) × Draws w ids list new
  all_drawn list w new y = drawn list w new new y ([], rests)

  -- the end, where nothing is ready
  pub ended_drawn : {w new : TopoWalk F P} → Next objects faulty answers w None new → (ids : List ObjectId) × Draws w ids [] new × (new.ready ≡ [])
  ended_drawn (ended e) = ([], rests, e)
  ended_drawn (refused {c = c} t a next) = let k = ended_drawn next in (c.id ∷ k.0, hides t a k.1, k.2)

  pub drained : (list : List (Result Info Error)) (w : TopoWalk F P) → Drains (Next objects faulty answers) w list → (ids : List ObjectId) × (new : TopoWalk F P) × Draws w ids list new × (new.ready ≡ [])
  drained list w d =
      let e = ended_drawn d.1.2 in
      let r = drawn list w d.1.0 d.0 d.1.1 (e.0, e.1) in
      (r.0, d.0, r.1, e.2)

  pub nothing_more : {w new : TopoWalk F P} → (o : Option (Result Info Error)) → Next objects faulty answers w o new → w.ready ≡ [] → o ≡ None
  nothing_more None n e = refl
  nothing_more (Some answer) n e = let k : (answer ∷ [] ≡ []) × _ = stays (one_drawn n ([], rests)).1 e in cc
