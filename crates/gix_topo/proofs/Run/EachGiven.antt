-- What is known of each commit that is given: as long as the rows are in use its generation is its row's, and each of its parents was known. Counting stays exact.
use Rattle.std.proofs.Common.{◌≡◌, List, [], Bool, true, Some, Result, Ok, Err, Contains, refl, sym, ap, ⊎_elim, ◌∙◌, subst}
use Rattle.gix_topo.proofs.Common.{Yields, ObjectId, Objects, row_of, Info, Error, IsAgreeing, Counted, TopoWalk, Ready, row_generation, IsCounting, IsStarted, Takes, Next, refused, TopoPlan, IsKnown, Contains-here, Contains-there}
use Rattle.gix_topo.proofs.Common.{Contains-cons_cases, no_member, only_member}
use Rattle.gix_topo.specs.Walk.{given}
use Rattle.gix_topo.proofs.Readiness.ReadyIds.{chosen_in}
use Rattle.gix_topo.proofs.Run.Draws.{Draws, rests, shows, hides, breaks, ready_after, all_drawn, nothing_more}

module _ {F P : Type 0} (objects : F → Objects) (faulty : F → ObjectId → Type 0) (answers : P → ObjectId → Bool → P → Type 0) where
  -- the ready commits have their rows' generations
  abbrev Tells : TopoWalk F P → Type 0
  Tells w = w.counted.in_use ≡ true → (r : Ready) → Contains w.ready r → r.generation ≡ row_generation (row_of w.plan.rows r.id)

  tells_on : {w : TopoWalk F P} {c : Ready} {counted : Counted} {ready : List Ready} → Takes objects faulty answers w c counted ready → IsAgreeing (objects w.plan.store) w.plan.rows → Tells w → Tells (record w { counted = counted; ready = ready })
  tells_on t agrees h = λ e r m. ⊎_elim (h (t.adds.stands e) r) (λ a. (t.adds.stored agrees r a).told e) (ready_after objects faulty answers t r m)

  told : {w new : TopoWalk F P} {info : Info} → Next objects faulty answers w (Some (Ok info)) new → IsAgreeing (objects w.plan.store) w.plan.rows → Tells w → new.counted.in_use ≡ true → info.generation ≡ row_generation (row_of w.plan.rows info.id)
  told (given {old = w} {c = c} t a is) s h e = is.same_generation ∙ h (t.adds.stands e) c (chosen_in w.plan.sorting w.ready c t.others t.chosen) ∙ ap (λ x. row_generation (row_of w.plan.rows x)) (sym is.same_id)
  told (refused t a next) s h e = told next s (tells_on t s h) e

  told_later : {w mid new : TopoWalk F P} {ids : List ObjectId} {list : List (Result Info Error)} {info : Info} → Draws objects faulty answers w ids list mid → Next objects faulty answers mid (Some (Ok info)) new → IsAgreeing (objects w.plan.store) w.plan.rows → Tells w →
      new.counted.in_use ≡ true → info.generation ≡ row_generation (row_of w.plan.rows info.id)
  told_later rests next s h e = told next s h e
  told_later (shows t a is d) next s h e = told_later d next s (tells_on t s h) e
  told_later (hides t a d) next s h e = told_later d next s (tells_on t s h) e
  told_later {info = info} (breaks c others ch f l) next s h e = let n = nothing_more objects faulty answers (Some (Ok info)) next refl in cc

  pub tells : (walk mid new : TopoWalk F P) (list : List (Result Info Error)) (info : Info) → IsStarted objects faulty answers walk → IsAgreeing (objects walk.plan.store) walk.plan.rows → Yields (Next objects faulty answers) walk list mid → Next objects faulty answers mid (Some (Ok info)) new → new.counted.in_use ≡ true → info.generation ≡ row_generation (row_of walk.plan.rows info.id)
  tells walk mid new list info st s d next e = told_later (all_drawn objects faulty answers list walk mid d).1 next s (λ k x m. (st.stored s x m).told k) e

  -- counting stays exact
  draws_count : {w new : TopoWalk F P} {ids : List ObjectId} {list : List (Result Info Error)} → Draws objects faulty answers w ids list new → IsAgreeing (objects w.plan.store) w.plan.rows → IsCounting objects w.plan w.counted → ((e : Error) → Contains list (Err e) → ⊥) →
      IsCounting objects w.plan new.counted
  draws_count rests s h ok = h
  draws_count (shows {info = info} {list = list} t a is d) s h ok = draws_count d s (t.adds.counting s) (λ e m. ok e (Contains-there (Err e) (Ok info) list m))
  draws_count (hides t a d) s h ok = draws_count d s (t.adds.counting s) ok
  draws_count (breaks c others {e = e} ch f l) s h ok = absurd (ok e (Contains-here (Err e) []))

  pub counts : (walk new : TopoWalk F P) (list : List (Result Info Error)) → IsStarted objects faulty answers walk → IsAgreeing (objects walk.plan.store) walk.plan.rows → Yields (Next objects faulty answers) walk list new → ((e : Error) → Contains list (Err e) → ⊥) → IsCounting objects walk.plan new.counted
  counts walk new list st s y ok = draws_count (all_drawn objects faulty answers list walk new y).1 s (st.counting s) ok

  -- these ids are known
  abbrev AreKnown : TopoPlan F → List ObjectId → Type 0
  AreKnown plan ids = (p : ObjectId) → Contains ids p → (in_use : Bool) × IsKnown (objects plan.store) plan.rows in_use p

  abbrev Knows : TopoWalk F P → Type 0
  Knows w = (r : Ready) → Contains w.ready r → AreKnown w.plan r.parents

  knows_on : {w : TopoWalk F P} {c : Ready} {counted : Counted} {ready : List Ready} → Takes objects faulty answers w c counted ready → Knows w → Knows (record w { ready = ready })
  knows_on t h r m p n = ⊎_elim (λ o. h r o p n) (λ a. ((t.adds.found r a).after, (t.adds.found r a).known p n)) (ready_after objects faulty answers t r m)

  draws_known : {w new : TopoWalk F P} {ids : List ObjectId} {list : List (Result Info Error)} → Draws objects faulty answers w ids list new → Knows w → (info : Info) → Contains list (Ok info) → AreKnown w.plan info.parent_ids.items
  draws_known rests h info m = absurd (no_member (Ok info) m)
  draws_known (shows {w = w} {c = c} {info = first} {list = list} t a is d) h info m =
      ⊎_elim (λ s. let same : first ≡ info = cc in subst (λ x. AreKnown w.plan x.parent_ids.items) same (subst (AreKnown w.plan) (sym is.same_parents) (h c (chosen_in w.plan.sorting w.ready c t.others t.chosen)))) (draws_known d (knows_on t h) info) (Contains-cons_cases (Ok info) (Ok first) list m)
  draws_known (hides t a d) h info m = draws_known d (knows_on t h) info m
  draws_known (breaks c others {e = e} ch f l) h info m = let k : Err e ≡ Ok info = only_member (Err e) (Ok info) m in cc

  pub parents_known : (walk new : TopoWalk F P) (list : List (Result Info Error)) (info : Info) → IsStarted objects faulty answers walk → Yields (Next objects faulty answers) walk list new → Contains list (Ok info) → (p : ObjectId) → Contains info.parent_ids.items p → (in_use : Bool) × IsKnown (objects walk.plan.store) walk.plan.rows in_use p
  parents_known walk new list info st y m = draws_known (all_drawn objects faulty answers list walk new y).1 (λ r k p n. ((st.found r k).after, (st.found r k).known p n)) info m
