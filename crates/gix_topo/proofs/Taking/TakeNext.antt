-- One call of `next`: a commit after the other is taken, until one is shown.
use Rattle.std.proofs.Common.{◌≡◌, ◌⊎◌, ◌≤◌, suc, List, [], Bool, true, false, Option, Some, None, Result, Ok, Err, Contains, sym, ap, subst, ⊎_elim}
use Rattle.gix_topo.proofs.Common.{MakesProgress, at_most, ObjectId, Objects, Info, Error, Walk, ReadySet, plan_of, counted_by, taken_of, walk_of, TakesOne, IsTakingFault, answers_left, IsHeld, IsOpen, TakesReady, TakesNext, TopoWalk}
use Rattle.gix_topo.proofs.Common.{Ready, Chooses, IsNextReady, IsFault, IsLate, Takes, after, Next, no_member}
use Rattle.gix_topo.specs.Inside.Steady.{ended, given, failed}
use Rattle.gix_topo.specs.Walk as machine
use Rattle.gix_revwalk.specs.Infos.{IsInfo}
use Rattle.gix_topo.proofs.Taking.InvariantKept.{held_on, takes_on}
use Rattle.gix_topo.proofs.Taking.TakingFaults.{taking_fault}
use Rattle.gix_topo.proofs.Run.Ends.{takes_left, next_left}
use Rattle.gix_topo.proofs.Readiness.ReadyIds.{chosen_in}

-- a walk without the commit whose turn it is goes over the same
pub popped : {F : Type 0} (w : Walk F) (rest : ReadySet) → rest.sorting ≡ w.ready.sorting → plan_of (record w { ready = rest }) ≡ plan_of w
popped w rest same = λ k. record { store = w.counting.reader.find; rows = (plan_of w).rows; parents = w.counting.parents; sorting = same k; tips = w.tips.items; ends = w.ends.items }

module _ {F : Type 0} (objects : F → Objects) (faulty : F → ObjectId → Type 0) (w : Walk F) (rest : ReadySet) (same : rest.sorting ≡ w.ready.sorting) (r : Ready) (chosen : Chooses w.ready.sorting w.ready.commits r rest.commits) (may : IsOpen objects faulty w) where
  -- where a commit is ready the walk is held
  held : IsHeld objects faulty w
  held = ⊎_elim (λ e. absurd (no_member r (subst (λ rs. Contains rs r) e (chosen_in w.ready.sorting w.ready.commits r rest.commits chosen)))) (λ h. h) may

  -- a commit was taken
  pub turned : (added : List Ready) (new : Walk F) → TakesOne objects faulty (record w { ready = rest }) r added new → TakesReady objects faulty w r new × IsHeld objects faulty new
  turned added new t = (takes_on objects faulty w rest r chosen same added new t held, held_on objects faulty w rest r chosen same added new t held)

  -- it can't be
  pub turn_faults : (e : Error) → IsTakingFault objects faulty (record w { ready = rest }) r e → IsFault objects faulty (plan_of w) (IsNextReady objects (plan_of w) (taken_of w) r.id) e × IsLate objects (plan_of w) (IsNextReady objects (plan_of w) (taken_of w) r.id) e
  turn_faults e f = taking_fault objects faulty w held rest same r chosen e f

module _ {F : Type 0} (objects : F → Objects) (faulty : F → ObjectId → Type 0) where
  -- a commit was taken
  took : {w new : Walk F} {info : Info} → TakesNext objects faulty w (Some (Ok info)) new → (r : Ready) × TakesReady objects faulty w r new × IsInfo info r.id r.parents r.generation (Some r.time)
  took (given t is) = (_, t, is)

  -- where a commit is taken something was ready
  pub turn_asks : {w new : Walk F} {o : Option (Result Info Error)} {Can : Type 0} → TakesNext objects faulty w o new → (info : Info) → o ≡ Some (Ok info) → Can ⊎ (w.ready.commits ≡ []) → Can
  turn_asks {w} {new} n info k can =
      let g = took (subst (λ o. TakesNext objects faulty w o new) k n) in
      ⊎_elim (λ c. c) (λ e. absurd (no_member g.0 (subst (λ rs. Contains rs g.0) e (chosen_in w.ready.sorting w.ready.commits g.0 g.1.takes.others g.1.takes.chosen)))) can

  -- nothing is ready after a fault
  pub turn_spent : {w new : Walk F} {o : Option (Result Info Error)} → TakesNext objects faulty w o new → (e : Error) → o ≡ Some (Err e) → new.ready.commits ≡ []
  turn_spent (ended n s) e k = cc
  turn_spent (given t is) e k = cc
  turn_spent (failed r others c f l s n) e k = n

module _ {F P : Type 0} (objects : F → Objects) (faulty : F → ObjectId → Type 0) (answers : P → ObjectId → Bool → P → Type 0) where
  after_as : (w new : Walk F) (p q : P) (r : Ready) → TakesReady objects faulty w r new → after objects faulty answers (walk_of w p) r (counted_by new.counting) new.ready.commits q ≡ walk_of new q
  after_as w new p q r t = λ k. record { plan = sym t.plan k; predicate = q; counted = counted_by new.counting; ready = new.ready.commits; taken = sym t.taken k }

  -- what is taken doesn't depend on the predicate
  taken_as : (w new : Walk F) (p : P) (r : Ready) → TakesReady objects faulty w r new → Takes objects faulty answers (walk_of w p) r (counted_by new.counting) new.ready.commits
  taken_as w new p r t = let a = t.takes.adds in record {
    others = t.takes.others;
    added = t.takes.added;
    chosen = t.takes.chosen;
    adds = record { distinct = a.distinct; unmade = a.unmade; named = a.named; found = a.found; became = a.became; stored = a.stored; stands = a.stands; depth = a.depth; counting = a.counting };
    holds = t.takes.holds;
  }

  -- it is shown
  pub turn_given : {w new : Walk F} {o : Option (Result Info Error)} → TakesNext objects faulty w o new → (info : Info) → o ≡ Some (Ok info) → (p q : P) → answers p info.id true q → Next objects faulty answers (walk_of w p) (Some (Ok info)) (walk_of new q)
  turn_given {w} {new} n info k p q a =
      let g = took objects faulty (subst (λ o. TakesNext objects faulty w o new) k n) in
      subst (λ x. Next objects faulty answers (walk_of w p) (Some (Ok info)) x) (after_as w new p q g.0 g.1) (machine.given (taken_as w new p g.0 g.1) (subst (λ i. answers p i true q) g.2.same_id a) g.2)

  -- it isn't shown, and the call goes on
  pub turn_refused : {w new : Walk F} {o : Option (Result Info Error)} → TakesNext objects faulty w o new → (info : Info) → o ≡ Some (Ok info) → (p q : P) → answers p info.id false q → (answer : Option (Result Info Error)) (last : TopoWalk F P) → Next objects faulty answers (walk_of new q) answer last → Next objects faulty answers (walk_of w p) answer last
  turn_refused {w} {new} n info k p q a answer last next =
      let g = took objects faulty (subst (λ o. TakesNext objects faulty w o new) k n) in
      machine.refused (taken_as w new p g.0 g.1) (subst (λ i. answers p i false q) g.2.same_id a) (subst (λ x. Next objects faulty answers x answer last) (sym (after_as w new p q g.0 g.1)) next)

  -- a fault
  pub turn_failed : {w new : Walk F} {o : Option (Result Info Error)} → TakesNext objects faulty w o new → (e : Error) → o ≡ Some (Err e) → (p : P) → Next objects faulty answers (walk_of w p) (Some (Err e)) (walk_of new p)
  turn_failed (ended n s) e k p = cc
  turn_failed (given t is) e k p = cc
  turn_failed {w = w} {new = new} (failed r others {e = x} c f l s n) e k p =
      let same : x ≡ e = cc in
      subst (λ y. Next objects faulty answers (walk_of w p) (Some (Err y)) (walk_of new p)) same
      (subst (λ y. Next objects faulty answers (walk_of w p) (Some (Err x)) y) (λ i. record { plan = sym s i; predicate = p; counted = counted_by new.counting; ready = sym n i; taken = taken_of new }) (machine.failed r others c f l))

  -- nothing is ready
  pub turn_ended : {w new : Walk F} {o : Option (Result Info Error)} → TakesNext objects faulty w o new → o ≡ None → (p : P) → Next objects faulty answers (walk_of w p) None (walk_of new p)
  turn_ended {w = w} {new = new} (ended n s) k p =
      subst (λ y. Next objects faulty answers (walk_of w p) None y) (ap (λ x. record { plan = x.plan; predicate = p; counted = x.counted; ready = x.ready; taken = x.taken }) (sym s)) (machine.ended n)
  turn_ended (given t is) k p = cc
  turn_ended (failed r others c f l s n) k p = cc

  -- each commit taken leaves less
  pub turn_less : {w new : Walk F} {o : Option (Result Info Error)} → TakesNext objects faulty w o new → (info : Info) → o ≡ Some (Ok info) → (p q : P) → suc (answers_left objects (walk_of new q)) ≤ answers_left objects (walk_of w p)
  turn_less {w} {new} n info k p q =
      let g = took objects faulty (subst (λ o. TakesNext objects faulty w o new) k n) in
      subst (λ x. suc (answers_left objects x) ≤ answers_left objects (walk_of w p)) (after_as w new p q g.0 g.1) (takes_left objects faulty answers (walk_of w p) g.0 (counted_by new.counting) new.ready.commits q (taken_as w new p g.0 g.1))

  -- an answer leaves fewer
  pub progresses : (old new : TopoWalk F P) (can : TopoWalk F P → Type 0) (answer : Option (Result Info Error)) → Next objects faulty answers old answer new → can new → MakesProgress can (λ walk. at_most (answers_left objects walk)) old answer new
  progresses old new can None n c = record { on = λ _. tt; keeps = tt; rests = λ _. tt }
  progresses old new can (Some answer) n c = record { on = λ _. (c, tt, next_left objects faulty answers n); keeps = c; rests = λ _. tt }
