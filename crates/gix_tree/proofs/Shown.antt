-- An entry shown by a walk by levels, by the calls that were made.
use Rattle.std.proofs.Common.{◌≡◌, Bool, true, false, List, [], ◌∷◌, Ok, Err, Result, refl, ap, ◌∙◌, IsErrAnd, Continue, Break}
use Rattle.gix_tree.proofs.Common.{ObjectId, is_among, TreeEntry, is_tree, Error, Action, Call, PushPath, PopPath, Refused, RefusedIn, here, later, takes_memory, LevelQueue, Outcome, Leaves, Enters, Cycles, outcome, outcome_of}
use Rattle.gix_tree.proofs.Common.{visit_call, visit_call_of, level_calls, ShowsEntry, Queues, visit_below}
use Rattle.gix_tree.specs.declared.breadthfirst.Error.TheVariants as error
use Rattle.gix_tree.specs.Inside.ShowsEntry as shows

-- what the exit of a `?` returns
pub failed_so : {T E : Type 0} (why : E) (r : Result T E) → IsErrAnd r (λ e. e ≡ why) → r ≡ Err why
failed_so why (Ok done) h = absurd h
failed_so why (Err e) h = ap Err h

pub visit_takes : (t : Bool) (e : TreeEntry) (a : Action) → takes_memory (visit_call_of t e a) ≡ true
visit_takes true e a = refl
visit_takes false e a = refl

pub plain_leaves : (t into known : Bool) → (into ≡ true → t ≡ false) → outcome_of t (Continue into) known ≡ Leaves
plain_leaves false true known h = refl
plain_leaves false false known h = refl
plain_leaves true false known h = refl
plain_leaves true true known h = let e = h refl in cc

-- where a tree's visit leads, by whether its id is known
pub leads : (ids : List ObjectId) (e : TreeEntry) (known : Bool) (o : Outcome) → is_tree e.mode ≡ true → is_among e.id ids ≡ known → outcome_of true (Continue true) known ≡ o
    → outcome (visit_below ids e (Continue true)) ≡ o
leads ids e known o t k h = (λ i. outcome_of (t i) (Continue true) (k i)) ∙ h

module _ {V : Type 0} (steps : V → Call → V → Type 0) (e : TreeEntry) (queue : LevelQueue) (old : V) where
  pub push_refused : (new : V) (left : LevelQueue) → steps old Refused new → ShowsEntry steps e old queue new left (Err error.Memory)
  push_refused new left s = shows.refused (Continue false) (here refl) (new, s, refl)

  pub visit_refused : (mid new : V) (left : LevelQueue) → steps old (PushPath e.name) mid → steps mid Refused new → ShowsEntry steps e old queue new left (Err error.Memory)
  visit_refused mid new left p s = shows.refused (Continue false) (later (here (visit_takes (is_tree e.mode) e (Continue false)))) (mid, p, (new, s, refl))

  pub visit_breaks : (b : Unit {0}) (mid new : V) → steps old (PushPath e.name) mid → steps mid (visit_call_of (is_tree e.mode) e (Break b)) new → ShowsEntry steps e old queue new queue (Err error.Cancelled)
  visit_breaks b mid new p s = shows.broke (Break b) refl (mid, p, (new, s, refl))

  pub visit_leaves : (into : Bool) (mid low new : V) → (into ≡ true → is_tree e.mode ≡ false) → steps old (PushPath e.name) mid → steps mid (visit_call_of (is_tree e.mode) e (Continue into)) low → steps low PopPath new → ShowsEntry steps e old queue new queue (Ok tt)
  visit_leaves into mid low new h p s q =
      let leaves = plain_leaves (is_tree e.mode) into (is_among e.id queue.known) h in
      shows.left (Continue into) leaves (rw leaves (mid, p, (low, s, (new, q, refl))))

  -- the entry's tree isn't queued, and the walk ends
  pub queue_ends : (mid low new : V) (left : LevelQueue) (why : Error) → is_tree e.mode ≡ true → steps old (PushPath e.name) mid → steps mid (visit_call_of (is_tree e.mode) e (Continue true)) low → Queues steps e low queue new left (Err why) → ShowsEntry steps e old queue new left (Err why)
  queue_ends mid low new left why t p s (shows.cycled k) =
      let cycles = leads queue.known e true Cycles t k refl in
      shows.cycled (Continue true) cycles (rw cycles (mid, p, (low, s, refl)))
  queue_ends mid low new left why t p s (shows.no_memory k) = shows.no_memory (Continue true) (leads queue.known e false Enters t k refl) (mid, p, (low, s, refl))
  queue_ends mid low new left why t p s (shows.refused {mid = deep} k q r) =
      let enters = leads queue.known e false Enters t k refl in
      let made : RefusedIn (level_calls (visit_below queue.known e (Continue true))) (PushPath e.name ∷ visit_call (visit_below queue.known e (Continue true)) ∷ PopPath ∷ Refused ∷ []) = rw enters (later (later (later (here refl)))) in
      shows.refused (Continue true) made (mid, p, (low, s, (deep, q, (new, r, refl))))

  pub queue_goes_on : (mid low front new : V) (left : LevelQueue) → is_tree e.mode ≡ true → steps old (PushPath e.name) mid → steps mid (visit_call_of (is_tree e.mode) e (Continue true)) low → Queues steps e low queue front left (Ok tt) → steps front PopPath new → ShowsEntry steps e old queue new left (Ok tt)
  queue_goes_on mid low front new left t p s (shows.entered {mid = deep} k q r) z =
      let enters = leads queue.known e false Enters t k refl in
      shows.entered (Continue true) enters (rw enters (mid, p, (low, s, (deep, q, (front, r, (new, z, refl))))))
