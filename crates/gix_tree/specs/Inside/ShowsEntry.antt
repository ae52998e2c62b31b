-- What a walk by levels does with the entries of the tree whose turn it is: each is shown, and its tree is queued if it is to
-- be gone into.
use Rattle.std.specs.Prelude.{◌≡◌, List, [], ◌∷◌, true, false, Result, Ok, Err}
use Rattle.gix_hash.specs.declared.ObjectId.{ObjectId}
use Rattle.gix_hash.specs.Id.{is_among}
use Rattle.gix_object.specs.declared.decode.Error.{Error as DecodeError}
use Rattle.gix_object.specs.TreeItems.{TreeEntry}
use Rattle.gix_tree.specs.declared.breadthfirst.Error.{Error}
use Rattle.gix_tree.specs.declared.breadthfirst.Error.TheVariants as error
use Rattle.gix_tree.specs.Delegate.{Action, Call, PushPath, PopPath, PushBack, Refused, Run, RefusedIn}
use Rattle.gix_tree.specs.Inside.LevelQueue.{LevelQueue, queued}
use Rattle.gix_tree.specs.Visits.{Items, Visit, visit, Leaves, Enters, Cycles, Breaks, outcome, visit_call}
use Rattle.gix_tree.specs.Script.{level_calls}

-- a visit below known ids, under no name
abbrev pub visit_below : List ObjectId → TreeEntry → Action → Visit
visit_below ids e a = visit (record { names = []; ids = ids }) e a

module _ {V : Type 0} (steps : V → Call → V → Type 0) where
  -- an entry's tree is queued, where its id isn't known above the entry
  pub data Queues (e : TreeEntry) (old : V) (queue : LevelQueue) : V → LevelQueue → Result (Unit {0}) Error → Type 0 where
    cycled : is_among e.id queue.known ≡ true → Queues e old queue old queue (Err (error.Cycle e.id))
    no_memory : is_among e.id queue.known ≡ false → Queues e old queue old queue (Err error.Memory)
    refused : {mid new : V} {left : LevelQueue} → is_among e.id queue.known ≡ false → steps old PopPath mid → steps mid Refused new → Queues e old queue new left (Err error.Memory)
    entered : {mid new : V} → is_among e.id queue.known ≡ false → steps old PopPath mid → steps mid (PushBack e.name) new → Queues e old queue new (queued queue e.id) (Ok tt)

  pub data ShowsEntry (e : TreeEntry) (old : V) (queue : LevelQueue) : V → LevelQueue → Result (Unit {0}) Error → Type 0 where
    left : {new : V} (a : Action) → outcome (visit_below queue.known e a) ≡ Leaves → Run steps old (level_calls (visit_below queue.known e a)) new → ShowsEntry e old queue new queue (Ok tt)
    entered : {new : V} (a : Action) → outcome (visit_below queue.known e a) ≡ Enters → Run steps old (level_calls (visit_below queue.known e a)) new → ShowsEntry e old queue new (queued queue e.id) (Ok tt)
    broke : {new : V} (a : Action) → outcome (visit_below queue.known e a) ≡ Breaks → Run steps old (level_calls (visit_below queue.known e a)) new → ShowsEntry e old queue new queue (Err error.Cancelled)
    cycled : {new : V} (a : Action) → outcome (visit_below queue.known e a) ≡ Cycles → Run steps old (level_calls (visit_below queue.known e a)) new → ShowsEntry e old queue new queue (Err (error.Cycle e.id))
    -- memory ran out for the queue
    no_memory : {new : V} {left : LevelQueue} (a : Action) → outcome (visit_below queue.known e a) ≡ Enters → Run steps old (PushPath e.name ∷ visit_call (visit_below queue.known e a) ∷ []) new → ShowsEntry e old queue new left (Err error.Memory)
    -- the delegate refused a call
    refused : {new : V} {made : List Call} {left : LevelQueue} (a : Action) → RefusedIn (level_calls (visit_below queue.known e a)) made → Run steps old made new → ShowsEntry e old queue new left (Err error.Memory)

  -- the entries are shown up to the end, or up to what ends the walk
  pub data ShowsTree : Items → V → LevelQueue → V → LevelQueue → Result (Unit {0}) Error → Type 0 where
    whole : {old : V} {queue : LevelQueue} → ShowsTree [] old queue old queue (Ok tt)
    fault : {why : DecodeError} {items : Items} {old : V} {queue : LevelQueue} → ShowsTree (Err why ∷ items) old queue old queue (Err (error.ObjectDecode why))
    ends : {e : TreeEntry} {items : Items} {old new : V} {queue left : LevelQueue} {why : Error} → ShowsEntry e old queue new left (Err why) → ShowsTree (Ok e ∷ items) old queue new left (Err why)
    goes_on : {e : TreeEntry} {items : Items} {old mid new : V} {queue more left : LevelQueue} {answer : Result (Unit {0}) Error} → ShowsEntry e old queue mid more (Ok tt) → ShowsTree items mid more new left answer → ShowsTree (Ok e ∷ items) old queue new left answer
