-- What a walk in depth does with the entries of a tree, up to where it leaves the tree.
use Rattle.std.specs.Prelude.{◌≡◌, List, [], ◌∷◌, true, false, Option, Some, None, Result, Ok, Err}
use Rattle.gix_hash.specs.declared.ObjectId.{ObjectId}
use Rattle.gix_object.specs.declared.decode.Error.{Error as DecodeError}
use Rattle.gix_hash.specs.Id.{is_among}
use Rattle.gix_object.specs.TreeItems.{TreeEntry}
use Rattle.gix_tree.specs.declared.breadthfirst.Error.{Error}
use Rattle.gix_tree.specs.declared.breadthfirst.Error.TheVariants as error
use Rattle.gix_tree.specs.declared.depthfirst.Stop.{Stop}
use Rattle.gix_tree.specs.declared.depthfirst.Stop.TheVariants as stop
use Rattle.gix_tree.specs.Delegate.{Action, Call, PushPath, PopPath, PushBack, Refused, Run, RefusedIn}
use Rattle.gix_tree.specs.Visits.{Items, Leaves, Enters, Cycles, Breaks, outcome, visit_call}
use Rattle.gix_tree.specs.Script.{depth_calls}
use Rattle.gix_tree.specs.Inside.ShowsEntry.{visit_below}

-- below trees of these ids
module _ {V : Type 0} (steps : V → Call → V → Type 0) (ids : List ObjectId) where
  -- the delegate queues the path to come back by and the path of the entry's tree, where no tree above the entry has its id
  pub data Descends (e : TreeEntry) (old : V) : V → Result (Unit {0}) Error → Type 0 where
    cycled : is_among e.id ids ≡ true → Descends e old old (Err (error.Cycle e.id))
    no_memory : is_among e.id ids ≡ false → Descends e old old (Err error.Memory)
    refused_first : {new : V} → is_among e.id ids ≡ false → steps old Refused new → Descends e old new (Err error.Memory)
    refused : {mid new : V} → is_among e.id ids ≡ false → steps old (PushBack []) mid → steps mid Refused new → Descends e old new (Err error.Memory)
    told : {mid new : V} → is_among e.id ids ≡ false → steps old (PushBack []) mid → steps mid (PushBack e.name) new → Descends e old new (Ok tt)

  pub data ShowsBelow (e : TreeEntry) (old : V) : V → Result (Option Stop) Error → Type 0 where
    left : {new : V} (a : Action) → outcome (visit_below ids e a) ≡ Leaves → Run steps old (depth_calls (visit_below ids e a)) new → ShowsBelow e old new (Ok None)
    entered : {new : V} (a : Action) → outcome (visit_below ids e a) ≡ Enters → Run steps old (depth_calls (visit_below ids e a)) new → ShowsBelow e old new (Ok (Some (stop.Into e.id)))
    broke : {new : V} (a : Action) → outcome (visit_below ids e a) ≡ Breaks → Run steps old (depth_calls (visit_below ids e a)) new → ShowsBelow e old new (Ok (Some stop.Broken))
    cycled : {new : V} (a : Action) → outcome (visit_below ids e a) ≡ Cycles → Run steps old (depth_calls (visit_below ids e a)) new → ShowsBelow e old new (Err (error.Cycle e.id))
    -- memory ran out for the descent
    no_memory : {new : V} (a : Action) → outcome (visit_below ids e a) ≡ Enters → Run steps old (PushPath e.name ∷ visit_call (visit_below ids e a) ∷ PopPath ∷ []) new → ShowsBelow e old new (Err error.Memory)
    -- the delegate refused a call
    refused : {new : V} {made : List Call} (a : Action) → RefusedIn (depth_calls (visit_below ids e a)) made → Run steps old made new → ShowsBelow e old new (Err error.Memory)

  -- The entries are shown up to the end, to one that the tree is left behind, or to what ends the walk. The last are the items
  -- that are left behind an entry that is gone into.
  pub data ShowsUpTo : Items → V → V → Result Stop Error → Items → Type 0 where
    whole : {old : V} {left : Items} → ShowsUpTo [] old old (Ok stop.End) left
    fault : {why : DecodeError} {items left : Items} {old : V} → ShowsUpTo (Err why ∷ items) old old (Err (error.ObjectDecode why)) left
    ends : {e : TreeEntry} {items left : Items} {old new : V} {why : Error} → ShowsBelow e old new (Err why) → ShowsUpTo (Ok e ∷ items) old new (Err why) left
    stops : {e : TreeEntry} {items : Items} {old new : V} {how : Stop} → ShowsBelow e old new (Ok (Some how)) → ShowsUpTo (Ok e ∷ items) old new (Ok how) items
    goes_on : {e : TreeEntry} {items left : Items} {old mid new : V} {answer : Result Stop Error} → ShowsBelow e old mid (Ok None) → ShowsUpTo items mid new answer left → ShowsUpTo (Ok e ∷ items) old new answer left
