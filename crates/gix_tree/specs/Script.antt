-- The calls that a walk of trees makes on its delegate around the visits, and how it ends.
use Rattle.std.specs.Prelude.{◌≡◌, ◌≢◌, ℕ, List, [], ◌∷◌, ◌++◌, length, Bool, true, false, Option, Some, None, Ok, Err, slice_get}
use Rattle.std.specs.List.{flat_map}
use Rattle.gix_hash.specs.declared.ObjectId.{ObjectId}
use Rattle.gix_object.specs.declared.decode.Error.{Error as DecodeError}
use Rattle.gix_object.specs.declared.find.existing_iter.Error.{Error as ExistingError}
use Rattle.gix_object.specs.TreeItems.{TreeEntry, is_tree}
use Rattle.gix_tree.specs.declared.breadthfirst.Error.TheVariants as error
use Rattle.gix_tree.specs.Delegate.{Action, Call, PushPath, PopPath, PushBack, PopBack, PopFront, RefusedIn}
use Rattle.gix_tree.specs.Visits.{Items, Place, Visit, visit, inside, Outcome, Leaves, Enters, Cycles, Breaks, outcome, visit_call, Ending, Whole, Broken, Failed, Task, Turn, Show, Fault, shows}
use Rattle.gix_tree.specs.Paths.{known_root}

-- the calls of `breadthfirst` behind a visit, by what it leads to
abbrev pub level_calls_behind : List ℕ → Outcome → List Call
level_calls_behind name Leaves = PopPath ∷ []
level_calls_behind name Enters = PopPath ∷ PushBack name ∷ PopPath ∷ []
level_calls_behind name Cycles = []
level_calls_behind name Breaks = []

-- the calls of `breadthfirst` around a visit
abbrev pub level_calls : Visit → List Call
level_calls v = PushPath v.entry.name ∷ visit_call v ∷ level_calls_behind v.entry.name (outcome v)

-- the calls of `depthfirst` behind a visit of a tree, or of another entry, by what it leads to
abbrev pub depth_calls_behind : List ℕ → Bool → Outcome → List Call
depth_calls_behind name t Leaves = PopPath ∷ []
depth_calls_behind name t Enters = PopPath ∷ PushBack [] ∷ PushBack name ∷ []
depth_calls_behind name t Cycles = PopPath ∷ []
depth_calls_behind name true Breaks = PopPath ∷ []
depth_calls_behind name false Breaks = []

-- the calls of `depthfirst` around a visit
abbrev pub depth_calls : Visit → List Call
depth_calls v = PushPath v.entry.name ∷ visit_call v ∷ depth_calls_behind v.entry.name (is_tree v.entry.mode) (outcome v)

-- a step of a walk by levels: the next tree is entered, or an entry is visited
pub data Step : Type 0 where
  Entered : Step
  Visited : (v : Visit) → Step

-- what is read of a tree, if it is one
abbrev pub items_or_none : Option Items → Items
items_or_none None = []
items_or_none (Some items) = items

-- the whole entries among what is read of a tree
abbrev pub entries_in : Items → List TreeEntry
entries_in [] = []
entries_in (Ok e ∷ items) = e ∷ entries_in items
entries_in (Err why ∷ items) = []

abbrev pub one_step_more : List Step → Step → List Step
one_step_more done step = done ++ step ∷ []

-- `trees` says what is read of the tree that is stored at an id
module _ (trees : ObjectId → Option Items) where
  abbrev pub tasks_behind : Place → TreeEntry → Outcome → List Task
  tasks_behind p e Leaves = []
  tasks_behind p e Enters = Turn (inside p e) e.id ∷ shows (inside p e) (items_or_none (trees e.id))
  tasks_behind p e Cycles = []
  tasks_behind p e Breaks = []

  -- what a step adds to what is to be done: the turn of the tree that a visit goes into, and what is read of it
  abbrev pub tasks_of : Step → List Task
  tasks_of Entered = []
  tasks_of (Visited v) = tasks_behind v.place v.entry (outcome v)

  -- What is to be done after these steps, by the steps alone: the first that has no step yet, of the root's tasks followed by
  -- the tasks that each step added.
  abbrev pub next_of_steps : List Task → List Step → Option Task
  next_of_steps root done = slice_get (root ++ flat_map tasks_of done) (length done)

  -- the entries of the tree at an id; none where there is no tree
  abbrev pub entries_at : ObjectId → List TreeEntry
  entries_at i = entries_in (items_or_none (trees i))

-- `fails` says which look-ups of an id may fail, and how
module _ (trees : ObjectId → Option Items) (fails : ObjectId → ExistingError → Type 0) where
  -- The calls, the visits and the ending of a walk by levels, from a state on. The state says what is to be done next.
  pub data LevelScript {S : Type 0} (next : S → Option Task) (after : S → Step → S) : S → List Call → List Visit → Ending → Type 0 where
    whole : {s : S} → next s ≡ None → LevelScript next after s [] [] Whole
    leaves : {s : S} {p : Place} {e : TreeEntry} {a : Action} {calls : List Call} {visits : List Visit} {end : Ending} → next s ≡ Some (Show p e)
        → outcome (visit p e a) ≡ Leaves → LevelScript next after (after s (Visited (visit p e a))) calls visits end
        → LevelScript next after s (level_calls (visit p e a) ++ calls) (visit p e a ∷ visits) end
    enters : {s : S} {p : Place} {e : TreeEntry} {a : Action} {calls : List Call} {visits : List Visit} {end : Ending} → next s ≡ Some (Show p e)
        → outcome (visit p e a) ≡ Enters → LevelScript next after (after s (Visited (visit p e a))) calls visits end
        → LevelScript next after s (level_calls (visit p e a) ++ calls) (visit p e a ∷ visits) end
    breaks : {s : S} {p : Place} {e : TreeEntry} {a : Action} → next s ≡ Some (Show p e) → outcome (visit p e a) ≡ Breaks
        → LevelScript next after s (level_calls (visit p e a)) (visit p e a ∷ []) Broken
    cycles : {s : S} {p : Place} {e : TreeEntry} {a : Action} → next s ≡ Some (Show p e) → outcome (visit p e a) ≡ Cycles
        → LevelScript next after s (level_calls (visit p e a)) (visit p e a ∷ []) (Failed (error.Cycle e.id))
    turn : {s : S} {p : Place} {i : ObjectId} {items : Items} {calls : List Call} {visits : List Visit} {end : Ending} → next s ≡ Some (Turn p i)
        → trees i ≡ Some items → LevelScript next after (after s Entered) calls visits end → LevelScript next after s (PopFront ∷ calls) visits end
    not_found : {s : S} {p : Place} {i : ObjectId} {why : ExistingError} → next s ≡ Some (Turn p i) → fails i why
        → LevelScript next after s (PopFront ∷ []) [] (Failed (error.Find why))
    fault : {s : S} {why : DecodeError} → next s ≡ Some (Fault why) → LevelScript next after s [] [] (Failed (error.ObjectDecode why))
    -- a growth of the walk's own was refused, at a look-up or for a descent
    no_memory_in_turn : {s : S} {p : Place} {i : ObjectId} → next s ≡ Some (Turn p i) → LevelScript next after s (PopFront ∷ []) [] (Failed error.Memory)
    no_memory_for_descent : {s : S} {p : Place} {e : TreeEntry} (a : Action) → next s ≡ Some (Show p e) → outcome (visit p e a) ≡ Enters
        → LevelScript next after s (PushPath e.name ∷ visit_call (visit p e a) ∷ []) [] (Failed error.Memory)
    -- a call on the delegate was refused; the visit that it belongs to isn't counted
    refused : {s : S} {p : Place} {e : TreeEntry} {made : List Call} (a : Action) → next s ≡ Some (Show p e)
        → RefusedIn (level_calls (visit p e a)) made → LevelScript next after s made [] (Failed error.Memory)

  -- the walk by levels over what is read of a root
  abbrev pub IsLevelScript : Place → Items → List Call → List Visit → Ending → Type 0
  IsLevelScript p root calls visits end = LevelScript (next_of_steps trees (shows p root)) one_step_more [] calls visits end

  -- The calls, the visits and the ending of a walk in depth, over what is read of one tree from some entry on.
  pub data DepthScript : Place → Items → List Call → List Visit → Ending → Type 0 where
    whole : {p : Place} → DepthScript p [] [] [] Whole
    leaves : {p : Place} {e : TreeEntry} {a : Action} {items : Items} {calls : List Call} {visits : List Visit} {end : Ending}
        → outcome (visit p e a) ≡ Leaves → DepthScript p items calls visits end
        → DepthScript p (Ok e ∷ items) (depth_calls (visit p e a) ++ calls) (visit p e a ∷ visits) end
    -- the entry's tree is shown whole, and then what follows the entry
    enters : {p : Place} {e : TreeEntry} {a : Action} {sub items : Items} {calls more : List Call} {visits others : List Visit} {end : Ending}
        → outcome (visit p e a) ≡ Enters → trees e.id ≡ Some sub → DepthScript (inside p e) sub calls visits Whole
        → DepthScript p items more others end → DepthScript p (Ok e ∷ items) (depth_calls (visit p e a) ++ (PopBack ∷ calls ++ PopBack ∷ more))
        (visit p e a ∷ (visits ++ others)) end
    -- the walk ends in the entry's tree
    ends_inside : {p : Place} {e : TreeEntry} {a : Action} {sub items : Items} {calls : List Call} {visits : List Visit} {end : Ending}
        → outcome (visit p e a) ≡ Enters → trees e.id ≡ Some sub → DepthScript (inside p e) sub calls visits end → end ≢ Whole
        → DepthScript p (Ok e ∷ items) (depth_calls (visit p e a) ++ PopBack ∷ calls) (visit p e a ∷ visits) end
    not_found : {p : Place} {e : TreeEntry} {a : Action} {items : Items} {why : ExistingError} → outcome (visit p e a) ≡ Enters → fails e.id why
        → DepthScript p (Ok e ∷ items) (depth_calls (visit p e a)) (visit p e a ∷ []) (Failed (error.Find why))
    breaks : {p : Place} {e : TreeEntry} {a : Action} {items : Items} → outcome (visit p e a) ≡ Breaks
        → DepthScript p (Ok e ∷ items) (depth_calls (visit p e a)) (visit p e a ∷ []) Broken
    cycles : {p : Place} {e : TreeEntry} {a : Action} {items : Items} → outcome (visit p e a) ≡ Cycles
        → DepthScript p (Ok e ∷ items) (depth_calls (visit p e a)) (visit p e a ∷ []) (Failed (error.Cycle e.id))
    fault : {p : Place} {why : DecodeError} {items : Items} → DepthScript p (Err why ∷ items) [] [] (Failed (error.ObjectDecode why))
    -- a growth of the walk's own was refused, at a look-up or for a descent
    no_memory_at_look_up : {p : Place} {e : TreeEntry} {a : Action} {items : Items} → outcome (visit p e a) ≡ Enters
        → DepthScript p (Ok e ∷ items) (depth_calls (visit p e a)) (visit p e a ∷ []) (Failed error.Memory)
    no_memory_for_descent : {p : Place} {e : TreeEntry} {items : Items} (a : Action) → outcome (visit p e a) ≡ Enters
        → DepthScript p (Ok e ∷ items) (PushPath e.name ∷ visit_call (visit p e a) ∷ PopPath ∷ []) [] (Failed error.Memory)
    -- a call on the delegate was refused; the visit that it belongs to isn't counted
    refused : {p : Place} {e : TreeEntry} {items : Items} {made : List Call} (a : Action) → RefusedIn (depth_calls (visit p e a)) made
        → DepthScript p (Ok e ∷ items) made [] (Failed error.Memory)

  -- the walk in depth from the id of its root, which is looked up first
  pub data IsDepthScript (root : ObjectId) : List Call → List Visit → Ending → Type 0 where
    found : {items : Items} {calls : List Call} {visits : List Visit} {end : Ending} → trees root ≡ Some items
        → DepthScript (known_root root) items calls visits end → IsDepthScript root (PopBack ∷ calls) visits end
    not_found : {why : ExistingError} → fails root why → IsDepthScript root [] [] (Failed (error.Find why))
    no_memory : IsDepthScript root [] [] (Failed error.Memory)
