-- A visit of an entry: its place, the answer, and what follows from both.
use Rattle.std.specs.Prelude.{ℕ, List, [], ◌∷◌, ◌++◌, Bool, true, false, Result, Ok, Err}
use Rattle.std.specs.declared.ops.ControlFlow.TheVariants.{Continue, Break}
use Rattle.gix_hash.specs.declared.ObjectId.{ObjectId}
use Rattle.gix_object.specs.declared.decode.Error.{Error as DecodeError}
use Rattle.gix_hash.specs.Id.{is_among}
use Rattle.gix_object.specs.TreeItems.{TreeEntry, is_tree}
use Rattle.gix_tree.specs.declared.breadthfirst.Error.{Error}
use Rattle.gix_tree.specs.Delegate.{Action, Call, VisitTree, VisitNontree}

-- what is read of a tree: its entries, and at most one fault, which is the last
abbrev pub Items : Type 0
Items = List (Result TreeEntry DecodeError)

-- a tree in the unfolded tree
pub record Place : Type 0 where
  -- the names from the root down to it
  pub names : List (List ℕ)
  -- the known ids of the trees down to it, the nearest first: its own id and the ids of the trees above it
  pub ids : List ObjectId

pub record Visit : Type 0 where
  -- the tree that holds the entry
  pub place : Place
  pub entry : TreeEntry
  pub answer : Action

abbrev pub visit : Place → TreeEntry → Action → Visit
visit p e a = record { place = p; entry = e; answer = a }

-- an entry's own tree, as a place
abbrev pub inside : Place → TreeEntry → Place
inside p e = record { names = p.names ++ e.name ∷ []; ids = e.id ∷ p.ids }

-- what a visit leads to
pub data Outcome : Type 0 where
  -- on to what comes behind the entry
  Leaves : Outcome
  -- into the entry's tree
  Enters : Outcome
  -- out of the walk, since a tree above the entry has the id of the entry's tree
  Cycles : Outcome
  -- out of the walk, since the delegate said so
  Breaks : Outcome

abbrev pub descent : Bool → Outcome
descent true = Cycles
descent false = Enters

-- whether the entry is a tree, whether to go into it, and whether its id is known above
abbrev pub outcome_of : Bool → Action → Bool → Outcome
outcome_of t (Break b) known = Breaks
outcome_of t (Continue false) known = Leaves
outcome_of true (Continue true) known = descent known
outcome_of false (Continue true) known = Leaves

abbrev pub outcome : Visit → Outcome
outcome v = outcome_of (is_tree v.entry.mode) v.answer (is_among v.entry.id v.place.ids)

-- the visit itself, as a call
abbrev pub visit_call_of : Bool → TreeEntry → Action → Call
visit_call_of true e a = VisitTree e a
visit_call_of false e a = VisitNontree e a

abbrev pub visit_call : Visit → Call
visit_call v = visit_call_of (is_tree v.entry.mode) v.entry v.answer

-- how a walk ended
pub data Ending : Type 0 where
  -- all was shown
  Whole : Ending
  -- a visit was answered `Break`
  Broken : Ending
  Failed : (error : Error) → Ending

-- the walk ended by showing all or by a `Break`
abbrev pub IsUnfailed : Ending → Type 0
IsUnfailed Whole = Unit {0}
IsUnfailed Broken = Unit {0}
IsUnfailed (Failed why) = ⊥

abbrev pub is_broken : Ending → Bool
is_broken Whole = false
is_broken Broken = true
is_broken (Failed why) = false

-- the turn of a tree to be looked up and entered, an entry to be shown, or the fault behind a tree's whole entries
pub data Task : Type 0 where
  Turn : (place : Place) (id : ObjectId) → Task
  Show : (place : Place) (entry : TreeEntry) → Task
  Fault : (error : DecodeError) → Task

-- to show what is read of a tree
abbrev pub shows : Place → Items → List Task
shows p [] = []
shows p (Ok e ∷ items) = Show p e ∷ shows p items
shows p (Err error ∷ items) = Fault error ∷ []
