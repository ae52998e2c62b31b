-- The calls that a walk of trees makes on its delegate.
use Rattle.std.specs.Prelude.{◌≡◌, ℕ, List, [], ◌∷◌, Bool, true, false}
use Rattle.std.specs.declared.ops.ControlFlow.{ControlFlow}
use Rattle.gix_object.specs.TreeItems.{TreeEntry}

-- what a delegate answers to a visit: to break, or to continue and whether into the tree
abbrev pub Action : Type 0
Action = ControlFlow (Unit {0}) Bool

pub data Call : Type 0 where
  PushPath : (name : List ℕ) → Call
  PopPath : Call
  PushBack : (name : List ℕ) → Call
  PopBack : Call
  PopFront : Call
  VisitTree : (entry : TreeEntry) (answer : Action) → Call
  VisitNontree : (entry : TreeEntry) (answer : Action) → Call
  -- a push or a visit that answered that memory ran out
  Refused : Call

-- the delegate may go from old to new by these calls, one after another
abbrev pub Run : {V : Type 0} → (V → Call → V → Type 0) → V → List Call → V → Type 0
Run steps old [] new = new ≡ old
Run {V} steps old (call ∷ calls) new = (mid : V) × steps old call mid × Run steps mid calls new

-- the calls that take memory
abbrev pub takes_memory : Call → Bool
takes_memory (PushPath name) = true
takes_memory PopPath = false
takes_memory (PushBack name) = true
takes_memory PopBack = false
takes_memory PopFront = false
takes_memory (VisitTree entry answer) = true
takes_memory (VisitNontree entry answer) = true
takes_memory Refused = false

-- the calls up to one that takes memory and was refused it
pub data RefusedIn : List Call → List Call → Type 0 where
  here : {call : Call} {calls : List Call} → takes_memory call ≡ true → RefusedIn (call ∷ calls) (Refused ∷ [])
  later : {call : Call} {calls made : List Call} → RefusedIn calls made → RefusedIn (call ∷ calls) (call ∷ made)
