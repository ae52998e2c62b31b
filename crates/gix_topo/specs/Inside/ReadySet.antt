-- The ready commits, as the code holds them.
use Rattle.std.specs.Prelude.{◌≡◌, ℤ, List, map, Contains}
use Rattle.gix_topo.specs.declared.Sorting.{Sorting}
use Rattle.gix_topo.specs.declared.Sorting.TheVariants.{DateOrder, TopoOrder}
use Rattle.gix_topo.specs.declared.ready.ReadyCommit.{ReadyCommit}
use Rattle.gix_topo.specs.declared.ready.Held.{Held}
use Rattle.gix_topo.specs.declared.ready.Held.TheVariants.{ByTime, Stack}
use Rattle.gix_topo.specs.Walk.{Ready}

pub record ReadySet : Type 0 where
  pub sorting : Sorting
  pub commits : List Ready

abbrev pub as_ready : ReadyCommit → Ready
as_ready found = record { id = found.id; parents = found.parent_ids.items; time = found.time; generation = found.generation }

abbrev pub as_ready_by : ℤ × ReadyCommit → Ready
as_ready_by entry = as_ready entry.1

-- the ready commits, in the order in which they became ready: of a stack from its bottom up
abbrev pub ready_set : Held → ReadySet
ready_set (ByTime queue) = record { sorting = DateOrder; commits = map as_ready_by queue }
ready_set (Stack stack) = record { sorting = TopoOrder; commits = map as_ready stack.items }

-- each commit is in the queue under its time
abbrev pub IsTimed : List (ℤ × ReadyCommit) → Type 0
IsTimed queue = (entry : ℤ × ReadyCommit) → Contains queue entry → entry.0 ≡ entry.1.time

abbrev pub AreTimed : Held → Type 0
AreTimed (ByTime queue) = IsTimed queue
AreTimed (Stack stack) = Unit {0}
