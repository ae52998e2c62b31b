-- A beginning of a list in an order goes on to a whole list, where finitely many ids are reached.
use Rattle.std.proofs.Common.{◌≡◌, ℤ, List, length, take, Option, Contains, sym}
use Rattle.gix_commands.proofs.Common.{ObjectId, Objects, CommitTimeOrder, Parents, by_mode, walked_within, text_next, IsBeginningBy, IsListBy, IsNextOne, IsInWalk}
use Rattle.gix_hash.specs.Reach.{Reaches}
use Rattle.gix_revwalk.proofs.Beginnings.{one_beginning}
use Rattle.gix_revwalk.proofs.OneOrder.{one_next}
use Rattle.gix_revwalk.proofs.SomeOrder.{order_exists}
use Rattle.gix_topo.specs.declared.Sorting.{Sorting as TopoSorting}
use Rattle.gix_topo.specs.declared.Sorting.TheVariants as topo
use Rattle.gix_topo.specs.Laws.{IsNextBy}
use Rattle.gix_topo.proofs.Run.ReadyInTurn.{one_taken}
use Rattle.gix_topo.proofs.Run.SomeList.{some_topo, some_date}

-- a list of a simple walk, where what starts reach is among finitely many ids
module _ (next : ObjectId → List ObjectId) (starts all : List ObjectId) (finite : (i : ObjectId) → Reaches next starts i → Contains all i) where
  pub order_goes_on : (o : Option CommitTimeOrder) (time : ObjectId → ℤ) (ids : List ObjectId) → IsBeginningBy (IsNextOne o time next starts) ids
      → (whole : List ObjectId) × IsListBy (IsNextOne o time next starts) whole × (take (length ids) whole ≡ ids)
  order_goes_on o time ids h =
      let some = order_exists next starts all finite o time in
      (some.0, some.1, sym (one_beginning _ (one_next o time next starts) ids some.0 h some.1))

-- a list of a topological walk by the parents that texts name
module _ (objects : Objects) (m : Parents) (tips ends : List ObjectId) where
  abbrev walked : ObjectId → List ObjectId
  walked i = by_mode m (text_next objects i)

  abbrev In : ObjectId → Type 0
  In = IsInWalk walked (text_next objects) tips ends

  -- what is walked is named
  named : (c i : ObjectId) → Contains (walked c) i → Contains (text_next objects c) i
  named c i n = walked_within m (text_next objects c) i n

  some_descent : (by : TopoSorting) (time : ObjectId → ℤ) → (ids : List ObjectId) × IsListBy (IsNextBy by time walked In tips) ids
  some_descent topo.TopoOrder time = some_topo objects walked (text_next objects) tips ends named (λ c i n. n) time
  some_descent topo.DateOrder time = some_date objects walked (text_next objects) tips ends named (λ c i n. n) named time

  pub descent_goes_on : (by : TopoSorting) (time : ObjectId → ℤ) (ids : List ObjectId) → IsBeginningBy (IsNextBy by time walked In tips) ids
      → (whole : List ObjectId) × IsListBy (IsNextBy by time walked In tips) whole × (take (length ids) whole ≡ ids)
  descent_goes_on by time ids h =
      let some = some_descent by time in
      (some.0, some.1, sym (one_beginning _ (one_taken time walked In tips by) ids some.0 h some.1))
