use Rattle.std.proofs.Common.{◌≡◌, ◌<◌, ◌++◌, List, length}
use Rattle.std.specs.FinSet as set
use Rattle.gix_topo.proofs.Common.{ObjectId, is_among, last_places}
use Rattle.gix_topo.proofs.counting.last_places_of_many.Given as goal

-- what is behind the ids that are left is there at its last places
abbrev pub invariant-loop-id : goal.invariant-loop-id
invariant-loop-id l = record {
  behind : List ObjectId;
  whole : l.fn.ids ≡ l.ids ++ behind;
  later : 0 < length l.ids → (i : ObjectId) → set.contains l.later i ≡ is_among i behind;
  places : l.places.items ≡ last_places behind;
}

abbrev pub decreases-loop-id : goal.decreases-loop-id
decreases-loop-id l = length l.ids
