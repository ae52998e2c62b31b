use Rattle.std.proofs.Common.{◌≡◌, ◌++◌, length}
use Rattle.gix_topo.proofs.Common.{last_places}
use Rattle.gix_topo.proofs.counting.last_places_of_few.Given as goal

-- what was kept, and what the ids that are left keep, are all
abbrev pub invariant-loop-id : goal.invariant-loop-id
invariant-loop-id l = l.places.items ++ last_places l.ids ≡ last_places l.fn.ids

abbrev pub decreases-loop-id : goal.decreases-loop-id
decreases-loop-id l = length l.ids
