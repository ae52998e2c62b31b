use Rattle.std.proofs.Common.{◌≡◌, ◌⊎◌, true, Contains, length}
use Rattle.std.specs.FinSet as set
use Rattle.gix_contained.specs.Inside.Search.{AskedId}
use Rattle.gix_contained.proofs.search.lowest_left.Given as goal

-- what was taken out was met
abbrev pub invariant-loop-generation : goal.invariant-loop-generation
invariant-loop-generation l = record {
  left : (q : AskedId) → Contains l.fn.asked q → (set.contains l.met q.1 ≡ true) ⊎ Contains l.asked q;
  within : (q : AskedId) → Contains l.asked q → Contains l.fn.asked q;
}

abbrev pub decreases-loop-generation : goal.decreases-loop-generation
decreases-loop-generation l = length l.asked
