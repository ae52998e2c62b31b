use Rattle.gix_contained.specs.Inside.Search.{room}
use Rattle.gix_contained.proofs.Deciding.{Goes, names}
use Rattle.gix_revwalk.specs.Agreeing.{rows_in}
use Rattle.gix_contained.proofs.search.reached.Given as goal

abbrev pub invariant-loop-lowest : goal.invariant-loop-lowest
invariant-loop-lowest g l = Goes g.F.Find.objects g.F.Find.faulty l.fn.objects (rows_in l.fn.graph) l.fn.tips l.fn.asked l.asked l.search

abbrev pub decreases-loop-lowest : goal.decreases-loop-lowest
decreases-loop-lowest g l = room (names (g.F.Find.objects l.fn.objects) (rows_in l.fn.graph)) l.search
