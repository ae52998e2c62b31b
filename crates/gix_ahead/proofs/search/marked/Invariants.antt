use Rattle.gix_ahead.specs.Inside.Search.{room}
use Rattle.gix_ahead.proofs.Marking.{Goes, names}
use Rattle.gix_ahead.proofs.search.marked.Given as goal

abbrev pub invariant-loop-waiting : goal.invariant-loop-waiting
invariant-loop-waiting g l = Goes g.F.Find.objects g.F.Find.faulty l.fn.objects l.fn.one l.fn.other l.search

abbrev pub decreases-loop-waiting : goal.decreases-loop-waiting
decreases-loop-waiting g l = room (names (g.F.Find.objects l.fn.objects)) l.search
