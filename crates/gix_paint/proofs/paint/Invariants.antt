use Rattle.gix_paint.proofs.Common.{Objects, room, IsHistory, ids_of}
use Rattle.gix_revwalk.specs.Agreeing.{rows_in}
use Rattle.gix_paint.proofs.Invariant.{IsSafe}
use Rattle.gix_paint.proofs.Order.{HoldsOf}
use Rattle.gix_paint.proofs.Ends.{names}
use Rattle.gix_paint.proofs.paint.Given as goal

abbrev pub invariant-loop-generation : goal.invariant-loop-generation
invariant-loop-generation g l = record {
  safe : IsSafe g.F.Find.objects l.fn.objects (rows_in l.fn.graph) l.painter;
  holds : (history : Objects) → IsHistory (g.F.Find.objects l.fn.objects) (rows_in l.fn.graph) history → HoldsOf g.F.Find.objects l.fn.objects history (rows_in l.fn.graph) (ids_of l.fn.tips.items) l.fn.hidden_tips l.painter;
}

abbrev pub decreases-loop-generation : goal.decreases-loop-generation
decreases-loop-generation g l = room (names (g.F.Find.objects l.fn.objects) (rows_in l.fn.graph)) l.painter
