use Rattle.std.proofs.Common.{take}
use Rattle.gix_containing.specs.Inside.Steps.{SelectsTips}
use Rattle.gix_revwalk.specs.Agreeing.{rows_in}
use Rattle.gix_containing.proofs.each_alone.Given as goal

-- the tips so far that reach the target
abbrev pub invariant-loop-tip : goal.invariant-loop-tip
invariant-loop-tip g l = SelectsTips (g.F.Find.objects l.objects) (rows_in l.graph) l.target (take l.tip-index l.tips) l.those.items
