use Rattle.std.proofs.Common.{length}
use Rattle.gix_ahead.proofs.Meeting.{IsLeft}
use Rattle.gix_ahead.proofs.search.Search.meet_all.Given as goal

-- to meet the ids that are left is to meet them all
abbrev pub invariant-loop-id : goal.invariant-loop-id
invariant-loop-id g l = IsLeft g.F.Find.objects g.F.Find.faulty l.by l.fn.ids l.fn.self l.ids l.self

abbrev pub decreases-loop-id : goal.decreases-loop-id
decreases-loop-id g l = length l.ids
