use Rattle.std.proofs.Common.{sym, ◌∙◌}
use Rattle.gix_format.proofs.LineEnds.{trimmed_front, trimmed_whole}
use Rattle.gix_format.proofs.subject.trimmed.Goals as goal

pub loop-left-preserved : goal.loop-left-preserved
loop-left-preserved c = trimmed_front c.loop-left.left.now c.in-len1-up.len_at_least c.if-not-is_white.ensures ∙ c.loop-left.invariant

pub returns-then-not-is_white : goal.returns-then-not-is_white
returns-then-not-is_white c =
    sym (trimmed_whole c.loop-left.left.now c.in-len1-up.len_at_least c.if-not-is_white.ensures) ∙ c.loop-left.invariant
