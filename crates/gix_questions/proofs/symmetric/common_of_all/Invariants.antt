use Rattle.std.proofs.Common.{take}
use Rattle.gix_revwalk.specs.Agreeing.{rows_in}
use Rattle.gix_questions.specs.Common.{AreCommon}
use Rattle.gix_questions.proofs.symmetric.common_of_all.Given as goal

-- the answers for the pairs so far
abbrev pub invariant-loop-pair : goal.invariant-loop-pair
invariant-loop-pair l = AreCommon l.store (rows_in l.graph) (take l.pair-index l.pairs) l.all.items
