use Rattle.std.proofs.Common.{◌≡◌, length}
use Rattle.gix_commitgraph.proofs.Common.{words_of, list_at}
use Rattle.gix_commitgraph.proofs.Packed.Parents.{behind}
use Rattle.gix_commitgraph.proofs.check.after_list.Given as goal

-- the list goes on in what is left
abbrev pub invariant-loop-left : goal.invariant-loop-left
invariant-loop-left l = behind (list_at l.rows (words_of l.left)) ≡ behind (list_at l.rows (words_of l.words))

abbrev pub decreases-loop-left : goal.decreases-loop-left
decreases-loop-left l = length l.left
