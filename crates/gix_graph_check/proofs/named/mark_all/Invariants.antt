use Rattle.gix_graph_check.specs.Heads.{is_named}
use Rattle.gix_graph_check.proofs.Marking.{IsMarking, left_rows}
use Rattle.gix_graph_check.proofs.named.mark_all.Given as goal

abbrev pub invariant-loop-number : goal.invariant-loop-number
invariant-loop-number l = IsMarking (is_named l.graph) (left_rows l.graph l.number) l.fn.named l.named
