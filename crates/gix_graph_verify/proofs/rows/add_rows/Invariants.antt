use Rattle.gix_graph_verify.specs.Reporting.{Tells, AllRowsTold, IsOfRow}
use Rattle.gix_graph_verify.proofs.rows.add_rows.Given as goal

abbrev pub invariant-loop-number : goal.invariant-loop-number
invariant-loop-number g l = record {
  tells : Tells (IsOfRow l.graph) l.fn.differences.items l.differences.items;
  each : AllRowsTold l.graph l.lower l.number l.differences.items;
}
