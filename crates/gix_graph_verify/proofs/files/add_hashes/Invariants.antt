use Rattle.gix_graph_file.specs.ChainSteps.{files_seen}
use Rattle.gix_graph_verify.specs.Reporting.{Tells, AllFilesTold, IsOfFile}
use Rattle.gix_graph_verify.proofs.files.add_hashes.Given as goal

abbrev pub invariant-loop-number : goal.invariant-loop-number
invariant-loop-number l = record {
  tells : Tells (IsOfFile (files_seen l.layers)) l.fn.differences.items l.differences.items;
  each : AllFilesTold (files_seen l.layers) l.number l.differences.items;
}
