use Rattle.gix_commands.proofs.TopoRuns.{topo_succeeds}
use Rattle.gix_commands.proofs.laws.topo_succeeds.Goals as goal

pub returns : goal.returns
returns c = topo_succeeds
