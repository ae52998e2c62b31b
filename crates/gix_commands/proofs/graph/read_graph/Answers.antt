use Rattle.gix_graph_file.specs.ChainSteps.{layers_seen}
use Rattle.gix_commands.proofs.graph.read_graph.Goals as goal

pub returns-in-Err-clause-err : goal.returns-in-Err-clause-err
returns-in-Err-clause-err c = c.fault_of.ensures (layers_seen c.args.layers.items) c.in-Err.ensures.fault
