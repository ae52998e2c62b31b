use Rattle.gix_graph_file.proofs.Common.{seen}
use Rattle.gix_graph_file.proofs.SameFile.{packed-says, packed-refuses}
use Rattle.gix_graph_file.proofs.graph_of_parts.Goals as goal

pub returns-clause-rows : goal.returns-clause-rows
returns-clause-rows c = packed-says c.in_ok-packed.packed.items (seen c.args.layout) c.graph_of_packed.result c.requires c.in_ok-packed.ensures c.graph_of_packed.ensures.rows

pub returns-clause-fault : goal.returns-clause-fault
returns-clause-fault c = packed-refuses c.in_ok-packed.packed.items (seen c.args.layout) c.graph_of_packed.result c.requires c.in_ok-packed.ensures c.graph_of_packed.ensures.fault
