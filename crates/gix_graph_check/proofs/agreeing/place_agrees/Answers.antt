use Rattle.gix_commitgraph.specs.GraphCommit.{row_of_commit}
use Rattle.gix_graph_check.proofs.Agreement.{place-agrees}
use Rattle.gix_graph_check.proofs.agreeing.place_agrees.Goals as goal

pub returns-then-is_below : goal.returns-then-is_below
returns-then-is_below c =
    place-agrees c.args.graph.now c.requires.rows.rising c.args.generation c.args.id.now c.in-Ok.position (row_of_commit c.commit_at-parent.result) c.id.result c.generation.result c.commit_at-parent.ensures.row c.id.ensures c.generation.ensures c.if-is_below.true c.args.place c.in-Ok.is c.is_id.result c.is_id.ensures
