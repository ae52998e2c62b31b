use Rattle.std.proofs.Common.{◌<◌, ◌≡◌, ◌∙◌, arith, rules, FitsSigned, w64}
use Rattle.std.proofs.lemmas.Int.{ints}
use Rattle.gix_commitgraph.specs.GraphCommit.{row_of_commit}
use Rattle.gix_graph_check.specs.StoredCommits.{commit_shown}
use Rattle.gix_graph_check.proofs.WholeCommits.{agrees-by, other-id, one-id}
use Rattle.gix_graph_check.proofs.agreeing.row_agrees.Goals as goal

pub returns-then-not-is_id : goal.returns-then-not-is_id
returns-then-not-is_id c a = other-id c.args.stored.now.tree c.root_tree_id.result (row_of_commit c.args.commit).tree c.is_id.result c.is_id.ensures c.if-not-is_id.true c.root_tree_id.ensures a.tree

pub returns : goal.returns
returns c =
    let own_fits : FitsSigned w64 c.args.stored.now.time = search rules in
    let fits : FitsSigned w64 c.committer_timestamp.result = search rules in
    let time : c.args.stored.now.time ≡ c.committer_timestamp.result = omega (arith, ints) in
    let finite : c.generation-generation.result < 4294967295 = omega arith in
    agrees-by c.args.graph.now (row_of_commit c.args.commit) (commit_shown c.args.stored.now) c.generation-generation.result c.as_slice.result.now c.generation-generation.ensures c.as_slice.ensures.value finite
    (time ∙ c.committer_timestamp.ensures)
    (one-id c.args.stored.now.tree c.root_tree_id.result (row_of_commit c.args.commit).tree c.is_id.result c.is_id.ensures c.if-not-is_id.false c.root_tree_id.ensures)
    c.places_agree.result c.places_agree.ensures
