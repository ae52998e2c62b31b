use Rattle.std.proofs.Common.{◌≡◌, ◌∙◌, refl, arith, rules, FitsSigned, w64}
use Rattle.std.proofs.lemmas.Int.{ints}
use Rattle.gix_commitgraph.specs.GraphCommit.{row_of_commit}
use Rattle.gix_graph_check.proofs.WholeCommits.{other-id, one-id}
use Rattle.gix_graph_verify.proofs.rows.difference_of.Goals as goal

pub returns-then-not-is_id : goal.returns-then-not-is_id
returns-then-not-is_id c = (refl, λ same. other-id c.args.stored.now.tree c.root_tree_id.result (row_of_commit c.args.commit).tree c.is_id.result c.is_id.ensures c.if-not-is_id.true c.root_tree_id.ensures same)

pub returns : goal.returns
returns c =
    let own_fits : FitsSigned w64 c.args.stored.now.time = search rules in
    let fits : FitsSigned w64 c.committer_timestamp.result = search rules in
    let time : c.args.stored.now.time ≡ c.committer_timestamp.result = omega (arith, ints) in
    (refl, one-id c.args.stored.now.tree c.root_tree_id.result (row_of_commit c.args.commit).tree c.is_id.result c.is_id.ensures c.if-not-is_id.false c.root_tree_id.ensures, time ∙ c.committer_timestamp.ensures)
