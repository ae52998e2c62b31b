use Rattle.std.proofs.lemmas.Result.{err_from_is_err_and}
use Rattle.gix_commitgraph.specs.GraphCommit.{row_of_commit}
use Rattle.gix_graph_check.specs.StoredCommits.{commit_shown}
use Rattle.gix_graph_check.proofs.WholeCommits.{checked, refused, unread}
use Rattle.gix_graph_check.proofs.agreeing.check_row.Goals as goal

pub returns-in_err-stored : goal.returns-in_err-stored
returns-in_err-stored g c =
    let p = err_from_is_err_and c.from_residual.result c.from_residual.ensures.1 in
    rw (p.1, p.2) (unread (g.F.Find.objects c.args.store.now) c.args.graph.now c.args.number (row_of_commit c.commit_at-commit.result) c.id-id.result c.commit_at-commit.ensures.row c.id-id.ensures (g.F.Find.faulty c.args.store.now) c.in_err-stored.field-0.0 c.in_err-stored.ensures)

pub returns-then-row_agrees : goal.returns-then-row_agrees
returns-then-row_agrees g c =
    checked (g.F.Find.objects c.args.store.now) c.args.graph.now c.args.number (row_of_commit c.commit_at-commit.result) c.id-id.result c.commit_at-commit.ensures.row c.id-id.ensures (commit_shown c.in_ok-stored.stored) c.in_ok-stored.ensures c.if-row_agrees.ensures

pub returns : goal.returns
returns g c =
    refused (g.F.Find.objects c.args.store.now) c.args.graph.now c.args.number (row_of_commit c.commit_at-commit.result) c.id-id.result c.commit_at-commit.ensures.row c.id-id.ensures (commit_shown c.in_ok-stored.stored) c.in_ok-stored.ensures c.if-row_agrees.ensures
