use Rattle.std.proofs.Common.{MatchResult, sym, subst}
use Rattle.gix_graph_check.proofs.SoundRows.{row_at-read}
use Rattle.gix_graph_store.specs.StoredRows.{IsStoredSo, IsNotStoredSo}
use Rattle.gix_graph_store.proofs.stored.check_row.Goals as goal

pub returns : goal.returns
returns g c =
    let rows = c.args.graph.now in
    let objects = g.F.Find.objects c.args.store.now in
    subst (λ row. MatchResult c.check_commit.result (λ _. IsStoredSo rows objects row) (IsNotStoredSo objects (g.F.Find.faulty c.args.store.now) rows row))
    (sym (row_at-read rows c.args.number _ c.commit_at-commit.ensures.row)) c.check_commit.ensures
