use Rattle.std.proofs.Common.{◌≡◌, Some, sym, ap, subst, ◌∙◌}
use Rattle.std.proofs.lemmas.Option.{get_or_from_slice_get}
use Rattle.gix_commitgraph.specs.GraphCommit.{row_of_commit}
use Rattle.gix_commitgraph.specs.Parents.{Answer}
use Rattle.gix_commitgraph.specs.Rows.{GraphRow, no_row, row_at}
use Rattle.gix_graph_pages.specs.PagedRows.{HasId}
use Rattle.gix_graph_pages.proofs.part.is_parent.Goals as goal

pub returns-in-Some-id_at : goal.returns-in-Some-id_at
returns-in-Some-id_at g c t =
    let same : c.id.result ≡ c.in-Some-id_at.id = c.is_same.ensures t in
    let row : row_at c.args.graph.now c.in-Ok.position.0 ≡ row_of_commit c.commit_at.result = get_or_from_slice_get c.args.graph.now c.in-Ok.position.0 _ no_row c.commit_at.ensures.row in
    let id : c.in-Some-id_at.id ≡ (row_at c.args.graph.now c.in-Ok.position.0).id = sym same ∙ c.id.ensures ∙ ap (λ (r : GraphRow). r.id) (sym row) in
    record {
      position = c.in-Ok.position;
      is = c.in-Some.is ∙ ap (λ (a : Answer). Some a) c.in-Ok.is;
      id = subst (HasId c.args.pages.now c.args.number) id (c.in-Some-id_at.ensures c.requires.layouts);
    }
