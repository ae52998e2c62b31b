use Rattle.gix_graph_pages.specs.PagedRows.{HasId, HasIdIn}
use Rattle.std.proofs.lemmas.Option.{IfSome_then}
use Rattle.gix_graph_pages.proofs.ReadRows.{has_id, layout_is}
use Rattle.gix_graph_pages.proofs.rows.id_at.Goals as goal

pub returns : goal.returns
returns g c are =
    let layout = c.in_ok-layout_with.field-0.now in
    let is = layout_is c.args.pages.now c.args.layouts.now are layout c.in_ok-layout_with.ensures in
    IfSome_then c.id_in.result (c.id_in.ensures is.head) (λ i own. has_id c.args.pages.now layout is c.args.number i own)
