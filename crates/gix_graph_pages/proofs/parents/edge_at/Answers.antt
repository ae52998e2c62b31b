use Rattle.std.proofs.Common.{◌≡◌, ◌*◌, ◌+◌}
use Rattle.gix_graph_pages.proofs.ReadRows.{edge_is}
use Rattle.gix_graph_pages.proofs.parents.edge_at.Goals as goal

pub returns-in-Some : goal.returns-in-Some
returns-in-Some g c head layers generation read layer there =
    let chunk = c.in_ok-chunk.chunk in
    let place = c.in_ok-place.place in
    let at : place ≡ chunk.from + 4 * c.args.number = c.in_ok-place.ensures.1 in
    edge_is c.args.pages.now c.args.layout.now head layers generation read layer there chunk c.args.number place c.in-Some.word.now c.word_at.result c.in_ok-chunk.was c.if-at-chunk.false at (c.in-Some.ensures.1 layer.file (read.files.has c.args.layout.now.layer layer there)) c.word_at.ensures
