use Rattle.std.proofs.Common.{◌≡◌, ◌*◌, ◌+◌, length, List, ℕ, sym, ap, ◌∙◌}
use Rattle.gix_hash.specs.Id.{id_len}
use Rattle.gix_statement.specs.CommitGraph.{bytes_at}
use Rattle.gix_graph_pages.specs.GraphPages.{IsFileOf}
use Rattle.gix_graph_pages.specs.PagedRows.{HasIdIn}
use Rattle.gix_graph_pages.proofs.ReadRows.{has_own, if_some}
use Rattle.gix_graph_pages.proofs.rows.id_in.Goals as goal

pub returns : goal.returns
returns g c is =
    let pages = c.args.pages.now in
    let layout = c.args.layout.now in
    let w = c.len_in_bytes-width.ensures in
    let own = c.in_ok-own.own in
    let place = c.in_ok-place.place in
    let bytes = c.in_ok-bytes.field-0.now in
    let at : place ≡ layout.ids + id_len layout.kind * own = c.in_ok-place.ensures.1 ∙ ap (λ n. layout.ids + n * own) w in
    let long : length bytes ≡ id_len layout.kind = c.in_ok-bytes.ensures.0 ∙ w in
    let here : (file : List ℕ) → IsFileOf pages layout.layer file → bytes_at place (id_len layout.kind) file ≡ bytes = (λ file has. ap (λ n. bytes_at place n file) (sym w) ∙ c.in_ok-bytes.ensures.1 file has) in
    if_some (HasIdIn pages layout c.args.number) c.from_bytes.result
    (λ i e layers generation read layer there.
    (own, c.in_ok-own.ensures.0, has_own pages layout is layers generation read layer there own place bytes i c.in_ok-own.ensures.1 at long (here layer.file (read.files.has layout.layer layer there)) (sym c.from_bytes.ensures ∙ e)))
