use Rattle.std.proofs.Common.{◌≡◌, ◌*◌, ◌+◌, length, take, drop, slice_get, Some, sym, ap, subst, ◌∙◌, arith}
use Rattle.gix_hash.specs.Id.{id_len}
use Rattle.gix_statement.specs.CommitGraph.{bytes_at}
use Rattle.gix_statement.specs.WholeStatement.{Row}
use Rattle.gix_graph_pages.specs.GraphPages.{all_rows}
use Rattle.gix_graph_pages.proofs.ReadRows.{says_row}
use Rattle.gix_graph_pages.proofs.rows.row_in.Goals as goal

pub returns : goal.returns
returns g c is layers generation read layer there =
    let pages = c.args.pages.now in
    let layout = c.args.layout.now in
    let w = c.len_in_bytes-width.ensures in
    let own = c.in_ok-own.own in
    let place = c.in_ok-place.place in
    let bytes = c.in_ok-bytes.field-0.now in
    let named = c.in_ok-id.ensures is.head layers generation read layer there in
    let same : named.0 ≡ own = omega (arith, named.1, c.in_ok-own.ensures.0) in
    let counted : c.args.number ≡ length (all_rows (take layout.layer layers)) + own = sym c.in_ok-own.ensures.0 ∙ ap (λ n. n + own) (sym (is.start layers generation read)) in
    let at : place ≡ layout.data + (id_len layout.kind + 16) * own = c.in_ok-place.ensures.1 ∙ ap (λ n. layout.data + (n + 16) * own) w in
    let long : length bytes ≡ id_len layout.kind + 16 = c.in_ok-bytes.ensures.0 ∙ ap (λ n. n + 16) w in
    let here : bytes_at place (id_len layout.kind + 16) layer.file ≡ bytes = ap (λ n. bytes_at place (n + 16) layer.file) (sym w) ∙ c.in_ok-bytes.ensures.1 layer.file (read.files.has layout.layer layer there) in
    says_row pages layout is.head layers generation read layer there c.args.number own place bytes c.split_at.result.0.now c.split_at.result.1.now c.in_ok-id.id c.in_ok-from_bytes.field-0 c.word_at.result c.word_at-2.result c.long_at-long.result
    counted at long here (c.split_at.ensures.front ∙ ap (λ n. take n bytes) w) (c.split_at.ensures.back ∙ ap (λ n. drop n bytes) w) (sym c.in_ok-from_bytes.ensures) c.word_at.ensures c.word_at-2.ensures c.long_at-long.ensures
    (subst (λ n. (r : Row) × (slice_get layer.rows n ≡ Some r) × (r.id ≡ c.in_ok-id.id)) same named.2)
