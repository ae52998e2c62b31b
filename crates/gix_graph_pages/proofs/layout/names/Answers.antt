use Rattle.std.proofs.Common.{◌≡◌, sym, ap, ◌∙◌}
use Rattle.std.specs.Cmp.Lexicographic.{same_text}
use Rattle.gix_statement.specs.CommitGraph.{bytes_at}
use Rattle.gix_graph_pages.proofs.layout.names.Goals as goal

pub returns-in-Some-bytes-2 : goal.returns-in-Some-bytes-2
returns-in-Some-bytes-2 g c t =
    let width = c.len_in_bytes-width.ensures in
    let place = c.in-Some.place in
    let named = c.in-Some-bytes.ensures in
    let own = c.in-Some-bytes-2.ensures in
    let own_place = c.in-Some-place_of_own_hash.ensures in
    record {
      kinds = c.is_kind.ensures c.if-not-is_kind.false;
      place = place;
      at = c.in-Some.ensures;
      named = c.in-Some-bytes.named.now;
      long = named.0 ∙ width;
      here = λ file has. ap (λ w. bytes_at place w file) (sym width) ∙ named.1 file has;
      own = λ file has. (λ i. bytes_at (sym (own_place file has) i) (sym width i) file) ∙ own.1 file has ∙ same_text c.in-Some-bytes-2.own.now c.in-Some-bytes.named.now (sym t ∙ c.eq.ensures);
    }
