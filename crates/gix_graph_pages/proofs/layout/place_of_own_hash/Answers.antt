use Rattle.std.proofs.Common.{refl, ◌∙◌}
use Rattle.gix_graph_pages.proofs.BelowNamed.{end_is}
use Rattle.gix_graph_pages.proofs.layout.place_of_own_hash.Goals as goal

pub returns : goal.returns
returns g c file has =
    let count = c.in_ok-count.ensures in
    let entry = c.in_ok-entry.ensures in
    c.long_at.ensures ∙ end_is file c.in_ok-count.field-0.now c.in_ok-entry.entry.now _ count.0 (count.1 file has) refl (entry.1 file has)
