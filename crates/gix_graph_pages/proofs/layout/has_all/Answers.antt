use Rattle.std.proofs.Common.{◌≡◌, ℕ, List, length, Some, IfSome, sym, subst, ◌∙◌}
use Rattle.gix_statement.specs.CommitGraph.{bytes_at}
use Rattle.gix_graph_pages.specs.GraphPages.{IsFileOf}
use Rattle.gix_graph_pages.proofs.ReadRows.{all_there, none_there, some_of}
use Rattle.gix_graph_pages.proofs.layout.has_all.Goals as goal

pub returns-then-layout-eq0 : goal.returns-then-layout-eq0
returns-then-layout-eq0 g c is t layers generation read layer there = none_there c.args.pages.now c.args.layout.now is layers generation read layer there c.if-layout-eq0.true

pub returns : goal.returns
returns g c is t layers generation read layer there =
    let w = c.len_in_bytes-width.ensures in
    let place = c.in-Some.ensures in
    let bytes = some_of c.bytes.result (sym c.is_some.ensures ∙ t) in
    let told = subst (λ o. IfSome o (λ bytes. (length bytes.now ≡ c.len_in_bytes-width.result) × ((file : List ℕ) → IsFileOf c.args.pages.now c.args.layout.now.layer file → bytes_at c.in-Some.place c.len_in_bytes-width.result file ≡ bytes.now))) bytes.1 c.bytes.ensures in
    all_there c.args.pages.now c.args.layout.now is layers generation read layer there bytes.0.now place.0 (told.0 ∙ w)
    ((λ i. bytes_at (sym place.1 i) (sym w i) layer.file) ∙ told.1 layer.file (read.files.has c.args.layout.now.layer layer there))
