use Rattle.std.proofs.Common.{◌≡◌, ◌<◌, ◌≤◌, [], inl, inr, sym, subst, ◌∙◌}
use Rattle.std.proofs.lemmas.Option.{get_or_from_slice_get}
use Rattle.gix_commitgraph.specs.GraphCommit.{row_of_commit}
use Rattle.gix_commitgraph.specs.Parents.{answers_of}
use Rattle.gix_commitgraph.specs.Rows.{no_row, row_at}
use Rattle.gix_graph_pages.specs.GraphPages.{all_rows}
use Rattle.gix_graph_pages.specs.PagedRows.{IsRowOfFile}
use Rattle.gix_graph_pages.proofs.ReadRows.{layer_there, layout_is}
use Rattle.gix_graph_pages.proofs.ParentPlaces.{no_places, none_left, row_is}
use Rattle.gix_graph_pages.proofs.part.is_row.Goals as goal

pub returns-then-read-least : goal.returns-then-read-least
returns-then-read-least g c t layers generation read =
    let graph = c.args.graph.now in
    let layout = layout_is c.args.pages.now c.args.layouts.now c.requires.layouts c.in-Some.layout.now c.in-Some.ensures in
    let layer = layer_there c.args.pages.now c.in-Some.layout.now layout layers generation read in
    let said = c.in-Some-row_in.read in
    let row = row_of_commit c.commit_at-commit.result in
    let is : row_at graph c.args.row ≡ row = get_or_from_slice_get graph c.args.row row no_row c.commit_at-commit.ensures.row in
    let level : row.generation ≡ said.generation = sym c.generation.ensures ∙ c.if-generation-read.false in
    let below : row.generation < c.args.least = subst (λ n. n < c.args.least) (sym level) c.if-read-least.true in
    let empty : answers_of row.parents ≡ [] = sym c.iter_parents.ensures.places ∙ none_left c.iter_parents.result c.next.new.self c.next.result c.is_none.result c.next.ensures.steps c.is_none.ensures t in
    subst (IsRowOfFile c.args.least graph (all_rows layers) generation) (sym is)
    (row_is layer.0.file c.args.least c.args.number graph (all_rows layers) generation row said (c.in-Some-row_in.ensures layout layers generation read layer.0 layer.1) (sym c.id.ensures ∙ c.is_same.ensures c.if-not-is_same.false)
    (sym c.root_tree_id.ensures ∙ c.is_same-else-not-is_same.ensures c.if-not-is_same-2.false) level (c.has_time.ensures c.if-not-has_time.false) (inr (below, no_places row.parents empty)))

pub returns-else-read-least : goal.returns-else-read-least
returns-else-read-least g c t layers generation read =
    let graph = c.args.graph.now in
    let layout = layout_is c.args.pages.now c.args.layouts.now c.requires.layouts c.in-Some.layout.now c.in-Some.ensures in
    let layer = layer_there c.args.pages.now c.in-Some.layout.now layout layers generation read in
    let said = c.in-Some-row_in.read in
    let row = row_of_commit c.commit_at-commit.result in
    let is : row_at graph c.args.row ≡ row = get_or_from_slice_get graph c.args.row row no_row c.commit_at-commit.ensures.row in
    let level : row.generation ≡ said.generation = sym c.generation.ensures ∙ c.if-generation-read.false in
    let above : c.args.least ≤ row.generation = subst (λ n. c.args.least ≤ n) (sym level) c.if-read-least.false in
    subst (IsRowOfFile c.args.least graph (all_rows layers) generation) (sym is)
    (row_is layer.0.file c.args.least c.args.number graph (all_rows layers) generation row said (c.in-Some-row_in.ensures layout layers generation read layer.0 layer.1) (sym c.id.ensures ∙ c.is_same.ensures c.if-not-is_same.false)
    (sym c.root_tree_id.ensures ∙ c.is_same-else-not-is_same.ensures c.if-not-is_same-2.false) level (c.has_time.ensures c.if-not-has_time.false) (inl (above, c.has_parents.ensures t layers generation read layer.0 layer.1)))

pub has_parents-requires-clause-layout : goal.has_parents-requires-clause-layout
has_parents-requires-clause-layout g c = (layout_is c.args.pages.now c.args.layouts.now c.requires.layouts c.in-Some.layout.now c.in-Some.ensures).head
