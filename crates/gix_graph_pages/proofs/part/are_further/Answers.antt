use Rattle.std.proofs.Common.{◌≡◌, [], ◌∷◌, List, Ok, length, sym, subst, ap, ◌∙◌}
use Rattle.gix_commitgraph.specs.Parents.{Answer}
use Rattle.gix_graph_pages.proofs.ParentPlaces.{first_is, first_ok, last_further, next_further, none_left, rest_ok}
use Rattle.gix_graph_pages.specs.PagedRows.{AreFurtherIds, ids_of_answers}
use Rattle.gix_graph_pages.proofs.part.are_further.Goals as goal
use Rattle.gix_graph_pages.specs.GraphPages.{all_rows}

pub is_parent-requires-clause-within : goal.is_parent-requires-clause-within
is_parent-requires-clause-within g c =
    first_ok (length c.args.graph.now) c.loop-number.places c.next.new.self c.next.result c.next.ensures.steps c.loop-number.invariant.within

pub is_parent-requires-in-loop-number-clause-within :
    goal.is_parent-requires-in-loop-number-clause-within
is_parent-requires-in-loop-number-clause-within g c =
    let next = c.next-in-loop-number in
    first_ok (length c.args.graph.now) c.loop-number.places next.new.self next.result next.ensures.steps c.loop-number.invariant.within

pub loop-number-preserved : goal.loop-number-preserved
loop-number-preserved g c =
    let next = c.next-in-loop-number in
    let edge = rw c.in-Some-Ok.field-0-is at c.in-Some-Ok.ensures c.requires.layout in
    let p = c.is_parent-in-loop-number.ensures c.if-not-is_parent-2.false in
    let front : c.loop-number.places ≡ Ok p.position ∷ next.new.self = first_is c.loop-number.places next.new.self next.result (Ok p.position) next.ensures.steps p.is in
    record {
      within = rest_ok (length c.args.graph.now) c.loop-number.places next.new.self next.result next.ensures.steps c.loop-number.invariant.within;
      all = λ layers generation read layer at others. c.loop-number.invariant.all layers generation read layer at
          (subst (λ (places : List Answer). AreFurtherIds layer.file (all_rows layers) c.loop-number.number (ids_of_answers c.args.graph.now places)) (sym front)
          (next_further layer.file (all_rows layers) c.loop-number.number c.in-Some-Ok.word _ (edge layers generation read layer at) (ids_of_answers c.args.graph.now next.new.self) c.if-word-ge-FLAG.false (p.id layers generation read) others));
    }

pub returns-then-word-ge-FLAG : goal.returns-then-word-ge-FLAG
returns-then-word-ge-FLAG g c t layers generation read layer at =
    let edge = rw c.in-Some-Ok.field-0-is at c.in-Some-Ok.ensures c.requires.layout in
    let p = c.is_parent.ensures c.if-not-is_parent.false in
    let last = c.next-then-word-ge-FLAG in
    let end : c.next.new.self ≡ [] = none_left c.next.new.self last.new.self last.result c.is_none.result last.ensures.steps c.is_none.ensures t in
    let front : c.loop-number.places ≡ Ok p.position ∷ [] = first_is c.loop-number.places c.next.new.self c.next.result (Ok p.position) c.next.ensures.steps p.is ∙ ap (λ (places : List Answer). Ok p.position ∷ places) end in
    c.loop-number.invariant.all layers generation read layer at
    (subst (λ (places : List Answer). AreFurtherIds layer.file (all_rows layers) c.loop-number.number (ids_of_answers c.args.graph.now places)) (sym front)
    (last_further layer.file (all_rows layers) c.loop-number.number c.in-Some-Ok.word _ (edge layers generation read layer at) c.if-word-ge-FLAG.true (p.id layers generation read)))
