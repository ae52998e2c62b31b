use Rattle.std.proofs.Common.{◌≡◌, ◌∷◌, [], length, Ok, sym, subst, ◌∙◌}
use Rattle.gix_commitgraph.specs.GraphCommit.{row_of_commit}
use Rattle.gix_commitgraph.specs.Parents.{answers_of}
use Rattle.gix_graph_check.proofs.Places.{AreWithin}
use Rattle.gix_graph_pages.proofs.ParentPlaces.{first_is, first_ok, none_left, places_many, places_none, places_one, places_two, rest_ok}
use Rattle.gix_graph_pages.proofs.part.has_parents.Goals as goal
use Rattle.gix_graph_pages.proofs.part.has_parents.Goals.{else-read-ne-NO_PARENT-via-then-read-ne-NO_PARENT+else-not-is_parent-2, else-read-ne-NO_PARENT-via-else-read-ne-NO_PARENT}
use Rattle.gix_graph_pages.specs.GraphPages.{all_rows}

pub returns-then-read-eq-NO_PARENT-2 : goal.returns-then-read-eq-NO_PARENT-2
returns-then-read-eq-NO_PARENT-2 g c t layers generation read layer at =
    let places = (row_of_commit c.args.commit).parents in
    let empty : answers_of places ≡ [] = sym c.iter_parents-places.ensures.places ∙ none_left c.iter_parents-places.result c.next.new.self c.next.result c.is_none.result c.next.ensures.steps c.is_none.ensures t in
    places_none layer.file c.args.graph.now places (all_rows layers) c.args.read.first c.args.read.second empty c.if-read-eq-NO_PARENT.true c.if-read-eq-NO_PARENT-2.true

pub is_parent-requires-clause-within : goal.is_parent-requires-clause-within
is_parent-requires-clause-within g c =
    let within : AreWithin (length c.args.graph.now) c.iter_parents-places.result = subst (λ rows. AreWithin (length rows) c.iter_parents-places.result) c.requires.rows c.iter_parents-places.ensures.within in
    first_ok (length c.args.graph.now) c.iter_parents-places.result c.next-2.new.self c.next-2.result c.next-2.ensures.steps within

pub is_parent-requires-then-read-ne-NO_PARENT-clause-within :
    goal.is_parent-requires-then-read-ne-NO_PARENT-clause-within
is_parent-requires-then-read-ne-NO_PARENT-clause-within g c =
    let one = c.next-2 in
    let other = c.next-then-read-ne-NO_PARENT in
    let within : AreWithin (length c.args.graph.now) c.iter_parents-places.result = subst (λ rows. AreWithin (length rows) c.iter_parents-places.result) c.requires.rows c.iter_parents-places.ensures.within in
    first_ok (length c.args.graph.now) one.new.self other.new.self other.result other.ensures.steps (rest_ok (length c.args.graph.now) c.iter_parents-places.result one.new.self one.result one.ensures.steps within)

pub are_further-requires-clause-within : goal.are_further-requires-clause-within
are_further-requires-clause-within g c =
    let within : AreWithin (length c.args.graph.now) c.iter_parents-places.result = subst (λ rows. AreWithin (length rows) c.iter_parents-places.result) c.requires.rows c.iter_parents-places.ensures.within in
    rest_ok (length c.args.graph.now) c.iter_parents-places.result c.next-2.new.self c.next-2.result c.next-2.ensures.steps within

pub returns-then-read-ge-FLAG : goal.returns-then-read-ge-FLAG
returns-then-read-ge-FLAG g c t layers generation read layer at =
    let places = (row_of_commit c.args.commit).parents in
    let one = c.next-2 in
    let p = c.is_parent.ensures c.if-not-is_parent.false in
    let first : answers_of places ≡ Ok p.position ∷ one.new.self = sym c.iter_parents-places.ensures.places ∙ first_is c.iter_parents-places.result one.new.self one.result (Ok p.position) one.ensures.steps p.is in
    places_many layer.file c.args.graph.now places (all_rows layers) c.args.read.first c.args.read.second p.position one.new.self first c.if-read-eq-NO_PARENT.false c.if-read-ge-FLAG.true (p.id layers generation read) (c.are_further.ensures t layers generation read layer at)

pub returns : goal.returns
returns g c t layers generation read layer at =
    let graph = c.args.graph.now in
    let places = (row_of_commit c.args.commit).parents in
    let one = c.next-2 in
    let end : c.else-read-ne-NO_PARENT.places ≡ [] = none_left c.else-read-ne-NO_PARENT.places c.next-3.new.self c.next-3.result c.is_none-2.result c.next-3.ensures.steps c.is_none-2.ensures t in
    let p = c.is_parent.ensures c.if-not-is_parent.false in
    let first : answers_of places ≡ Ok p.position ∷ one.new.self = sym c.iter_parents-places.ensures.places ∙ first_is c.iter_parents-places.result one.new.self one.result (Ok p.position) one.ensures.steps p.is in
    let some = c.if-read-eq-NO_PARENT.false in
    elim c.else-read-ne-NO_PARENT.branch [
      | else-read-ne-NO_PARENT-via-then-read-ne-NO_PARENT+else-not-is_parent-2 w ↦ (
          let other = w.next-then-read-ne-NO_PARENT in
          let q = w.is_parent-then-read-ne-NO_PARENT.ensures w.if-not-is_parent-2.false in
          places_two layer.file graph places (all_rows layers) c.args.read.first c.args.read.second p.position q.position one.new.self other.new.self first (first_is one.new.self other.new.self other.result (Ok q.position) other.ensures.steps q.is) (sym w.places-is ∙ end)
          some w.if-read-ne-NO_PARENT.true c.if-read-ge-FLAG.false (p.id layers generation read) (q.id layers generation read))
      | else-read-ne-NO_PARENT-via-else-read-ne-NO_PARENT w ↦ (
          places_one layer.file graph places (all_rows layers) c.args.read.first c.args.read.second p.position one.new.self first (sym w.places-is ∙ end) some w.if-read-ne-NO_PARENT.false (p.id layers generation read))
    ]
