use Rattle.std.proofs.Common.{List, length, subst}
use Rattle.std.proofs.lemmas.List.{drop_more, drop_all}
use Rattle.gix_commitgraph.specs.Rows.{GraphRow, no_row}
use Rattle.gix_commitgraph.specs.GraphCommit.{row_of_commit}
use Rattle.gix_graph_check.proofs.Places.{AreWithin, first-within, rest-within}
use Rattle.gix_graph_check.proofs.Agreement.{agree-start, agree-more, agree-not, agree-none, agree-last}
use Rattle.gix_graph_check.proofs.agreeing.places_agree.Goals as goal

pub loop-id-init : goal.loop-id-init
loop-id-init c = record {
  left = agree-start c.args.graph.now c.args.generation c.args.ids.now (row_of_commit c.args.commit).parents c.iter_parents-places.result c.iter_parents-places.ensures.places;
  within = subst (λ (rows : List GraphRow). AreWithin (length rows) c.iter_parents-places.result) c.requires.same c.iter_parents-places.ensures.within;
}

pub place_agrees-requires : goal.place_agrees-requires
place_agrees-requires c = record {
  rows = c.requires.rows;
  within = first-within _ _ _ _ c.in-Some.ensures.steps c.loop-id.invariant.within;
}

pub loop-id-preserved : goal.loop-id-preserved
loop-id-preserved c = record {
  left = agree-more c.args.graph.now c.args.generation c.args.ids.now (row_of_commit c.args.commit).parents _ _ _ _ _ _ (drop_more c.args.ids.now c.loop-id.id-index _ c.loop-id-test.true) c.in-Some.ensures.steps c.if-not-place_agrees.ensures c.loop-id.invariant.left;
  within = rest-within _ _ _ _ c.in-Some.ensures.steps c.loop-id.invariant.within;
}

pub returns-in_default : goal.returns-in_default
returns-in_default c = agree-none c.args.graph.now c.args.generation c.args.ids.now (row_of_commit c.args.commit).parents _ _ _ _ (drop_more c.args.ids.now c.loop-id.id-index no_row.id c.loop-id-test.true) c.in_default.ensures.steps.0 c.loop-id.invariant.left

pub returns-then-not-place_agrees : goal.returns-then-not-place_agrees
returns-then-not-place_agrees c = agree-not c.args.graph.now c.args.generation c.args.ids.now (row_of_commit c.args.commit).parents _ _ _ _ _ _ (drop_more c.args.ids.now c.loop-id.id-index _ c.loop-id-test.true) c.in-Some.ensures.steps c.if-not-place_agrees.ensures c.loop-id.invariant.left

pub returns : goal.returns
returns c = agree-last c.args.graph.now c.args.generation c.args.ids.now (row_of_commit c.args.commit).parents _ _ c.next-2.result c.next-2.new.self (drop_all c.loop-id.id-index c.args.ids.now c.loop-id-test.false) c.next-2.ensures.steps c.is_none.result c.is_none.ensures c.loop-id.invariant.left
