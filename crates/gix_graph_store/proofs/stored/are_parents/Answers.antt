use Rattle.std.proofs.Common.{List, length, subst, sym, ◌∙◌}
use Rattle.std.proofs.lemmas.List.{drop_more}
use Rattle.gix_commitgraph.specs.Rows.{GraphRow, no_row}
use Rattle.gix_commitgraph.specs.GraphCommit.{row_of_commit}
use Rattle.gix_graph_check.proofs.Places.{AreWithin, rest-within}
use Rattle.gix_graph_store.proofs.StoredCommits.{left-start, left-none, left-more, left-other}
use Rattle.gix_graph_store.proofs.stored.are_parents.Goals as goal

pub loop-id-init : goal.loop-id-init
loop-id-init c = record {
  left = left-start c.args.graph.now (row_of_commit c.args.commit).parents c.args.ids.now c.iter_parents-places.result c.iter_parents-places.ensures.places;
  within = subst (λ (rows : List GraphRow). AreWithin (length rows) c.iter_parents-places.result) c.requires c.iter_parents-places.ensures.within;
}

pub loop-id-preserved : goal.loop-id-preserved
loop-id-preserved c = record {
  left = left-more _ _ _ _ _ c.loop-id.invariant.left _ _ (drop_more c.args.ids.now c.loop-id.id-index _ c.loop-id-test.true) _ _ c.in-Ok.position c.in-Some.ensures.steps c.in-Ok.is _ c.commit_at.ensures.row _ c.id.ensures (sym c.is_id.ensures ∙ c.if-not-is_id.false);
  within = rest-within _ _ _ _ c.in-Some.ensures.steps c.loop-id.invariant.within;
}

pub returns-in_default : goal.returns-in_default
returns-in_default c = left-none _ _ _ _ _ c.loop-id.invariant.left _ _ (drop_more c.args.ids.now c.loop-id.id-index no_row.id c.loop-id-test.true) c.in_default.ensures.steps.0

pub returns-then-not-is_id : goal.returns-then-not-is_id
returns-then-not-is_id c = left-other _ _ _ _ _ c.loop-id.invariant.left _ _ (drop_more c.args.ids.now c.loop-id.id-index _ c.loop-id-test.true) _ _ c.in-Ok.position c.in-Some.ensures.steps c.in-Ok.is _ c.commit_at.ensures.row _ c.id.ensures (sym c.is_id.ensures ∙ c.if-not-is_id.true)
