use Rattle.std.proofs.Common.{◌<◌, All, IfOk, length, ap, subst, ◌∙◌}
use Rattle.gix_commitgraph.specs.GraphCommit.{row_of_commit}
use Rattle.gix_revwalk.proofs.Rows.{answered_ids, answered_at, rest_within}
use Rattle.gix_graph_store.proofs.Lines.{behind_lines, lines_on, lines_fault, lines_end}
use Rattle.gix_graph_store.proofs.text.add_parents.Goals as goal

pub loop-place-init : goal.loop-place-init
loop-place-init c = record {
  lines = ap (λ ids. behind_lines c.args.text.now.items ids) (ap (answered_ids c.args.graph.now) c.iter_parents-places.ensures.places ∙ answered_at c.args.graph.now (row_of_commit c.args.commit).parents);
  within = subst (λ rows. All (λ answer. IfOk answer (λ position. position.0 < length rows)) c.iter_parents-places.result) c.requires c.iter_parents-places.ensures.within;
}

pub loop-place-preserved : goal.loop-place-preserved
loop-place-preserved c = record {
  lines = lines_on _ _ _ c.loop-place.invariant.lines _ _ _ _ _ c.in-Ok.position c.in-Some.ensures.steps c.in-Ok.is c.commit_at.ensures.row c.id.ensures c.in_ok-add_id_line.ensures;
  within = rest_within _ _ _ _ c.in-Some.ensures.steps c.loop-place.invariant.within;
}

pub returns-in_default-place : goal.returns-in_default-place
returns-in_default-place c = lines_fault _ _ _ c.loop-place.invariant.lines _ _ _ c.in-Some.ensures.steps c.in_default-place.is

pub returns : goal.returns
returns c = lines_end _ _ _ c.loop-place.invariant.lines c.in_default.ensures.steps.0
