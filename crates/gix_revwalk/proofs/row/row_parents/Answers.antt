use Rattle.std.proofs.Common.{◌≡◌, ◌<◌, ◌+◌, suc, ap, subst, ◌∙◌, arith, All, IfOk, length, length-append}
use Rattle.std.proofs.lemmas.List.{length-map}
use Rattle.gix_commitgraph.specs.Parents.{answer_of}
use Rattle.gix_revwalk.proofs.Common.{row_of_commit}
use Rattle.gix_revwalk.proofs.Rows.{answered_ids, answered_at, behind, behind_none, read_on, rest_within}
use Rattle.gix_revwalk.proofs.row.row_parents.Goals as goal

pub loop-place-init : goal.loop-place-init
loop-place-init c = record {
  ids = ap (λ ids. behind ids (answered_ids c.args.graph.now c.iter_parents-places.result)) c.new-parent_ids.ensures.items ∙ behind_none _ ∙ ap (answered_ids c.args.graph.now) c.iter_parents-places.ensures.places ∙ answered_at c.args.graph.now (row_of_commit c.args.commit).parents;
  counted =
      let none : length c.new-parent_ids.result.items ≡ 0 = ap length c.new-parent_ids.ensures.items in
      let all : length c.iter_parents-places.result ≡ length (row_of_commit c.args.commit).parents = ap length c.iter_parents-places.ensures.places ∙ length-map (row_of_commit c.args.commit).parents answer_of in
      omega arith;
  inline = omega arith;
  within = subst (λ rows. All (λ answer. IfOk answer (λ position. position.0 < length rows)) c.iter_parents-places.result) c.requires c.iter_parents-places.ensures.within;
}

pub loop-place-preserved : goal.loop-place-preserved
loop-place-preserved c = record {
  ids = read_on _ _ _ _ _ _ _ _ c.in-Ok.position c.in-Some.ensures.steps c.in-Ok.is c.commit_at.ensures.row c.id.ensures c.in_ok-push.ensures.ok c.loop-place.invariant.ids;
  counted =
      let one : length c.push.new.self.items ≡ length c.loop-place.parent_ids.items + 1 = ap length c.in_ok-push.ensures.ok ∙ length-append c.loop-place.parent_ids.items _ in
      let less : length c.loop-place.places ≡ suc (length c.next.new.self) = ap length c.in-Some.ensures.steps in
      omega arith;
  inline = omega arith;
  within = rest_within _ _ _ _ c.in-Some.ensures.steps c.loop-place.invariant.within;
}
