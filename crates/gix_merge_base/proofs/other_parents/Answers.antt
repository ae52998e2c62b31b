use Rattle.std.proofs.Common.{ap, take, ◌∙◌}
use Rattle.std.proofs.lemmas.List.{take_more}
use Rattle.std.proofs.lemmas.List.Elements.{Contains-get_or}
use Rattle.std.proofs.lemmas.Result.{err_from_is_err_and}
use Rattle.gix_revwalk.specs.Agreeing.{rows_in, rows_of}
use Rattle.gix_merge_base.proofs.Reading.{parents_read, reads_more, unread_among, others_same}
use Rattle.gix_merge_base.proofs.other_parents.Goals as goal

pub loop-id-init : goal.loop-id-init
loop-id-init g c = record { objects_stay = ap (λ o. o.now) c.new-source.ensures.objects; graph_stays = ap rows_of c.new-source.ensures.graph ∙ c.in_ok-graph.ensures; those = λ agreeing. c.new-those.ensures.items }

pub loop-id-preserved : goal.loop-id-preserved
loop-id-preserved g c = record {
  objects_stay = ap (λ o. o.now) c.in_ok-parent_ids.ensures.objects ∙ c.loop-id.invariant.objects_stay;
  graph_stays = ap rows_of c.in_ok-parent_ids.ensures.graph ∙ c.loop-id.invariant.graph_stays;
  those =
      reads_more (g.F.Find.objects c.args.objects.now) (rows_in c.args.graph) (take c.loop-id.id-index c.args.ids.now) _ _ _ _ _ (take_more c.args.ids.now c.loop-id.id-index _ c.loop-id-test.true) c.loop-id.invariant.those
      (parents_read g.F.Find.objects g.F.Find.faulty c.loop-id.invariant.objects_stay c.loop-id.invariant.graph_stays c.in_ok-parent_ids.ensures.parents)
      (others_same _ _ _ _ _ c.as_slice.ensures c.in_ok-push_others.ensures);
}

pub returns-in_err-parent_ids-clause-err : goal.returns-in_err-parent_ids-clause-err
returns-in_err-parent_ids-clause-err g c =
    let p = err_from_is_err_and c.from_residual-in_err-parent_ids.result c.from_residual-in_err-parent_ids.ensures.1 in
    unread_among g.F.Find.objects g.F.Find.faulty c.loop-id.invariant.objects_stay c.args.ids.now (Contains-get_or c.args.ids.now c.loop-id.id-index _ c.loop-id-test.true) p.1 p.2 c.in_err-parent_ids.ensures.fault
