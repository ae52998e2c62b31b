use Rattle.std.proofs.Common.{◌+◌, subst, ⊎_elim, ◌∙◌, arith}
use Rattle.gix_topo.proofs.Common.{rows_of, LooksUpParent, err_from}
use Rattle.gix_topo.proofs.Taking.OneRelease.{looks_up_by, fails_by, take_more, at_index}
use Rattle.gix_topo.proofs.counting.Counting.look_up_parents.Goals as goal

pub returns-in_err-look_up_parent-clause-fault : goal.returns-in_err-look_up_parent-clause-fault
returns-in_err-look_up_parent-clause-fault g c =
    err_from _ c.from_residual.result c.in_err-look_up_parent.field-0.0 c.from_residual.ensures.1 (
      _,
      at_index c.args.info.now.parent_ids.items c.as_slice-parent-items.result.now c.loop-parent.parent-index _ c.as_slice-parent-items.ensures c.loop-parent-test.true,
      fails_by g.F.Find.objects g.F.Find.faulty c.loop-parent.invariant.counting _ c.in_err-look_up_parent.field-0.0 c.in_err-look_up_parent.ensures.fault,
    )

pub loop-parent-preserved : goal.loop-parent-preserved
loop-parent-preserved g c = record {
  counting = c.look_up_parent.ensures.same ∙ c.loop-parent.invariant.counting;
  known = λ p m. ⊎_elim (c.loop-parent.invariant.known p)
      (λ e. subst (LooksUpParent (g.F.Find.objects c.args.self.now.reader.find) (rows_of c.args.self.now.reader.graph) c.args.self.now.reader.in_use c.args.self.now.frontier) e
      (looks_up_by g.F.Find.objects c.loop-parent.invariant.counting _ c.in_ok-look_up_parent.ensures.known))
      (take_more c.as_slice-parent-items.result.now c.loop-parent.parent-index (c.loop-parent.parent-index + 1) _ p (omega arith) c.loop-parent-test.true m);
}
