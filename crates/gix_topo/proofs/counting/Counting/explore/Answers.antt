use Rattle.std.proofs.Common.{refl, sym, ◌∙◌}
use Rattle.gix_topo.specs.Inside.Exploring.{itself, further}
use Rattle.gix_topo.proofs.Counts.ExploreEnds.{steps_smaller, same_on}
use Rattle.gix_topo.proofs.Common.{err_from}
use Rattle.gix_topo.proofs.counting.Counting.explore.Goals as goal

pub loop-self-init : goal.loop-self-init
loop-self-init g c = record { same = record { find = refl; graph = refl; parents = refl; depth = refl }; explores = itself }

pub loop-self-smaller : goal.loop-self-smaller
loop-self-smaller g c = steps_smaller g.F.Find.objects g.F.Find.faulty c.loop-self.self c.step.new.self c.in_ok-step.ensures.steps

pub loop-self-preserved : goal.loop-self-preserved
loop-self-preserved g c = record {
  same = same_on g.F.Find.objects g.F.Find.faulty c.args.self.now c.loop-self.self c.step.new.self c.loop-self.invariant.same c.step.ensures.same;
  explores = further c.loop-self.invariant.explores (sym c.is_pending.ensures.pending ∙ c.loop-self-test.true) c.in_ok-step.ensures.steps;
}

pub returns-in_err-step-clause-fault : goal.returns-in_err-step-clause-fault
returns-in_err-step-clause-fault g c = err_from _ c.from_residual.result c.in_err-step.field-0.0 c.from_residual.ensures.1 (record { so_far = c.loop-self.self; explored = c.loop-self.invariant.explores; fault = c.in_err-step.ensures.fault })
