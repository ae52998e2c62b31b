use Rattle.std.proofs.Common.{Ok, subst, ◌∙◌, arith}
use Rattle.gix_simple.proofs.Common.{IsTipFault, SortsIn, nil_from_length}
use Rattle.gix_simple.specs.Building.{none, more}
use Rattle.gix_simple.proofs.TipsByTime.{fails_first, fails_later, kept_store, read_some}
use Rattle.gix_simple.proofs.Simple.sort_tips.Goals as goal

pub loop-tip-preserved : goal.loop-tip-preserved
loop-tip-preserved g c = record {
  sorts = λ new rest. c.loop-tip.invariant.sorts new (rw c.in-Some.ensures.items (more (subst (λ p. SortsIn g.F.Find.objects g.F.Find.faulty c.args.limit c.loop-tip.self p.id (Ok tt) c.sort_in.new.self) c.tip.view_is c.in-Ok.ensures) rest));
  fails = λ e f. c.loop-tip.invariant.fails e (fails_later _ _ c.in-Some.tip _ _ e c.in-Some.ensures.items (read_some g.F.Find.objects g.F.Find.faulty c.args.limit c.loop-tip.self c.args.self.now c.sort_in.new.self c.in-Some.tip.id c.loop-tip.invariant.store (subst (λ p. SortsIn g.F.Find.objects g.F.Find.faulty c.args.limit c.loop-tip.self p.id (Ok tt) c.sort_in.new.self) c.tip.view_is c.in-Ok.ensures)) f);
  store = kept_store g.F.Find.objects g.F.Find.faulty c.args.limit _ _ _ c.in-Ok.ensures ∙ c.loop-tip.invariant.store;
}

pub returns-in-Err-clause-err : goal.returns-in-Err-clause-err
returns-in-Err-clause-err g c = λ other. c.loop-tip.invariant.fails c.in-Err.error
    (fails_first _ _ c.in-Some.tip _ _ c.in-Err.error c.in-Some.ensures.items (subst (λ p. IsTipFault (g.F.Find.objects c.args.self.now.store) (g.F.Find.faulty c.args.self.now.store) p.id c.in-Err.error) c.tip.view_is (subst (λ store. IsTipFault (g.F.Find.objects store) (g.F.Find.faulty store) c.tip.inside.id c.in-Err.error) c.loop-tip.invariant.store c.in-Err.ensures)))

pub returns-clause-ok : goal.returns-clause-ok
returns-clause-ok g c = c.loop-tip.invariant.sorts _ (rw (nil_from_length c.loop-tip.tips.items (omega (arith, c.in_default.ensures.cases))) none)
