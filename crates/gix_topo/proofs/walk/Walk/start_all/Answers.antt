use Rattle.std.proofs.Common.{◌≡◌, ◌+◌, [], ◌∷◌, ◌++◌, drop, refl, sym, ap, subst, ◌∙◌, arith}
use Rattle.gix_topo.proofs.Common.{StartsAll, IsStartFault, err_from}
use Rattle.gix_topo.specs.Inside.Starting.{none, more, later}
use Rattle.gix_topo.proofs.Starting.OneTip.{drop_at, drop_none}
use Rattle.gix_topo.proofs.walk.Walk.start_all.Goals as goal

pub loop-index-init : goal.loop-index-init
loop-index-init g c = record { starts = λ new others s. (others, s); fault = λ e f. f; same = refl }

pub returns-in_err-start-clause-fault : goal.returns-in_err-start-clause-fault
returns-in_err-start-clause-fault g c =
    let left : drop c.loop-index.index c.args.self.now.tips.items ≡ c.index.result.now ∷ drop (c.loop-index.index + 1) c.args.self.now.tips.items = drop_at c.loop-index.self.tips.items c.args.self.now.tips.items c.loop-index.index (c.loop-index.index + 1) c.index.result.now (ap (λ p. p.tips) c.loop-index.invariant.same) (omega arith) (omega arith) c.index.ensures in
    err_from _ c.from_residual.result c.in_err-start.field-0.0 c.from_residual.ensures.1 (c.loop-index.invariant.fault c.in_err-start.field-0.0 (subst (λ ids. IsStartFault g.F.Find.objects g.F.Find.faulty c.loop-index.self ids c.in_err-start.field-0.0) (sym left) (c.in_err-start.ensures.fault (drop (c.loop-index.index + 1) c.args.self.now.tips.items))))

pub loop-index-preserved : goal.loop-index-preserved
loop-index-preserved g c =
    let left : drop c.loop-index.index c.args.self.now.tips.items ≡ c.index.result.now ∷ drop (c.loop-index.index + 1) c.args.self.now.tips.items = drop_at c.loop-index.self.tips.items c.args.self.now.tips.items c.loop-index.index (c.loop-index.index + 1) c.index.result.now (ap (λ p. p.tips) c.loop-index.invariant.same) (omega arith) (omega arith) c.index.ensures in
    record {
      starts = λ new others r. c.loop-index.invariant.starts new (c.in_ok-start.ensures.starts.0 ++ others) (subst (λ ids. StartsAll g.F.Find.objects g.F.Find.faulty c.loop-index.self ids (c.in_ok-start.ensures.starts.0 ++ others) new) (sym left) (more c.in_ok-start.ensures.starts.1 r));
      fault = λ e f. c.loop-index.invariant.fault e (subst (λ ids. IsStartFault g.F.Find.objects g.F.Find.faulty c.loop-index.self ids e) (sym left) (later c.in_ok-start.ensures.starts.1 f));
      same = c.start.ensures.same ∙ c.loop-index.invariant.same;
    }

pub returns-clause-starts : goal.returns-clause-starts
returns-clause-starts g c =
    c.loop-index.invariant.starts _ [] (subst (λ ids. StartsAll g.F.Find.objects g.F.Find.faulty c.loop-index.self ids [] c.loop-index.self) (sym (drop_none c.args.self.now.tips.items c.loop-index.index (omega arith))) none)
