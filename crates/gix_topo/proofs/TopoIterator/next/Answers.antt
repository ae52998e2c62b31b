use Rattle.std.proofs.Common.{ap, subst, inl, inr, ◌∙◌, ◌≡◌, ◌⊎◌, [], Some, None, Ok, Err}
use Rattle.gix_topo.proofs.Common.{walk_of}
use Rattle.gix_topo.proofs.Taking.TakeNext.{turn_ended, turn_failed, turn_given, turn_refused, turn_less, turn_asks, turn_spent, progresses}
use Rattle.gix_topo.proofs.TopoIterator.next.Goals as goal

pub returns-in_err-info-clause-steps : goal.returns-in_err-info-clause-steps
returns-in_err-info-clause-steps g c =
    rw (c.from_residual.ensures) (c.loop-info.invariant.steps None (walk_of c.take_next.new.self c.loop-info.self-inside.predicate) (turn_ended g.F.Find.objects g.F.Find.faulty g.P.Predicate.answers c.take_next.ensures.takes c.in_err-info.was c.loop-info.self-inside.predicate))

pub returns-in-Err-clause-steps : goal.returns-in-Err-clause-steps
returns-in-Err-clause-steps g c =
    c.loop-info.invariant.steps (Some (Err c.in-Err.fault)) (walk_of c.take_next.new.self c.loop-info.self-inside.predicate) (turn_failed g.F.Find.objects g.F.Find.faulty g.P.Predicate.answers c.take_next.ensures.takes c.in-Err.fault (c.in_ok-info.was ∙ ap Some c.in-Err.is) c.loop-info.self-inside.predicate)

pub returns-in-Err-clause-goes : goal.returns-in-Err-clause-goes
returns-in-Err-clause-goes g c = progresses g.F.Find.objects g.F.Find.faulty g.P.Predicate.answers c.args.self.now (walk_of c.take_next.new.self c.loop-info.self-inside.predicate) (λ walk. g.P.Predicate.can_accept walk.predicate ⊎ (walk.ready ≡ [])) _ (returns-in-Err-clause-steps g c) (inr (turn_spent g.F.Find.objects g.F.Find.faulty c.take_next.ensures.takes c.in-Err.fault (c.in_ok-info.was ∙ ap Some c.in-Err.is)))

pub accepts-requires : goal.accepts-requires
accepts-requires g c = turn_asks g.F.Find.objects g.F.Find.faulty c.take_next.ensures.takes c.in-Ok.info (c.in_ok-info.was ∙ ap Some c.in-Ok.is) c.loop-info.invariant.asks

pub returns-then-accepts-clause-steps : goal.returns-then-accepts-clause-steps
returns-then-accepts-clause-steps g c =
    c.loop-info.invariant.steps (Some (Ok c.in-Ok.info)) (walk_of c.take_next.new.self c.accepts.new.self) (turn_given g.F.Find.objects g.F.Find.faulty g.P.Predicate.answers c.take_next.ensures.takes c.in-Ok.info (c.in_ok-info.was ∙ ap Some c.in-Ok.is) c.loop-info.self-inside.predicate c.accepts.new.self (subst (λ b. g.P.Predicate.answers c.loop-info.self-inside.predicate c.in-Ok.info.id b c.accepts.new.self) c.if-accepts.true c.accepts.ensures.answer))

pub returns-then-accepts-clause-goes : goal.returns-then-accepts-clause-goes
returns-then-accepts-clause-goes g c = progresses g.F.Find.objects g.F.Find.faulty g.P.Predicate.answers c.args.self.now (walk_of c.take_next.new.self c.accepts.new.self) (λ walk. g.P.Predicate.can_accept walk.predicate ⊎ (walk.ready ≡ [])) _ (returns-then-accepts-clause-steps g c) (inl c.accepts.ensures.again)

pub loop-info-smaller-else-accepts : goal.loop-info-smaller-else-accepts
loop-info-smaller-else-accepts g c = turn_less g.F.Find.objects g.F.Find.faulty g.P.Predicate.answers c.take_next.ensures.takes c.in-Ok.info (c.in_ok-info.was ∙ ap Some c.in-Ok.is) c.loop-info.self-inside.predicate c.accepts.new.self

pub loop-info-preserved-else-accepts : goal.loop-info-preserved-else-accepts
loop-info-preserved-else-accepts g c = record {
  steps = λ answer new n. c.loop-info.invariant.steps answer new (turn_refused g.F.Find.objects g.F.Find.faulty g.P.Predicate.answers c.take_next.ensures.takes c.in-Ok.info (c.in_ok-info.was ∙ ap Some c.in-Ok.is) c.loop-info.self-inside.predicate c.accepts.new.self (subst (λ b. g.P.Predicate.answers c.loop-info.self-inside.predicate c.in-Ok.info.id b c.accepts.new.self) c.if-accepts.false c.accepts.ensures.answer) answer new n);
  asks = inl c.accepts.ensures.again;
  may = c.take_next.ensures.«open»;
}

pub loop-info-smaller : goal.loop-info-smaller
loop-info-smaller g c = turn_less g.F.Find.objects g.F.Find.faulty g.P.Predicate.answers c.take_next.ensures.takes c.in-Ok.info (c.in_ok-info.was ∙ ap Some c.in-Ok.is) c.loop-info.self-inside.predicate c.accepts.new.self

pub loop-info-preserved : goal.loop-info-preserved
loop-info-preserved g c = record {
  steps = λ answer new n. c.loop-info.invariant.steps answer new (turn_refused g.F.Find.objects g.F.Find.faulty g.P.Predicate.answers c.take_next.ensures.takes c.in-Ok.info (c.in_ok-info.was ∙ ap Some c.in-Ok.is) c.loop-info.self-inside.predicate c.accepts.new.self (subst (λ b. g.P.Predicate.answers c.loop-info.self-inside.predicate c.in-Ok.info.id b c.accepts.new.self) c.if-accepts.false c.accepts.ensures.answer) answer new n);
  asks = inl c.accepts.ensures.again;
  may = c.take_next.ensures.«open»;
}
