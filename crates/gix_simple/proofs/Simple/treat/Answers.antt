use Rattle.std.proofs.Common.{subst, ap, Err, SFits, rules, w64, ◌∙◌}
use Rattle.std.proofs.lemmas.Int.{to_z-of_z}
use Rattle.std.proofs.lemmas.Result.{err_from_is_err_and}
use Rattle.gix_simple.proofs.Common.{Asks, in_rows}
use Rattle.gix_simple.proofs.TreatsId.{met_new, treats_met, treats_unmet, treats_refused, treats_time_fails, treats_accepted, treats_stopped}
use Rattle.gix_simple.proofs.Simple.treat.Goals as goal

pub returns-in_err-is_new-clause-treats : goal.returns-in_err-is_new-clause-treats
returns-in_err-is_new-clause-treats g c =
    let p = err_from_is_err_and c.from_residual.result c.from_residual.ensures.1 in
    rw (p.1 ∙ ap (λ e. Err e) p.2) (treats_unmet g.F.Find.objects g.F.Find.faulty g.P.Predicate.answers (in_rows c.args.times) c.args.id _ _ c.in_err-is_new.ensures)

pub returns-then-not-is_new-clause-treats : goal.returns-then-not-is_new-clause-treats
returns-then-not-is_new-clause-treats g c = treats_met g.F.Find.objects g.F.Find.faulty g.P.Predicate.answers (in_rows c.args.times) c.args.id _ _ (Rattle.std.specs.contracts.alloc.AllocError.the_row).Denot c.in_ok-is_new.is_new c.in_ok-is_new.ensures c.if-not-is_new.true

pub returns-then-not-ask-clause-treats : goal.returns-then-not-ask-clause-treats
returns-then-not-ask-clause-treats g c =
    let n = met_new g.F.Find.objects g.F.Find.faulty g.P.Predicate.answers (in_rows c.args.times) c.args.id c.args.self.now c.meet.new.self (Rattle.std.specs.contracts.alloc.AllocError.the_row).Denot c.in_ok-is_new.is_new c.in_ok-is_new.ensures c.if-not-is_new.false in
    treats_refused g.F.Find.objects g.F.Find.faulty g.P.Predicate.answers (in_rows c.args.times) c.args.id _ _ n.1 n.0 _ _ c.ask.ensures.rest (subst (λ b. Asks g.F.Find.objects g.F.Find.faulty g.P.Predicate.answers c.meet.new.self c.args.id b c.ask.new.self.predicate) c.if-not-ask.true c.ask.ensures.asks)

pub returns-in_err-time-clause-treats : goal.returns-in_err-time-clause-treats
returns-in_err-time-clause-treats g c =
    let n = met_new g.F.Find.objects g.F.Find.faulty g.P.Predicate.answers (in_rows c.args.times) c.args.id c.args.self.now c.meet.new.self (Rattle.std.specs.contracts.alloc.AllocError.the_row).Denot c.in_ok-is_new.is_new c.in_ok-is_new.ensures c.if-not-is_new.false in
    let yes = subst (λ b. Asks g.F.Find.objects g.F.Find.faulty g.P.Predicate.answers c.meet.new.self c.args.id b c.ask.new.self.predicate) c.if-not-ask.false c.ask.ensures.asks in
    let p = err_from_is_err_and c.from_residual-in_err-time.result c.from_residual-in_err-time.ensures.1 in
    rw (p.1 ∙ ap (λ e. Err e) p.2) (treats_time_fails g.F.Find.objects g.F.Find.faulty g.P.Predicate.answers (in_rows c.args.times) c.args.id _ _ n.1 n.0 _ _ c.ask.ensures.rest _ c.in_err-time.ensures.kept yes _ c.in_err-time.ensures.time)

pub returns-clause-treats : goal.returns-clause-treats
returns-clause-treats g c =
    let n = met_new g.F.Find.objects g.F.Find.faulty g.P.Predicate.answers (in_rows c.args.times) c.args.id c.args.self.now c.meet.new.self (Rattle.std.specs.contracts.alloc.AllocError.the_row).Denot c.in_ok-is_new.is_new c.in_ok-is_new.ensures c.if-not-is_new.false in
    let yes = subst (λ b. Asks g.F.Find.objects g.F.Find.faulty g.P.Predicate.answers c.meet.new.self c.args.id b c.ask.new.self.predicate) c.if-not-ask.false c.ask.ensures.asks in
    let fits : SFits w64 c.in_ok-time.time = search rules in
    let queued = simp to_z-of_z at c.in_ok-enqueue.ensures.ok in
    treats_accepted g.F.Find.objects g.F.Find.faulty g.P.Predicate.answers (in_rows c.args.times) c.args.id _ _ n.1 n.0 _ _ c.ask.ensures.rest _ c.in_ok-time.ensures.kept yes _ _ c.in_ok-enqueue.ensures.rest c.in_ok-time.time c.in_ok-time.ensures.time queued

pub returns-in_err-enqueue-clause-treats : goal.returns-in_err-enqueue-clause-treats
returns-in_err-enqueue-clause-treats g c =
    let n = met_new g.F.Find.objects g.F.Find.faulty g.P.Predicate.answers (in_rows c.args.times) c.args.id c.args.self.now c.meet.new.self (Rattle.std.specs.contracts.alloc.AllocError.the_row).Denot c.in_ok-is_new.is_new c.in_ok-is_new.ensures c.if-not-is_new.false in
    let yes = subst (λ b. Asks g.F.Find.objects g.F.Find.faulty g.P.Predicate.answers c.meet.new.self c.args.id b c.ask.new.self.predicate) c.if-not-ask.false c.ask.ensures.asks in
    let p = err_from_is_err_and c.from_residual-in_err-enqueue.result c.from_residual-in_err-enqueue.ensures.1 in
    rw (p.1 ∙ ap (λ e. Err e) p.2) (treats_stopped g.F.Find.objects g.F.Find.faulty g.P.Predicate.answers (in_rows c.args.times) c.args.id _ _ n.1 n.0 _ _ c.ask.ensures.rest _ c.in_ok-time.ensures.kept yes _ _ c.in_err-enqueue.ensures.rest c.in_err-enqueue.ensures.err)
