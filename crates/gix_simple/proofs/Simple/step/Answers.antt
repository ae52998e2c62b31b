use Rattle.std.proofs.Common.{Some, Err, sym, subst}
use Rattle.gix_simple.specs.declared.Error.TheVariants as error
use Rattle.gix_simple.proofs.Common.{TakesOut, Steps, time_order}
use Rattle.gix_simple.specs.Walk.{no_memory}
use Rattle.gix_simple.proofs.TakesCommit.{steps_taken, steps_ended}
use Rattle.gix_simple.proofs.Simple.step.Goals as goal

pub returns-in-Err-clause-steps : goal.returns-in-Err-clause-steps
returns-in-Err-clause-steps g c = subst (Steps g.F.Find.objects g.F.Find.faulty g.P.Predicate.answers c.args.self.now (Some (Err error.Memory))) (sym c.in-Err.ensures.err) (no_memory c.in-Err.ensures.some_left)

pub returns-in_default-clause-steps : goal.returns-in_default-clause-steps
returns-in_default-clause-steps g c =
    let out = subst (λ taken. TakesOut (time_order c.args.self.now.parents c.args.self.now.sorting) c.args.self.now.pending taken c.choose.new.self.pending) c.in_default.is c.in-Ok.ensures.ok in
    steps_ended g.F.Find.objects g.F.Find.faulty g.P.Predicate.answers c.args.self.now c.choose.new.self out.0 out.1 c.in-Ok.ensures.rest

pub returns-clause-steps : goal.returns-clause-steps
returns-clause-steps g c =
    let out = subst (λ taken. TakesOut (time_order c.args.self.now.parents c.args.self.now.sorting) c.args.self.now.pending taken c.choose.new.self.pending) c.in-Some.is c.in-Ok.ensures.ok in
    steps_taken g.F.Find.objects g.F.Find.faulty g.P.Predicate.answers c.args.self.now c.in-Some.taken c.choose.new.self out c.in-Ok.ensures.rest _ _ c.take.ensures.takes
