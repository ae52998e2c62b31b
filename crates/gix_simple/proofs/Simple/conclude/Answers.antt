use Rattle.std.proofs.Common.{Err, refl, ap, subst}
use Rattle.gix_simple.proofs.Common.{Concludes, given_time, how_ended}
use Rattle.gix_simple.proofs.TakesCommit.{concludes_stopped, concludes_broken, concludes_given}
use Rattle.gix_simple.proofs.Simple.conclude.Goals as goal

pub returns-in-Err-clause-concludes : goal.returns-in-Err-clause-concludes
returns-in-Err-clause-concludes g c =
    subst (λ p. Concludes g.F.Find.objects g.F.Find.faulty g.P.Predicate.answers p.id c.args.scanned.parent_ids.items c.args.generation (given_time c.args.self.now p) c.args.self.now.text c.args.scanned.fault c.args.self.now (how_ended c.args.treated) (Err c.fail.result) c.fail.new.self) c.taken.view_is
    (concludes_stopped g.F.Find.objects g.F.Find.faulty g.P.Predicate.answers _ _ _ _ _ _ _ c.in-Err.stop c.in-Err.is _ _ _ c.from.ensures c.fail.ensures.same c.fail.ensures.left)

pub returns-in-Some-clause-concludes : goal.returns-in-Some-clause-concludes
returns-in-Some-clause-concludes g c =
    subst (λ p. Concludes g.F.Find.objects g.F.Find.faulty g.P.Predicate.answers p.id c.args.scanned.parent_ids.items c.args.generation (given_time c.args.self.now p) c.args.self.now.text c.args.scanned.fault c.args.self.now (how_ended c.args.treated) (Err c.fail-in-Some.result) c.fail-in-Some.new.self) c.taken.view_is
    (concludes_broken g.F.Find.objects g.F.Find.faulty g.P.Predicate.answers _ _ _ _ _ _ _ c.in_default.field-0 c.in_default.is c.in-Some.fault c.in-Some.is _ _ c.fail-in-Some.ensures.same c.fail-in-Some.ensures.left)

pub returns-clause-concludes : goal.returns-clause-concludes
returns-clause-concludes g c =
    concludes_given g.F.Find.objects g.F.Find.faulty g.P.Predicate.answers _ _ _ _ _ _ _ c.in_default.field-0 c.in_default.is c.in_default-fault.is _ (record { same_id = ap (λ p. p.id) c.taken.view_is; same_parents = refl; same_generation = refl; same_time = c.given_time-commit_time.ensures }) _ c.self.view_is _ (ap (λ p. p.id) c.taken.view_is)
