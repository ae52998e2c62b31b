use Rattle.std.proofs.Common.{ap, Err, ◌∙◌}
use Rattle.std.proofs.lemmas.Result.{err_from_is_err_and}
use Rattle.gix_simple.proofs.Common.{GoesOn, nil_from_length}
use Rattle.gix_simple.specs.Walk.{none, more}
use Rattle.gix_simple.proofs.TreatsId.{stopped_first}
use Rattle.gix_simple.proofs.Simple.treat_all.Goals as goal

pub returns-in_err-treat-clause-treats : goal.returns-in_err-treat-clause-treats
returns-in_err-treat-clause-treats g c =
    let p = err_from_is_err_and c.from_residual.result c.from_residual.ensures.1 in
    rw (p.1 ∙ ap (λ e. Err e) p.2) (c.loop-id.invariant.treats _ _ (stopped_first g.F.Find.objects g.F.Find.faulty g.P.Predicate.answers _ _ _ _ _ c.in-Some.ensures.cases.0 c.in_err-treat.ensures.treats))

pub loop-id-preserved : goal.loop-id-preserved
loop-id-preserved g c = record {
  treats = λ how new rest. c.loop-id.invariant.treats how new (rw c.in-Some.ensures.cases.0 (more c.in_ok-treat.ensures.treats rest));
  asks = c.in_ok-treat.ensures.asks;
}

pub returns-clause-treats : goal.returns-clause-treats
returns-clause-treats g c = c.loop-id.invariant.treats GoesOn _ (rw (nil_from_length _ c.in_default.ensures.cases) none)
