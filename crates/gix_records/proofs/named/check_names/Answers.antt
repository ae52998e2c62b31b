use Rattle.std.proofs.Common.{refl, sym, arith}
use Rattle.std.proofs.lemmas.Bool.{false≢true}
use Rattle.gix_records.specs.RecordFront.{front_shown}
use Rattle.gix_records.proofs.RecordFacts.{found_takes}
use Rattle.gix_records.proofs.Naming.{compared_one, compared_other, compared_all}
use Rattle.gix_records.proofs.named.check_names.Goals as goal

pub returns-then-not-is_named-clause-fault : goal.returns-then-not-is_named-clause-fault
returns-then-not-is_named-clause-fault c =
    compared_other _ _ _ (front_shown c.in-Some.front) c.loop-front.invariant.compared (sym c.in-Some.ensures) (λ named. false≢true (c.if-not-is_named.ensures.1 named))

pub loop-front-smaller : goal.loop-front-smaller
loop-front-smaller c = found_takes _ (front_shown c.in-Some.front) (sym c.in-Some.ensures)

pub loop-front-preserved : goal.loop-front-preserved
loop-front-preserved c = record {
  compared = compared_one _ _ _ (front_shown c.in-Some.front) c.loop-front.invariant.compared (sym c.in-Some.ensures) (c.if-not-is_named.ensures.0 refl);
  room = omega (arith, c.loop-front.invariant.room, found_takes c.loop-front.rest.now (front_shown c.in-Some.front) (sym c.in-Some.ensures));
}

pub returns-clause-named : goal.returns-clause-named
returns-clause-named c = compared_all _ _ _ c.loop-front.invariant.compared (sym c.in_default.ensures)
