use Rattle.std.proofs.Common.{◌≡◌, sym, ◌∙◌, ap, refl, arith, length, List, ℕ, [], ◌∷◌, eqb-true}
use Rattle.std.proofs.lemmas.Bool.{eqb-false}
use Rattle.std.proofs.lemmas.Result.{err_from_is_err_and}
use Rattle.gix_object.proofs.MemoryStore.{empty_stored, within_empty, within_put}
use Rattle.gix_records.specs.Records.{bad, stored}
use Rattle.gix_records.specs.RecordFront.{front_shown}
use Rattle.gix_records.proofs.RecordFacts.{stored_none, stored_cut, stored_bad, stored_all, found_takes, bytes_fit, placed_one, only_reading, no_bad_record}
use Rattle.gix_records.proofs.places_of.Goals as goal

pub loop-rest-init : goal.loop-rest-init
loop-rest-init c =
    let none = c.with_room-objects.ensures in
    rw none record {
      read = stored_none _ _ (empty_stored c.args.bytes.now);
      within = within_empty _;
      room = omega arith;
    }

pub overflow_sub-end : goal.overflow_sub-end
overflow_sub-end c = let fit = bytes_fit _ _ _ c.loop-rest.objects (front_shown c.in-Some.front) c.loop-rest.invariant.read (sym c.in-Some.ensures) in omega (arith, fit)

pub overflow_sub-end-in-loop-rest : goal.overflow_sub-end-in-loop-rest
overflow_sub-end-in-loop-rest c = let fit = bytes_fit _ _ _ c.loop-rest.objects (front_shown c.in-Some.front) c.loop-rest.invariant.read (sym c.in-Some.ensures) in omega (arith, fit)

pub overflow_sub-start : goal.overflow_sub-start
overflow_sub-start c = let fit = bytes_fit _ _ _ c.loop-rest.objects (front_shown c.in-Some.front) c.loop-rest.invariant.read (sym c.in-Some.ensures) in omega (arith, fit)

pub returns-in_default-clause-fault : goal.returns-in_default-clause-fault
returns-in_default-clause-fault c =
    bad (stored_bad _ _ _ _ c.loop-rest.invariant.read (λ e. eqb-false _ _ (sym c.is_empty.ensures ∙ c.loop-rest-test.true) (ap length e)) (sym c.in_default.ensures))

pub returns-in_err-insert-clause-fault : goal.returns-in_err-insert-clause-fault
returns-in_err-insert-clause-fault c = let p = err_from_is_err_and c.from_residual.result c.from_residual.ensures.1 in rw (p.1, p.2) (stored_cut _ _ _ _ c.loop-rest.invariant.read (front_shown c.in-Some.front) (sym c.in-Some.ensures))

pub loop-rest-smaller : goal.loop-rest-smaller
loop-rest-smaller c = found_takes _ (front_shown c.in-Some.front) (sym c.in-Some.ensures)

pub loop-rest-preserved : goal.loop-rest-preserved
loop-rest-preserved c =
    let front = front_shown c.in-Some.front in
    let found = sym c.in-Some.ensures in
    let fit = bytes_fit _ _ _ c.loop-rest.objects front c.loop-rest.invariant.read found in
    record {
      read = rw c.in_ok-insert.ensures.ok (placed_one _ _ _ c.loop-rest.objects front c.loop-rest.invariant.read found _ _ (omega (arith, fit)) (omega (arith, fit)));
      within = rw c.in_ok-insert.ensures.ok (within_put c.loop-rest.objects _ c.loop-rest.invariant.within _ _ (omega (arith, fit)) (omega (arith, fit)));
      room = omega (arith, c.loop-rest.invariant.room, found_takes c.loop-rest.rest.now front found);
    }

pub returns-in_default-clause-only : goal.returns-in_default-clause-only
returns-in_default-clause-only c =
    λ records are. absurd (no_bad_record _ records _ (stored_bad _ _ _ _ c.loop-rest.invariant.read (λ e. eqb-false _ _ (sym c.is_empty.ensures ∙ c.loop-rest-test.true) (ap length e)) (sym c.in_default.ensures)) are)

is_nil : (rest : List ℕ) → length rest ≡ 0 → rest ≡ []
is_nil [] e = refl
is_nil (b ∷ rest) e = absurd (omega arith)

pub returns-clause-read : goal.returns-clause-read
returns-clause-read c =
    let read = stored_all _ _ _ _ c.loop-rest.invariant.read (is_nil _ (eqb-true _ _ (sym c.is_empty.ensures ∙ c.loop-rest-test.false))) in
    (read.0, read.1, read.2)

pub returns-clause-only : goal.returns-clause-only
returns-clause-only c =
    let read = stored_all _ _ _ _ c.loop-rest.invariant.read (is_nil _ (eqb-true _ _ (sym c.is_empty.ensures ∙ c.loop-rest-test.false))) in
    λ records are. read.2 ∙ ap stored (only_reading read.0 records _ read.1 are)
