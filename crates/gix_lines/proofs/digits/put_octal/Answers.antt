use Rattle.std.proofs.Common.{◌≢◌, ◌⊎◌, inl, inr, ◌<◌, ◌+◌, ◌-◌, ◌%◌, arith, ◌∙◌}
use Rattle.std.proofs.lemmas.List.{length-set}
use Rattle.gix_lines.proofs.Octal.{octal_first, octal_fits, octal_last, octal_left, octal_step}
use Rattle.gix_lines.proofs.digits.put_octal.Goals as goal
use Rattle.gix_lines.proofs.digits.put_octal.Goals.{Joined-at-gt5, then-at-gt5, else-at-gt5+then-rest-ne0}

pub digits-init : goal.digits-init
digits-init c = record {
  at = omega arith;
  len = c.told-text;
  fits = omega arith;
  digits = octal_first c.args.mode c.args.text.now c.told-text;
}

more : (c : Joined-at-gt5) → (5 < c.digits.at) ⊎ (c.digits.rest ≢ 0)
more c = elim c.if-at-gt5.branch [
  | then-at-gt5 w ↦ inl w.if-at-gt5.true
  | else-at-gt5+then-rest-ne0 w ↦ inr w.if-rest-ne0.true
]

some : (c : Joined-at-gt5) → 0 < c.digits.at
some c = octal_left c.digits.at c.digits.rest (more c) c.digits.invariant.fits

pub overflow_sub-at : goal.overflow_sub-at
overflow_sub-at c = some c

pub bounds-text-at : goal.bounds-text-at
bounds-text-at c = omega (arith, c.digits.invariant.at, some (goal.at.bounds-text-at c).Joined-at-gt5)

pub digits-smaller : goal.digits-smaller
digits-smaller c = omega (arith, some (goal.at.digits-smaller c).Joined-at-gt5)

pub digits-preserved : goal.digits-preserved
digits-preserved c =
    let before = some (goal.at.digits-preserved c).Joined-at-gt5 in
    let i = c.digits.invariant in
    record {
      at = omega (arith, i.at);
      len = length-set c.digits.text (c.digits.at - 1) (48 + c.digits.rest % 8) ∙ i.len;
      fits = octal_fits c.digits.at c.digits.rest before i.fits;
      digits = octal_step c.digits.at (c.digits.at - 1) c.digits.rest c.digits.text _ (omega arith) (omega (arith, i.at, i.len)) (more (goal.at.digits-preserved c).Joined-at-gt5) i.digits;
    }

pub returns-clause-digits : goal.returns-clause-digits
returns-clause-digits c = octal_last c.digits.at c.digits.rest c.digits.text _ c.if-at-gt5.false (omega (arith, c.if-rest-ne0.false)) c.digits.invariant.digits
