use Rattle.std.proofs.Common.{ℕ, ◌≡◌, ◌-◌, ◌^◌, ◌+◌, ◌*◌, get_or, drop, min, sym, ap, ◌∙◌, arith}
use Rattle.gix_object.specs.CommitText.{digits_from}
use Rattle.gix_object.proofs.Commits.Seconds.{digits_more, digits_stop, digits_end, digits_from-min}
use Rattle.gix_object.proofs.commit.number_at.Goals as goal

pub loop-b-preserved : goal.loop-b-preserved
loop-b-preserved c =
    let bytes = c.args.bytes.now in
    let i : ℕ = c.loop-b.b-index in
    let n : ℕ = 10 * c.loop-b.number + (get_or bytes i 0 - 48) in
    let capped : c.with_digit-number.result ≡ min n (2 ^ 64 - 1) = omega arith in (
      omega arith,
      ap (λ k. min (digits_from k (drop (i + 1) bytes)) (2 ^ 64 - 1)) capped
          ∙ digits_from-min (2 ^ 64 - 1) n (drop (i + 1) bytes)
          ∙ ap (λ k. min k (2 ^ 64 - 1)) (sym (digits_more c.loop-b.number bytes i (omega arith) (sym c.is_ascii_digit.ensures.value ∙ c.if-not-is_ascii_digit.false)))
          ∙ c.loop-b.invariant.1,
    )

pub returns-then-not-is_ascii_digit : goal.returns-then-not-is_ascii_digit
returns-then-not-is_ascii_digit c =
    omega (arith, c.loop-b.invariant.1, digits_stop c.loop-b.number c.args.bytes.now c.loop-b.b-index (omega arith) (sym c.is_ascii_digit.ensures.value ∙ c.if-not-is_ascii_digit.true))

pub returns : goal.returns
returns c = omega (arith, c.loop-b.invariant.1, digits_end c.loop-b.number c.args.bytes.now c.loop-b.b-index (omega arith))
