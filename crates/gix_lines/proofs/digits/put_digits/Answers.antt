use Rattle.std.proofs.Common.{ℕ, arith, slice_index, ap, sym, ◌∙◌}
use Rattle.std.proofs.lemmas.List.{length-replicate}
use Rattle.std.proofs.lemmas.Nat.{and_mask}
use Rattle.hex.specs.Hex.{lower_digits}
use Rattle.hex.proofs.Pairs.{encode_step, encode_done}
use Rattle.gix_lines.proofs.DigitRows.{no_digits, one_digit}
use Rattle.gix_lines.proofs.digits.put_digits.Goals as goal

pub bytes-init : goal.bytes-init
bytes-init g c =
    let size = length-replicate g.row.N 0 ∙ sym c.told-bytes in
    record { first = no_digits _ _ _ size; second = no_digits _ _ _ size }

pub bytes-preserved : goal.bytes-preserved
bytes-preserved g c =
    let byte : ℕ = slice_index c.args.bytes.now c.bytes.i in
    record {
      first = one_digit c.args.bytes.now _ c.bytes.i c.digit.result c.bytes.first (omega (arith, c.told-bytes)) c.digit.ensures c.bytes.invariant.first;
      second = one_digit c.args.bytes.now _ c.bytes.i c.digit-in-bytes.result c.bytes.second (omega (arith, c.told-bytes)) (c.digit-in-bytes.ensures ∙ ap (λ (k : ℕ). slice_index lower_digits k) (and_mask byte 4)) c.bytes.invariant.second;
    }

pub pairs-preserved : goal.pairs-preserved
pairs-preserved g c =
    encode_step lower_digits c.args.bytes.now c.pairs.text c.pairs.i _ _ (omega (arith, c.told-bytes)) (omega (arith, c.told-bytes)) (c.bytes.invariant.first.digits c.pairs.i (omega arith)) (c.bytes.invariant.second.digits c.pairs.i (omega arith)) c.pairs.invariant

pub returns : goal.returns
returns g c = encode_done lower_digits c.args.bytes.now c.pairs.text c.pairs.i (omega (arith, c.told-bytes)) (omega arith) c.pairs.invariant
