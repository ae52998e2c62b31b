use Rattle.std.proofs.Common.{bit_and, bit_or, refl}
use Rattle.std.proofs.lemmas.Simd.{length-chunk, zip2_splat, splat_is_map}
use lib.Lanes.{chunk}
use Rattle.gix_hash.proofs.HexDigits.Lanes.{minus, no_more, joined, mask_tells}
use Rattle.gix_hash.proofs.digits.are_digits.Goals as goal

pub returns : goal.returns
returns c =
    let v = chunk c.args.at 16 c.args.digits.now in
    let long = length-chunk c.args.at 16 c.args.digits.now c.requires in
    let decimal = joined no_more _ _ v (splat_is_map v 16 10 long) (zip2_splat minus v 16 48 long) in
    let letter = joined no_more _ _ v (splat_is_map v 16 6 long) (joined minus _ _ v (zip2_splat bit_or v 16 32 long) (splat_is_map v 16 97 long)) in
    mask_tells c.args.digits.now c.args.at c.requires c.type_inv.digits _ _ (joined bit_and _ _ v decimal letter) refl
