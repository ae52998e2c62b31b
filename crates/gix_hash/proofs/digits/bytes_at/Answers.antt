use Rattle.std.proofs.Common.{bit_or, refl}
use Rattle.std.proofs.lemmas.Simd.{length-chunk, zip2_splat, splat_is_map}
use lib.Lanes.{chunk}
use Rattle.gix_hash.proofs.HexDigits.Lanes.{minus, below, put_together, joined, chosen, spelled}
use Rattle.gix_hash.proofs.digits.bytes_at.Goals as goal

pub returns-clause-bytes : goal.returns-clause-bytes
returns-clause-bytes c =
    let v = chunk c.args.at 16 c.args.digits.now in
    let long = length-chunk c.args.at 16 c.args.digits.now c.requires.room in
    let decimal = zip2_splat minus v 16 48 long in
    let letter = joined minus _ _ v (zip2_splat bit_or v 16 32 long) (splat_is_map v 16 87 long) in
    let values = chosen _ _ _ v (joined below _ _ v decimal (splat_is_map v 16 10 long)) decimal letter in
    spelled c.args.digits.now c.args.at c.requires.room c.type_inv.digits c.requires.digits _ _ values refl put_together refl
