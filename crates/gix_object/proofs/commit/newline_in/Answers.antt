use Rattle.std.proofs.Common.{eqb, w8, refl, arith}
use Rattle.std.proofs.lemmas.Simd.{length-chunk, bitmask_splat}
use lib.Lanes.{chunk}
use Rattle.gix_object.proofs.Commits.Newline.{newline_first}
use Rattle.gix_object.proofs.commit.newline_in.Goals as goal

pub returns-then-newlines-ne0 : goal.returns-then-newlines-ne0
returns-then-newlines-ne0 c =
    let bytes = c.args.bytes.now in
    let long = length-chunk 0 64 bytes c.if-bytes-ge64.true in
    newline_first bytes _ _ c.if-bytes-ge64.true (bitmask_splat w8 eqb (chunk 0 64 bytes) 64 10 long (omega arith)) c.if-newlines-ne0.true refl
