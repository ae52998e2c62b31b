use Rattle.std.proofs.Common.{eqb, w8, sym, ◌∙◌, arith}
use Rattle.std.proofs.lemmas.Bool.{false≢true}
use Rattle.std.proofs.lemmas.Simd.{length-chunk, bitmask_splat, none_from_empty_mask}
use lib.Lanes.{chunk}
use Rattle.memchr.specs.Find.{is_byte}
use Rattle.gix_object.proofs.commit.angles_end.Goals as goal

pub returns-clause-none : goal.returns-clause-none
returns-clause-none c =
    let bytes = c.args.bytes.now in
    let at = c.in-Some.at in
    let long = length-chunk at 16 bytes (omega arith) in
    let marked = bitmask_splat w8 eqb (chunk at 16 bytes) 16 62 long (omega arith) in
    λ k from to e. false≢true (sym (none_from_empty_mask (is_byte 62) bytes at 16 0 (omega arith) (sym marked ∙ c.if-angles-ne0.false) k from (omega arith)) ∙ e)
