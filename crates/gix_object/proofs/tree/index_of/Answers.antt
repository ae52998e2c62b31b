use Rattle.std.proofs.Common.{eqb, w8, refl, sym, arith, ◌==◌, ℕ}
use Rattle.std.proofs.lemmas.Simd.{length-chunk, bitmask_splat}
use lib.Lanes.{chunk}
use Rattle.gix_object.proofs.FirstByLanes.{fails_before, passes_there, place_within, position_is}
use Rattle.gix_object.proofs.tree.index_of.Goals as goal

pub returns-then-places-ne0-clause-value : goal.returns-then-places-ne0-clause-value
returns-then-places-ne0-clause-value c =
    let bytes = c.args.bytes.now in
    let long = length-chunk 0 32 bytes c.if-bytes-ge32.true in
    let test = λ (b : ℕ). b == c.args.byte in
    let marked = bitmask_splat w8 eqb (chunk 0 32 bytes) 32 c.args.byte long (omega arith) in
    let room = c.if-bytes-ge32.true in
    let within = place_within test 32 (omega arith) bytes _ _ room marked c.if-places-ne0.true refl in
    sym (position_is test bytes _ (omega (arith, within, room)) (fails_before test 32 (omega arith) bytes _ _ room marked c.if-places-ne0.true refl) (passes_there test 32 (omega arith) bytes _ _ room marked c.if-places-ne0.true refl))

pub returns-then-places-ne0-clause-bound : goal.returns-then-places-ne0-clause-bound
returns-then-places-ne0-clause-bound c =
    let bytes = c.args.bytes.now in
    let marked = bitmask_splat w8 eqb (chunk 0 32 bytes) 32 c.args.byte (length-chunk 0 32 bytes c.if-bytes-ge32.true) (omega arith) in
    let room = c.if-bytes-ge32.true in
    let within = place_within (λ (b : ℕ). b == c.args.byte) 32 (omega arith) bytes _ _ room marked c.if-places-ne0.true refl in
    omega (arith, within, room)
