-- A number of eight bytes that is read as signed is kept as it is.
use Rattle.std.proofs.Common.{ℤ, ◌∙◌, ap, to_z, of_z, w64}
use Rattle.std.proofs.lemmas.Int.{of_z-to_z}
use Rattle.gix_commitgraph.proofs.fields.time_field.Goals as goal

pub returns : goal.returns
returns c =
    ap (λ (z : ℤ). to_z w64 (of_z w64 z)) c.cast_signed.ensures ∙ ap (to_z w64) (of_z-to_z w64 c.time_bits.result c.time_bits.type_inv ∙ c.time_bits.ensures)
