use Rattle.std.proofs.Common.{◌<◌, length}
use Rattle.gix_commitgraph.proofs.Common.{read_packed, rows_in}
use Rattle.gix_commitgraph.specs.Bytes.{packed_bytes}
use Rattle.gix_commitgraph.proofs.Packed.RowAt.{row_within, begins_with_row}
use Rattle.gix_commitgraph.proofs.Graph.row.Goals as goal

pub row-requires : goal.row-requires
row-requires c =
    let kept = c.self.inside in
    let lt : c.args.row < length (rows_in (read_packed (packed_bytes kept.packed))) = rw c.self.view_is c.requires in
    rw c.as_slice.ensures (row_within (packed_bytes kept.packed) kept.layout (rows_in (read_packed (packed_bytes kept.packed))) c.args.row c.self.invariant lt)

pub returns : goal.returns
returns c =
    let kept = c.self.inside in
    let lt : c.args.row < length (rows_in (read_packed (packed_bytes kept.packed))) = rw c.self.view_is c.requires in
    rw (← c.self.view_is, c.row.ensures.bytes, c.as_slice.ensures) (begins_with_row (packed_bytes kept.packed) kept.layout (rows_in (read_packed (packed_bytes kept.packed))) c.args.row c.self.invariant lt)
