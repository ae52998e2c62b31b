use Rattle.gix_commitgraph.proofs.Common.{read_packed, rows_in}
use Rattle.gix_commitgraph.specs.Bytes.{packed_bytes}
use Rattle.gix_commitgraph.proofs.Packed.RowAt.{words_kept}
use Rattle.gix_commitgraph.proofs.Graph.overflow.Goals as goal

pub split_at-requires : goal.split_at-requires
split_at-requires c =
    let kept = c.self.inside in
    rw (c.row_len.ensures, c.as_slice.ensures) (words_kept (packed_bytes kept.packed) kept.layout (rows_in (read_packed (packed_bytes kept.packed))) c.self.invariant).0

pub returns : goal.returns
returns c =
    let kept = c.self.inside in
    rw (← c.self.view_is, c.split_at.ensures.back, c.row_len.ensures, c.as_slice.ensures) (words_kept (packed_bytes kept.packed) kept.layout (rows_in (read_packed (packed_bytes kept.packed))) c.self.invariant).1
