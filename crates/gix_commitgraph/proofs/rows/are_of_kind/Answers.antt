use Rattle.std.proofs.Common.{◌≡◌, arith}
use Rattle.gix_commitgraph.proofs.Common.{kind_of, IsRowOf}
use Rattle.gix_commitgraph.proofs.Packed.HandedRows.{all_seen, read_row}
use Rattle.gix_commitgraph.proofs.rows.are_of_kind.Goals as goal

pub returns-then-not-is_row_of_kind : goal.returns-then-not-is_row_of_kind
returns-then-not-is_row_of_kind c =
    λ all. c.if-not-is_row_of_kind.ensures (read_row (λ row. (kind_of row.id ≡ c.args.kind) × (kind_of row.tree ≡ c.args.kind)) c.args.rows.now c.loop-row.row-index c.row-item.result all c.loop-row-test.true c.row-item.is)

pub returns : goal.returns
returns c = all_seen (IsRowOf c.args.kind) c.args.rows.now (λ k d lt. c.loop-row.invariant k d (omega arith))
