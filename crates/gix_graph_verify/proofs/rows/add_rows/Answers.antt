use Rattle.std.proofs.Common.{◌<◌, length, inl, arith}
use Rattle.gix_commitgraph.specs.Rows.{row_at}
use Rattle.gix_graph_verify.specs.Differences.{IsDifference}
use Rattle.gix_graph_verify.specs.Reporting.{IsOfRow}
use Rattle.gix_graph_verify.proofs.Telling.{tells-none, tells-join, tells-added, told-added, one-row-more}
use Rattle.gix_graph_verify.proofs.Comparing.{said-none, said-some}
use Rattle.gix_graph_verify.proofs.rows.add_rows.Goals as goal
use Rattle.gix_graph_verify.proofs.rows.add_rows.Goals.{in-Some+in_ok-add, in_default}

pub loop-number-preserved : goal.loop-number-preserved
loop-number-preserved g c =
    let rows = c.args.graph.now in
    let lower = c.args.lower.now in
    let n = c.loop-number.number in
    let old = c.loop-number.differences.items in
    let within : n < length rows = omega arith in
    elim c.match-branch-2.branch [
      | in-Some+in_ok-add w ↦
          let new = w.add.new.all.items in
          let is = said-some rows lower (row_at rows n) c.in_ok-difference.field-0 w.in-Some.difference c.in_ok-difference.ensures w.in-Some.is in
          let step = tells-added (IsOfRow rows) old new w.in-Some.difference (n, within, is) w.in_ok-add.ensures in
          rw (w.differences-is) (record {
            tells = tells-join (IsOfRow rows) c.args.differences.now.items old new c.loop-number.invariant.tells step;
            each = one-row-more old new (IsOfRow rows) step rows lower n c.loop-number.invariant.each (told-added old new w.in-Some.difference _ (IsDifference rows (row_at rows n)) is w.in_ok-add.ensures);
          })
      | in_default w ↦
          rw (w.differences-is) (record {
            tells = c.loop-number.invariant.tells;
            each = one-row-more old old (IsOfRow rows) (tells-none (IsOfRow rows) old) rows lower n c.loop-number.invariant.each (inl (said-none rows lower (row_at rows n) c.in_ok-difference.field-0 c.in_ok-difference.ensures w.in_default.is));
          })
    ]
