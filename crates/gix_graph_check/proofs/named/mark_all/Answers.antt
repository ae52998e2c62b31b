use Rattle.std.proofs.Common.{◌+◌, ◌<◌, ◌≤◌, length, refl, ap, sym, ◌∙◌, arith, List}
use Rattle.gix_commitgraph.specs.GraphCommit.{row_of_commit}
use Rattle.gix_commitgraph.specs.Rows.{GraphRow}
use Rattle.gix_graph_check.specs.Heads.{names, is_named}
use Rattle.gix_graph_check.proofs.Marking.{left_rows, marking-start, marking-more, marking-end, rows-more, rows-end}
use Rattle.gix_graph_check.proofs.named.mark_all.Goals as goal

pub loop-number-init : goal.loop-number-init
loop-number-init c = marking-start (is_named c.args.graph.now) (left_rows c.args.graph.now 0) c.args.named.now (λ n. refl)

pub mark_parents-requires : goal.mark_parents-requires
mark_parents-requires c = c.loop-number.invariant.len ∙ c.requires ∙ ap (λ (rows : List GraphRow). length rows) (sym c.commit_at.ensures.rows)

pub loop-number-preserved : goal.loop-number-preserved
loop-number-preserved c =
    let lt : c.loop-number.number < length c.args.graph.now = omega arith in
    marking-more (is_named c.args.graph.now) (left_rows c.args.graph.now c.loop-number.number) (λ n. names n (row_of_commit c.commit_at.result)) (left_rows c.args.graph.now (c.loop-number.number + 1)) c.args.named.now c.loop-number.named c.mark_parents.new.named
    (rows-more c.args.graph.now c.loop-number.number (row_of_commit c.commit_at.result) lt c.commit_at.ensures.row) c.mark_parents.ensures c.loop-number.invariant

pub returns : goal.returns
returns c =
    let le : length c.args.graph.now ≤ c.loop-number.number = omega arith in
    marking-end (is_named c.args.graph.now) (left_rows c.args.graph.now c.loop-number.number) c.args.named.now c.loop-number.named (rows-end c.args.graph.now c.loop-number.number le) c.loop-number.invariant
