use Rattle.std.proofs.Common.{◌≡◌, ◌≤◌, ◌+◌, ◌-◌, ◌*◌, length, arith}
use Rattle.gix_graph_file.proofs.Common.{id_len}
use Rattle.gix_graph_file.proofs.Written.{row_written, no_rows}
use Rattle.gix_graph_file.proofs.packing.push_rows.Goals as goal

pub loop-row-preserved : goal.loop-row-preserved
loop-row-preserved c =
    let k = c.args.kind in
    let l = c.loop-row in
    let left = c.args.count - (l._row + 1) in
    let e : c.args.count - l._row ≡ left + 1 = omega arith in
    let ids : id_len k * (left + 1) ≤ length l.ids_left.now = rw e at l.invariant.ids in
    let commits : id_len k * (left + 1) + 16 * (left + 1) ≤ length l.commits_left.now = rw e at l.invariant.commits in
    record {
      ids = omega (arith, ids, c.split_at.ensures.back_len, c.len_in_bytes-len.ensures);
      commits = omega (arith, commits, c.split_at-in-loop-row.ensures.back_len, c.split_at-in-loop-row-2.ensures.back_len, c.len_in_bytes-len.ensures);
      written = row_written k c.args.rows left c.len_in_bytes-len.result l.ids_left.now l.commits_left.now _ l.out.items _ _ _ _ _ _ _ c.len_in_bytes-len.ensures
          c.split_at.ensures.front c.split_at.ensures.back c.split_at-in-loop-row.ensures.front c.split_at-in-loop-row.ensures.back c.split_at-in-loop-row-2.ensures.front c.split_at-in-loop-row-2.ensures.back
          c.in_ok-push_row.ensures (rw e at l.invariant.written);
    }

pub returns : goal.returns
returns c =
    let l = c.loop-row in
    let done : c.args.count - l._row ≡ 0 = omega arith in
    no_rows c.args.kind c.args.rows (c.args.count - l._row) l.ids_left.now l.commits_left.now _ l.out.items done l.invariant.written
