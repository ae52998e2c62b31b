use Rattle.std.proofs.Common.{◌≡◌, ◌≤◌, ◌+◌, ◌-◌, ◌*◌, [], ◌∷◌, length, ◌∙◌, ap, arith}
use Rattle.std.proofs.lemmas.List.{map-append}
use Rattle.gix_graph_file.proofs.Common.{err_from_is_err_and, id_len, words_of, row_seen, rows_seen, seen, layer_rows}
use Rattle.gix_commitgraph.proofs.Packed.Steps.{length-words_of}
use Rattle.gix_graph_file.proofs.ChainRows.{row-fault, row-more, rows-end, words-left}
use Rattle.gix_graph_file.proofs.chain.push_rows.Goals as goal

pub returns-in_err-row-clause-fault : goal.returns-in_err-row-clause-fault
returns-in_err-row-clause-fault c =
    let layout = c.args.layout in
    let l = c.loop-r in
    let left = layout.rows - (l.r + 1) in
    let e : layout.rows - l.r ≡ left + 1 = omega arith in
    let at : c.saturating_sub-at.result ≡ length (words_of layout.edges.now) - length (words_of l.edges.now) = omega (arith, c.saturating_sub-at.ensures, length-words_of layout.edges.now, length-words_of l.edges.now) in
    let p = err_from_is_err_and c.from_residual.result c.from_residual.ensures.1 in
    rw (p.1, p.2) (λ other. row-fault layout.kind c.args.limit (length (words_of layout.edges.now)) left l.r c.saturating_sub-at.result c.len_in_bytes-len.result l.before l.ids.now l.commits.now (words_of l.edges.now) _ _ _ _ _ _
    (rows_seen c.args.out.now.items) (rows_seen l.out.items) (layer_rows c.args.limit (seen layout)) c.len_in_bytes-len.ensures at c.split_at.ensures.front c.split_at.ensures.back c.split_at-in-loop-r.ensures.front c.split_at-in-loop-r.ensures.back c.split_at-in-loop-r-2.ensures.front c.split_at-in-loop-r-2.ensures.back
    (rw e at l.invariant.read) _ (c.in_err-row.ensures other))

pub loop-r-preserved : goal.loop-r-preserved
loop-r-preserved c =
    let layout = c.args.layout in
    let k = layout.kind in
    let l = c.loop-r in
    let left = layout.rows - (l.r + 1) in
    let e : layout.rows - l.r ≡ left + 1 = omega arith in
    let ids : id_len k * (left + 1) ≤ length l.ids.now = rw e at l.invariant.ids in
    let commits : id_len k * (left + 1) + 16 * (left + 1) ≤ length l.commits.now = rw e at l.invariant.commits in
    let at : c.saturating_sub-at.result ≡ length (words_of layout.edges.now) - length (words_of l.edges.now) = omega (arith, c.saturating_sub-at.ensures, length-words_of layout.edges.now, length-words_of l.edges.now) in
    record {
      ids = omega (arith, ids, c.split_at.ensures.back_len, c.len_in_bytes-len.ensures);
      commits = omega (arith, commits, c.split_at-in-loop-r.ensures.back_len, c.split_at-in-loop-r-2.ensures.back_len, c.len_in_bytes-len.ensures);
      read = row-more layout.kind c.args.limit (length (words_of layout.edges.now)) left l.r c.saturating_sub-at.result c.len_in_bytes-len.result l.before l.ids.now l.commits.now (words_of l.edges.now) _ _ _ _ _ _
          (rows_seen c.args.out.now.items) (rows_seen l.out.items) (layer_rows c.args.limit (seen layout)) c.len_in_bytes-len.ensures at c.split_at.ensures.front c.split_at.ensures.back c.split_at-in-loop-r.ensures.front c.split_at-in-loop-r.ensures.back c.split_at-in-loop-r-2.ensures.front c.split_at-in-loop-r-2.ensures.back
          (rw e at l.invariant.read) _ _ _ _ c.in_ok-row.ensures (ap rows_seen c.in_ok-push.ensures.items ∙ map-append row_seen l.out.items (c.in_ok-row.row ∷ [])) c.id_of.ensures;
    }

pub returns-then-edges-lt4-clause-rows : goal.returns-then-edges-lt4-clause-rows
returns-then-edges-lt4-clause-rows c =
    let layout = c.args.layout in
    let l = c.loop-r in
    let none : length (words_of l.edges.now) ≡ 0 = omega (arith, length-words_of l.edges.now) in
    let done : layout.rows - l.r ≡ 0 = omega arith in
    rows-end layout.kind c.args.limit (length (words_of layout.edges.now)) (layout.rows - l.r) l.r l.before l.ids.now l.commits.now (words_of l.edges.now) (rows_seen c.args.out.now.items) (rows_seen l.out.items) (layer_rows c.args.limit (seen layout)) done none l.invariant.read

pub returns-else-edges-lt4-clause-fault : goal.returns-else-edges-lt4-clause-fault
returns-else-edges-lt4-clause-fault c =
    let layout = c.args.layout in
    let l = c.loop-r in
    let some : 1 ≤ length (words_of l.edges.now) = omega (arith, length-words_of l.edges.now) in
    let done : layout.rows - l.r ≡ 0 = omega arith in
    λ other. words-left layout.kind c.args.limit (length (words_of layout.edges.now)) (layout.rows - l.r) l.r l.before l.ids.now l.commits.now (words_of l.edges.now) (rows_seen c.args.out.now.items) (rows_seen l.out.items) (layer_rows c.args.limit (seen layout)) done some l.invariant.read
