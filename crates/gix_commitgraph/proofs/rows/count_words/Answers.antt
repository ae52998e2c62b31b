use Rattle.std.proofs.Common.{◌≡◌, ◌+◌, length, List, ap, sym, ◌∙◌, arith}
use Rattle.gix_commitgraph.proofs.Common.{row_seen, Row, ParentPlace, overflow_of}
use Rattle.gix_commitgraph.proofs.Packed.HandedRows.{words_of_more, words_of_part}
use Rattle.gix_commitgraph.proofs.rows.count_words.Goals as goal

pub returns-then-len-words : goal.returns-then-len-words
returns-then-len-words c =
    let rows = c.args.rows.now in
    let i = c.loop-row.row-index in
    let row = c.row-item.result in
    let here : c.overflow_len-len.result ≡ length (overflow_of row.parents.items) = c.overflow_len-len.ensures ∙ ap (λ (x : List ParentPlace). length (overflow_of x)) c.as_slice.ensures in
    let read = ap (λ (x : Row). length (overflow_of x.parents.items)) (sym c.row-item.is) in
    omega (arith, here, read, c.loop-row.invariant.0, words_of_more row_seen rows i row c.loop-row-test.true, words_of_part row_seen rows (i + 1))
