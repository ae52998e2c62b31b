use Rattle.std.proofs.Common.{◌≡◌, ℕ, ◌+◌, [], ◌∷◌, ◌++◌, length, List, take, subst, sym, ap, ◌∙◌, append_assoc, arith, append-nil, slice_index}
use Rattle.gix_commitgraph.proofs.Common.{AllByRecursion, ParentPlace, overflow_of, overflow_words, row_bytes, row_seen, rows_seen, renumbered, arranged, IsInRange}
use Rattle.gix_commitgraph.specs.Packed.{rows_bytes}
use Rattle.gix_commitgraph.proofs.Packed.RowsArranged.{reads_entry, rows_bytes-push}
use Rattle.gix_commitgraph.proofs.Packed.Whole.{all_append}
use Rattle.gix_commitgraph.proofs.pack.push_rows.Goals as goal

pub loop-place-init : goal.loop-place-init
unfolding rows_bytes
loop-place-init c = record { next_is = omega arith; written = sym (append-nil c.args.out.now.items); range = tt }

pub push_row-requires-clause-places : goal.push_row-requires-clause-places
push_row-requires-clause-places c =
    (reads_entry c.args.rows.now c.args.order.now c.args.numbers.now c.loop-place.place-index _ c.index-rows-place.result c.requires c.loop-place-test.true c.index-rows-place.is).among

pub push_row-requires-clause-few : goal.push_row-requires-clause-few
push_row-requires-clause-few c =
    let read = reads_entry c.args.rows.now c.args.order.now c.args.numbers.now c.loop-place.place-index _ c.index-rows-place.result c.requires c.loop-place-test.true c.index-rows-place.is in
    omega (arith, read.few, c.loop-place.invariant.next_is)

pub overflow_cast-next : goal.overflow_cast-next
overflow_cast-next c =
    let read = reads_entry c.args.rows.now c.args.order.now c.args.numbers.now c.loop-place.place-index _ c.index-rows-place.result c.requires c.loop-place-test.true c.index-rows-place.is in
    omega (arith, read.few, c.overflow_len.ensures, ap (λ (x : List ParentPlace). length (overflow_of x)) c.as_slice.ensures)

pub overflow_add-next : goal.overflow_add-next
overflow_add-next c =
    let read = reads_entry c.args.rows.now c.args.order.now c.args.numbers.now c.loop-place.place-index _ c.index-rows-place.result c.requires c.loop-place-test.true c.index-rows-place.is in
    omega (arith, read.few, c.overflow_len.ensures, ap (λ (x : List ParentPlace). length (overflow_of x)) c.as_slice.ensures, c.loop-place.invariant.next_is)

pub loop-place-preserved : goal.loop-place-preserved
loop-place-preserved c =
    let rows = rows_seen c.args.rows.now in
    let numbers = c.args.numbers.now in
    let i = c.loop-place.place-index in
    let row = renumbered (slice_index numbers) (row_seen c.index-rows-place.result) in
    let first = arranged rows (take i c.args.order.now) numbers in
    let read = reads_entry c.args.rows.now c.args.order.now numbers i _ c.index-rows-place.result c.requires c.loop-place-test.true c.index-rows-place.is in
    let len = ap (λ (x : List ParentPlace). length (overflow_of x)) c.as_slice.ensures in
    let next_is : 0 + length (overflow_words first) ≡ c.loop-place.next = omega (arith, c.loop-place.invariant.next_is) in
    record {
      next_is = omega (arith, read.words, c.loop-place.invariant.next_is, c.overflow_len.ensures, len);
      written = c.in_ok-push_row.ensures.bytes ∙ ap (λ (x : List ℕ). x ++ row_bytes c.loop-place.next row) c.loop-place.invariant.written
          ∙ append_assoc c.args.out.now.items (rows_bytes 0 first) (row_bytes c.loop-place.next row)
          ∙ ap (λ (n : ℕ). c.args.out.now.items ++ (rows_bytes 0 first ++ row_bytes n row)) (sym next_is)
          ∙ ap (λ (x : List ℕ). c.args.out.now.items ++ x) (sym (rows_bytes-push 0 first row) ∙ ap (rows_bytes 0) (sym read.more));
      range = subst (AllByRecursion IsInRange) (sym read.more) (all_append IsInRange first (row ∷ []) c.loop-place.invariant.range (c.in_ok-push_row.ensures.range, tt));
    }
