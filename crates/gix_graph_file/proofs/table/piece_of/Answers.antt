use Rattle.std.proofs.Common.{rules, ◌≡◌, ℕ, length, ◌+◌, ◌-◌, take, drop, Some, sym, ap, ◌∙◌, arith}
use Rattle.gix_commitgraph.proofs.Packed.RowTakes.{AreBytes-take, AreBytes-drop}
use Rattle.gix_graph_file.proofs.Common.{AreBytes, table_len, offset_at, name_of, chunk_from}
use Rattle.gix_graph_file.proofs.Entries.{entry-bounds, table-next, chunk-here, chunk-more, chunk-none}
use Rattle.gix_graph_file.proofs.table.piece_of.Goals as goal

pub loop-entry-init : goal.loop-entry-init
loop-entry-init c =
    let none : c.args.count - 0 ≡ c.args.count = omega arith in
    record { table = (table_len c.args.count, rw none c.requires.table); same = rw none }

pub split_at-requires : goal.split_at-requires
split_at-requires c =
    let a = c.args in
    let l = c.loop-entry in
    let here = entry-bounds a.file.now a.end (a.count - l.entry) l.entry l.invariant.table.0 (omega arith) l.invariant.table.1 in
    omega (arith, here.rises, here.ends, c.requires.ends, c.offset_at-from.ensures)

pub overflow_sub-to : goal.overflow_sub-to
overflow_sub-to c =
    let a = c.args in
    let l = c.loop-entry in
    let here = entry-bounds a.file.now a.end (a.count - l.entry) l.entry l.invariant.table.0 (omega arith) l.invariant.table.1 in
    omega (arith, here.rises, c.offset_at-from.ensures, c.offset_at-to.ensures)

pub split_at-requires-then-name : goal.split_at-requires-then-name
split_at-requires-then-name c =
    let a = c.args in
    let l = c.loop-entry in
    let here = entry-bounds a.file.now a.end (a.count - l.entry) l.entry l.invariant.table.0 (omega arith) l.invariant.table.1 in
    omega (arith, here.ends, c.requires.ends, c.split_at.ensures.back_len, c.offset_at-to.ensures)

pub returns-then-name-clause-bytes : goal.returns-then-name-clause-bytes
returns-then-name-clause-bytes c =
    let a = c.args in
    let l = c.loop-entry in
    let e : a.count - l.entry ≡ (a.count - (l.entry + 1)) + 1 = omega arith in
    let found : chunk_from a.file.now (name_of a.chunk) (a.count - l.entry) l.entry ≡ Some (take (offset_at a.file.now (l.entry + 1) - offset_at a.file.now l.entry) (drop (offset_at a.file.now l.entry) a.file.now)) =
    ap (λ (n : ℕ). chunk_from a.file.now (name_of a.chunk) n l.entry) e ∙ chunk-here a.file.now (name_of a.chunk) (a.count - (l.entry + 1)) l.entry (cc) in
    let bytes : c.split_at-then-name.result.0.now ≡ take (offset_at a.file.now (l.entry + 1) - offset_at a.file.now l.entry) (drop (offset_at a.file.now l.entry) a.file.now) =
    c.split_at-then-name.ensures.front ∙ ap (take (c.offset_at-to.result - c.offset_at-from.result)) c.split_at.ensures.back ∙ (λ i. take (c.offset_at-to.ensures i - c.offset_at-from.ensures i) (drop (c.offset_at-from.ensures i) a.file.now)) in
    ap Some bytes ∙ sym found ∙ l.invariant.same

pub returns-then-name-clause-place : goal.returns-then-name-clause-place
returns-then-name-clause-place c =
    let file = c.args.file.now in
    let from = c.offset_at-from.result in
    let bytes = c.split_at-then-name.result.0.now in
    let front = c.split_at-then-name.ensures in
    let same : bytes ≡ take (length bytes) (drop from file) = front.front ∙ (λ i. take (sym front.front_len i) (c.split_at.ensures.back i)) in
    let fits : AreBytes file = search rules in
    record {
      within = omega (arith, front.front_len, c.split_at.ensures.back_len);
      same = same;
      fits = rw same (AreBytes-take (length bytes) (drop from file) (AreBytes-drop from file fits));
    }

pub loop-entry-preserved : goal.loop-entry-preserved
loop-entry-preserved c =
    let a = c.args in
    let l = c.loop-entry in
    let e : a.count - l.entry ≡ (a.count - (l.entry + 1)) + 1 = omega arith in
    let here = l.invariant.table in
    record {
      table = (offset_at a.file.now l.entry, table-next a.file.now a.end (a.count - (l.entry + 1)) l.entry here.0 (rw (← e) here.1));
      same = sym (ap (λ (n : ℕ). chunk_from a.file.now (name_of a.chunk) n l.entry) e ∙ chunk-more a.file.now (name_of a.chunk) (a.count - (l.entry + 1)) l.entry (λ same. c.if-name.false (c.name_at-name.ensures ∙ same ∙ sym c.name.ensures))) ∙ l.invariant.same;
    }

pub returns-clause-bytes : goal.returns-clause-bytes
returns-clause-bytes c =
    let a = c.args in
    let l = c.loop-entry in
    let done : a.count - l.entry ≡ 0 = omega arith in
    sym (chunk-none a.file.now (name_of a.chunk) (a.count - l.entry) l.entry done) ∙ l.invariant.same
