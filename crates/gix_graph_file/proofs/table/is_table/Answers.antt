use Rattle.std.proofs.Common.{◌≡◌, ℕ, ◌+◌, ◌-◌, sym, ap, ◌∙◌, arith}
use Rattle.gix_graph_file.proofs.Common.{is_last, is_table_from}
use Rattle.gix_graph_file.proofs.Entries.{table-unnamed, table-falls, table-more, table-ends}
use Rattle.gix_graph_file.proofs.table.is_table.Goals as goal

pub returns-then-name-eq0 : goal.returns-then-name-eq0
returns-then-name-eq0 c =
    let a = c.args in
    let l = c.loop-entry in
    let e : a.count - l.entry ≡ (a.count - (l.entry + 1)) + 1 = omega arith in
    sym (ap (λ (n : ℕ). is_table_from a.file.now a.end n l.entry l.lower) e ∙ table-unnamed a.file.now a.end (a.count - (l.entry + 1)) l.entry l.lower (cc)) ∙ l.invariant

pub returns-then-offset-lower : goal.returns-then-offset-lower
returns-then-offset-lower c =
    let a = c.args in
    let l = c.loop-entry in
    let e : a.count - l.entry ≡ (a.count - (l.entry + 1)) + 1 = omega arith in
    sym (ap (λ (n : ℕ). is_table_from a.file.now a.end n l.entry l.lower) e ∙ table-falls a.file.now a.end (a.count - (l.entry + 1)) l.entry l.lower (λ none. c.if-name-eq0.false (c.name_at-name.ensures ∙ none)) (omega (arith, c.offset_at-offset.ensures))) ∙ l.invariant

pub loop-entry-preserved : goal.loop-entry-preserved
loop-entry-preserved c =
    let a = c.args in
    let l = c.loop-entry in
    let e : a.count - l.entry ≡ (a.count - (l.entry + 1)) + 1 = omega arith in
    ap (is_table_from a.file.now a.end (a.count - (l.entry + 1)) (l.entry + 1)) c.offset_at-offset.ensures
    ∙ sym (ap (λ (n : ℕ). is_table_from a.file.now a.end n l.entry l.lower) e ∙ table-more a.file.now a.end (a.count - (l.entry + 1)) l.entry l.lower (λ none. c.if-name-eq0.false (c.name_at-name.ensures ∙ none)) (omega (arith, c.offset_at-offset.ensures))) ∙ l.invariant

pub returns : goal.returns
returns c =
    let a = c.args in
    let l = c.loop-entry in
    let done : a.count - l.entry ≡ 0 = omega arith in
    let at_end : l.entry ≡ a.count = omega arith in
    c.is_last.ensures ∙ ap (λ (n : ℕ). is_last a.file.now a.end n l.lower) (sym at_end) ∙ sym (table-ends a.file.now a.end (a.count - l.entry) l.entry l.lower done) ∙ l.invariant
