use Rattle.std.proofs.Common.{◌≡◌, ◌+◌, ◌-◌, length, Some, sym, ◌∙◌, arith}
use Rattle.std.proofs.lemmas.Result.{err_from_is_err_and}
use Rattle.gix_commitgraph.proofs.Common.{words_of, id_before, rows_left, faults}
use Rattle.gix_commitgraph.proofs.Packed.Steps.{ends_well, ends_late, length-words_of}
use Rattle.gix_commitgraph.proofs.check.check_rows.Goals as goal

pub returns-in_err-words_left : goal.returns-in_err-words_left
returns-in_err-words_left c =
    let a = c.args in
    let l = c.loop-r in
    let p = err_from_is_err_and c.from_residual.result c.from_residual.ensures.1 in
    let e : a.layout.rows - l.r ≡ (a.layout.rows - (l.r + 1)) + 1 = omega arith in
    let step : faults (rows_left a.layout (a.layout.rows - l.r) l.r (id_before a.layout.kind l.before) l.left.now (words_of l.words_left.now)) ≡ Some c.in_err-words_left.field-0.0 = rw e (c.in_err-words_left.ensures (a.layout.rows - (l.r + 1))) in
    rw (p.1, p.2) (sym step ∙ l.invariant.same)

pub returns-then-words_left-lt4 : goal.returns-then-words_left-lt4
returns-then-words_left-lt4 c =
    let a = c.args in
    let l = c.loop-r in
    let done : a.layout.rows - l.r ≡ 0 = omega arith in
    let none : length (words_of l.words_left.now) ≡ 0 = omega (arith, length-words_of l.words_left.now) in
    sym (ends_well a.layout.kind a.layout.rows a.layout.words (a.layout.rows - l.r) l.r (id_before a.layout.kind l.before) l.left.now (words_of l.words_left.now) done none) ∙ l.invariant.same

pub returns-else-words_left-lt4 : goal.returns-else-words_left-lt4
returns-else-words_left-lt4 c =
    let a = c.args in
    let l = c.loop-r in
    let done : a.layout.rows - l.r ≡ 0 = omega arith in
    let some : length (words_of l.words_left.now) ≡ 0 → ⊥ = λ e. omega (arith, e, length-words_of l.words_left.now) in
    sym (ends_late a.layout.kind a.layout.rows a.layout.words (a.layout.rows - l.r) l.r (id_before a.layout.kind l.before) l.left.now (words_of l.words_left.now) done some) ∙ l.invariant.same
