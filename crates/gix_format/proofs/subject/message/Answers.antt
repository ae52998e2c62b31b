use Rattle.std.proofs.Common.{◌≡◌, ℕ, List, ◌-◌, drop, take, length, true, ap, sym, ◌∙◌, arith}
use Rattle.std.proofs.lemmas.List.{take_rest}
use Rattle.gix_statement.specs.Formats.{message}
use Rattle.gix_format.proofs.EmptyLine.{line_empty, line_passed, no_line}
use Rattle.gix_format.proofs.subject.message.Goals as goal

abbrev rest : ℕ → List ℕ → List ℕ
rest n text = take (length text - n) (drop n text)

behind : (text : List ℕ) (end : ℕ) → rest 1 (rest end text) ≡ drop 1 (drop end text)
behind text end = take_rest (rest end text) 1 ∙ ap (drop 1) (take_rest text end)

pub returns-then-end-eq0 : goal.returns-then-end-eq0
returns-then-end-eq0 c =
    let found = c.in-Some.ensures in
    c.up_to.ensures ∙ sym (line_empty c.loop-end.left.now c.in-Some.end found.0.high c.if-end-eq0.true found.1) ∙ c.loop-end.invariant

pub loop-end-preserved : goal.loop-end-preserved
loop-end-preserved c =
    let found = c.in-Some.ensures in
    ap (message true) (behind c.loop-end.left.now c.in-Some.end)
    ∙ sym (line_passed true c.loop-end.left.now c.in-Some.end found.0.high found.1 (λ i l. found.0.before i (omega arith) l) (λ _ e. c.if-end-eq0.false e))
    ∙ c.loop-end.invariant

pub returns : goal.returns
returns c = sym (sym c.loop-end.invariant ∙ no_line true c.loop-end.left.now (λ i l. c.in_default.ensures i (omega arith) l))
