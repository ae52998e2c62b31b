use Rattle.std.proofs.Common.{◌∷◌, ℕ, ◌+◌, suc, List, take, drop, refl, ap, sym, ◌∙◌, arith, inl, inr}
use Rattle.std.proofs.lemmas.List.{take_rest}
use Rattle.gix_statement.specs.Formats.{lines_in}
use Rattle.gix_format.proofs.FirstLine.{line_before, one_line}
use Rattle.gix_format.proofs.subject.first_line.Goals as goal

pub returns-in-None-clause-lines : goal.returns-in-None-clause-lines
returns-in-None-clause-lines c = inr (one_line c.args.text.now (λ i l. c.in-None.ensures i (omega arith) l), refl)

pub returns-in-Some-clause-lines : goal.returns-in-Some-clause-lines
returns-in-Some-clause-lines c =
    let text : List ℕ = c.args.text.now in
    let end : ℕ = c.in-Some.end in
    let found = c.in-Some.ensures in
    let is = line_before text end found.0.high found.1 (λ i l. found.0.before i (omega arith) l) in
    let behind = ap (λ k. take end text ∷ lines_in (drop k text)) {x = suc end} {y = end + 1} (omega arith) in
    inl (is ∙ behind ∙ ap (λ rest. take end text ∷ lines_in rest) (sym (take_rest text (end + 1))))
