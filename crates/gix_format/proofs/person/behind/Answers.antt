use Rattle.std.proofs.Common.{ℕ, List, ◌+◌, sym, ◌∙◌, arith}
use Rattle.std.proofs.lemmas.List.{take_rest}
use Rattle.gix_format.proofs.FirstByte.{behind_here, none_behind}
use Rattle.gix_format.proofs.person.behind.Goals as goal

pub returns-in-None : goal.returns-in-None
returns-in-None c = sym (none_behind c.args.byte c.args.text.now (λ i l. c.in-None.ensures i (omega arith) l))

pub returns-in-Some : goal.returns-in-Some
returns-in-Some c =
    let text : List ℕ = c.args.text.now in
    let end : ℕ = c.in-Some.end in
    let found = c.in-Some.ensures in
    take_rest text (end + 1) ∙ sym (behind_here c.args.byte text end found.0.high found.1 (λ i l. found.0.before i (omega arith) l))
