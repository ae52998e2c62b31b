use Rattle.std.proofs.Common.{sym, arith}
use Rattle.gix_format.proofs.FirstByte.{all_before, before_here}
use Rattle.gix_format.proofs.subject.up_to.Goals as goal

pub returns-in-None : goal.returns-in-None
returns-in-None c = sym (all_before c.args.byte c.args.text.now (λ i l. c.in-None.ensures i (omega arith) l))

pub returns-in-Some : goal.returns-in-Some
returns-in-Some c =
    let found = c.in-Some.ensures in
    sym (before_here c.args.byte c.args.text.now c.in-Some.end found.0.high found.1 (λ i l. found.0.before i (omega arith) l))
