use Rattle.std.proofs.Common.{arith}
use Rattle.std.proofs.lemmas.Grind.{common_steps}
use Rattle.gix_format.specs.Page.{page_commit}
use Rattle.gix_format.proofs.Fields.{none}
use Rattle.gix_format.proofs.add_field.Goals as goal

pub returns-in_default-clause-whole : goal.returns-in_default-clause-whole
returns-in_default-clause-whole c =
    let is = none (page_commit c.args.commit) c.args.before c.args.letter (λ p q. omega arith) (λ p q. omega arith) (λ p q. omega arith)
    (λ p q. omega arith) (λ p q. omega arith) (λ p q. omega arith) (λ p q. omega arith)
    (λ p q. omega arith) (λ p q. omega arith) (λ p q. omega arith) (λ p q. omega arith) in
    grind (arith, common_steps)

pub returns-in_default-2-clause-whole : goal.returns-in_default-2-clause-whole
returns-in_default-2-clause-whole c =
    let is = none (page_commit c.args.commit) c.args.before c.args.letter (λ p q. omega arith) (λ p q. omega arith) (λ p q. omega arith)
    (λ p q. omega arith) (λ p q. omega arith) (λ p q. omega arith) (λ p q. omega arith)
    (λ p q. omega arith) (λ p q. omega arith) (λ p q. omega arith) (λ p q. omega arith) in
    grind (arith, common_steps)

pub returns-in_default-3-clause-whole : goal.returns-in_default-3-clause-whole
returns-in_default-3-clause-whole c =
    let is = none (page_commit c.args.commit) c.args.before c.args.letter (λ p q. omega arith) (λ p q. omega arith) (λ p q. omega arith)
    (λ p q. omega arith) (λ p q. omega arith) (λ p q. omega arith) (λ p q. omega arith)
    (λ p q. omega arith) (λ p q. omega arith) (λ p q. omega arith) (λ p q. omega arith) in
    grind (arith, common_steps)

pub returns-in_default-4-clause-whole : goal.returns-in_default-4-clause-whole
returns-in_default-4-clause-whole c =
    let is = none (page_commit c.args.commit) c.args.before c.args.letter (λ p q. omega arith) (λ p q. omega arith) (λ p q. omega arith)
    (λ p q. omega arith) (λ p q. omega arith) (λ p q. omega arith) (λ p q. omega arith)
    (λ p q. omega arith) (λ p q. omega arith) (λ p q. omega arith) (λ p q. omega arith) in
    grind (arith, common_steps)
