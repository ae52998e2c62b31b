use Rattle.std.proofs.Common.{◌≡◌, ◌∙◌, true, false, arith}
use Rattle.std.proofs.lemmas.Grind.{common_steps}
use Rattle.gix_commands.specs.Chosen.{keeps}
use Rattle.gix_commands.proofs.ChosenFacts.{passes_all, passes_skipped, passes_taken, passes_unkept}
use Rattle.gix_commands.proofs.chosen.Chooser.takes.Goals as goal

pub returns-then-not-branch-clause-ok : goal.returns-then-not-branch-clause-ok
returns-then-not-branch-clause-ok c =
    let e : keeps c.args.self.now c.args.id.now ≡ false = grind (arith, common_steps, c.in_ok-keeps.ensures.ok, c.if-not-branch.true) in
    passes_unkept c.args.self.now c.keeps.new.self c.args.id.now c.keeps.ensures.same e _ c.keeps.ensures.same

pub returns-then-self-gt0-clause-ok : goal.returns-then-self-gt0-clause-ok
returns-then-self-gt0-clause-ok c =
    let e : keeps c.args.self.now c.args.id.now ≡ true = grind (arith, common_steps, c.in_ok-keeps.ensures.ok, c.if-not-branch.false) in
    passes_skipped c.args.self.now _ c.args.id.now (c.self.view_is ∙ c.keeps.ensures.same) e c.if-self-gt0.true

pub returns-in-Some-clause-ok : goal.returns-in-Some-clause-ok
returns-in-Some-clause-ok c =
    let e : keeps c.args.self.now c.args.id.now ≡ true = grind (arith, common_steps, c.in_ok-keeps.ensures.ok, c.if-not-branch.false) in
    passes_taken c.args.self.now _ c.args.id.now (c.self.view_is ∙ c.keeps.ensures.same) e (omega (arith, c.if-self-gt0.false)) c.in-Some.left c.in-Some.is

pub returns-in_default-clause-ok : goal.returns-in_default-clause-ok
returns-in_default-clause-ok c =
    let e : keeps c.args.self.now c.args.id.now ≡ true = grind (arith, common_steps, c.in_ok-keeps.ensures.ok, c.if-not-branch.false) in
    passes_all c.args.self.now _ c.args.id.now (c.self.view_is ∙ c.keeps.ensures.same) e (omega (arith, c.if-self-gt0.false)) c.in_default.is _ c.keeps.ensures.same
