use Rattle.std.proofs.Common.{◌≡◌, true, false, Err, sym, arith, ap, subst, ◌∙◌}
use Rattle.std.proofs.lemmas.Grind.{common_steps}
use Rattle.std.proofs.lemmas.Result.{err_from_is_err_and}
use Rattle.gix_words.specs.Words.{Commits, Request, request_of_command}
use Rattle.gix_words.specs.declared.fault.Fault.TheVariants as fault
use Rattle.gix_batches.specs.Failing.{HasNoList, all_lines_to, asks_another, no_memory}
use Rattle.gix_batches.proofs.FilledWalks.{all_if, if_err, others_if}
use Rattle.gix_batches.proofs.Promised.{is_chosen, is_other}
use Rattle.gix_batches.proofs.listing.Listing.of.Goals as goal

pub returns-in_default-clause-err : goal.returns-in_default-clause-err
returns-in_default-clause-err c = asks_another (is_other c.args.command.now c.in_default.not-Commits)

-- other lines than all are asked for
pub returns-then-not-are_all_lines-clause-err : goal.returns-then-not-are_all_lines-clause-err
returns-then-not-are_all_lines-clause-err c =
    let other : c.are_all_lines.result ≡ false = grind (arith, common_steps, c.if-not-are_all_lines.true) in
    subst (λ (r : Request). HasNoList r fault.Usage) (sym (ap request_of_command c.in-Commits.is))
    (asks_another (is_chosen c.in-Commits.order c.in-Commits.shown c.in-Commits.tips.items c.in-Commits.hidden.items (others_if c.in-Commits.shown c.are_all_lines.result other c.are_all_lines.ensures)))

pub returns-in_err-ends-clause-err : goal.returns-in_err-ends-clause-err
returns-in_err-ends-clause-err c =
    let p = err_from_is_err_and c.from_residual.result c.from_residual.ensures.1 in
    if_err (HasNoList (request_of_command c.args.command.now)) _ _ (p.1 ∙ ap (λ f. Err f) p.2) no_memory
