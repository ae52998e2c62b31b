use Rattle.std.proofs.Common.{Err, sym, ap, subst, ◌∙◌}
use Rattle.gix_commands.proofs.Common.{err_from_is_err_and}
use Rattle.gix_commands.proofs.NamedOnes.{are_named}
use Rattle.gix_commands.proofs.OverStores.{stored_unagreed, unagreed_sound}
use Rattle.gix_commands.proofs.Promised.{promises_more, unwritten}
use Rattle.gix_commands.proofs.RunFacts.{over_is_sound}
use Rattle.gix_commands.proofs.ServedPromises.{stored_from, stored_promises}
use Rattle.gix_commands.specs.Pages.{page_rows}
use Rattle.gix_commands.specs.StoredRuns.{FailsToAgree, RunsStored, served}
use Rattle.gix_revwalk.specs.Agreeing.{rows_in}
use Rattle.gix_statement.specs.WholeStatement as page
use Rattle.gix_words.specs.Words.{request_of_command}
use Rattle.gix_commands.proofs.stored.answer.Goals as goal

pub returns-in_err-check_rows-clause-runs : goal.returns-in_err-check_rows-clause-runs
returns-in_err-check_rows-clause-runs g c =
    let p = err_from_is_err_and c.from_residual.result c.from_residual.ensures.1 in
    stored_unagreed _ _ _ _ _ _ (p.1 ∙ ap (λ f. Err f) p.2)
    (subst (λ objects. FailsToAgree (rows_in c.args.graph) objects c.in_err-check_rows.field-0.0) c.store-store.ensures.exact c.in_err-check_rows.ensures.fault)

pub returns-in_err-check_rows-clause-sound : goal.returns-in_err-check_rows-clause-sound
returns-in_err-check_rows-clause-sound g c =
    let p = err_from_is_err_and c.from_residual.result c.from_residual.ensures.1 in
    unagreed_sound _ _ (p.1 ∙ ap (λ f. Err f) p.2) c.in_err-check_rows.ensures.fault

pub returns-in_err-check_rows-clause-whole : goal.returns-in_err-check_rows-clause-whole
returns-in_err-check_rows-clause-whole g c =
    let p = err_from_is_err_and c.from_residual.result c.from_residual.ensures.1 in
    λ words layers asked from. unwritten _ _ _ _ _ p.1

pub returns-in_err-check_rows-clause-named : goal.returns-in_err-check_rows-clause-named
returns-in_err-check_rows-clause-named g c =
    let p = err_from_is_err_and c.from_residual.result c.from_residual.ensures.1 in
    λ words asked none. unwritten _ _ _ _ _ p.1

pub returns-in_err-check_rows-clause-over : goal.returns-in_err-check_rows-clause-over
returns-in_err-check_rows-clause-over g c =
    let p = err_from_is_err_and c.from_residual.result c.from_residual.ensures.1 in
    λ words asked. unwritten _ _ _ _ _ p.1

pub returns-clause-runs : goal.returns-clause-runs
returns-clause-runs g c =
    subst (λ objects. RunsStored (request_of_command c.args.command.now) objects (rows_in c.args.graph) (g.W.Write.contents c.args.writer.now) c.serve.result (g.W.Write.contents c.serve.new.writer)) c.store-store.ensures.exact
    (served c.in_ok-check_rows.ensures.sound c.in_ok-check_rows.ensures.stored c.serve.ensures)

pub returns-clause-sound : goal.returns-clause-sound
returns-clause-sound g c = over_is_sound _ _ _ c.in_ok-check_rows.ensures.agrees c.serve.ensures

pub returns-clause-over : goal.returns-clause-over
returns-clause-over g c = λ words asked. promises_more
    (λ objects rows given. (subst page.AreNamed (sym given.0) (are_named c.args.objects.now c.store-store.ensures.named), given.0, given.1))
    words (g.W.Write.contents c.args.writer.now) c.serve.result (g.W.Write.contents c.serve.new.writer)
    (stored_promises words asked c.in_ok-check_rows.ensures.graph (returns-clause-runs g c))

pub returns-clause-named : goal.returns-clause-named
returns-clause-named g c = λ words asked none. promises_more
    (λ objects rows given. (given.0, given.1, given.2.1 ∙ ap (λ graph. page_rows (rows_in graph)) none))
    words (g.W.Write.contents c.args.writer.now) c.serve.result (g.W.Write.contents c.serve.new.writer) (returns-clause-over g c words asked)

pub returns-clause-whole : goal.returns-clause-whole
returns-clause-whole g c = λ words layers asked from. promises_more
    (λ objects rows given. (subst page.AreNamed (sym given.0) (are_named c.args.objects.now c.store-store.ensures.named), given.0, given.1))
    words (g.W.Write.contents c.args.writer.now) c.serve.result (g.W.Write.contents c.serve.new.writer)
    (stored_from words layers asked from (returns-clause-runs g c))
