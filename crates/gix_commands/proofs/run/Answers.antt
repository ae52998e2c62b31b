use Rattle.std.proofs.Common.{Err, ◌∙◌, ap}
use Rattle.gix_commands.proofs.Common.{err_from_is_err_and}
use Rattle.gix_records.proofs.ReadingFacts.{fails_to_read}
use Rattle.gix_commands.proofs.GivenRuns.{runs_told}
use Rattle.gix_commands.proofs.RunFacts.{no_rejection, runs_sound, runs_spelled, runs_words, runs_input}
use Rattle.gix_commands.proofs.PromisedRuns.{promises}
use Rattle.gix_commands.proofs.run.Goals as goal

pub returns-in_err-command-clause-runs : goal.returns-in_err-command-clause-runs
returns-in_err-command-clause-runs g c =
    let p = err_from_is_err_and c.from_residual.result c.from_residual.ensures.1 in
    runs_words _ _ _ _ _ (p.1 ∙ ap (λ f. Err f) p.2) c.in_err-command.ensures

pub returns-in_err-command-clause-sound : goal.returns-in_err-command-clause-sound
returns-in_err-command-clause-sound g c = runs_sound (returns-in_err-command-clause-runs g c)

pub returns-in_err-input-clause-runs : goal.returns-in_err-input-clause-runs
returns-in_err-input-clause-runs g c =
    let p = err_from_is_err_and c.from_residual-in_err-input.result c.from_residual-in_err-input.ensures.1 in
    runs_input _ _ _ _ _ _ _ c.in_ok-command.ensures p.1 p.2 (fails_to_read _ _ c.in_err-input.ensures.fault)

pub returns-clause-runs : goal.returns-clause-runs
returns-clause-runs g c =
    runs_told c.in_ok-input.ensures.whole c.as_slice.ensures.value (c.serve_records.ensures.runs _ c.in_ok-command.ensures)

pub returns-clause-sound : goal.returns-clause-sound
returns-clause-sound g c = runs_sound (returns-clause-runs g c)

pub returns-in_err-command-clause-spelled : goal.returns-in_err-command-clause-spelled
returns-in_err-command-clause-spelled g c = runs_spelled (returns-in_err-command-clause-runs g c)

pub returns-in_err-input-clause-spelled : goal.returns-in_err-input-clause-spelled
returns-in_err-input-clause-spelled g c = runs_spelled (returns-in_err-input-clause-runs g c)

pub returns-clause-spelled : goal.returns-clause-spelled
returns-clause-spelled g c = runs_spelled (returns-clause-runs g c)

pub returns-in_err-input-clause-unread : goal.returns-in_err-input-clause-unread
returns-in_err-input-clause-unread g c = no_rejection c.in_ok-command.ensures

pub returns-clause-unread : goal.returns-clause-unread
returns-clause-unread g c = no_rejection c.in_ok-command.ensures

pub returns-in_err-command-clause-whole : goal.returns-in_err-command-clause-whole
returns-in_err-command-clause-whole g c = promises (returns-in_err-command-clause-runs g c)

pub returns-in_err-input-clause-whole : goal.returns-in_err-input-clause-whole
returns-in_err-input-clause-whole g c = promises (returns-in_err-input-clause-runs g c)

pub returns-clause-whole : goal.returns-clause-whole
returns-clause-whole g c = promises (returns-clause-runs g c)
