use Rattle.std.proofs.Common.{map, string_bytes, Err, refl, sym, ap, ◌∙◌}
use Rattle.gix_commands.proofs.Common.{err_from_is_err_and}
use Rattle.gix_commands.proofs.GivenRuns.{words_unread}
use Rattle.gix_commands.proofs.RunFacts.{err_same, runs_sound, runs_spelled, runs_words}
use Rattle.gix_commands.proofs.PromisedRuns.{promises}
use Rattle.gix_commands.proofs.given.run_in.Goals as goal

pub returns-in_err-command-clause-runs : goal.returns-in_err-command-clause-runs
returns-in_err-command-clause-runs g c =
    let p = err_from_is_err_and c.from_residual.result c.from_residual.ensures.1 in
    runs_words _ _ _ _ _ (p.1 ∙ ap (λ f. Err f) p.2) c.in_err-command.ensures

pub returns-in_err-command-clause-given : goal.returns-in_err-command-clause-given
returns-in_err-command-clause-given g c =
    let p = err_from_is_err_and c.from_residual.result c.from_residual.ensures.1 in
    λ same. words_unread (map string_bytes c.args.words.now) _ c.in_err-command.ensures (sym p.2 ∙ err_same (sym p.1 ∙ same))

pub returns-in_err-command-clause-spelled : goal.returns-in_err-command-clause-spelled
returns-in_err-command-clause-spelled g c = λ those n are. runs_spelled (returns-in_err-command-clause-runs g c) _ those n refl are

pub returns-in_err-command-clause-sound : goal.returns-in_err-command-clause-sound
returns-in_err-command-clause-sound g c = runs_sound (returns-in_err-command-clause-runs g c)

pub returns-in_err-command-clause-whole : goal.returns-in_err-command-clause-whole
returns-in_err-command-clause-whole g c = promises (returns-in_err-command-clause-runs g c)

pub returns-clause-runs : goal.returns-clause-runs
returns-clause-runs g c = c.serve_records.ensures.runs _ c.in_ok-command.ensures

pub returns-clause-spelled : goal.returns-clause-spelled
returns-clause-spelled g c = λ those n are. runs_spelled (returns-clause-runs g c) _ those n refl are

pub returns-clause-sound : goal.returns-clause-sound
returns-clause-sound g c = runs_sound (returns-clause-runs g c)

pub returns-clause-whole : goal.returns-clause-whole
returns-clause-whole g c = promises (returns-clause-runs g c)
