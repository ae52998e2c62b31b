use Rattle.std.proofs.Common.{Err, ◌∙◌, ap}
use Rattle.gix_commands.proofs.Common.{err_from_is_err_and}
use Rattle.gix_records.proofs.ReadingFacts.{read_from, fails_from, fails_to_read}
use Rattle.gix_commands.proofs.RunFacts.{no_rejection}
use Rattle.gix_commands.proofs.ServedPromises.{over_promises}
use Rattle.gix_commands.proofs.OverGraphs.{over_sound, over_spelled, over_words, over_unopened, over_input, over_disagreement, over_served}
use Rattle.gix_commands.proofs.WalkFaults.{serves_of_walk, walk_opened}
use Rattle.gix_commands.proofs.over.run_over.Goals as goal

pub returns-in_err-command-clause-runs : goal.returns-in_err-command-clause-runs
returns-in_err-command-clause-runs g c =
    let p = err_from_is_err_and c.from_residual.result c.from_residual.ensures.1 in
    over_words _ _ _ _ _ _ (p.1 ∙ ap (λ f. Err f) p.2) c.in_err-command.ensures

pub returns-in_err-command-clause-sound : goal.returns-in_err-command-clause-sound
returns-in_err-command-clause-sound g c = over_sound (returns-in_err-command-clause-runs g c)

pub returns-in_err-command-clause-spelled : goal.returns-in_err-command-clause-spelled
returns-in_err-command-clause-spelled g c = over_spelled (returns-in_err-command-clause-runs g c)

pub returns-in_err-graph-clause-runs : goal.returns-in_err-graph-clause-runs
returns-in_err-graph-clause-runs g c =
    let p = err_from_is_err_and c.from_residual-in_err-graph.result c.from_residual-in_err-graph.ensures.1 in
    over_unopened _ _ _ _ _ c.in_ok-command.ensures _ _ (p.1 ∙ ap (λ f. Err f) p.2) c.in_err-graph.ensures.err

pub returns-in_err-graph-clause-sound : goal.returns-in_err-graph-clause-sound
returns-in_err-graph-clause-sound g c = over_sound (returns-in_err-graph-clause-runs g c)

pub returns-in_err-graph-clause-spelled : goal.returns-in_err-graph-clause-spelled
returns-in_err-graph-clause-spelled g c = over_spelled (returns-in_err-graph-clause-runs g c)

pub returns-in_err-input-clause-runs : goal.returns-in_err-input-clause-runs
returns-in_err-input-clause-runs g c =
    let p = err_from_is_err_and c.from_residual-in_err-input.result c.from_residual-in_err-input.ensures.1 in
    over_input _ _ _ _ _ c.in_ok-command.ensures _ c.in_ok-graph.ensures.ok _ _ _ p.1 p.2 (fails_to_read _ _ c.in_err-input.ensures.fault)

pub returns-in_err-input-clause-sound : goal.returns-in_err-input-clause-sound
returns-in_err-input-clause-sound g c = over_sound (returns-in_err-input-clause-runs g c)

pub returns-in_err-input-clause-spelled : goal.returns-in_err-input-clause-spelled
returns-in_err-input-clause-spelled g c = over_spelled (returns-in_err-input-clause-runs g c)

pub returns-in_err-input-clause-unread : goal.returns-in_err-input-clause-unread
returns-in_err-input-clause-unread g c = no_rejection c.in_ok-command.ensures

pub returns-in_err-store-clause-runs : goal.returns-in_err-store-clause-runs
returns-in_err-store-clause-runs g c =
    let p = err_from_is_err_and c.from_residual-in_err-store.result c.from_residual-in_err-store.ensures.1 in
    over_input _ _ _ _ _ c.in_ok-command.ensures _ c.in_ok-graph.ensures.ok _ _ _ p.1 p.2 (fails_from _ _ _ _ c.in_ok-input.ensures.whole c.as_slice.ensures.value c.in_err-store.ensures.fault)

pub returns-in_err-store-clause-sound : goal.returns-in_err-store-clause-sound
returns-in_err-store-clause-sound g c = over_sound (returns-in_err-store-clause-runs g c)

pub returns-in_err-store-clause-spelled : goal.returns-in_err-store-clause-spelled
returns-in_err-store-clause-spelled g c = over_spelled (returns-in_err-store-clause-runs g c)

pub returns-in_err-store-clause-unread : goal.returns-in_err-store-clause-unread
returns-in_err-store-clause-unread g c = no_rejection c.in_ok-command.ensures

pub returns-in_err-check_store-clause-runs : goal.returns-in_err-check_store-clause-runs
returns-in_err-check_store-clause-runs g c =
    let p = err_from_is_err_and c.from_residual-in_err-check_store.result c.from_residual-in_err-check_store.ensures.1 in
    over_disagreement _ _ _ _ _ c.in_ok-command.ensures _ c.in_ok-graph.ensures.ok _ (read_from _ _ _ _ c.in_ok-input.ensures.whole c.as_slice.ensures.value c.in_ok-store.ensures.read) _ _ _ p.1 p.2 c.in_err-check_store.ensures.disagrees

pub returns-in_err-check_store-clause-sound : goal.returns-in_err-check_store-clause-sound
returns-in_err-check_store-clause-sound g c = over_sound (returns-in_err-check_store-clause-runs g c)

pub returns-in_err-check_store-clause-spelled : goal.returns-in_err-check_store-clause-spelled
returns-in_err-check_store-clause-spelled g c = over_spelled (returns-in_err-check_store-clause-runs g c)

pub returns-in_err-check_store-clause-unread : goal.returns-in_err-check_store-clause-unread
returns-in_err-check_store-clause-unread g c = no_rejection c.in_ok-command.ensures

pub returns-clause-runs : goal.returns-clause-runs
returns-clause-runs g c =
    over_served _ _ _ _ _ c.in_ok-command.ensures _ c.in_ok-graph.ensures.ok _ (read_from _ _ _ _ c.in_ok-input.ensures.whole c.as_slice.ensures.value c.in_ok-store.ensures.read) _ _ c.in_ok-check_store.ensures.agrees c.serve.ensures

pub returns-clause-sound : goal.returns-clause-sound
returns-clause-sound g c = over_sound (returns-clause-runs g c)

pub returns-clause-spelled : goal.returns-clause-spelled
returns-clause-spelled g c = over_spelled (returns-clause-runs g c)

pub returns-clause-unread : goal.returns-clause-unread
returns-clause-unread g c = no_rejection c.in_ok-command.ensures

pub returns-clause-unopened : goal.returns-clause-unopened
returns-clause-unopened g c = λ e same o. absurd (walk_opened e (serves_of_walk c.serve.ensures) same o)

pub returns-in_err-command-clause-whole : goal.returns-in_err-command-clause-whole
returns-in_err-command-clause-whole g c = over_promises (returns-in_err-command-clause-runs g c)

pub returns-in_err-graph-clause-whole : goal.returns-in_err-graph-clause-whole
returns-in_err-graph-clause-whole g c = over_promises (returns-in_err-graph-clause-runs g c)

pub returns-in_err-input-clause-whole : goal.returns-in_err-input-clause-whole
returns-in_err-input-clause-whole g c = over_promises (returns-in_err-input-clause-runs g c)

pub returns-in_err-store-clause-whole : goal.returns-in_err-store-clause-whole
returns-in_err-store-clause-whole g c = over_promises (returns-in_err-store-clause-runs g c)

pub returns-in_err-check_store-clause-whole : goal.returns-in_err-check_store-clause-whole
returns-in_err-check_store-clause-whole g c = over_promises (returns-in_err-check_store-clause-runs g c)

pub returns-clause-whole : goal.returns-clause-whole
returns-clause-whole g c = over_promises (returns-clause-runs g c)
