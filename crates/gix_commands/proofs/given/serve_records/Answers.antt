use Rattle.std.proofs.Common.{Some, refl, sym, ◌∙◌}
use Rattle.gix_commands.proofs.Common.{err_from_is_err_and}
use Rattle.gix_records.proofs.ReadingFacts.{read_from, fails_from}
use Rattle.gix_commands.proofs.GivenRuns.{records_unread, serves_unread}
use Rattle.gix_commands.proofs.RunFacts.{err_same, runs_input, runs_served}
use Rattle.gix_commands.proofs.given.serve_records.Goals as goal

pub returns-in_err-store-clause-runs : goal.returns-in_err-store-clause-runs
returns-in_err-store-clause-runs g c =
    let p = err_from_is_err_and c.from_residual.result c.from_residual.ensures.1 in
    λ words t. runs_input words (Some c.args.records.now) _ _ _ _ _ t p.1 p.2 (fails_from (Some c.args.records.now) c.args.records.now _ _ refl refl c.in_err-store.ensures.fault)

pub returns-in_err-store-clause-given : goal.returns-in_err-store-clause-given
returns-in_err-store-clause-given g c =
    let p = err_from_is_err_and c.from_residual.result c.from_residual.ensures.1 in
    λ same. records_unread c.in_err-store.ensures.fault (sym p.2 ∙ err_same (sym p.1 ∙ same))

pub returns-clause-runs : goal.returns-clause-runs
returns-clause-runs g c =
    λ words t. runs_served words (Some c.args.records.now) _ _ t _ (read_from (Some c.args.records.now) c.args.records.now _ _ refl refl c.in_ok-store.ensures.read) _ _ c.serve.ensures

pub returns-clause-given : goal.returns-clause-given
returns-clause-given g c = serves_unread c.serve.ensures
