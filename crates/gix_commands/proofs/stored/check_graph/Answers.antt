use Rattle.std.proofs.Common.{IfErr, sym, subst}
use Rattle.gix_commands.proofs.Common.{err_from_is_err_and}
use Rattle.gix_commands.proofs.OverStores.{of_disagreement}
use Rattle.gix_commands.specs.StoredRuns.{FailsToAgree, unsound}
use Rattle.gix_graph_store.proofs.SoundRows.{told-rows-agree}
use Rattle.gix_commands.proofs.stored.check_graph.Goals as goal

pub returns-in-Some-clause-fault : goal.returns-in-Some-clause-fault
returns-in-Some-clause-fault c = unsound _ c.in-Some.ensures

pub returns-in_err-check_store-clause-fault : goal.returns-in_err-check_store-clause-fault
returns-in_err-check_store-clause-fault c =
    let p = err_from_is_err_and c.from_residual.result c.from_residual.ensures.1 in
    let fails = of_disagreement c.args.graph.now c.args.store.now _ c.in_default.ensures c.in_err-check_store.ensures.disagrees in
    subst (λ r. IfErr r (FailsToAgree c.args.graph.now c.args.store.now)) (sym p.1) (subst (FailsToAgree c.args.graph.now c.args.store.now) (sym p.2) fails)

pub returns-clause-sound : goal.returns-clause-sound
returns-clause-sound c = c.in_default.ensures

pub returns-clause-agrees : goal.returns-clause-agrees
returns-clause-agrees c = told-rows-agree c.args.graph.now c.args.store.now c.num_commits.ensures.sound c.in_default.ensures c.in_ok-check_store.ensures.agrees

pub returns-clause-graph : goal.returns-clause-graph
returns-clause-graph c = c.num_commits.ensures.sound
