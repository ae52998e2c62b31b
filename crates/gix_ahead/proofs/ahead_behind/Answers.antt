use Rattle.std.proofs.Common.{[], ◌∷◌}
use Rattle.std.proofs.lemmas.Result.{err_from_is_err_and}
use Rattle.gix_ahead.proofs.Whole.{fails_back, finds_marked, finds_walked}
use Rattle.gix_merge_base.proofs.Whole.{fails_first}
use Rattle.gix_revwalk.specs.Agreeing.{rows_in}
use Rattle.gix_ahead.proofs.ahead_behind.Goals as goal

pub returns-in-None-clause-ok : goal.returns-in-None-clause-ok
returns-in-None-clause-ok g c = finds_marked (g.F.Find.objects c.args.objects.now) c.args.one c.args.other _ c.in_ok-marks.ensures.ok (rows_in c.args.graph) _ _ c.in_ok-numbers.ensures

pub returns-in_err-ahead-clause-err : goal.returns-in_err-ahead-clause-err
returns-in_err-ahead-clause-err g c =
    let p = err_from_is_err_and c.from_residual-in_err-ahead.result c.from_residual-in_err-ahead.ensures.1 in
    let those = g.F.Find.objects c.args.objects.now in
    let fails = g.F.Find.faulty c.args.objects.now in
    fails_first those fails (rows_in c.args.graph) c.args.one (c.args.other ∷ []) _ _ _ p.1 p.2 (λ ne. fails_back those fails (rows_in c.args.graph) c.args.one c.args.other _ (c.in_err-ahead.ensures.err ne))

pub returns-clause-ok : goal.returns-clause-ok
returns-clause-ok g c = finds_walked (g.F.Find.objects c.args.objects.now) (g.F.Find.faulty c.args.objects.now) (rows_in c.args.graph) c.args.one c.args.other _ _ c.in_ok-ahead.ensures.ok c.in_ok-behind.ensures.ok
