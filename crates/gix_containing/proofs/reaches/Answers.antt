use Rattle.std.proofs.Common.{◌==◌, not, ap, ◌∙◌}
use Rattle.std.proofs.lemmas.Result.{err_from_is_err_and}
use Rattle.gix_revwalk.specs.Agreeing.{rows_in}
use Rattle.gix_containing.proofs.Reaching.{tells_reach, reaching_fails}
use Rattle.gix_containing.proofs.reaches.Goals as goal

pub returns-in_err-met-clause-err : goal.returns-in_err-met-clause-err
returns-in_err-met-clause-err g c =
    let p = err_from_is_err_and c.from_residual.result c.from_residual.ensures.1 in
    reaching_fails (g.F.Find.objects c.args.objects.now) (g.F.Find.faulty c.args.objects.now) (rows_in c.args.graph) c.args.tips.now c.args.target _ _ c.in_err-met.field-0.0 p.1 p.2 c.in_err-met.ensures.err

pub returns-clause-ok : goal.returns-clause-ok
returns-clause-ok g c = tells_reach (g.F.Find.objects c.args.objects.now) (rows_in c.args.graph) c.args.tips.now c.args.target c.in_ok-met.met.items _ c.in_ok-met.ensures.ok (ap not (c.is_empty.ensures ∙ ap (λ n. n == 0) c.in_ok-met.met.ok.0))
