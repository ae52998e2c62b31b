use Rattle.std.proofs.Common.{Err, ap, subst, sym, ◌∙◌}
use Rattle.std.proofs.lemmas.Result.{err_from_is_err_and}
use Rattle.gix_tree_size.specs.Survey.{IsSurvey}
use Rattle.gix_tree_size.proofs.Surveyed.{told, failed_by}
use Rattle.gix_tree_size.proofs.survey_tree.Goals as goal

pub returns-in_err-depthfirst-clause-err : goal.returns-in_err-depthfirst-clause-err
returns-in_err-depthfirst-clause-err g c =
    let p = err_from_is_err_and c.from_residual-in_err-depthfirst.result c.from_residual-in_err-depthfirst.ensures.1 in
    failed_by _ _ c.args.root _ _ c.in_ok-surveyor.ensures _ c.depthfirst.ensures _ c.in_err-depthfirst.was _ (p.1 ∙ ap (λ e. Err e) p.2)

pub returns-clause-ok : goal.returns-clause-ok
returns-clause-ok g c = subst (IsSurvey _ _ c.args.root) (sym c.survey.ensures) (told _ _ c.args.root _ _ c.in_ok-surveyor.ensures _ c.depthfirst.ensures c.in_ok-depthfirst.was)
