use Rattle.std.proofs.Common.{◌≢◌, ◌-◌, ◌^◌, Err, ap, arith, sym, ◌∙◌}
use Rattle.gix_commands.proofs.Common.{err_from_is_err_and, unserved}
use Rattle.gix_commands.proofs.FileFacts.{entries_failed, files_written, name_failed, none_of, run_of_lines, survey_failed, trees_stored}
use Rattle.gix_commands.proofs.files.write_files.Goals as goal

pub returns-in_err-survey : goal.returns-in_err-survey
returns-in_err-survey g c =
    let p = err_from_is_err_and c.from_residual.result c.from_residual.ensures.1 in
    survey_failed _ _ _ _ c.args.shown _ _ c.over.ensures _ _ _ p.1 p.2 c.in_err-survey.ensures.err

pub returns-in-Some : goal.returns-in-Some
returns-in-Some g c = name_failed _ _ _ _ c.args.shown _ _ c.over.ensures _ c.in_ok-survey.ensures.ok _ c.in-Some.is

pub returns-in_err-number : goal.returns-in_err-number
returns-in_err-number g c =
    let p = err_from_is_err_and c.from_residual-in_err-number.result c.from_residual-in_err-number.ensures.1 in
    entries_failed _ _ _ _ c.args.shown _ _ c.over.ensures _ c.in_ok-survey.ensures.ok (none_of _ c.in_default.not-Some) _ _ (p.1 ∙ ap (λ f. Err f) p.2) (sym c.number_of_lines.ensures.number ∙ c.in_err-number.was)

pub returns-then-survey : goal.returns-then-survey
returns-then-survey g c = unserved

pub returns-in_err-write_entries : goal.returns-in_err-write_entries
returns-in_err-write_entries g c =
    let p = err_from_is_err_and c.from_residual-in_err-write_entries.result c.from_residual-in_err-write_entries.ensures.1 in
    let counted : c.in_ok-survey.survey.depth ≢ 2 ^ 64 - 1 = omega (arith, c.if-survey.false) in
    files_written _ _ _ _ c.args.shown _ _ c.over.ensures _ c.in_ok-survey.ensures.ok (none_of _ c.in_default.not-Some) _ (trees_stored _ _) _ c.number_of_lines.ensures.bound (sym c.number_of_lines.ensures.number ∙ c.in_ok-number.was) counted _ _
    c.write_entries.ensures _ (p.1 ∙ ap (λ f. Err f) p.2 ∙ sym (ap run_of_lines c.in_err-write_entries.was))

pub returns : goal.returns
returns g c =
    let counted : c.in_ok-survey.survey.depth ≢ 2 ^ 64 - 1 = omega (arith, c.if-survey.false) in
    files_written _ _ _ _ c.args.shown _ _ c.over.ensures _ c.in_ok-survey.ensures.ok (none_of _ c.in_default.not-Some) _ (trees_stored _ _) _ c.number_of_lines.ensures.bound (sym c.number_of_lines.ensures.number ∙ c.in_ok-number.was) counted _ _
    c.write_entries.ensures _ (sym (ap run_of_lines c.in_ok-write_entries.was))
