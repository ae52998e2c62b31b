use Rattle.std.proofs.Common.{[], ◌∷◌, refl, subst}
use Rattle.gix_commands.proofs.Common.{Appends, counted, err_from_is_err_and, fault_of_search, not_counted, rows_in}
use Rattle.gix_contained.specs.declared.Error.TheVariants as search_error
use Rattle.gix_ahead.specs.Ahead.{FailsBy, FindsAhead}
use Rattle.gix_commands.proofs.ServedCalls.{call_failed, nothing_written, written_or_begun}
use Rattle.gix_commands.proofs.ahead.write_ahead.Goals as goal

pub returns-in_err-ahead : goal.returns-in_err-ahead
returns-in_err-ahead g c =
    let p = err_from_is_err_and c.from_residual.result c.from_residual.ensures.1 in
    call_failed _ _ _ _ _ (c.args.other ∷ []) _ c.over-objects.ensures _ refl (λ all rows ids why. FailsBy all (λ i. ⊥) rows c.args.one ids why) fault_of_search search_error.Memory refl
    (λ why f. not_counted why f) _ c.in_err-ahead.field-0.0 _ p.1 p.2 c.in_err-ahead.ensures.err

pub returns-in_err-line : goal.returns-in_err-line
returns-in_err-line g c =
    let p = err_from_is_err_and c.from_residual-in_err-line.result c.from_residual-in_err-line.ensures.1 in
    nothing_written _ _ _ _ _ _ _ p.1 (λ other. absurd (other p.2))

pub returns : goal.returns
returns g c =
    written_or_begun _ _ _ _ _ _
    (λ full h. counted _ _ (subst (λ all. FindsAhead all (rows_in c.args.graph) c.args.one c.args.other c.in_ok-ahead.field-0.ahead c.in_ok-ahead.field-0.behind) c.over-objects.ensures c.in_ok-ahead.ensures.ok) (subst (Appends _ full) c.in_ok-line.ensures h)) _ _
    c.write_out.ensures.ok c.write_out.ensures.fault
