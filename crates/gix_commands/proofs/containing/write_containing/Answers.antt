use Rattle.std.proofs.Common.{flat_map, refl, ap, ◌∙◌}
use Rattle.gix_commands.proofs.Common.{err_from_is_err_and, line_of, fault_of_search, not_reaching, reaching}
use Rattle.gix_containing.specs.Containing.{FindsContaining}
use Rattle.gix_contained.specs.declared.Error.TheVariants as search_error
use Rattle.gix_merge_base.specs.Bases.{FailsBy}
use Rattle.gix_commands.proofs.ServedCalls.{call_failed, call_written, nothing_written}
use Rattle.gix_commands.proofs.containing.write_containing.Goals as goal

pub returns-in_err-those : goal.returns-in_err-those
returns-in_err-those g c =
    let p = err_from_is_err_and c.from_residual.result c.from_residual.ensures.1 in
    call_failed _ _ _ _ _ c.args.tips.now _ c.over-objects.ensures _ refl (λ all rows ids why. FailsBy all (λ i. ⊥) rows c.args.target ids why) fault_of_search search_error.Memory refl
    (λ why f. not_reaching why f) _ c.in_err-those.field-0.0 _ p.1 p.2 c.in_err-those.ensures.err

pub returns-in_err-lines : goal.returns-in_err-lines
returns-in_err-lines g c =
    let p = err_from_is_err_and c.from_residual-in_err-lines.result c.from_residual-in_err-lines.ensures.1 in
    nothing_written _ _ _ _ _ _ _ p.1 (λ other. absurd (other p.2))

pub returns : goal.returns
returns g c =
    call_written _ _ _ _ _ c.args.tips.now _ c.over-objects.ensures _ refl (λ all rows ids. FindsContaining all rows c.args.target ids) (λ full those f h. reaching those f h) _ _ _ _ c.in_ok-those.ensures.ok
    (c.in_ok-lines.ensures ∙ ap (flat_map line_of) c.as_slice.ensures.value) c.write_out.ensures.ok c.write_out.ensures.fault
