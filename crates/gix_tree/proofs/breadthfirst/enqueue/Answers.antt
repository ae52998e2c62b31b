use Rattle.std.proofs.Common.{sym, ◌∙◌}
use Rattle.gix_tree.specs.declared.breadthfirst.Error.TheVariants as error
use Rattle.gix_tree.specs.Inside.ShowsEntry as shows
use Rattle.gix_tree.proofs.Shown.{failed_so}
use Rattle.gix_tree.proofs.breadthfirst.enqueue.Goals as goal

pub returns-then-knows : goal.returns-then-knows
returns-then-knows g c = shows.cycled (sym c.knows.ensures ∙ c.if-knows.true)

pub returns-in_err-push : goal.returns-in_err-push
returns-in_err-push g c = rw (failed_so error.Memory c.from_residual.result c.from_residual.ensures.1, c.in_err-push.ensures.err) (shows.no_memory (sym c.knows.ensures ∙ c.if-knows.false))

pub returns-in_err-push_back_tracked_path_component : goal.returns-in_err-push_back_tracked_path_component
returns-in_err-push_back_tracked_path_component g c =
    let e = failed_so error.Memory c.from_residual-in_err-push_back_tracked_path_component.result c.from_residual-in_err-push_back_tracked_path_component.ensures.1 in
    rw e (shows.refused (sym c.knows.ensures ∙ c.if-knows.false) c.pop_path_component.ensures c.in_err-push_back_tracked_path_component.ensures)

pub returns : goal.returns
returns g c = rw c.in_ok-push.ensures.ok (shows.entered (sym c.knows.ensures ∙ c.if-knows.false) c.pop_path_component.ensures c.in_ok-push_back_tracked_path_component.ensures)
