use Rattle.std.proofs.Common.{◌≡◌, ◌∷◌, true, false, reverse, sym, ◌∙◌}
use Rattle.gix_tree.proofs.Common.{is_among, ids_down}
use Rattle.gix_tree.specs.declared.breadthfirst.Error.TheVariants as error
use Rattle.gix_tree.specs.Inside.ShowsBelow as shows
use Rattle.gix_tree.proofs.Shown.{failed_so}
use Rattle.gix_tree.proofs.depthfirst.descend.Goals as goal

pub returns-then-knows-clause-descends : goal.returns-then-knows-clause-descends
returns-then-knows-clause-descends g c =
    let known : is_among c.args.entry.now.oid (c.args.tree.now ∷ ids_down (reverse c.args.above.now.items)) ≡ true = rw c.deref.ensures.value at (sym c.knows.ensures ∙ c.if-knows.true) in
    shows.cycled known

pub returns-in_err-reserve-clause-descends : goal.returns-in_err-reserve-clause-descends
returns-in_err-reserve-clause-descends g c =
    let new : is_among c.args.entry.now.oid (c.args.tree.now ∷ ids_down (reverse c.args.above.now.items)) ≡ false = rw c.deref.ensures.value at (sym c.knows.ensures ∙ c.if-knows.false) in
    rw (failed_so error.Memory c.from_residual.result c.from_residual.ensures.1) (shows.no_memory new)

pub returns-in_err-push_back_tracked_path_component-clause-descends : goal.returns-in_err-push_back_tracked_path_component-clause-descends
returns-in_err-push_back_tracked_path_component-clause-descends g c =
    let new : is_among c.args.entry.now.oid (c.args.tree.now ∷ ids_down (reverse c.args.above.now.items)) ≡ false = rw c.deref.ensures.value at (sym c.knows.ensures ∙ c.if-knows.false) in
    rw (failed_so error.Memory c.from_residual-in_err-push_back_tracked_path_component.result c.from_residual-in_err-push_back_tracked_path_component.ensures.1) (shows.refused_first new c.in_err-push_back_tracked_path_component.ensures)

pub returns-in_err-push_back_tracked_path_component-2-clause-descends : goal.returns-in_err-push_back_tracked_path_component-2-clause-descends
returns-in_err-push_back_tracked_path_component-2-clause-descends g c =
    let new : is_among c.args.entry.now.oid (c.args.tree.now ∷ ids_down (reverse c.args.above.now.items)) ≡ false = rw c.deref.ensures.value at (sym c.knows.ensures ∙ c.if-knows.false) in
    rw (failed_so error.Memory c.from_residual-in_err-push_back_tracked_path_component-2.result c.from_residual-in_err-push_back_tracked_path_component-2.ensures.1)
    (shows.refused new (rw c.new.ensures at c.in_ok-push_back_tracked_path_component.ensures) c.in_err-push_back_tracked_path_component-2.ensures)

pub returns-clause-descends : goal.returns-clause-descends
returns-clause-descends g c =
    let new : is_among c.args.entry.now.oid (c.args.tree.now ∷ ids_down (reverse c.args.above.now.items)) ≡ false = rw c.deref.ensures.value at (sym c.knows.ensures ∙ c.if-knows.false) in
    shows.told new (rw c.new.ensures at c.in_ok-push_back_tracked_path_component.ensures) c.in_ok-push_back_tracked_path_component-2.ensures
