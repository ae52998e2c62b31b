use Rattle.std.proofs.Common.{◌≡◌, ◌∷◌, Ok, Err}
use Rattle.gix_tree.proofs.Common.{entry_of, items_left}
use Rattle.gix_tree.specs.declared.breadthfirst.Error.TheVariants as error
use Rattle.gix_tree.specs.Inside.ShowsEntry as shows
use Rattle.gix_tree.proofs.Shown.{failed_so}
use Rattle.gix_tree.proofs.breadthfirst.show_all.Goals as goal

pub returns-in_err-entry : goal.returns-in_err-entry
returns-in_err-entry g c =
    let item : items_left c.loop-entry.entries ≡ Err c.in_err-entry.field-0.0 ∷ items_left c.next.new.self = rw c.in_err-entry.was at c.in-Some.ensures.steps.item in
    c.loop-entry.invariant _ _ _ (rw (failed_so (error.ObjectDecode c.in_err-entry.field-0.0) c.from_residual.result c.from_residual.ensures.1, item) shows.fault)

pub loop-entry-preserved : goal.loop-entry-preserved
loop-entry-preserved g c = λ new left answer rest.
    let item : items_left c.loop-entry.entries ≡ Ok (entry_of c.in_ok-entry.field-0) ∷ items_left c.next.new.self = rw c.in_ok-entry.was at c.in-Some.ensures.steps.item in
    c.loop-entry.invariant new left answer (rw item (shows.goes_on c.in_ok-show.ensures rest))

pub returns-in_err-show : goal.returns-in_err-show
returns-in_err-show g c =
    let item : items_left c.loop-entry.entries ≡ Ok (entry_of c.in_ok-entry.field-0) ∷ items_left c.next.new.self = rw c.in_ok-entry.was at c.in-Some.ensures.steps.item in
    c.loop-entry.invariant _ _ _ (rw (failed_so _ c.from_residual-in_err-show.result c.from_residual-in_err-show.ensures.1, item) (shows.ends c.in_err-show.ensures))

pub returns : goal.returns
returns g c = c.loop-entry.invariant _ _ _ (rw c.in_default.ensures.steps.item.0 shows.whole)
