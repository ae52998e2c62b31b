use Rattle.std.proofs.Common.{◌≡◌, ◌∷◌, drop, Ok, Err, sym, ◌∙◌}
use Rattle.gix_tree.proofs.Common.{tree_items, entry_of, items_left, bytes_left}
use Rattle.gix_tree.specs.declared.breadthfirst.Error.TheVariants as error
use Rattle.gix_tree.specs.Inside.ShowsBelow as shows
use Rattle.gix_tree.proofs.Depth.Descent.{stops_at}
use Rattle.gix_tree.proofs.Shown.{failed_so}
use Rattle.gix_tree.proofs.Depth.Stack.{end_of_end}
use Rattle.gix_tree.proofs.depthfirst.show_on.Goals as goal

pub returns-in_err-entry-clause-shows : goal.returns-in_err-entry-clause-shows
returns-in_err-entry-clause-shows g c =
    let item : items_left c.loop-entry.entries ≡ Err c.in_err-entry.field-0.0 ∷ items_left c.next.new.self = rw c.in_err-entry.was at c.in-Some.ensures.steps.item in
    c.loop-entry.invariant.shows _ _ _ (rw (failed_so (error.ObjectDecode c.in_err-entry.field-0.0) c.from_residual.result c.from_residual.ensures.1, item) shows.fault)

pub returns-in_err-stop-clause-shows : goal.returns-in_err-stop-clause-shows
returns-in_err-stop-clause-shows g c =
    let item : items_left c.loop-entry.entries ≡ Ok (entry_of c.in_ok-entry.field-0) ∷ items_left c.next.new.self = rw c.in_ok-entry.was at c.in-Some.ensures.steps.item in
    c.loop-entry.invariant.shows _ _ _ (rw (failed_so _ c.from_residual-in_err-stop.result c.from_residual-in_err-stop.ensures.1, item) (shows.ends (rw c.loop-entry.invariant.same at c.in_err-stop.ensures.shows)))

pub returns-in-Some-stop-clause-shows : goal.returns-in-Some-stop-clause-shows
returns-in-Some-stop-clause-shows g c =
    let item : items_left c.loop-entry.entries ≡ Ok (entry_of c.in_ok-entry.field-0) ∷ items_left c.next.new.self = rw c.in_ok-entry.was at c.in-Some.ensures.steps.item in
    let rest : drop c.offset_to_next_entry-tree.result c.args.tree.now.bytes.items ≡ bytes_left c.next.new.self = rw c.deref-in-Some-stop.ensures.value at c.offset_to_next_entry-tree.ensures.rest in
    let kind = c.in-Some.ensures.steps.kind ∙ c.loop-entry.invariant.kind in
    c.loop-entry.invariant.shows _ _ _ (rw item (stops_at g.V.Visit.steps _ (rw (c.in-Some-stop.is, c.loop-entry.invariant.same) at c.in_ok-stop.ensures.shows) (λ i. tree_items (kind i) (sym rest i))))

pub loop-entry-preserved : goal.loop-entry-preserved
loop-entry-preserved g c =
    let item : items_left c.loop-entry.entries ≡ Ok (entry_of c.in_ok-entry.field-0) ∷ items_left c.next.new.self = rw c.in_ok-entry.was at c.in-Some.ensures.steps.item in
    record {
      shows = λ new answer left rest. c.loop-entry.invariant.shows new answer left (rw item (shows.goes_on (rw (c.in_default-stop.is, c.loop-entry.invariant.same) at c.in_ok-stop.ensures.shows) rest));
      same = c.in_ok-stop.ensures.same ∙ c.loop-entry.invariant.same;
      end = end_of_end (bytes_left c.next.new.self) (bytes_left c.loop-entry.entries) c.args.tree.now.bytes.items c.in-Some.ensures.steps.end c.loop-entry.invariant.end;
      kind = c.in-Some.ensures.steps.kind ∙ c.loop-entry.invariant.kind;
    }

pub returns-clause-shows : goal.returns-clause-shows
returns-clause-shows g c = c.loop-entry.invariant.shows _ _ _ (rw c.in_default.ensures.steps.item.0 shows.whole)
