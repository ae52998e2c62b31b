use Rattle.std.proofs.Common.{◌++◌, ◌∷◌, [], Ok, Err, refl, sym, ap, subst, ◌∙◌}
use Rattle.std.proofs.lemmas.Bool.{false≢true}
use Rattle.std.proofs.lemmas.Option.{none-some, same_Some}
use Rattle.std.proofs.lemmas.Result.{err_from_is_err_and}
use Rattle.gix_object.specs.TreeRefIter.{entry_of, items_left}
use Rattle.gix_tree.specs.Walk.{trees_of}
use Rattle.gix_lines.specs.Files.{file_line}
use Rattle.gix_lines.specs.Inside.{AreLeft, Left}
use Rattle.gix_lines.specs.Output.{Puts}
use Rattle.gix_lines.proofs.Leaving.{at_entry, left_down, left_on}
use Rattle.gix_lines.proofs.Putting.{puts_as}
use Rattle.gix_lines.proofs.entries.put_next.Goals as goal

pub returns-in_err-put_line-clause-line : goal.returns-in_err-put_line-clause-line
returns-in_err-put_line-clause-line g c = λ r records h.
    let p = err_from_is_err_and c.from_residual.result c.from_residual.ensures.1 in
    let at = at_entry (c.in-Some.ensures (trees_of c.args.store.now) r records h) in
    subst (λ r. Puts (g.W.Write.contents c.args.writer.now) c.args.buffer.now (file_line c.args.ending r) c.from_residual.result (g.W.Write.contents c.put_line.new.writer) c.put_line.new.buffer) (sym at.0)
    (puts_as (c.in_err-put_line.was ∙ sym (p.1 ∙ ap (λ f. Err f) p.2)) c.put_line.ensures)

pub returns-then-not-is_tree-clause-line : goal.returns-then-not-is_tree-clause-line
returns-then-not-is_tree-clause-line g c = λ r records h.
    let at = at_entry (c.in-Some.ensures (trees_of c.args.store.now) r records h) in
    subst (λ r. Puts (g.W.Write.contents c.args.writer.now) c.args.buffer.now (file_line c.args.ending r) (Ok tt) (g.W.Write.contents c.put_line.new.writer) c.put_line.new.buffer) (sym at.0) c.in_ok-put_line.ensures

pub returns-then-not-is_tree-clause-left : goal.returns-then-not-is_tree-clause-left
returns-then-not-is_tree-clause-left g c = λ r records h.
    let at = at_entry (c.in-Some.ensures (trees_of c.args.store.now) r records h) in
    left_on at.1 (sym c.is_tree.ensures ∙ c.if-not-is_tree.true)

pub returns-in_default-entries_of-clause-line : goal.returns-in_default-entries_of-clause-line
returns-in_default-entries_of-clause-line g c = λ r records h.
    let at = at_entry (c.in-Some.ensures (trees_of c.args.store.now) r records h) in
    let below = left_down at.1 (sym c.is_tree.ensures ∙ c.if-not-is_tree.false) in
    absurd (none-some _ (c.in_default-entries_of.ensures ∙ below.found))

pub returns-then-not-enter-clause-line : goal.returns-then-not-enter-clause-line
returns-then-not-enter-clause-line g c = λ r records h.
    let at = at_entry (c.in-Some.ensures (trees_of c.args.store.now) r records h) in
    let below = left_down at.1 (sym c.is_tree.ensures ∙ c.if-not-is_tree.false) in
    absurd (false≢true (c.if-not-enter.ensures.fits.1 below.few))

pub returns-clause-line : goal.returns-clause-line
returns-clause-line g c = λ r records h.
    let at = at_entry (c.in-Some.ensures (trees_of c.args.store.now) r records h) in
    subst (λ r. Puts (g.W.Write.contents c.args.writer.now) c.args.buffer.now (file_line c.args.ending r) (Ok tt) (g.W.Write.contents c.put_line.new.writer) c.put_line.new.buffer) (sym at.0) c.in_ok-put_line.ensures

pub returns-clause-left : goal.returns-clause-left
returns-clause-left g c = λ r records h.
    let at = at_entry (c.in-Some.ensures (trees_of c.args.store.now) r records h) in
    let below = left_down at.1 (sym c.is_tree.ensures ∙ c.if-not-is_tree.false) in
    let sub = same_Some _ _ (sym below.found ∙ sym c.in-Some-entries_of.ensures) in
    subst (λ s. AreLeft (trees_of c.args.store.now) s records) (sym (c.if-not-enter.ensures.entered refl))
    (subst (λ name. Left (trees_of c.args.store.now) c.next.new.self.room (items_left c.in-Some-entries_of.entries) (c.next.new.self.above ++ record { name = name; items = c.next.new.self.items } ∷ []) records) (sym c.as_bytes.ensures)
    (subst (λ items. Left (trees_of c.args.store.now) c.next.new.self.room items (c.next.new.self.above ++ record { name = (entry_of c.in-Some.entry).name; items = c.next.new.self.items } ∷ []) records) sub below.rest))
