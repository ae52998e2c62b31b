use Rattle.std.proofs.Common.{◌≡◌, sym, subst, ap, ◌∙◌, None, Ok, Err}
use Rattle.gix_object.specs.Find.{FindsKindInto}
use Rattle.gix_simple.proofs.Common.{kind_of, row_of, commit_items, scanned, Takes}
use Rattle.gix_object.specs.CommitRefIter.{commit_items_left}
use Rattle.gix_object.specs.declared.Kind.TheVariants as object
use Rattle.gix_simple.proofs.TakesCommit.{takes_no_memory, takes_missing, takes_by_store}
use Rattle.gix_simple.proofs.Simple.take_by_store.Goals as goal

pub returns-in-Err-clause-takes : goal.returns-in-Err-clause-takes
returns-in-Err-clause-takes g c =
    subst (λ p. Takes g.F.Find.objects g.F.Find.faulty g.P.Predicate.answers c.args.self.now p (Err c.fail.result) c.fail.new.self) c.taken.view_is
    (takes_missing g.F.Find.objects g.F.Find.faulty g.P.Predicate.answers c.args.self.now _ (subst (λ p. row_of c.args.self.now.rows p.id ≡ None) (sym c.taken.view_is) c.requires.unrowed) _ (λ j. record (c.self.view_is j) { text = c.find_kind_into.new.buf.items; current = c.self.inside.current }) c.in-Err.fault
    (subst (λ w. FindsKindInto (g.F.Find.objects w.store) (g.F.Find.faulty w.store) c.taken.inside.id object.Commit (Err c.in-Err.fault) c.find_kind_into.new.buf.items) c.self.view_is c.in-Err.ensures) _ _ _ c.from.ensures c.fail.ensures.same c.fail.ensures.left)

pub returns-in_default-scan-clause-takes : goal.returns-in_default-scan-clause-takes
returns-in_default-scan-clause-takes g c =
    subst (λ p. Takes g.F.Find.objects g.F.Find.faulty g.P.Predicate.answers c.args.self.now p (Err c.fail-in_default-scan.result) c.fail-in_default-scan.new.self) c.taken.view_is
    (takes_no_memory g.F.Find.objects g.F.Find.faulty g.P.Predicate.answers c.args.self.now _ _ _ _ (λ j. record (c.self.view_is j) { text = c.find_kind_into.new.buf.items; current = c.self.inside.current }) c.fail-in_default-scan.ensures.same c.fail-in_default-scan.ensures.left)

pub returns-clause-takes : goal.returns-clause-takes
returns-clause-takes g c =
    takes_by_store g.F.Find.objects g.F.Find.faulty g.P.Predicate.answers c.args.self.now c.args.taken c.requires.unrowed _ (λ j. record (c.self.view_is j) { text = c.find_kind_into.new.buf.items; current = c.self.inside.current })
    (subst (λ p. FindsKindInto (g.F.Find.objects c.args.self.now.store) (g.F.Find.faulty c.args.self.now.store) p.id object.Commit (Ok tt) c.find_kind_into.new.buf.items) c.taken.view_is (subst (λ w. FindsKindInto (g.F.Find.objects w.store) (g.F.Find.faulty w.store) c.taken.inside.id object.Commit (Ok tt) c.find_kind_into.new.buf.items) c.self.view_is c.in_default.ensures))
    c.as_slice.result.now c.in-Ok.scanned.parent_ids.items c.in-Ok.scanned.fault c.as_slice.ensures
    (c.in-Ok.ensures.ok ∙ ap (λ w. scanned w.parents (commit_items_left c.from_bytes-items.result)) c.self.view_is ∙ ap (scanned c.args.self.now.parents) (c.from_bytes-items.ensures ∙ ap (λ k. commit_items k c.deref.result.now) c.kind.ensures ∙ ap (commit_items (kind_of c.taken.inside.id)) c.deref.ensures.value ∙ ap (λ p. commit_items (kind_of p.id) c.find_kind_into.new.buf.items) c.taken.view_is))
    _ _ c.treat_all-treated.ensures.treats _ _ c.conclude.ensures.concludes
