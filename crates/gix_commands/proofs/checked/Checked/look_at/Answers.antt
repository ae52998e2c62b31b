use Rattle.std.proofs.Common.{◌≢◌, Ok, ap, subst}
use Rattle.gix_commands.proofs.Common.{IsExistingFault, Objects, never_faulty}
use Rattle.gix_object.specs.declared.Kind.TheVariants as object
use Rattle.gix_object.specs.declared.find.existing_iter.Error.TheVariants as existing
use Rattle.gix_object.specs.Find.{FindsCommit}
use Rattle.gix_commands.proofs.LostParents.{lost_by_row, lost_unfound, lost_unread, read_whole}
use Rattle.gix_commands.proofs.checked.Checked.look_at.Goals as goal

pub returns-then-has_row-clause-looks : goal.returns-then-has_row-clause-looks
returns-then-has_row-clause-looks c = λ _. lost_by_row c.args.self.now.objects c.args.self.now.rows c.args.id.now c.if-has_row.ensures

pub returns-in-Err-clause-looks : goal.returns-in-Err-clause-looks
returns-in-Err-clause-looks c =
    lost_unfound c.args.self.now.objects c.args.self.now.rows c.args.id.now c.if-has_row.ensures c.in-Err.fault c.from.result c.from.ensures
    (subst (λ (o : Objects). c.in-Err.fault ≢ existing.Memory → IsExistingFault o (never_faulty o) c.args.id.now object.Commit c.in-Err.fault) (ap (λ w. w.objects) c.self.view_is) c.in-Err.ensures)

pub returns-in_default-clause-looks : goal.returns-in_default-clause-looks
returns-in_default-clause-looks c = λ _.
    lost_unread c.args.self.now.objects c.args.self.now.rows c.args.id.now c.in-Ok.items
    (subst (λ (o : Objects). FindsCommit o (never_faulty o) c.args.id.now (Ok c.in-Ok.items)) (ap (λ w. w.objects) c.self.view_is) c.in-Ok.ensures)
    c.committer.result c.committer.ensures c.if-has_row.ensures c.in_default.field-0 c.in_default.is

pub returns-clause-looks : goal.returns-clause-looks
returns-clause-looks c = λ _.
    read_whole c.args.self.now.objects c.args.self.now.rows c.args.id.now c.in-Ok.items
    (subst (λ (o : Objects). FindsCommit o (never_faulty o) c.args.id.now (Ok c.in-Ok.items)) (ap (λ w. w.objects) c.self.view_is) c.in-Ok.ensures)
    c.committer.result c.committer.ensures c.in-Ok-committer.field-0 c.in-Ok-committer.is
