use Rattle.std.proofs.Common.{Ok, Err, sym, ap, subst}
use Rattle.gix_object.specs.CommitRefIter.{commit_items_left, next_parent, behind_parent}
use Rattle.gix_object.proofs.Commits.Taken.{TakesCommitter, committer_left, committer_stays}
use Rattle.gix_object.proofs.commit.CommitRefIter.fault_at_committer.Goals as goal

fault : (c : goal.In-Err) → TakesCommitter (commit_items_left c.args.self.now) (Err c.in-Err.fault) (commit_items_left c.take_committer.new.self)
fault c = subst (λ r. TakesCommitter (commit_items_left c.args.self.now) r (commit_items_left c.take_committer.new.self)) c.in-Err.is
    (committer_left c.args.self.now c.take_committer.new.self c.take_committer.result c.requires.place c.requires.some c.take_committer.ensures)

pub returns-in-Err-clause-parent : goal.returns-in-Err-clause-parent
returns-in-Err-clause-parent c = sym (ap next_parent (fault c))

pub returns-in-Err-clause-left : goal.returns-in-Err-clause-left
returns-in-Err-clause-left c = sym (ap behind_parent (fault c))

none : (c : goal.In_default) → TakesCommitter (commit_items_left c.args.self.now) (Ok c.in_default.field-0) (commit_items_left c.take_committer.new.self)
none c = subst (λ r. TakesCommitter (commit_items_left c.args.self.now) r (commit_items_left c.take_committer.new.self)) c.in_default.is
    (committer_left c.args.self.now c.take_committer.new.self c.take_committer.result c.requires.place c.requires.some c.take_committer.ensures)

pub returns-clause-parent : goal.returns-clause-parent
returns-clause-parent c = sym (committer_stays _ _ c.in_default.field-0 (none c)).0

pub returns-clause-left : goal.returns-clause-left
returns-clause-left c = sym (committer_stays _ _ c.in_default.field-0 (none c)).1
