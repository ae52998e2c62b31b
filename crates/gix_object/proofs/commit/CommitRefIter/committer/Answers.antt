use Rattle.std.proofs.Common.{length, Ok, sym, ap, subst, ◌∙◌, inl, inr, arith, rules}
use Rattle.gix_object.specs.CommitRefIter.{commit_items_left, first_committer}
use Rattle.gix_object.proofs.Commits.Taken.{TakesTree, TakesLine, TakesCommitter, tree_left, line_left, committer_left, nothing_more, line_passed}
use Rattle.gix_object.proofs.commit.CommitRefIter.committer.Goals as goal
use Rattle.gix_object.proofs.commit.CommitRefIter.committer.Goals.{else-loop-self-test, then-loop-self-test+in-Rest}

tree : (c : goal.In_ok-take_tree-in-Tree) → TakesTree (commit_items_left c.loop-self.self) (Ok c.in_ok-take_tree-in-Tree.field-0) (commit_items_left c.take_tree.new.self)
tree c = subst (λ r. TakesTree (commit_items_left c.loop-self.self) r (commit_items_left c.take_tree.new.self)) c.in_ok-take_tree-in-Tree.was
    (tree_left c.loop-self.self c.take_tree.new.self c.take_tree.result c.in-Tree.is c.loop-self-test.ensures c.take_tree.ensures)

pub loop-self-smaller-in_ok-take_tree-in-Tree : goal.loop-self-smaller-in_ok-take_tree-in-Tree
loop-self-smaller-in_ok-take_tree-in-Tree c = omega (arith, ap length (tree c).1)

pub loop-self-preserved-in_ok-take_tree-in-Tree : goal.loop-self-preserved-in_ok-take_tree-in-Tree
loop-self-preserved-in_ok-take_tree-in-Tree c = sym (ap first_committer (tree c).1) ∙ c.loop-self.invariant

pub returns-in_err-take_tree-in-Tree : goal.returns-in_err-take_tree-in-Tree
returns-in_err-take_tree-in-Tree c =
    let left = subst (λ r. TakesTree (commit_items_left c.loop-self.self) r (commit_items_left c.take_tree.new.self)) c.in_err-take_tree-in-Tree.was
    (tree_left c.loop-self.self c.take_tree.new.self c.take_tree.result c.in-Tree.is c.loop-self-test.ensures c.take_tree.ensures) in
    let fault = sym (ap first_committer left) ∙ c.loop-self.invariant in
    search rules

line : (c : goal.In_ok-take_parent_or_author-in-Parents) → TakesLine (commit_items_left c.loop-self.self) (Ok c.in_ok-take_parent_or_author-in-Parents.field-0) (commit_items_left c.take_parent_or_author.new.self)
line c = subst (λ r. TakesLine (commit_items_left c.loop-self.self) r (commit_items_left c.take_parent_or_author.new.self)) c.in_ok-take_parent_or_author-in-Parents.was
    (line_left c.loop-self.self c.take_parent_or_author.new.self c.take_parent_or_author.result c.in-Parents.is c.loop-self-test.ensures c.take_parent_or_author.ensures)

pub loop-self-smaller-in_ok-take_parent_or_author-in-Parents : goal.loop-self-smaller-in_ok-take_parent_or_author-in-Parents
loop-self-smaller-in_ok-take_parent_or_author-in-Parents c = omega (arith, (line_passed _ _ _ (line c)).0)

pub loop-self-preserved-in_ok-take_parent_or_author-in-Parents : goal.loop-self-preserved-in_ok-take_parent_or_author-in-Parents
loop-self-preserved-in_ok-take_parent_or_author-in-Parents c = sym (line_passed _ _ _ (line c)).1 ∙ c.loop-self.invariant

pub returns-in_err-take_parent_or_author-in-Parents : goal.returns-in_err-take_parent_or_author-in-Parents
returns-in_err-take_parent_or_author-in-Parents c =
    let left = subst (λ r. TakesLine (commit_items_left c.loop-self.self) r (commit_items_left c.take_parent_or_author.new.self)) c.in_err-take_parent_or_author-in-Parents.was
    (line_left c.loop-self.self c.take_parent_or_author.new.self c.take_parent_or_author.result c.in-Parents.is c.loop-self-test.ensures c.take_parent_or_author.ensures) in
    let fault = sym (ap first_committer left) ∙ c.loop-self.invariant in
    search rules

pub returns-in_err-signature-in-Committer : goal.returns-in_err-signature-in-Committer
returns-in_err-signature-in-Committer c =
    let left = subst (λ r. TakesCommitter (commit_items_left c.loop-self.self) r (commit_items_left c.take_committer.new.self)) c.in_err-signature-in-Committer.was
    (committer_left c.loop-self.self c.take_committer.new.self c.take_committer.result c.in-Committer.is c.loop-self-test.ensures c.take_committer.ensures) in
    let fault = sym (ap first_committer left) ∙ c.loop-self.invariant in
    search rules

pub returns-in-Committer-2 : goal.returns-in-Committer-2
returns-in-Committer-2 c =
    let left = subst (λ r. TakesCommitter (commit_items_left c.loop-self.self) r (commit_items_left c.take_committer.new.self)) (c.in_ok-signature-in-Committer.was ∙ ap Ok c.in-Committer-2.is)
    (committer_left c.loop-self.self c.take_committer.new.self c.take_committer.result c.in-Committer.is c.loop-self-test.ensures c.take_committer.ensures) in
    sym (ap first_committer left) ∙ c.loop-self.invariant

pub returns : goal.returns
returns c = elim c.loop-self-test.branch [
  | else-loop-self-test w ↦ sym (nothing_more c.loop-self.self (inl w.loop-self-test.ensures)).2 ∙ c.loop-self.invariant
  | then-loop-self-test+in-Rest w ↦ sym (nothing_more c.loop-self.self (inr w.in-Rest.is)).2 ∙ c.loop-self.invariant
]
