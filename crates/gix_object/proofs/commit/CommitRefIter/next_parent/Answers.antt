use Rattle.std.proofs.Common.{length, Ok, sym, ap, subst, ◌∙◌, inl, inr, arith, rules}
use Rattle.gix_object.specs.CommitRefIter.{commit_items_left, next_parent, behind_parent}
use Rattle.gix_object.proofs.Commits.Taken.{TakesTree, TakesLine, tree_left, line_left, nothing_more, author_taken}
use Rattle.gix_object.specs.declared.commit.Token.TheVariants as token
use Rattle.gix_object.proofs.commit.CommitRefIter.next_parent.Goals as goal

tree : (c : goal.In_ok-take_tree-in-Tree) → TakesTree (commit_items_left c.loop-self.self) (Ok c.in_ok-take_tree-in-Tree.field-0) (commit_items_left c.take_tree.new.self)
tree c = subst (λ r. TakesTree (commit_items_left c.loop-self.self) r (commit_items_left c.take_tree.new.self)) c.in_ok-take_tree-in-Tree.was
    (tree_left c.loop-self.self c.take_tree.new.self c.take_tree.result c.in-Tree.is c.loop-self-test.ensures c.take_tree.ensures)

pub loop-self-smaller : goal.loop-self-smaller
loop-self-smaller c = omega (arith, ap length (tree c).1)

pub loop-self-preserved : goal.loop-self-preserved
loop-self-preserved c = record {
  parent = sym (ap next_parent (tree c).1) ∙ c.loop-self.invariant.parent;
  left = sym (ap behind_parent (tree c).1) ∙ c.loop-self.invariant.left;
}

pub returns-in_err-take_tree-in-Tree-clause-parent : goal.returns-in_err-take_tree-in-Tree-clause-parent
returns-in_err-take_tree-in-Tree-clause-parent c =
    let left = subst (λ r. TakesTree (commit_items_left c.loop-self.self) r (commit_items_left c.take_tree.new.self)) c.in_err-take_tree-in-Tree.was
    (tree_left c.loop-self.self c.take_tree.new.self c.take_tree.result c.in-Tree.is c.loop-self-test.ensures c.take_tree.ensures) in
    let fault = sym (ap next_parent left) ∙ c.loop-self.invariant.parent in
    search rules

pub returns-in_err-take_tree-in-Tree-clause-left : goal.returns-in_err-take_tree-in-Tree-clause-left
returns-in_err-take_tree-in-Tree-clause-left c =
    let left = subst (λ r. TakesTree (commit_items_left c.loop-self.self) r (commit_items_left c.take_tree.new.self)) c.in_err-take_tree-in-Tree.was
    (tree_left c.loop-self.self c.take_tree.new.self c.take_tree.result c.in-Tree.is c.loop-self-test.ensures c.take_tree.ensures) in
    sym (ap behind_parent left) ∙ c.loop-self.invariant.left

pub returns-in_err-id-in-Parents-clause-parent : goal.returns-in_err-id-in-Parents-clause-parent
returns-in_err-id-in-Parents-clause-parent c =
    let left = subst (λ r. TakesLine (commit_items_left c.loop-self.self) r (commit_items_left c.take_parent_or_author.new.self)) c.in_err-id-in-Parents.was
    (line_left c.loop-self.self c.take_parent_or_author.new.self c.take_parent_or_author.result c.in-Parents.is c.loop-self-test.ensures c.take_parent_or_author.ensures) in
    let fault = sym (ap next_parent left) ∙ c.loop-self.invariant.parent in
    search rules

pub returns-in_err-id-in-Parents-clause-left : goal.returns-in_err-id-in-Parents-clause-left
returns-in_err-id-in-Parents-clause-left c =
    let left = subst (λ r. TakesLine (commit_items_left c.loop-self.self) r (commit_items_left c.take_parent_or_author.new.self)) c.in_err-id-in-Parents.was
    (line_left c.loop-self.self c.take_parent_or_author.new.self c.take_parent_or_author.result c.in-Parents.is c.loop-self-test.ensures c.take_parent_or_author.ensures) in
    sym (ap behind_parent left) ∙ c.loop-self.invariant.left

parent : (c : goal.In-Parent) → TakesLine (commit_items_left c.loop-self.self) (Ok (token.Parent c.in-Parent.id)) (commit_items_left c.take_parent_or_author.new.self)
parent c = subst (λ r. TakesLine (commit_items_left c.loop-self.self) r (commit_items_left c.take_parent_or_author.new.self)) (c.in_ok-id-in-Parents.was ∙ ap Ok c.in-Parent.is)
    (line_left c.loop-self.self c.take_parent_or_author.new.self c.take_parent_or_author.result c.in-Parents.is c.loop-self-test.ensures c.take_parent_or_author.ensures)

pub returns-in-Parent-clause-parent : goal.returns-in-Parent-clause-parent
returns-in-Parent-clause-parent c = sym (ap next_parent (parent c)) ∙ c.loop-self.invariant.parent

pub returns-in-Parent-clause-left : goal.returns-in-Parent-clause-left
returns-in-Parent-clause-left c = sym (ap behind_parent (parent c)) ∙ c.loop-self.invariant.left

pub returns-in_default : goal.returns-in_default
returns-in_default c =
    let left = subst (λ r. TakesLine (commit_items_left c.loop-self.self) r (commit_items_left c.take_parent_or_author.new.self)) c.in_ok-id-in-Parents.was
    (line_left c.loop-self.self c.take_parent_or_author.new.self c.take_parent_or_author.result c.in-Parents.is c.loop-self-test.ensures c.take_parent_or_author.ensures) in
    let author = author_taken _ _ c.in_ok-id-in-Parents.field-0 left c.in_default.not-Parent in record {
      parent = sym author.0 ∙ c.loop-self.invariant.parent;
      left = sym author.1 ∙ c.loop-self.invariant.left;
    }

pub returns-after-loop-self-clause-parent : goal.returns-after-loop-self-clause-parent
returns-after-loop-self-clause-parent c = sym (nothing_more c.loop-self.self (inl c.loop-self-test.ensures)).0 ∙ c.loop-self.invariant.parent

pub returns-after-loop-self-clause-left : goal.returns-after-loop-self-clause-left
returns-after-loop-self-clause-left c = sym (nothing_more c.loop-self.self (inl c.loop-self-test.ensures)).1 ∙ c.loop-self.invariant.left

pub returns-in-Rest-clause-parent : goal.returns-in-Rest-clause-parent
returns-in-Rest-clause-parent c = sym (nothing_more c.loop-self.self (inr c.in-Rest.is)).0 ∙ c.loop-self.invariant.parent

pub returns-in-Rest-clause-left : goal.returns-in-Rest-clause-left
returns-in-Rest-clause-left c = sym (nothing_more c.loop-self.self (inr c.in-Rest.is)).1 ∙ c.loop-self.invariant.left
