use Rattle.std.proofs.Common.{◌≡◌, ◌∷◌, Bool, true, false, reverse, ◌⊎◌, inl, inr, sym, ◌∙◌}
use Rattle.gix_tree.proofs.Common.{entry_of, ids_down}
use Rattle.gix_tree.specs.declared.breadthfirst.Error.TheVariants as error
use Rattle.gix_tree.proofs.Shown.{failed_so}
use Rattle.gix_tree.proofs.Depth.Descent.{push_refused, visit_refused, tree_breaks, plain_breaks, visit_leaves, descent_ends, descent_goes_on}
use Rattle.gix_tree.proofs.depthfirst.show.Goals as goal

pub returns-in_err-push_path_component-clause-shows : goal.returns-in_err-push_path_component-clause-shows
returns-in_err-push_path_component-clause-shows g c =
    rw (failed_so error.Memory c.from_residual.result c.from_residual.ensures.1)
    (push_refused g.V.Visit.steps (c.args.tree.now ∷ ids_down (reverse c.args.above.now.items)) (entry_of c.args.entry.now) c.args.delegate.now _ c.in_err-push_path_component.ensures)

pub returns-in_err-answer-clause-shows : goal.returns-in_err-answer-clause-shows
returns-in_err-answer-clause-shows g c =
    rw (failed_so error.Memory c.from_residual-in_err-answer.result c.from_residual-in_err-answer.ensures.1)
    (visit_refused g.V.Visit.steps (c.args.tree.now ∷ ids_down (reverse c.args.above.now.items)) (entry_of c.args.entry.now) c.args.delegate.now _ _ c.in_ok-push_path_component.ensures c.in_err-answer.ensures)

pub returns-then-is_tree-clause-shows : goal.returns-then-is_tree-clause-shows
returns-then-is_tree-clause-shows g c =
    let k = c.in_default.is in
    tree_breaks g.V.Visit.steps (c.args.tree.now ∷ ids_down (reverse c.args.above.now.items)) (entry_of c.args.entry.now) c.args.delegate.now c.in_default.field-0 _ _ _ (sym c.is_tree-is_tree.ensures ∙ c.if-is_tree.true) c.in_ok-push_path_component.ensures (rw k at c.in_ok-answer.ensures) c.pop_path_component.ensures

pub returns-else-is_tree-clause-shows : goal.returns-else-is_tree-clause-shows
returns-else-is_tree-clause-shows g c =
    let k = c.in_default.is in
    plain_breaks g.V.Visit.steps (c.args.tree.now ∷ ids_down (reverse c.args.above.now.items)) (entry_of c.args.entry.now) c.args.delegate.now c.in_default.field-0 _ _ (sym c.is_tree-is_tree.ensures ∙ c.if-is_tree.false) c.in_ok-push_path_component.ensures (rw k at c.in_ok-answer.ensures)

plain_or_not : (into tree : Bool) → (into ≡ false) ⊎ ((into ≡ true) × (tree ≡ false)) → into ≡ true → tree ≡ false
plain_or_not into plain (inl f) t = cc
plain_or_not into plain (inr h) t = h.1

pub returns-then-not-into-clause-shows : goal.returns-then-not-into-clause-shows
returns-then-not-into-clause-shows g c =
    visit_leaves g.V.Visit.steps (c.args.tree.now ∷ ids_down (reverse c.args.above.now.items)) (entry_of c.args.entry.now) c.args.delegate.now c.in-Continue.into _ _ _
    (λ t. sym c.is_tree-is_tree.ensures ∙ plain_or_not c.in-Continue.into c.is_tree-is_tree.result c.then-not-into.either t)
    c.in_ok-push_path_component.ensures (rw c.in-Continue.is at c.in_ok-answer.ensures) c.pop_path_component-2.ensures

pub returns-in_err-descend-clause-shows : goal.returns-in_err-descend-clause-shows
returns-in_err-descend-clause-shows g c =
    rw (failed_so _ c.from_residual-in_err-descend.result c.from_residual-in_err-descend.ensures.1)
    (descent_ends g.V.Visit.steps (c.args.tree.now ∷ ids_down (reverse c.args.above.now.items)) (entry_of c.args.entry.now) c.args.delegate.now _ _ _ _ _ (sym c.is_tree-is_tree.ensures ∙ c.if-not-is_tree.false)
    c.in_ok-push_path_component.ensures (rw (c.in-Continue.is, c.if-not-into.false) at c.in_ok-answer.ensures) c.pop_path_component-2.ensures c.in_err-descend.ensures.descends)

pub returns-clause-shows : goal.returns-clause-shows
returns-clause-shows g c =
    descent_goes_on g.V.Visit.steps (c.args.tree.now ∷ ids_down (reverse c.args.above.now.items)) (entry_of c.args.entry.now) c.args.delegate.now _ _ _ _ (sym c.is_tree-is_tree.ensures ∙ c.if-not-is_tree.false)
    c.in_ok-push_path_component.ensures (rw (c.in-Continue.is, c.if-not-into.false) at c.in_ok-answer.ensures) c.pop_path_component-2.ensures c.in_ok-descend.ensures.descends
