use Rattle.std.proofs.Common.{◌≡◌, true, false, sym, ◌∙◌}
use Rattle.gix_tree.proofs.Common.{is_tree, entry_of}
use Rattle.gix_tree.specs.declared.breadthfirst.Error.TheVariants as error
use Rattle.gix_tree.proofs.Shown.{failed_so, push_refused, visit_refused, visit_breaks, visit_leaves, queue_ends, queue_goes_on}
use Rattle.gix_tree.proofs.breadthfirst.show.Goals as goal
use Rattle.gix_tree.proofs.breadthfirst.show.Goals.{then-into+then-is_tree+in_ok-enqueue-in-Continue, else-into, else-into-via-then-into+else-is_tree, else-into-via-else-into}

pub returns-in_err-push_path_component : goal.returns-in_err-push_path_component
returns-in_err-push_path_component g c = rw (failed_so error.Memory c.from_residual.result c.from_residual.ensures.1) (push_refused g.V.Visit.steps (entry_of c.args.entry.now) c.args.queue.now c.args.delegate.now _ _ c.in_err-push_path_component.ensures)

pub returns-in_err-see : goal.returns-in_err-see
returns-in_err-see g c = rw (failed_so error.Memory c.from_residual-in_err-see.result c.from_residual-in_err-see.ensures.1) (visit_refused g.V.Visit.steps (entry_of c.args.entry.now) c.args.queue.now c.args.delegate.now _ _ _ c.in_ok-push_path_component.ensures c.in_err-see.ensures)

pub returns-in-Break : goal.returns-in-Break
returns-in-Break g c = visit_breaks g.V.Visit.steps (entry_of c.args.entry.now) c.args.queue.now c.args.delegate.now c.in-Break.field-0 _ _ c.in_ok-push_path_component.ensures (rw c.in-Break.is at c.in_ok-see.ensures)

pub returns-in_err-enqueue-in-Continue : goal.returns-in_err-enqueue-in-Continue
returns-in_err-enqueue-in-Continue g c =
    let tree = sym c.is_tree.ensures ∙ c.if-is_tree.true in
    rw (failed_so _ c.from_residual-in_err-enqueue-in-Continue.result c.from_residual-in_err-enqueue-in-Continue.ensures.1)
    (queue_ends g.V.Visit.steps (entry_of c.args.entry.now) c.args.queue.now c.args.delegate.now _ _ _ _ _ tree c.in_ok-push_path_component.ensures (rw (c.in-Continue.is, c.if-into.true) at c.in_ok-see.ensures) c.in_err-enqueue-in-Continue.ensures)

pub returns : goal.returns
returns g c = elim c.if-into.branch [
  | then-into+then-is_tree+in_ok-enqueue-in-Continue w ↦
      let tree = sym w.is_tree.ensures ∙ w.if-is_tree.true in
      rw w.queue-is (queue_goes_on g.V.Visit.steps (entry_of c.args.entry.now) c.args.queue.now c.args.delegate.now _ _ _ _ _ tree c.in_ok-push_path_component.ensures (rw (c.in-Continue.is, w.if-into.true) at c.in_ok-see.ensures) w.in_ok-enqueue-in-Continue.ensures (rw w.delegate-is at c.pop_path_component.ensures))
  | else-into w ↦
      let plain : c.in-Continue.into ≡ true → is_tree c.args.entry.now.mode.value ≡ false = elim w.else-into.branch [
        | else-into-via-then-into+else-is_tree v ↦ λ t. sym v.is_tree.ensures ∙ v.if-is_tree.false
        | else-into-via-else-into v ↦ λ t. cc (v.if-into.false, t)
      ] in
      rw w.queue-is (visit_leaves g.V.Visit.steps (entry_of c.args.entry.now) c.args.queue.now c.args.delegate.now c.in-Continue.into _ _ _ plain c.in_ok-push_path_component.ensures (rw c.in-Continue.is at c.in_ok-see.ensures) (rw w.delegate-is at c.pop_path_component.ensures))
]
