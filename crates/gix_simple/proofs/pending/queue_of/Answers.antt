use Rattle.std.proofs.Common.{◌++◌, ◌∷◌, [], sym, ap, ◌∙◌, append_assoc}
use Rattle.gix_simple.proofs.Common.{values}
use Rattle.gix_simple.proofs.pending.queue_of.Goals as goal

pub loop-pending-preserved : goal.loop-pending-preserved
loop-pending-preserved c = record {
  items =
      c.loop-pending.invariant.items
      ∙ ap (λ left. values c.loop-pending.queue ++ left) c.in-Some.ensures.items
      ∙ sym (append_assoc (values c.loop-pending.queue) (c.in-Some.pending ∷ []) c.pop_front.new.self.items)
      ∙ ap (λ those. those ++ c.pop_front.new.self.items) (sym c.in_ok-put.ensures.items);
  keyed = c.in_ok-put.ensures.keyed;
}
