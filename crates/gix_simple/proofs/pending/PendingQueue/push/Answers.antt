use Rattle.std.proofs.Common.{◌++◌, ◌∷◌, [], ap, ◌∙◌}
use Rattle.gix_simple.proofs.pending.PendingQueue.push.Goals as goal

pub returns-in-Ok-clause-ok : goal.returns-in-Ok-clause-ok
returns-in-Ok-clause-ok c = c.in-Ok.ensures ∙ ap (λ items. items ++ c.args.pending ∷ []) c.in_ok-set_order.ensures.ok.1
