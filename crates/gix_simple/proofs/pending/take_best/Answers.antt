use Rattle.gix_simple.proofs.TimeKeys.{keyed_less, best_chosen}
use Rattle.gix_simple.proofs.pending.take_best.Goals as goal

pub returns-clause-taken : goal.returns-clause-taken
returns-clause-taken c = best_chosen c.args.order (c.in_ok-pending.field-0-0, c.in_ok-pending.pending) _ _ c.requires c.in_ok-pending.ensures

pub returns-clause-keyed : goal.returns-clause-keyed
returns-clause-keyed c = keyed_less c.args.order (c.in_ok-pending.field-0-0, c.in_ok-pending.pending) _ _ c.requires c.in_ok-pending.ensures
