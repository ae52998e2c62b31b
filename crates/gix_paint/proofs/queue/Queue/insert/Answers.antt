use Rattle.std.proofs.Common.{◌∷◌, IsPermutation, sym, subst}
use Rattle.gix_paint.proofs.Common.{IfOk-weaker, QueueEntry}
use Rattle.gix_paint.specs.Inside.Queue.{queue_entries}
use Rattle.gix_paint.proofs.Waits.{push_rowed, push_unrowed}
use Rattle.gix_paint.proofs.queue.Queue.insert.Goals as goal

pub returns-in-Told : goal.returns-in-Told
returns-in-Told c =
    IfOk-weaker c.insert.result _ _ (λ x p. subst (λ g. IsPermutation {X = QueueEntry} ((g, c.args.entry) ∷ c.args.self.now) (queue_entries c.self.inside.unrowed.items c.insert.new.self)) (sym c.in-Told.is)
    (push_rowed c.self.inside.unrowed.items c.self.inside.rowed c.self.view_is (c.in-Told.generation, c.args.entry) c.insert.new.self p)) c.insert.ensures.ok

pub returns-in_ok-push-in-Infinite : goal.returns-in_ok-push-in-Infinite
returns-in_ok-push-in-Infinite c =
    subst (λ g. IsPermutation {X = QueueEntry} ((g, c.args.entry) ∷ c.args.self.now) (queue_entries c.push.new.self.items c.self.inside.rowed)) (sym c.in-Infinite.is)
    (push_unrowed c.self.inside.unrowed.items c.self.inside.rowed c.self.view_is c.args.entry c.push.new.self.items c.in_ok-push-in-Infinite.ensures.items)
