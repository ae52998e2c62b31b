use Rattle.std.proofs.Common.{◌∷◌, [], length-append, arith, ◌∙◌, ap}
use Rattle.gix_tree.proofs.Common.{queued}
use Rattle.gix_tree.specs.Inside.LevelQueue.{level_queue}
use Rattle.gix_tree.proofs.Levels.Met.{above_more, queue_more}
use Rattle.gix_tree.proofs.breadthfirst.Queue.push.Goals as goal

pub invariant_of-self-2 : goal.invariant_of-self-2
invariant_of-self-2 c = rw c.in_ok-push.ensures.items (omega (arith, c.self.invariant.0, length-append c.self.inside.trees.items (record { oid = c.args.oid; turn = c.self.inside.turn } ∷ [])), above_more 0 c.self.inside.trees.items (record { oid = c.args.oid; turn = c.self.inside.turn }) c.self.invariant.1 (omega (arith, c.self.invariant.0)))

pub returns-clause-ok : goal.returns-clause-ok
returns-clause-ok c = ap (λ l. level_queue c.self.inside.turn l) c.in_ok-push.ensures.items ∙ queue_more _ _ _ c.self.invariant.0 ∙ ap (λ q. queued q c.args.oid) c.self.view_is
