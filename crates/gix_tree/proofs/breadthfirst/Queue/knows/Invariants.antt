use Rattle.std.proofs.Common.{◌≡◌, ◌≤◌, [], length}
use Rattle.gix_tree.proofs.Common.{is_among, known_at, met_behind}
use Rattle.gix_tree.proofs.breadthfirst.Queue.knows.Given as goal

-- whether the id is known depends on the ids that are left alone
abbrev pub invariant-loop-turn : goal.invariant-loop-turn
invariant-loop-turn l = record {
  within : l.turn ≤ length l.self-inside.trees.items;
  same : is_among l.oid (known_at (met_behind [] l.self-inside.trees.items) l.turn) ≡ is_among l.oid l.self.known;
}

abbrev pub decreases-loop-turn : goal.decreases-loop-turn
decreases-loop-turn l = l.turn
