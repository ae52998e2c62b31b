use Rattle.std.proofs.Common.{◌≡◌, ◌++◌, length, map, IsPermutation}
use Rattle.gix_revwalk.specs.PriorityQueue.{values}
use Rattle.gix_revwalk.specs.Turns.{by_turn, AreApart}
use Rattle.gix_revwalk.proofs.InTurn.{number, numbered}
use Rattle.gix_revwalk.proofs.time_queue.TimeQueue.into_values.Given as goal

-- the values that went over and those that are left are all
abbrev pub invariant-loop-turn : goal.invariant-loop-turn
invariant-loop-turn g l = IsPermutation (map numbered l.initial.queue) (l.by_turn ++ map numbered l.queue)

abbrev pub decreases-loop-turn : goal.decreases-loop-turn
decreases-loop-turn g l = length l.queue

-- the values that were listed and those that are left are all
abbrev pub invariant-loop-value : goal.invariant-loop-value
invariant-loop-value g l = record {
  apart : AreApart number l.by_turn;
  listed : values (by_turn number l.initial.by_turn) ≡ l.all.items ++ values (by_turn number l.by_turn);
}

abbrev pub decreases-loop-value : goal.decreases-loop-value
decreases-loop-value g l = length l.by_turn
