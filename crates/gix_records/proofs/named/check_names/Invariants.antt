use Rattle.std.proofs.Common.{◌≤◌, ◌+◌, length}
use Rattle.gix_records.proofs.Naming.{HasCompared}
use Rattle.gix_records.proofs.named.check_names.Given as goal

-- the records before were compared
abbrev pub invariant-loop-front : goal.invariant-loop-front
invariant-loop-front l = record {
  compared : HasCompared l.fn.bytes l.rest l.record;
  room : l.record + length l.rest ≤ 1 + length l.fn.bytes;
}

abbrev pub decreases-loop-front : goal.decreases-loop-front
decreases-loop-front l = length l.rest
