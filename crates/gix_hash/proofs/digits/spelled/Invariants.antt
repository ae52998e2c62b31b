use Rattle.std.proofs.Common.{◌≡◌, ◌-◌, ◌*◌, length}
use Rattle.gix_hash.specs.HexDigits.{AreDigits, AreSpelled}
use Rattle.gix_hash.proofs.digits.spelled.Given as goal

-- the bytes before this place are spelled, and by digits alone
abbrev pub invariant-loop-at : goal.invariant-loop-at
invariant-loop-at g l = record {
  len : length l.bytes ≡ g.row.N;
  are : AreDigits l.digits 0 (2 * l.at);
  spelled : AreSpelled l.digits 0 l.bytes l.at;
}

abbrev pub decreases-loop-at : goal.decreases-loop-at
decreases-loop-at g l = g.row.N - l.at
