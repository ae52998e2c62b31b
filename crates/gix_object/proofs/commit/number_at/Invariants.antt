use Rattle.std.proofs.Common.{◌≡◌, ◌<◌, ◌-◌, ◌^◌, drop, min}
use Rattle.gix_object.specs.CommitText.{digits_from}
use Rattle.gix_object.proofs.commit.number_at.Given as goal

abbrev pub invariant-loop-b : goal.invariant-loop-b
invariant-loop-b l =
    (l.number < 2 ^ 64) × (min (digits_from l.number (drop l.b-index l.bytes)) (2 ^ 64 - 1) ≡ min (digits_from 0 l.bytes) (2 ^ 64 - 1))
