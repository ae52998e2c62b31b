use Rattle.std.proofs.Common.{◌≡◌}
use Rattle.std.specs.Bool.{OnFalse}
use Rattle.gix_records.specs.NamedPart.{IsWithin}
use Rattle.gix_gather.proofs.gathering.Gathering.read_these.Given as goal

-- what was read stays, and until one is read that wasn't before all is as it was
abbrev pub invariant-loop-id : goal.invariant-loop-id
invariant-loop-id g l = IsWithin l.fn.self l.self × OnFalse l.is_new (l.self ≡ l.fn.self)
