use Rattle.gix_records.specs.NamedPart.{IsWithin}
use Rattle.gix_gather.proofs.gathering.Gathering.read_more.Given as goal

-- what was read stays
abbrev pub invariant-loop : goal.invariant-loop
invariant-loop g l = IsWithin l.fn.self l.self
