use Rattle.std.proofs.Common.{rules}
use Rattle.gix_revwalk.specs.Reading.{absent, dropped}
use Rattle.gix_revwalk.proofs.row.read_row.Goals as goal

pub returns-then-not-in_use-clause-reads : goal.returns-then-not-in_use-clause-reads
returns-then-not-in_use-clause-reads c = dropped (search rules)

pub returns-in-None-clause-reads : goal.returns-in-None-clause-reads
returns-in-None-clause-reads c = absent (search rules)
