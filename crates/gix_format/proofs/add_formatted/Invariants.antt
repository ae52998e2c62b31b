use Rattle.std.proofs.Common.{ℕ, List, ◌++◌, ◌≡◌, drop}
use Rattle.gix_statement.specs.Formats.{formatted}
use Rattle.gix_format.specs.Page.{page_commit}
use Rattle.gix_format.proofs.add_formatted.Given as goal

-- what was added, and behind it what the rest of the format says, is the whole
abbrev pub invariant-loop-byte : goal.invariant-loop-byte
invariant-loop-byte l =
    (added : List ℕ) × (l.line.items ≡ l.fn.line.items ++ added)
    × (added ++ formatted (page_commit l.commit) l.before (drop l.byte-index l.format) ≡ formatted (page_commit l.commit) 0 l.format)
