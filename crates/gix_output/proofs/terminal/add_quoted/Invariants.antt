use Rattle.std.proofs.Common.{◌≡◌, ◌++◌, drop}
use Rattle.gix_output.specs.Terminal.{quoted}
use Rattle.gix_output.proofs.terminal.add_quoted.Given as goal

-- what was added, and behind it what is left as it is shown, is the whole
abbrev pub invariant-loop-byte : goal.invariant-loop-byte
invariant-loop-byte l = l.text.items ++ quoted l.before (drop l.byte-index l.bytes) ≡ l.fn.text.items ++ quoted l.fn.before l.fn.bytes
