use Rattle.std.proofs.Common.{ℕ, List, ◌++◌, ◌≡◌, drop}
use Rattle.std.specs.Str.{str_to_ascii_lowercase}
use Rattle.gix_format.proofs.add_lower.Given as goal

-- what was added, and behind it what the bytes that are left add, is the whole
abbrev pub invariant-loop-byte : goal.invariant-loop-byte
invariant-loop-byte l =
    (added : List ℕ) × (l.line.items ≡ l.fn.line.items ++ added)
    × (added ++ str_to_ascii_lowercase (drop l.byte-index l.text) ≡ str_to_ascii_lowercase l.fn.text)
