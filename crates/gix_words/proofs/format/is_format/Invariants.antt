use Rattle.std.proofs.Common.{◌≡◌, drop}
use Rattle.gix_statement.specs.Formats.{is_format}
use Rattle.gix_words.proofs.format.is_format.Given as goal

-- the bytes that are left say it
abbrev pub invariant-loop-byte : goal.invariant-loop-byte
invariant-loop-byte l = is_format l.before (drop l.byte-index l.text) ≡ is_format 0 l.text
