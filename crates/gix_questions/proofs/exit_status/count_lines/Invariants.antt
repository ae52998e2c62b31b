use Rattle.std.proofs.Common.{◌≡◌, ◌==◌, count_by, take}
use Rattle.gix_questions.proofs.exit_status.count_lines.Given as goal

-- the lines so far
abbrev pub invariant-loop-byte : goal.invariant-loop-byte
invariant-loop-byte l = l.count ≡ count_by (λ byte. byte == 10) (take l.byte-index l.lines)
