use Rattle.std.proofs.Common.{◌≡◌, take, flat_map}
use Rattle.gix_commands.proofs.Common.{line_of}
use Rattle.gix_commands.proofs.contains.lines_of.Given as goal

-- the lines of the ids so far
abbrev pub invariant-loop-id : goal.invariant-loop-id
invariant-loop-id l = l.lines.items ≡ flat_map line_of (take l.id-index l.ids)
