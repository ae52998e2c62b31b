use Rattle.std.proofs.Common.{◌≡◌, take, flat_map}
use Rattle.gix_commands.specs.Chosen.{line_in}
use Rattle.gix_commands.proofs.output.lines_of.Given as goal

-- the lines of the commits so far
abbrev pub invariant-loop-id : goal.invariant-loop-id
invariant-loop-id l = l.lines.items ≡ flat_map (line_in l.fn.chooser.objects l.fn.chooser.shown) (take l.id-index l.ids)
