use Rattle.std.proofs.Common.{Ok, take}
use Rattle.gix_lines.specs.Output.{Puts}
use Rattle.gix_lines.proofs.Names.{names_of}
use Rattle.gix_lines.proofs.walk.Walk.put_names.Given as goal

-- the names so far were put
abbrev pub invariant-names : goal.invariant-names
invariant-names g l = Puts (g.W.Write.contents l.initial.writer) l.initial.buffer (names_of (take l.upper-index l.upper-items)) (Ok tt) (g.W.Write.contents l.writer) l.buffer
