use Rattle.std.proofs.Common.{List, Contains}
use Rattle.std.specs.Iterator.{Yields}
use Rattle.gix_graph_pages.specs.PagedRows.{IsAbove}
use Rattle.gix_revwalk.specs.Infos.{given}
use Rattle.gix_revwalk.specs.declared.Info.{Info}
use Rattle.gix_paged_commands.proofs.decided.gives_above.Given as goal

-- the walk gave commits, and all are above
abbrev pub invariant-loop-answer : goal.invariant-loop-answer
invariant-loop-answer g l = record {
  infos : List Info;
  drawn : Yields g.I.Iterator.next_gives l.fn.walk (given infos) l.answer-iterator;
  above : (info : Info) → Contains infos info → IsAbove l.fn.line.pages.now l.fn.line.graph.now l.fn.line.least info.id;
}
