use Rattle.std.proofs.Common.{◌≡◌, ◌≤◌, List, Contains, length}
use Rattle.std.specs.Iterator.{Yields}
use Rattle.gix_graph_pages.specs.PagedRows.{IsAbove}
use Rattle.gix_revwalk.specs.Infos.{given}
use Rattle.gix_revwalk.specs.declared.Info.{Info}
use Rattle.gix_paged_commands.specs.Decided.{AreAllAbove}
use Rattle.gix_paged_commands.proofs.decided.gives_first_above.Given as goal

-- the walk gave so many commits, no more than were asked for, and their parents are above
abbrev pub invariant-loop-answer : goal.invariant-loop-answer
invariant-loop-answer g l = record {
  infos : List Info;
  drawn : Yields g.I.Iterator.next_gives l.fn.walk (given infos) l.answer-iterator;
  number : length infos ≡ l.number;
  few : l.number ≤ l.fn.count;
  above : (info : Info) → Contains infos info → AreAllAbove (IsAbove l.fn.line.pages.now l.fn.line.graph.now l.fn.line.least) info.parent_ids.items;
}
