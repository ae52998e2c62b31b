use Rattle.std.proofs.Common.{◌≡◌, List, length}
use Rattle.std.specs.Iterator.{Yields}
use Rattle.gix_revwalk.specs.declared.Info.{Info}
use Rattle.gix_revwalk.specs.Infos.{given}
use Rattle.gix_ahead.proofs.walks.number_drawn.Given as goal

-- the walk gave commits, and they were counted
abbrev pub invariant-loop-answer : goal.invariant-loop-answer
invariant-loop-answer g l = record {
  infos : List Info;
  drawn : Yields g.I.Iterator.next_gives l.fn.walk (given infos) l.answer-iterator;
  counted : l.number ≡ length infos;
}
