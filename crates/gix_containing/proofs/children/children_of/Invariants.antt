use Rattle.std.proofs.Common.{List}
use Rattle.std.specs.Iterator.{Yields}
use Rattle.gix_containing.specs.Inside.Steps.{AreChildren}
use Rattle.gix_revwalk.specs.Infos.{given}
use Rattle.gix_revwalk.specs.declared.Info.{Info}
use Rattle.gix_containing.proofs.children.children_of.Given as goal

-- the walk gave these commits, and their parents have them as children
abbrev pub invariant-loop-answer : goal.invariant-loop-answer
invariant-loop-answer g l = record {
  infos : List Info;
  drawn : Yields g.I.Iterator.next_gives l.fn.walk (given infos) l.answer-iterator;
  are_children : AreChildren infos l.children;
}
