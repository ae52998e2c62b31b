use Rattle.std.proofs.Common.{◌≡◌, List, map, ◌++◌}
use Rattle.std.specs.Iterator.{Yields}
use Rattle.gix_revwalk.specs.declared.Info.{Info}
use Rattle.gix_revwalk.specs.Infos.{given}
use Rattle.gix_merge_base.specs.Inside.Steps.{Collects, named_by}
use Rattle.gix_merge_base.proofs.gather.Given as goal

-- the walk gave these commits
abbrev pub invariant-loop-answer : goal.invariant-loop-answer
invariant-loop-answer g l = record {
  infos : List Info;
  drawn : Yields g.I.Iterator.next_gives l.fn.walk (given infos) l.answer-iterator;
  given_are : Collects (map (λ info. info.id) infos) l.only;
  named_are : l.named.items ≡ l.tips ++ named_by infos;
}
