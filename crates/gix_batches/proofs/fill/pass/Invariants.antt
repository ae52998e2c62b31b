use Rattle.std.proofs.Common.{◌≡◌, ◌+◌, List, length}
use Rattle.std.specs.Iterator.{Yields}
use Rattle.gix_revwalk.specs.declared.Info.{Info}
use Rattle.gix_revwalk.specs.Infos.{given}
use Rattle.gix_batches.proofs.fill.pass.Given as goal

-- so many commits were drawn
abbrev pub invariant-loop-left : goal.invariant-loop-left
invariant-loop-left g l = record {
  infos : List Info;
  drawn : Yields g.I.Iterator.next_gives l.fn.walk (given infos) l.walk;
  number : length infos + l.left ≡ l.number;
  can : g.I.Iterator.can_next l.walk;
}
