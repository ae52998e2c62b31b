use Rattle.std.proofs.Common.{◌≡◌, ◌≤◌, ◌++◌, List, length, drop}
use Rattle.std.specs.Iterator.{Yields}
use Rattle.gix_revwalk.specs.declared.Info.{Info}
use Rattle.gix_revwalk.specs.Infos.{given}
use Rattle.gix_batches.specs.Draws.{most_of}
use Rattle.gix_batches.specs.Slices.{commits_of, ids_of, told_by}
use Rattle.gix_batches.proofs.fill.fill.Given as goal

-- the walk gave commits, which are at the front of the slices
abbrev pub invariant-loop-at : goal.invariant-loop-at
invariant-loop-at g l = record {
  infos : List Info;
  drawn : Yields g.I.Iterator.next_gives l.fn.walk (given infos) l.walk;
  number : l.at ≡ length infos;
  used : l.used ≡ length (ids_of (told_by infos));
  within : l.used ≤ length l.fn.parents;
  below : l.at ≤ most_of l.fn.limit (length l.fn.commits);
  can : g.I.Iterator.can_next l.walk;
  commits : l.commits ≡ commits_of 0 (told_by infos) ++ drop (length infos) l.fn.commits;
  parents : l.parents ≡ ids_of (told_by infos) ++ drop l.used l.fn.parents;
}
