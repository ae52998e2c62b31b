use Rattle.std.proofs.Common.{◌≡◌, take}
use Rattle.std.specs.FinSet as set
use Rattle.gix_revwalk.specs.Ids.{new_ids}
use Rattle.gix_merge_base.proofs.NewAmong.{IsOldNow}
use Rattle.gix_merge_base.proofs.new_among.Given as goal

-- the new ids of the list so far, which are old now
abbrev pub invariant-loop-id : goal.invariant-loop-id
invariant-loop-id l = record {
  those_are : l.those.items ≡ new_ids (set.contains l.fn.old) (take l.id-index l.ids);
  old_now : IsOldNow l.fn.old (take l.id-index l.ids) l.old;
}
