use Rattle.std.proofs.Common.{◌≡◌, take}
use Rattle.std.specs.FinSet as set
use Rattle.gix_hash.specs.Id.{id_cmp}
use Rattle.gix_revwalk.specs.Ids.{new_ids}
use Rattle.gix_merge_base.proofs.NewAmong.{IsOldNow}
use Rattle.gix_questions.proofs.chosen.once.Given as goal

-- the ids of the list so far, each once, which were seen
abbrev pub invariant-loop-id : goal.invariant-loop-id
invariant-loop-id l = record {
  those_are : l.those.items ≡ new_ids (set.contains {R = id_cmp} set.empty) (take l.id-index l.ids);
  old_now : IsOldNow (set.empty {R = id_cmp}) (take l.id-index l.ids) l.seen;
}
