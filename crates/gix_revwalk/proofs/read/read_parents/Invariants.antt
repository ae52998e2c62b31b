use Rattle.std.proofs.Common.{◌≡◌, ◌≤◌, ◌++◌, List, Option, length}
use Rattle.gix_revwalk.proofs.Common.{ObjectId, commit_items_left, first_committer, scanned}
use Rattle.gix_object.specs.declared.decode.Error.{Error}
use Rattle.gix_revwalk.proofs.read.read_parents.Given as goal

-- what items show behind parents that were read before
abbrev pub behind : List ObjectId → List ObjectId × Option Error → List ObjectId × Option Error
behind ids r = (ids ++ r.0, r.1)

-- what was read and what is left are the whole
abbrev pub invariant-loop-id : goal.invariant-loop-id
invariant-loop-id l = record {
  shown : behind l.parent_ids.items (scanned l.parents (commit_items_left l.items)) ≡ scanned l.parents (commit_items_left l.fn.items);
  committer : first_committer (commit_items_left l.items) ≡ first_committer (commit_items_left l.fn.items);
  inline : 1 ≤ l.parent_ids.capacity;
}

abbrev pub decreases-loop-id : goal.decreases-loop-id
decreases-loop-id l = length (commit_items_left l.items)
