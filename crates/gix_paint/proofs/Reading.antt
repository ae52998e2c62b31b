-- How a search reads a commit: by its row, or whole from the store.
use Rattle.std.proofs.Common.{◌≡◌, List, Bool, Some, None, Ok, sym, ap, inl, inr, ◌∙◌}
use Rattle.gix_paint.proofs.Common.{ObjectId, kind_of, Objects, GraphRow, commit_of_object, HasTime, Reads, ReadsParents, by_row, by_store, drops, IsPassed}
use Rattle.gix_object.specs.CommitText.{read_commit, seconds_of}
use Rattle.gix_revwalk.specs.declared.Parents.TheVariants as mode
use Rattle.gix_revwalk.specs.declared.row.RowRead.{RowRead}
use Rattle.gix_revwalk.specs.Reading.{ReadsParentIds, ReadsRow, is_read, absent, corrupt, dropped}
use Rattle.gix_revwalk.proofs.CommitterTime.{committer_read}
use Rattle.gix_revwalk.proofs.ReadsWhole.{scan_is}

-- a commit whose committer is read is read whole
pub front_read : (objects : Objects) (i : ObjectId) (ids : List ObjectId) → ReadsParentIds objects i (Ok ids) → Reads objects i ids
front_read objects i ids h =
    let tip : HasTime objects i (seconds_of h.committer.0) = committer_read objects i h.bytes h.stored h.committer.0 h.committer.1 in
    let read : read_commit (kind_of i) h.bytes ≡ Some tip.commit = sym (ap (commit_of_object i) h.stored) ∙ tip.stored in
    (tip.commit, tip.stored, h.parents ∙ ap (λ p. p.0) (scan_is (kind_of i) h.bytes tip.commit read mode.All))

module _ (objects : Objects) {rows : List GraphRow} {i : ObjectId} where
  -- the parents of a row that was read
  pub row_read : {in_use new : Bool} {read : RowRead} → ReadsRow rows in_use i (Some read) new → ReadsParents objects rows in_use i read.parent_ids.items new
  row_read (is_read h says) = by_row h says.there says.parents

  -- those that the store says, where no row is read
  pub store_read : {in_use new : Bool} {ids : List ObjectId} → ReadsRow rows in_use i None new → Reads objects i ids → ReadsParents objects rows in_use i ids new
  store_read (absent n) r = by_store (inl n) r
  store_read (corrupt h d) r = drops h d r
  store_read (dropped h) r = by_store (inr h) r

  -- why none is read
  pub passed : {in_use new : Bool} → ReadsRow rows in_use i None new → IsPassed rows in_use i
  passed (absent n) = inl n
  passed (corrupt h d) = inr (inr d)
  passed (dropped h) = inr (inl h)
