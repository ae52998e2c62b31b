-- What a topological walk reaches over rows that agree was read or has a row, so it is stored as a commit whose text has no fault.
use Rattle.std.proofs.Common.{◌≡◌, List, Some, None, Bool, true, sym, subst, ⊎_elim, ◌∙◌}
use Rattle.gix_hash.specs.declared.ObjectId.{ObjectId}
use Rattle.gix_hash.specs.Id.{kind_of}
use Rattle.gix_object.specs.CommitItems.{commit_items}
use Rattle.gix_object.specs.Object.{Objects}
use Rattle.gix_commitgraph.specs.Rows.{GraphRow, row_of}
use Rattle.gix_revwalk.specs.Agreeing.{IsAgreeing}
use Rattle.gix_revwalk.specs.Commits.{ReadsWhole}
use Rattle.gix_revwalk.proofs.Committer.{fault_unread}
use Rattle.gix_revwalk.proofs.ReadsWhole.{row_stands}
use Rattle.gix_revwalk.proofs.TextParents.{commit_stored}
use Rattle.gix_topo.specs.Walk.{IsCommitRead, IsKnown, IsReached}
use Rattle.gix_topo.proofs.Reading.Faultless.{faultless}
use Rattle.gix_commands.specs.Walked.{objects_of}
use Rattle.gix_commands.proofs.RightRuns.{AreRead}

-- a commit that reads whole has a text without a fault
pub whole_is_read : (objects : Objects) (i : ObjectId) → ReadsWhole objects i → IsCommitRead objects i
whole_is_read objects i w =
    let at = commit_stored objects i w in
    record {
      bytes = at.0;
      stored = at.1;
      faultless = faultless (kind_of i) at.0 (λ e f. let none : None ≡ Some w.commit = sym (fault_unread (commit_items (kind_of i) at.0) e f) ∙ at.2 in cc);
    }

module _ (objects : Objects) (rows : List GraphRow) (agree : IsAgreeing objects rows) where
  -- the store has the commit of a row
  pub rowed_is_read : (i : ObjectId) (row : GraphRow) → row_of rows i ≡ Some row → IsCommitRead objects i
  rowed_is_read i row e = let s = row_stands rows i row e in whole_is_read objects i (subst (ReadsWhole objects) (sym s.1) (agree row s.0).whole)

  -- what has a row, or was read, was read
  pub known_is_read : (in_use : Bool) (i : ObjectId) → IsKnown objects rows in_use i → IsCommitRead objects i
  known_is_read in_use i k = ⊎_elim (λ r. rowed_is_read i r.1 r.2) (λ c. c) k

  -- so a walk that was built has read all that its tips and ends reach, or their rows
  pub reached_is_read : AreRead objects rows
  reached_is_read m by tips ends walk built i r =
      known_is_read true i (subst (λ plan. IsAgreeing plan.store plan.rows → (j : ObjectId) → IsReached objects_of plan j → IsKnown plan.store plan.rows true j) built.0.plan built.1.known agree i r)
