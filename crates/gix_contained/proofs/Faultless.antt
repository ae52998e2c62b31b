-- Where all that is reached reads whole, no commit is a fault.
use Rattle.std.proofs.Common.{◌≡◌, List, ◌++◌, Some, None, sym, ap, ⊎_elim, ◌∙◌}
use Rattle.std.proofs.lemmas.List.Elements.{Contains-append_left, Contains-append_right}
use Rattle.gix_hash.specs.declared.ObjectId.{ObjectId}
use Rattle.gix_hash.specs.Id.{kind_of}
use Rattle.gix_hash.specs.Reach.{Reaches, start}
use Rattle.gix_object.specs.declared.find.existing_iter.Error.TheVariants as existing
use Rattle.gix_object.specs.CommitItems.{commit_items}
use Rattle.gix_object.specs.Object.{Objects}
use Rattle.gix_commitgraph.specs.Rows.{GraphRow}
use Rattle.gix_contained.specs.declared.Error.{Error}
use Rattle.gix_contained.specs.declared.Error.TheVariants as error
use Rattle.gix_contained.specs.Contained.{error_of, FailsBy}
use Rattle.gix_paint.specs.declared.Hidden.{Hidden}
use Rattle.gix_paint.specs.declared.Hidden.TheVariants as hidden_by
use Rattle.gix_paint.specs.Painting.{IsFaultAt}
use Rattle.gix_paint.proofs.Invariant.{own_history}
use Rattle.gix_revwalk.specs.Agreeing.{IsAgreeing}
use Rattle.gix_revwalk.specs.Commits.{ReadsWhole, commit_of_object, parents_of}
use Rattle.gix_revwalk.proofs.Committer.{fault_unread}
use Rattle.gix_revwalk.proofs.Reached.{reach_more}
use Rattle.gix_revwalk.proofs.ReadsWhole.{no_fault}

module _ (objects : Objects) (faulty : ObjectId → Type 0) where
  -- at a commit that reads whole only the store fails
  pub at_whole : (i : ObjectId) (why : Hidden) → ReadsWhole objects i → IsFaultAt objects faulty i why → error_of why ≡ error.Find existing.Store
  at_whole i (hidden_by.Find e) reads f = ap (λ x. error_of (hidden_by.Find x)) (no_fault objects faulty i reads.commit e reads.stored f)
  at_whole i (hidden_by.ObjectDecode e) reads f =
      let n : None ≡ Some reads.commit = sym (ap (commit_of_object i) f.1 ∙ fault_unread (commit_items (kind_of i) f.0) e f.2) ∙ reads.stored in cc

  pub store_alone : (rows : List GraphRow) (tips ids : List ObjectId) (e : Error) → IsAgreeing objects rows
      → ((i : ObjectId) → Reaches (parents_of objects) (ids ++ tips) i → ReadsWhole objects i) → FailsBy objects faulty rows tips ids e
      → e ≡ error.Find existing.Store
  store_alone rows tips ids e agreeing whole (why, f, is) =
      is ∙ at_whole f.id why
      (whole f.id (⊎_elim (λ m. start (Contains-append_left ids tips f.id m)) (reach_more (parents_of objects) tips (ids ++ tips) (Contains-append_right ids tips) f.id) (f.reached objects (own_history objects rows agreeing)))) f.fault
