-- A ready commit as it was read, with rows that agree.
use Rattle.std.proofs.Common.{◌≡◌, ℕ, Bool, true, cond, Option, Some, None, Result, Ok, List, Contains, refl, sym, ap, subst, ◌∙◌, arith, lt-ltb}
use Rattle.gix_topo.proofs.Common.{ObjectId, kind_of, is_among, Objects, commit_items, first_committer, GraphRow, row_of, Info, IsAgreeing, infinity, time_of, time_in, commit_of_object, RowSays, is_read, Reads, by_row, by_text}
use Rattle.gix_topo.proofs.Common.{told_generation, time_of_committer, TopoPlan, Ready, IsStored, named_ids, row_generation, IsFound, row_stands, row_says_time}
use Rattle.gix_object.specs.declared.decode.Error.{Error as DecodeError}
use Rattle.gix_object.specs.CommitText.{Commit, read_commit}
use Rattle.gix_revwalk.specs.declared.row.RowRead.{RowRead}
use Rattle.gix_topo.specs.Inside.Searched.{text_next}
use Rattle.gix_revwalk.specs.Infos.{IsRowGeneration}
use Rattle.gix_revwalk.proofs.Rows.{passed_over}
use Rattle.gix_revwalk.proofs.CommitterTime.{TellsTime, tells}
use Rattle.gix_topo.proofs.Reading.ReadsCommit.{reads_named, reads_text_next}

committer_time : (o : Option Commit) (q : Result (List ℕ) DecodeError) → TellsTime o q → time_of_committer q ≡ time_in o
committer_time o q h = grind arith

module _ (objects : Objects) (faulty : ObjectId → Type 0) (rows : List GraphRow) (agrees : IsAgreeing objects rows) where
  finite_told : (i : ObjectId) {read : RowRead} (says : RowSays rows i read) → told_generation read.generation ≡ Some says.row.generation
  finite_told i says =
      ap told_generation says.generation ∙ ap (λ b. cond b (Some says.row.generation) None) (lt-ltb says.row.generation infinity (agrees says.row (row_stands rows i says.row says.there).0).finite)

  reads_stored : {in_use : Bool} {i : ObjectId} {info : Info} {new : Bool} → Reads objects faulty rows in_use i (Ok info) new → (info.commit_time ≡ Some (time_of objects i)) × IsRowGeneration rows i info.generation × (new ≡ true → info.generation ≡ row_generation (row_of rows i))
  reads_stored {i = i} (by_row (is_read h says) is) = (
    is.same_time ∙ ap Some (says.time ∙ row_says_time objects rows agrees i says.row says.there),
    subst (IsRowGeneration rows i) (sym (is.same_generation ∙ finite_told i says)) (says.row, says.there, refl),
    λ e. is.same_generation ∙ finite_told i says ∙ sym (ap row_generation says.there),
  )
  reads_stored {i = i} (by_text r t) = (
    t.2.0.same_time ∙ ap Some (committer_time (read_commit (kind_of i) t.0) (first_committer (commit_items (kind_of i) t.0)) (tells (kind_of i) t.0) ∙ sym (ap (λ o. time_in (commit_of_object i o)) t.1)),
    subst (IsRowGeneration rows i) (sym t.2.0.same_generation) tt,
    λ e. t.2.0.same_generation ∙ sym (ap row_generation (passed_over r e)),
  )

module _ {F : Type 0} (objects : F → Objects) (faulty : F → ObjectId → Type 0) (plan : TopoPlan F) where
  -- with rows that agree, its parents are the ids that its text names
  pub found_text : {was_in_use in_use : Bool} {r : Ready} → IsAgreeing (objects plan.store) plan.rows → IsFound objects faulty plan was_in_use in_use r → r.parents ≡ text_next (objects plan.store) r.id
  found_text agrees f = sym f.is.same_parents ∙ reads_text_next (objects plan.store) (faulty plan.store) plan.rows agrees f.reads

  -- rows or texts name its parents
  pub found_named : {was_in_use in_use : Bool} {r : Ready} → IsFound objects faulty plan was_in_use in_use r → (p : ObjectId) → Contains r.parents p → is_among p (named_ids (objects plan.store) plan.rows) ≡ true
  found_named f p m = reads_named (objects plan.store) (faulty plan.store) plan.rows f.reads p (subst (λ ids. Contains ids p) (sym f.is.same_parents) m)

  -- with rows that agree, it is as its text and the rows say
  pub found_stored : {was_in_use in_use : Bool} {r : Ready} → IsAgreeing (objects plan.store) plan.rows → IsFound objects faulty plan was_in_use in_use r → IsStored objects plan in_use r
  found_stored {r = r} agrees f =
      let k = reads_stored (objects plan.store) (faulty plan.store) plan.rows agrees f.reads in
      record {
        parents = found_text agrees f;
        time = let same : Some r.time ≡ Some (time_of (objects plan.store) r.id) = sym f.is.same_time ∙ k.0 in cc;
        by_row = subst (IsRowGeneration plan.rows r.id) f.is.same_generation k.1;
        told = λ e. sym f.is.same_generation ∙ k.2 (f.later e);
      }
