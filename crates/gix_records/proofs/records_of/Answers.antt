use Rattle.std.proofs.Common.{◌≡◌, sym, subst, ◌∙◌, ap, length, List, ℕ}
use Rattle.std.proofs.lemmas.Result.{err_from_is_err_and}
use Rattle.gix_object.specs.MemoryStore.{objects_at, AreWithin}
use Rattle.gix_records.specs.declared.Error.{Error}
use Rattle.gix_records.specs.Records.{AreRecords, IsRecordFault}
use Rattle.gix_records.proofs.records_of.Goals as goal

fails_at : {bytes input : List ℕ} {e : Error} → bytes ≡ input → IsRecordFault bytes e → IsRecordFault input e
fails_at {e = e} same f = subst (λ (bytes : List ℕ). IsRecordFault bytes e) same f

pub returns-in_err-objects-clause-fault : goal.returns-in_err-objects-clause-fault
returns-in_err-objects-clause-fault c =
    let p = err_from_is_err_and c.from_residual.result c.from_residual.ensures.1 in
    rw (p.1, p.2) (fails_at c.as_slice.ensures.value c.in_err-objects.ensures.fault)

pub returns-in_err-objects-clause-only : goal.returns-in_err-objects-clause-only
returns-in_err-objects-clause-only c =
    let p = err_from_is_err_and c.from_residual.result c.from_residual.ensures.1 in
    λ records are. rw (p.1, p.2) (c.in_err-objects.ensures.only records (subst (AreRecords records) (sym c.as_slice.ensures.value) are))

pub over-requires : goal.over-requires
over-requires c = subst (λ (bytes : List ℕ). AreWithin c.in_ok-objects.objects (length bytes)) c.as_slice.ensures.value c.in_ok-objects.ensures.within

pub returns-clause-read : goal.returns-clause-read
returns-clause-read c =
    let same = c.as_slice.ensures.value in
    let read = c.in_ok-objects.ensures.read in
    (read.0, subst (AreRecords read.0) same read.1, c.over.ensures ∙ ap (λ (bytes : List ℕ). objects_at bytes c.in_ok-objects.objects) (sym same) ∙ read.2)

pub returns-clause-only : goal.returns-clause-only
returns-clause-only c =
    let same = c.as_slice.ensures.value in
    λ records are. c.over.ensures ∙ ap (λ (bytes : List ℕ). objects_at bytes c.in_ok-objects.objects) (sym same) ∙ c.in_ok-objects.ensures.only records (subst (AreRecords records) (sym same) are)
