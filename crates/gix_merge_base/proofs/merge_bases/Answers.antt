use Rattle.std.proofs.Common.{List, [], IsPermutation, ap, subst, ◌∙◌}
use Rattle.std.specs.FinSet as set
use Rattle.std.proofs.lemmas.Result.{err_from_is_err_and}
use Rattle.gix_hash.specs.declared.ObjectId.{ObjectId}
use Rattle.gix_contained.specs.Contained.{Selects, FailsBy as ContainedFails}
use Rattle.gix_revwalk.specs.Agreeing.{rows_in}
use Rattle.gix_revwalk.specs.Ids.{new_ids}
use Rattle.gix_merge_base.specs.Inside.Steps.{ReadsOthers, ReadFailsAmong, Collects}
use Rattle.gix_merge_base.proofs.Whole.{finds, fails_reading, fails_reaching}
use Rattle.gix_merge_base.proofs.merge_bases.Goals as goal

pub returns-in_err-parents-clause-err : goal.returns-in_err-parents-clause-err
returns-in_err-parents-clause-err g c =
    let p = err_from_is_err_and c.from_residual-in_err-parents.result c.from_residual-in_err-parents.ensures.1 in
    let those = g.F.Find.objects c.args.objects.now in
    let fails = g.F.Find.faulty c.args.objects.now in
    fails_reading those fails (rows_in c.args.graph) c.args.one c.args.others.now _ [] c.in_ok-common.ensures.ok _ _ p.1 _ p.2
    (λ ne. subst (λ (xs : List ObjectId). ReadFailsAmong those fails xs c.in_err-parents.field-0.0) c.deref.ensures.value (c.in_err-parents.ensures.err ne))

pub returns-in_err-reached-clause-err : goal.returns-in_err-reached-clause-err
returns-in_err-reached-clause-err g c =
    let p = err_from_is_err_and c.from_residual-in_err-reached.result c.from_residual-in_err-reached.ensures.1 in
    let those = g.F.Find.objects c.args.objects.now in
    let fails = g.F.Find.faulty c.args.objects.now in
    let rows = rows_in c.args.graph in
    fails_reaching those fails rows c.args.one c.args.others.now _ _ c.in_ok-common.ensures.ok _ _ p.1 _ p.2
    (subst (λ (xs : List ObjectId). ReadsOthers those rows xs c.in_ok-parents.parents.items) c.deref.ensures.value c.in_ok-parents.ensures.ok)
    (λ ne. subst (λ (xs : List ObjectId). ContainedFails those fails rows c.in_ok-parents.parents.items xs c.in_err-reached.field-0.0) c.deref-3.ensures.value
    (subst (λ (xs : List ObjectId). ContainedFails those fails rows xs c.deref-3.result.now c.in_err-reached.field-0.0) c.deref-2.ensures.value (c.in_err-reached.ensures.err ne)))

pub returns-clause-ok : goal.returns-clause-ok
returns-clause-ok g c =
    let those = g.F.Find.objects c.args.objects.now in
    let rows = rows_in c.args.graph in
    let parents : List ObjectId = c.in_ok-parents.parents.items in
    let reached : List ObjectId = c.in_ok-reached.reached.items in
    let marks : set.FinSet _ = c.in_ok-marks.marks in
    finds those (g.F.Find.faulty c.args.objects.now) rows c.args.one c.args.others.now _ _ c.in_ok-common.ensures.ok reached _ marks
    (subst (λ (xs : List ObjectId). ReadsOthers those rows xs parents) c.deref.ensures.value c.in_ok-parents.ensures.ok)
    (subst (λ (xs : List ObjectId). Selects those rows parents xs reached) c.deref-3.ensures.value (subst (λ (xs : List ObjectId). Selects those rows xs c.deref-3.result.now reached) c.deref-2.ensures.value c.in_ok-reached.ensures.ok))
    (subst (λ (xs : List ObjectId). Collects xs marks) c.deref-4.ensures.value c.in_ok-marks.ensures)
    (subst (λ (xs : List ObjectId). IsPermutation xs c.in_ok-bases.bases.items) (c.in_ok-found.ensures ∙ ap (new_ids (set.contains marks)) c.deref-5.ensures.value) c.in_ok-bases.ensures.same)
    c.in_ok-bases.ensures.rising
