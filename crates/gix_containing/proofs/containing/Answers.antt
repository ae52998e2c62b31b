use Rattle.std.proofs.Common.{List, subst}
use Rattle.gix_hash.specs.declared.ObjectId.{ObjectId}
use Rattle.std.proofs.lemmas.Result.{err_from_is_err_and}
use Rattle.gix_revwalk.specs.Agreeing.{rows_in}
use Rattle.gix_containing.specs.Containing.{FailsBy}
use Rattle.gix_containing.specs.Inside.Steps.{TellsReach}
use Rattle.gix_containing.proofs.Answered.{marked_are, fails_among, filtered_within}
use Rattle.gix_containing.proofs.containing.Goals as goal

pub returns-clause-ok : goal.returns-clause-ok
returns-clause-ok g c =
    let those = g.F.Find.objects c.args.objects.now in
    let rows = rows_in c.args.graph in
    marked_are those rows c.args.target c.args.tips.now c.in_ok-marks.marks c.in_ok-marks.ensures.ok c.in_ok-others.others.items _ c.in_ok-reaches.field-0 c.in_ok-others.ensures
    (subst (λ (xs : List ObjectId). TellsReach those rows xs c.args.target c.in_ok-reaches.field-0) c.deref.ensures.value c.in_ok-reaches.ensures.ok) c.if-branch.false c.in_ok-those-2.ensures

pub returns-in_err-reaches-clause-err : goal.returns-in_err-reaches-clause-err
returns-in_err-reaches-clause-err g c =
    let p = err_from_is_err_and c.from_residual-in_err-reaches.result c.from_residual-in_err-reaches.ensures.1 in
    let those = g.F.Find.objects c.args.objects.now in
    let fails = g.F.Find.faulty c.args.objects.now in
    let rows = rows_in c.args.graph in
    fails_among those fails rows c.args.target c.args.tips.now c.in_ok-others.others.items (filtered_within _ c.args.tips.now c.in_ok-others.others.items c.in_ok-others.ensures) _ _ _ p.1 p.2
    (λ ne. subst (λ (xs : List ObjectId). FailsBy those fails rows c.args.target xs c.in_err-reaches.field-0.0) c.deref.ensures.value (c.in_err-reaches.ensures.err ne))

pub returns-in_err-those-clause-err : goal.returns-in_err-those-clause-err
returns-in_err-those-clause-err g c =
    let p = err_from_is_err_and c.from_residual-in_err-those.result c.from_residual-in_err-those.ensures.1 in
    fails_among (g.F.Find.objects c.args.objects.now) (g.F.Find.faulty c.args.objects.now) (rows_in c.args.graph) c.args.target c.args.tips.now c.args.tips.now (λ i m. m) _ _ _ p.1 p.2 c.in_err-those.ensures.err
