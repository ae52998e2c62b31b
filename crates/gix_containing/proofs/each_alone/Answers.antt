use Rattle.std.proofs.Common.{◌≡◌, ◌+◌, arith, ◌++◌, ◌∷◌, [], Contains, take, get_or, cond, subst, sym}
use Rattle.std.proofs.lemmas.List.{take_more}
use Rattle.std.proofs.lemmas.List.Elements.{Contains-get_or}
use Rattle.std.proofs.lemmas.Result.{err_from_is_err_and}
use Rattle.gix_hash.specs.declared.ObjectId.{ObjectId}
use Rattle.gix_hash.proofs.Lists.{only_member}
use Rattle.gix_revwalk.specs.Agreeing.{rows_in}
use Rattle.gix_revwalk.specs.Commits.{parents_of}
use Rattle.gix_containing.specs.Containing.{AreContaining, empty}
use Rattle.gix_containing.proofs.Answered.{one_more, fails_among}
use Rattle.gix_containing.proofs.each_alone.Goals as goal
use Rattle.gix_containing.proofs.each_alone.Goals.{then-branch+in_ok-extend_from_slice, else-branch}

pub loop-tip-init : goal.loop-tip-init
loop-tip-init g c = λ agreeing. subst (AreContaining (parents_of (g.F.Find.objects c.args.objects.now)) c.args.target []) (sym c.new-those.ensures.items) empty

pub loop-tip-preserved : goal.loop-tip-preserved
loop-tip-preserved g c = λ agreeing.
    let i : ObjectId = get_or c.args.tips.now c.loop-tip.tip-index _ in
    let more : c.if-branch.those.items ≡ cond c.in_ok-reaches.field-0 (c.loop-tip.those.items ++ i ∷ []) c.loop-tip.those.items = elim c.if-branch.branch [
      | then-branch+in_ok-extend_from_slice w ↦ (let e = w.those-is in let t = w.if-branch.true in let p = w.in_ok-extend_from_slice.ensures.items in grind arith)
      | else-branch w ↦ (let e = w.those-is in let t = w.if-branch.false in grind arith)
    ] in
    one_more (parents_of (g.F.Find.objects c.args.objects.now)) c.args.target (take c.loop-tip.tip-index c.args.tips.now) (take (c.loop-tip.tip-index + 1) c.args.tips.now) c.loop-tip.those.items c.if-branch.those.items i c.in_ok-reaches.field-0
    (take_more c.args.tips.now c.loop-tip.tip-index _ c.loop-tip-test.true) (c.loop-tip.invariant agreeing) (c.in_ok-reaches.ensures.ok agreeing) more

pub returns-in_err-reaches-clause-err : goal.returns-in_err-reaches-clause-err
returns-in_err-reaches-clause-err g c =
    let p = err_from_is_err_and c.from_residual.result c.from_residual.ensures.1 in
    let i : ObjectId = get_or c.args.tips.now c.loop-tip.tip-index _ in
    fails_among (g.F.Find.objects c.args.objects.now) (g.F.Find.faulty c.args.objects.now) (rows_in c.args.graph) c.args.target c.args.tips.now (i ∷ [])
    (λ j m. subst (Contains c.args.tips.now) (only_member i j m) (Contains-get_or c.args.tips.now c.loop-tip.tip-index _ c.loop-tip-test.true)) _ _ _ p.1 p.2 c.in_err-reaches.ensures.err
