use Rattle.std.proofs.Common.{◌≡◌, ◌++◌, ◌∷◌, [], take, get_or, cond, not, arith, ap, ◌∙◌}
use Rattle.std.proofs.lemmas.List.{take_more}
use Rattle.gix_hash.specs.declared.ObjectId.{ObjectId}
use Rattle.gix_hash.specs.Id.{is_same}
use Rattle.gix_hash.proofs.Ids.Equality.{eq_is_same}
use Rattle.gix_merge_base.proofs.Reading.{others_more}
use Rattle.gix_merge_base.proofs.push_others.Goals as goal
use Rattle.gix_merge_base.proofs.push_others.Goals.{then-ne+in_ok-push, else-ne}

pub loop-other-preserved : goal.loop-other-preserved
loop-other-preserved c =
    let i : ObjectId = get_or c.args.ids.now c.loop-other.other-index _ in
    let more : c.if-ne.those.items ≡ cond c.ne.result (c.loop-other.those.items ++ i ∷ []) c.loop-other.those.items = elim c.if-ne.branch [
      | then-ne+in_ok-push w ↦ (let e = w.those-is in let t = w.if-ne.true in let p = w.push.ensures.items in let o = w.in_ok-push in grind arith)
      | else-ne w ↦ (let e = w.those-is in let t = w.if-ne.false in grind arith)
    ] in
    let differs : c.ne.result ≡ not (is_same i c.args.id.now) = c.ne.ensures ∙ ap (λ eq. not (eq i c.args.id.now)) eq_is_same in
    others_more c.args.id.now (take c.loop-other.other-index c.args.ids.now) _ _ c.loop-other.those.items _ i (take_more c.args.ids.now c.loop-other.other-index _ c.loop-other-test.true) c.loop-other.invariant
    (more ∙ ap (λ b. cond b (c.loop-other.those.items ++ i ∷ []) c.loop-other.those.items) differs)
