use Rattle.std.proofs.Common.{◌≡◌, ◌+◌, arith, ◌++◌, ◌∷◌, [], take, get_or, cond, take_all, ap, ◌∙◌}
use Rattle.std.proofs.lemmas.List.{take_more}
use Rattle.std.specs.FinSet as set
use Rattle.gix_hash.specs.Id.{id_cmp}
use Rattle.gix_hash.specs.declared.ObjectId.{ObjectId}
use Rattle.gix_revwalk.specs.Ids.{new_ids}
use Rattle.gix_revwalk.proofs.NewIds.{fresh_agree}
use Rattle.gix_merge_base.proofs.NewAmong.{turn}
use Rattle.gix_questions.proofs.chosen.once.Goals as goal
use Rattle.gix_questions.proofs.chosen.once.Goals.{then-branch+in_ok-push, else-branch}

pub loop-id-preserved : goal.loop-id-preserved
loop-id-preserved c =
    let i : ObjectId = get_or c.args.ids.now c.loop-id.id-index _ in
    let more : c.if-branch.those.items ≡ cond c.in_ok-insert.field-0 (c.loop-id.those.items ++ i ∷ []) c.loop-id.those.items = elim c.if-branch.branch [
      | then-branch+in_ok-push w ↦ (let e = w.those-is in let t = w.if-branch.true in let p = w.push.ensures.items in let o = w.in_ok-push in grind arith)
      | else-branch w ↦ (let e = w.those-is in let t = w.if-branch.false in grind arith)
    ] in
    let r = turn (set.empty {R = id_cmp}) (take c.loop-id.id-index c.args.ids.now) c.loop-id.those.items c.if-branch.those.items (take (c.loop-id.id-index + 1) c.args.ids.now) c.loop-id.seen c.insert.new.self i c.in_ok-insert.field-0
    (take_more c.args.ids.now c.loop-id.id-index _ c.loop-id-test.true) c.loop-id.invariant.those_are c.loop-id.invariant.old_now c.in_ok-insert.ensures.added c.in_ok-insert.ensures.ok more in
    record { those_are = r.those_are; old_now = r.old_now }

pub returns : goal.returns
returns c =
    let w : take c.loop-id.id-index c.args.ids.now ≡ c.args.ids.now = take_all c.loop-id.id-index c.args.ids.now c.loop-id-test.false in
    c.loop-id.invariant.those_are ∙ ap (new_ids (set.contains {R = id_cmp} set.empty)) w ∙ fresh_agree _ _ c.args.ids.now (λ i h. set.contains-empty id_cmp i)
