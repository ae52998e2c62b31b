use Rattle.std.proofs.Common.{◌≡◌, ◌+◌, arith, ◌++◌, ◌∷◌, [], take, get_or, cond}
use Rattle.std.proofs.lemmas.List.{take_more}
use Rattle.gix_hash.specs.declared.ObjectId.{ObjectId}
use Rattle.gix_merge_base.proofs.NewAmong.{turn}
use Rattle.gix_merge_base.proofs.new_among.Goals as goal
use Rattle.gix_merge_base.proofs.new_among.Goals.{then-branch+in_ok-push, else-branch}

pub loop-id-preserved : goal.loop-id-preserved
loop-id-preserved c =
    let i : ObjectId = get_or c.args.ids.now c.loop-id.id-index _ in
    let more : c.if-branch.those.items ≡ cond c.in_ok-insert.field-0 (c.loop-id.those.items ++ i ∷ []) c.loop-id.those.items = elim c.if-branch.branch [
      | then-branch+in_ok-push w ↦ (let e = w.those-is in let t = w.if-branch.true in let p = w.push.ensures.items in let o = w.in_ok-push in grind arith)
      | else-branch w ↦ (let e = w.those-is in let t = w.if-branch.false in grind arith)
    ] in
    let r = turn c.args.old (take c.loop-id.id-index c.args.ids.now) c.loop-id.those.items c.if-branch.those.items (take (c.loop-id.id-index + 1) c.args.ids.now) c.loop-id.old c.insert.new.self i c.in_ok-insert.field-0
    (take_more c.args.ids.now c.loop-id.id-index _ c.loop-id-test.true) c.loop-id.invariant.those_are c.loop-id.invariant.old_now c.in_ok-insert.ensures.added c.in_ok-insert.ensures.ok more in
    record { those_are = r.those_are; old_now = r.old_now }
