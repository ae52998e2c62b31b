use Rattle.std.proofs.Common.{◌≡◌, ◌+◌, arith, ◌++◌, ◌∷◌, [], take, get_or, cond}
use Rattle.std.proofs.lemmas.List.{take_more}
use Rattle.gix_hash.specs.declared.ObjectId.{ObjectId}
use Rattle.gix_containing.proofs.Climbing.{marks_more}
use Rattle.gix_containing.proofs.children.mark_all.Goals as goal
use Rattle.gix_containing.proofs.children.mark_all.Goals.{then-branch+in_ok-push, else-branch}

pub loop-id-preserved : goal.loop-id-preserved
loop-id-preserved c =
    let i : ObjectId = get_or c.args.ids.now c.loop-id.id-index _ in
    let more : c.if-branch.waiting.items ≡ cond c.in_ok-insert.field-0 (c.loop-id.waiting.items ++ i ∷ []) c.loop-id.waiting.items = elim c.if-branch.branch [
      | then-branch+in_ok-push w ↦ (let e = w.waiting-is in let t = w.if-branch.true in let p = w.push.ensures.items in let o = w.in_ok-push in grind arith)
      | else-branch w ↦ (let e = w.waiting-is in let t = w.if-branch.false in grind arith)
    ] in
    marks_more (take c.loop-id.id-index c.args.ids.now) (take (c.loop-id.id-index + 1) c.args.ids.now) i c.in_ok-insert.field-0 c.args.marks.now c.loop-id.marks c.insert.new.self c.args.waiting.now.items c.loop-id.waiting.items c.if-branch.waiting.items
    (take_more c.args.ids.now c.loop-id.id-index _ c.loop-id-test.true) c.loop-id.invariant c.in_ok-insert.ensures.added c.in_ok-insert.ensures.ok more
