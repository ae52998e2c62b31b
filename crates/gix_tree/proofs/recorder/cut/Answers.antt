use Rattle.std.proofs.Common.{◌≡◌, take, subst, ap, ◌∙◌, arith}
use Rattle.gix_tree.proofs.Common.{without_name}
use Rattle.gix_tree.proofs.Recording.Calls.{without_plain, without_slash}
use Rattle.gix_tree.proofs.recorder.cut.Goals as goal
use Rattle.gix_tree.proofs.recorder.cut.Goals.{else-loop-len-test, then-loop-len-test+then-index-eq47}

pub loop-len-preserved : goal.loop-len-preserved
loop-len-preserved c = record {
  within = omega (arith, c.loop-len.invariant.within);
  same = without_plain c.args.path.now.items c.loop-len.len c.index.result.now c.loop-len-test.true c.loop-len.invariant.within c.index.ensures c.if-index-eq47.false ∙ c.loop-len.invariant.same;
}

pub returns : goal.returns
returns c = elim c.loop-len-test.branch [
  | else-loop-len-test w ↦
      let none : c.loop-len.len ≡ 0 = omega (arith, w.loop-len-test.false) in
      let same : without_name (take 0 c.args.path.now.items) ≡ without_name c.args.path.now.items = subst (λ n. without_name (take n c.args.path.now.items) ≡ without_name c.args.path.now.items) none c.loop-len.invariant.same in
      c.truncate.ensures.items ∙ ap (λ n. take n c.args.path.now.items) (w.len-is ∙ none) ∙ same
  | then-loop-len-test+then-index-eq47 w ↦
      c.truncate.ensures.items ∙ ap (λ n. take n c.args.path.now.items) w.len-is
      ∙ without_slash c.args.path.now.items c.loop-len.len w.index.result.now w.loop-len-test.true c.loop-len.invariant.within w.index.ensures w.if-index-eq47.true
      ∙ c.loop-len.invariant.same
]
