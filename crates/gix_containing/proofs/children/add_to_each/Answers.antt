use Rattle.std.proofs.Common.{take, subst}
use Rattle.std.proofs.lemmas.List.{take_more, take_all}
use Rattle.gix_containing.specs.Inside.Steps.{AddsChild}
use Rattle.gix_containing.proofs.Gathered.{adds_more}
use Rattle.gix_containing.proofs.children.add_to_each.Goals as goal

pub loop-parent-preserved : goal.loop-parent-preserved
loop-parent-preserved c =
    adds_more c.args.child _ (take c.loop-parent.parent-index c.args.parent_ids.now) _ c.args.children.now _ _ (take_more c.args.parent_ids.now c.loop-parent.parent-index _ c.loop-parent-test.true) c.loop-parent.invariant c.in_ok-add_to.ensures

pub returns : goal.returns
returns c = subst (λ xs. AddsChild c.args.child xs c.args.children.now c.loop-parent.children) (take_all c.loop-parent.parent-index c.args.parent_ids.now c.loop-parent-test.false) c.loop-parent.invariant
