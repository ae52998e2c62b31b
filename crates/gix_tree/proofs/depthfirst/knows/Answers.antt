use Rattle.std.proofs.Common.{sym, ◌∙◌}
use Rattle.gix_tree.proofs.Depth.Stack.{told_same, found_of, others_of, known_found, known_last}
use Rattle.gix_tree.proofs.depthfirst.knows.Goals as goal

pub returns-then-eq : goal.returns-then-eq
returns-then-eq c =
    let same = told_same c.args.oid.now c.upper-item.result.oid _ c.eq.ensures ∙ c.if-eq.true in
    known_found c.args.oid.now c.args.tree.now c.args.above.now (sym c.loop-upper.invariant ∙ found_of c.args.oid.now c.args.above.now c.loop-upper.upper-index c.upper-item.result c.loop-upper-test.true c.upper-item.is same)

pub loop-upper-preserved : goal.loop-upper-preserved
loop-upper-preserved c =
    let other = told_same c.args.oid.now c.upper-item.result.oid _ c.eq.ensures ∙ c.if-eq.false in
    sym (others_of c.args.oid.now c.args.above.now c.loop-upper.upper-index c.upper-item.result c.loop-upper-test.true c.upper-item.is other) ∙ c.loop-upper.invariant

pub returns : goal.returns
returns c = known_last c.args.oid.now c.args.tree.now c.args.above.now c.loop-upper.upper-index c.eq-2.result c.loop-upper-test.false c.loop-upper.invariant c.eq-2.ensures
