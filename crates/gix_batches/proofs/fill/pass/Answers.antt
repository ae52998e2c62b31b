use Rattle.std.proofs.Common.{◌∷◌, [], ◌++◌, arith}
use Rattle.gix_commands.specs.Walked.{finished}
use Rattle.gix_batches.proofs.Drawn.{drawn_one, fault_came, one_less}
use Rattle.gix_batches.proofs.fill.pass.Goals as goal

pub returns-in_default-clause-passes : goal.returns-in_default-clause-passes
returns-in_default-clause-passes g c = (c.loop-left.invariant.infos, finished _ (_, c.loop-left.invariant.drawn, c.in_default.ensures.steps), omega (arith, c.loop-left.invariant.number, c.loop-left-test.true))

pub returns-in-Err-clause-passes : goal.returns-in-Err-clause-passes
returns-in-Err-clause-passes g c = (c.loop-left.invariant.infos, fault_came g.I.Iterator.next_gives g.E.Into.converts _ _ _ _ _ _ _ c.loop-left.invariant.drawn c.in-Some.ensures.steps c.in-Err.is c.into.ensures, omega (arith, c.loop-left.invariant.number, c.loop-left-test.true))

pub loop-left-preserved-in_default-answer : goal.loop-left-preserved-in_default-answer
loop-left-preserved-in_default-answer g c = record {
  infos = c.loop-left.invariant.infos ++ c.in_default-answer.field-0 ∷ [];
  drawn = drawn_one g.I.Iterator.next_gives g.E.Into.converts _ _ _ _ _ _ c.loop-left.invariant.drawn c.in-Some.ensures.steps c.in_default-answer.is;
  number = one_less c.loop-left.invariant.infos c.in_default-answer.field-0 c.loop-left.left c.args.number c.loop-left.invariant.number c.loop-left-test.true;
  can = c.in-Some.ensures.goes.keeps;
}

pub loop-left-preserved-in_default-answer-2 : goal.loop-left-preserved-in_default-answer-2
loop-left-preserved-in_default-answer-2 g c = record {
  infos = c.loop-left.invariant.infos ++ c.in_default-answer.field-0 ∷ [];
  drawn = drawn_one g.I.Iterator.next_gives g.E.Into.converts _ _ _ _ _ _ c.loop-left.invariant.drawn c.in-Some.ensures.steps c.in_default-answer.is;
  number = one_less c.loop-left.invariant.infos c.in_default-answer.field-0 c.loop-left.left c.args.number c.loop-left.invariant.number c.loop-left-test.true;
  can = c.in-Some.ensures.goes.keeps;
}
