use Rattle.std.proofs.Common.{sym, [], ◌++◌, ◌∷◌}
use Rattle.gix_merge_base.proofs.Gathering.{drawn_one, drawn_all, gather_failed}
use Rattle.gix_containing.proofs.Gathered.{no_children, children_more}
use Rattle.gix_containing.proofs.children.children_of.Goals as goal

pub loop-answer-init : goal.loop-answer-init
loop-answer-init g c = record {
  infos = [];
  drawn = sym c.into_iter-answer-iterator.ensures.into_iter_gives;
  are_children = no_children _ c.new-children.ensures;
}

pub loop-answer-preserved : goal.loop-answer-preserved
loop-answer-preserved g c = record {
  infos = c.loop-answer.invariant.infos ++ c.in-Ok.info ∷ [];
  drawn = drawn_one g.I.Iterator.next_gives _ _ _ _ _ _ c.loop-answer.invariant.drawn c.in-Some.ensures.steps c.in-Ok.is;
  are_children = children_more _ c.in-Ok.info _ _ _ c.as_slice.ensures c.loop-answer.invariant.are_children c.in_ok-add_to_each.ensures;
}

pub loop-answer-preserved-in_ok-add_to_each : goal.loop-answer-preserved-in_ok-add_to_each
loop-answer-preserved-in_ok-add_to_each g c = record {
  infos = c.loop-answer.invariant.infos ++ c.in-Ok.info ∷ [];
  drawn = drawn_one g.I.Iterator.next_gives _ _ _ _ _ _ c.loop-answer.invariant.drawn c.in-Some.ensures.steps c.in-Ok.is;
  are_children = children_more _ c.in-Ok.info _ _ _ c.as_slice.ensures c.loop-answer.invariant.are_children c.in_ok-add_to_each.ensures;
}

pub returns-in-Err-clause-err : goal.returns-in-Err-clause-err
returns-in-Err-clause-err g c = λ ne. gather_failed g.I.Iterator.next_gives _ _ _ _ _ _ _ c.error_of_walk.ensures c.loop-answer.invariant.drawn c.in-Some.ensures.steps c.in-Err.is

pub returns-clause-ok : goal.returns-clause-ok
returns-clause-ok g c = record {
  infos = c.loop-answer.invariant.infos;
  drawn = drawn_all g.I.Iterator.next_gives _ _ _ _ c.loop-answer.invariant.drawn c.in-None.ensures.steps;
  are_children = c.loop-answer.invariant.are_children;
}
