use Rattle.std.proofs.Common.{[], ◌∷◌, ◌++◌, sym, refl}
use Rattle.gix_merge_base.proofs.Gathering.{drawn_all, drawn_one, gather_failed}
use Rattle.gix_ahead.proofs.Drawn.{one_more}
use Rattle.gix_ahead.proofs.walks.number_drawn.Goals as goal

pub loop-answer-init : goal.loop-answer-init
loop-answer-init g c = record { infos = []; drawn = sym c.into_iter-answer-iterator.ensures.into_iter_gives; counted = refl }

pub loop-answer-preserved : goal.loop-answer-preserved
loop-answer-preserved g c = record {
  infos = c.loop-answer.invariant.infos ++ c.in-Ok.info ∷ [];
  drawn = drawn_one g.I.Iterator.next_gives _ _ _ _ _ _ c.loop-answer.invariant.drawn c.in-Some.ensures.steps c.in-Ok.is;
  counted = one_more c.loop-answer.invariant.infos c.in-Ok.info _ _ c.loop-answer.invariant.counted c.in-Some-checked_add.ensures.1;
}

pub returns-in-Err-clause-err : goal.returns-in-Err-clause-err
returns-in-Err-clause-err g c = λ ne. gather_failed g.I.Iterator.next_gives _ _ _ _ _ _ _ c.error_of_walk.ensures c.loop-answer.invariant.drawn c.in-Some.ensures.steps c.in-Err.is

pub returns-clause-ok : goal.returns-clause-ok
returns-clause-ok g c = record {
  infos = c.loop-answer.invariant.infos;
  drawn = drawn_all g.I.Iterator.next_gives _ _ _ _ c.loop-answer.invariant.drawn c.in-None.ensures.steps;
  number = c.loop-answer.invariant.counted;
}
