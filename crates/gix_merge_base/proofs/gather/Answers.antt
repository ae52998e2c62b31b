use Rattle.std.proofs.Common.{sym, ap, [], ◌++◌, ◌∷◌, append-nil, ◌∙◌}
use Rattle.gix_merge_base.proofs.Gathering.{collects_none, collects_more, ids_last, named_more, drawn_one, drawn_all, gather_failed}
use Rattle.gix_merge_base.proofs.gather.Goals as goal

pub loop-answer-init : goal.loop-answer-init
loop-answer-init g c = record {
  infos = [];
  drawn = sym c.into_iter-answer-iterator.ensures.into_iter_gives;
  given_are = collects_none _ c.new-only.ensures;
  named_are = c.in_ok-named.ensures.items ∙ sym (append-nil _);
}

pub loop-answer-preserved : goal.loop-answer-preserved
loop-answer-preserved g c = record {
  infos = c.loop-answer.invariant.infos ++ c.in-Ok.info ∷ [];
  drawn = drawn_one g.I.Iterator.next_gives _ _ _ _ _ _ c.loop-answer.invariant.drawn c.in-Some.ensures.steps c.in-Ok.is;
  given_are = collects_more _ _ _ _ _ (ids_last c.loop-answer.invariant.infos c.in-Ok.info) c.loop-answer.invariant.given_are c.in_ok-insert.ensures.ok;
  named_are = named_more _ _ _ c.loop-answer.invariant.infos c.in-Ok.info c.loop-answer.invariant.named_are (c.in_ok-extend_from_slice.ensures.items ∙ ap (λ xs. c.loop-answer.named.items ++ xs) c.as_slice.ensures);
}

pub loop-answer-preserved-in_ok-extend_from_slice : goal.loop-answer-preserved-in_ok-extend_from_slice
loop-answer-preserved-in_ok-extend_from_slice g c = record {
  infos = c.loop-answer.invariant.infos ++ c.in-Ok.info ∷ [];
  drawn = drawn_one g.I.Iterator.next_gives _ _ _ _ _ _ c.loop-answer.invariant.drawn c.in-Some.ensures.steps c.in-Ok.is;
  given_are = collects_more _ _ _ _ _ (ids_last c.loop-answer.invariant.infos c.in-Ok.info) c.loop-answer.invariant.given_are c.in_ok-insert.ensures.ok;
  named_are = named_more _ _ _ c.loop-answer.invariant.infos c.in-Ok.info c.loop-answer.invariant.named_are (c.in_ok-extend_from_slice.ensures.items ∙ ap (λ xs. c.loop-answer.named.items ++ xs) c.as_slice.ensures);
}

pub returns-in-Err-clause-err : goal.returns-in-Err-clause-err
returns-in-Err-clause-err g c = λ ne. gather_failed g.I.Iterator.next_gives _ _ _ _ _ _ _ c.error_of_walk.ensures c.loop-answer.invariant.drawn c.in-Some.ensures.steps c.in-Err.is

pub returns-clause-ok : goal.returns-clause-ok
returns-clause-ok g c = record {
  infos = c.loop-answer.invariant.infos;
  drawn = drawn_all g.I.Iterator.next_gives _ _ _ _ c.loop-answer.invariant.drawn c.in-None.ensures.steps;
  given_are = c.loop-answer.invariant.given_are;
  named_are = c.loop-answer.invariant.named_are;
}
