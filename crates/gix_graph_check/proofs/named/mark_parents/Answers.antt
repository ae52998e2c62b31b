use Rattle.std.proofs.Common.{length, ◌≡◌, sym, ℕ, subst, arith}
use Rattle.gix_commitgraph.specs.GraphCommit.{row_of_commit}
use Rattle.gix_graph_check.specs.Heads.{names}
use Rattle.gix_graph_check.specs.Marks.{names_answer}
use Rattle.gix_graph_check.proofs.Places.{AreWithin, first-within, rest-within}
use Rattle.gix_graph_check.proofs.Marking.{left_answers, marking-start, marking-more, marking-end, answers-start, answers-more, answers-end}
use Rattle.gix_graph_check.proofs.named.mark_parents.Goals as goal

pub loop-place-init : goal.loop-place-init
loop-place-init c = record {
  marking = marking-start (λ n. names n (row_of_commit c.args.commit)) (left_answers c.iter_parents-places.result) c.args.named.now (answers-start (row_of_commit c.args.commit) c.iter_parents-places.result c.iter_parents-places.ensures.places);
  within = subst (λ (n : ℕ). AreWithin n c.iter_parents-places.result) (sym c.requires) c.iter_parents-places.ensures.within;
}

pub mark-requires : goal.mark-requires
mark-requires c =
    let same : length c.args.named.now ≡ length c.loop-place.named = omega arith in
    first-within _ _ _ _ c.in-Some.ensures.steps (subst (λ (n : ℕ). AreWithin n c.loop-place.places) same c.loop-place.invariant.within)

pub loop-place-preserved : goal.loop-place-preserved
loop-place-preserved c = record {
  marking = marking-more (λ n. names n (row_of_commit c.args.commit)) (left_answers c.loop-place.places) (λ n. names_answer n c.in-Some.place) (left_answers c.next.new.self) c.args.named.now c.loop-place.named c.mark.new.named
      (answers-more c.loop-place.places c.next.new.self c.in-Some.place c.in-Some.ensures.steps) c.mark.ensures c.loop-place.invariant.marking;
  within = rest-within _ _ _ _ c.in-Some.ensures.steps c.loop-place.invariant.within;
}

pub returns : goal.returns
returns c = marking-end (λ n. names n (row_of_commit c.args.commit)) (left_answers c.loop-place.places) c.args.named.now c.loop-place.named (answers-end c.loop-place.places c.in_default.ensures.steps.0) c.loop-place.invariant.marking
