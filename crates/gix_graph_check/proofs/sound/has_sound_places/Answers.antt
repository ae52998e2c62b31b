use Rattle.std.proofs.Common.{length, subst}
use Rattle.gix_commitgraph.specs.GraphCommit.{row_of_commit}
use Rattle.gix_graph_check.proofs.Places.{AreWithin, first-within, rest-within, all-left, one-less, one-bad, none-left}
use Rattle.gix_graph_check.proofs.sound.has_sound_places.Goals as goal

pub loop-place-init : goal.loop-place-init
loop-place-init c = record {
  left = all-left c.args.graph.now c.args.generation (row_of_commit c.args.commit).parents c.iter_parents-places.result c.iter_parents-places.ensures.places;
  within = subst (λ rows. AreWithin (length rows) c.iter_parents-places.result) c.requires c.iter_parents-places.ensures.within;
}

pub is_sound_place-requires : goal.is_sound_place-requires
is_sound_place-requires c = first-within _ _ _ _ c.in-Some.ensures.steps c.loop-place.invariant.within

pub loop-place-preserved : goal.loop-place-preserved
loop-place-preserved c = record {
  left = one-less c.args.graph.now c.args.generation (row_of_commit c.args.commit).parents _ _ _ c.in-Some.ensures.steps c.if-not-is_sound_place.ensures c.loop-place.invariant.left;
  within = rest-within _ _ _ _ c.in-Some.ensures.steps c.loop-place.invariant.within;
}

pub returns-then-not-is_sound_place : goal.returns-then-not-is_sound_place
returns-then-not-is_sound_place c = one-bad c.args.graph.now c.args.generation (row_of_commit c.args.commit).parents _ _ _ c.in-Some.ensures.steps c.if-not-is_sound_place.ensures c.loop-place.invariant.left

pub returns : goal.returns
returns c = none-left c.args.graph.now c.args.generation (row_of_commit c.args.commit).parents c.loop-place.places c.in_default.ensures.steps.0 c.loop-place.invariant.left
