use Rattle.std.proofs.Common.{sym, inl, ⊎_elim, ◌∙◌, refl}
use Rattle.gix_contained.proofs.Asking.{lowest_first, taken_left, taken_less, taken_within}
use Rattle.gix_contained.proofs.search.lowest_left.Goals as goal
use Rattle.gix_contained.proofs.Asking.{first_member}

pub returns-then-not-contains-clause-some : goal.returns-then-not-contains-clause-some
returns-then-not-contains-clause-some c = (
  ((c.in-Some.generation.now, c.in-Some.id.now), first_member c.loop-generation.asked _ (sym c.in-Some.ensures.first), sym c.contains.ensures ∙ c.if-not-contains.true, refl),
  lowest_first c.in-Some.generation.now c.loop-generation.asked c.in-Some.ensures.greatest,
)

pub loop-generation-smaller : goal.loop-generation-smaller
loop-generation-smaller c = taken_less c.loop-generation.asked c.pop.new.self (c.in-Some.generation.now, c.in-Some.id.now) (c.pop.ensures.first ∙ sym c.in-Some.ensures.first) c.pop.ensures.rest

pub loop-generation-preserved : goal.loop-generation-preserved
loop-generation-preserved c = record {
  left = λ q m. ⊎_elim (λ e. inl e)
      (taken_left c.loop-generation.asked c.pop.new.self (c.in-Some.generation.now, c.in-Some.id.now) (c.pop.ensures.first ∙ sym c.in-Some.ensures.first) c.pop.ensures.rest c.args.met.now (sym c.contains.ensures ∙ c.if-not-contains.false) q)
      (c.loop-generation.invariant.left q m);
  within = λ q m. c.loop-generation.invariant.within q
      (taken_within c.loop-generation.asked c.pop.new.self (c.in-Some.generation.now, c.in-Some.id.now) (c.pop.ensures.first ∙ sym c.in-Some.ensures.first) c.pop.ensures.rest q m);
}
