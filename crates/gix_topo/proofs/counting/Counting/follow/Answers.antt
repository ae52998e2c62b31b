use Rattle.std.proofs.Common.{◌∙◌, ap, subst, arith}
use Rattle.gix_topo.proofs.Common.{known_generation, MeetsParent, rows_of}
use Rattle.gix_topo.specs.Inside.Exploring.{none, more}
use Rattle.gix_topo.proofs.Counts.MeetsParents.{no_items}
use Rattle.gix_topo.proofs.counting.Counting.follow.Goals as goal

pub loop-id-preserved : goal.loop-id-preserved
loop-id-preserved g c = record {
  same = λ k. record (c.loop-id.invariant.same k) { frontier = c.meet_parent.new.self };
  follows = λ new f. c.loop-id.invariant.follows new (rw (c.in-Some.ensures.cases.0) (more
      (subst (λ k. MeetsParent c.args.side c.loop-id.self.frontier k c.in-Some.id.now c.meet_parent.new.self) (c.generation-generation.ensures ∙ ap (λ x. known_generation (rows_of x.reader.graph) c.in-Some.id.now) c.loop-id.invariant.same) c.in_ok-meet_parent.ensures) f));
}

pub returns-clause-follows : goal.returns-clause-follows
returns-clause-follows g c = c.loop-id.invariant.follows _ (rw (no_items c.loop-id.ids.now (omega (arith, c.in_default.ensures.cases))) none)
