use Rattle.std.proofs.Common.{◌∙◌, ap, subst, arith}
use Rattle.gix_topo.proofs.Common.{known_generation, Meets, rows_of, met, meets}
use Rattle.gix_topo.proofs.Counts.MeetsParents.{no_items}
use Rattle.gix_topo.proofs.counting.Counting.meet_all.Goals as goal

pub loop-id-preserved : goal.loop-id-preserved
loop-id-preserved g c = record {
  same = λ k. record (c.loop-id.invariant.same k) { frontier = c.meet.new.self };
  meets = λ new f. c.loop-id.invariant.meets new (rw (c.in-Some.ensures.cases.0) (meets
      (subst (λ k. Meets c.loop-id.self.frontier k c.in-Some.id.now c.args.side c.meet.new.self) (c.generation-generation.ensures ∙ ap (λ x. known_generation (rows_of x.reader.graph) c.in-Some.id.now) c.loop-id.invariant.same) c.in_ok-meet.ensures) f));
}

pub returns-clause-meets : goal.returns-clause-meets
returns-clause-meets g c = c.loop-id.invariant.meets _ (rw (no_items c.loop-id.ids.now (omega (arith, c.in_default.ensures.cases))) met)
