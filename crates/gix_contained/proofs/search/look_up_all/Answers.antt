use Rattle.std.proofs.Common.{take, refl, ap, ◌∙◌}
use Rattle.std.proofs.lemmas.List.{take_more}
use Rattle.std.proofs.lemmas.List.Elements.{Contains-get_or}
use Rattle.gix_contained.proofs.Asking.{fails_among, known_there, looked_up}
use Rattle.gix_contained.proofs.Meeting.{fails_as}
use Rattle.gix_revwalk.specs.Agreeing.{rows_in, rows_of}
use Rattle.gix_contained.proofs.search.look_up_all.Goals as goal

pub returns-in_err-key-clause-fault : goal.returns-in_err-key-clause-fault
returns-in_err-key-clause-fault g c =
    fails_as _ c.from_residual-in_err-key.result c.from_residual-in_err-key.ensures.1
    (fails_among g.F.Find.objects g.F.Find.faulty c.loop-id.invariant.objects_stay c.loop-id.invariant.graph_stays c.loop-id.invariant.use_stays c.args.ids.now _ c.in_err-key.field-0.0
    (Contains-get_or c.args.ids.now c.loop-id.id-index _ c.loop-id-test.true) c.in_err-key.ensures.fault)

pub loop-id-preserved : goal.loop-id-preserved
loop-id-preserved g c = record {
  objects_stay = ap (λ o. o.now) c.in_ok-key.ensures.objects ∙ c.loop-id.invariant.objects_stay;
  graph_stays = ap rows_of c.in_ok-key.ensures.graph ∙ c.loop-id.invariant.graph_stays;
  use_stays = c.in_ok-key.ensures.in_use ∙ c.loop-id.invariant.use_stays;
  looked_up = looked_up (g.F.Find.objects c.args.objects.now) (rows_in c.args.graph) (take c.loop-id.id-index c.args.ids.now) _ _ c.in_ok-key.key.generation _ _ (take_more c.args.ids.now c.loop-id.id-index _ c.loop-id-test.true) c.loop-id.invariant.looked_up
      (c.in_ok-key.key, c.in_ok-key.field-0-1) (known_there g.F.Find.objects g.F.Find.faulty c.loop-id.invariant.objects_stay c.loop-id.invariant.graph_stays c.loop-id.invariant.use_stays _ (c.in_ok-key.key, c.in_ok-key.field-0-1) c.in_ok-key.ensures.known) refl c.in_ok-insert.ensures.ok;
}
