use Rattle.std.proofs.Common.{arith, ap, ◌∙◌, set}
use Rattle.gix_batches.specs.Slices.{id_of}
use Rattle.gix_batches.proofs.Slots.{one_put}
use Rattle.gix_batches.proofs.commit.put_ids.Goals as goal

pub loop-id-preserved : goal.loop-id-preserved
loop-id-preserved c = record {
  next = omega (arith, c.loop-id.invariant.next);
  room = ap (λ x. set c.loop-id.room c.loop-id.next x) c.of.ensures ∙ one_put id_of c.args.at c.args.ids.now c.args.room.now c.loop-id.room c.loop-id.id-index c.loop-id.next _ c.loop-id.invariant.next c.loop-id.invariant.room c.requires c.loop-id-test.true;
}
