use Rattle.std.proofs.Common.{take}
use Rattle.std.proofs.lemmas.List.{take_more}
use Rattle.gix_merge_base.proofs.Gathering.{collects_none, collects_more}
use Rattle.gix_merge_base.proofs.set_of.Goals as goal

pub loop-id-init : goal.loop-id-init
loop-id-init c = collects_none _ c.new-those.ensures

pub loop-id-preserved : goal.loop-id-preserved
loop-id-preserved c = collects_more (take c.loop-id.id-index c.args.ids.now) _ _ _ _ (take_more c.args.ids.now c.loop-id.id-index _ c.loop-id-test.true) c.loop-id.invariant c.in_ok-insert.ensures.ok
