use Rattle.gix_format.proofs.Clocks.{offset_seconds-is}
use Rattle.gix_format.proofs.date.seconds_off.Goals as goal

pub returns-clause-value : goal.returns-clause-value
returns-clause-value c =
    offset_seconds-is c.args.offset.now _ _ _ _ c.requires c.value.ensures c.value-2.ensures c.value-3.ensures c.value-4.ensures
