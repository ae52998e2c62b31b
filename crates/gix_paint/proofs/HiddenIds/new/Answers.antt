use Rattle.gix_paint.proofs.Invariant.{hidden-empty}
use Rattle.gix_paint.proofs.HiddenIds.new.Goals as goal

pub returns : goal.returns
returns c = hidden-empty c.new.result c.new.ensures
