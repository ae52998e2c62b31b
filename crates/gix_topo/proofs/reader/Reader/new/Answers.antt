use Rattle.gix_topo.proofs.Reading.KeptHeaders.{none_kept}
use Rattle.gix_topo.proofs.reader.Reader.new.Goals as goal

pub invariant_of-result : goal.invariant_of-result
invariant_of-result g c = none_kept (g.F.Find.objects c.new.result.objects) c.new-kept.result c.new-kept.ensures
