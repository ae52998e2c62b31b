use Rattle.gix_merge_base.proofs.Tops.{store_alone}
use Rattle.gix_containing.proofs.laws.succeeds.Goals as goal

pub returns : goal.returns
returns g c = λ store. store_alone (g.F.Find.objects store) (g.F.Find.faulty store)
