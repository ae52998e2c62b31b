use Rattle.std.proofs.Common.{[], ◌∷◌}
use Rattle.gix_merge_base.proofs.Tops.{store_alone}
use Rattle.gix_ahead.proofs.laws.succeeds.Goals as goal

pub returns : goal.returns
returns g c = λ store rows one other e. store_alone (g.F.Find.objects store) (g.F.Find.faulty store) rows one (other ∷ []) e
