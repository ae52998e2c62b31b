use Rattle.gix_merge_base.proofs.Tops.{one_base}
use Rattle.gix_merge_base.proofs.laws.one_base.Goals as goal

pub returns : goal.returns
returns c = λ objects one others bases are acyclic r i. one_base objects one others acyclic bases are r i
