use Rattle.gix_merge_base.proofs.Tops.{some_base}
use Rattle.gix_merge_base.proofs.laws.some_base.Goals as goal

pub returns : goal.returns
returns c = λ objects one others bases are acyclic i common. some_base objects one others acyclic bases are i common
