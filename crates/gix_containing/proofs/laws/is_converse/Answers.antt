use Rattle.gix_containing.proofs.Histories.{is_converse}
use Rattle.gix_containing.proofs.laws.is_converse.Goals as goal

pub returns : goal.returns
returns c = λ parents target i tips those met a b m. is_converse parents target i tips those met a b m
