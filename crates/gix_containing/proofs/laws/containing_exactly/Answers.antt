use Rattle.gix_containing.proofs.laws.containing_exactly.Goals as goal

pub returns : goal.returns
returns c = λ objects rows target tips those agreeing a. a.exact agreeing
