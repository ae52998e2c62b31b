use Rattle.gix_merge_base.proofs.laws.bases_exactly.Goals as goal

pub returns : goal.returns
returns c = λ objects rows one others bases agreeing a. a.bases_are agreeing
