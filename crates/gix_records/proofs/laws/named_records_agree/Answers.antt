use Rattle.gix_records.proofs.WithinNamed.{named_part}
use Rattle.gix_records.proofs.laws.named_records_agree.Goals as goal

pub returns : goal.returns
returns c = named_part
