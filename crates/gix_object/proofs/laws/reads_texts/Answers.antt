use Rattle.gix_object.proofs.Commits.Texts.{reads_texts}
use Rattle.gix_object.proofs.laws.reads_texts.Goals as goal

pub returns : goal.returns
returns c = reads_texts
