use Rattle.gix_checked_graph.proofs.laws.checked_files.Goals as goal
use Rattle.gix_checked_graph.proofs.FilesChecked.{checked_files}

pub returns : goal.returns
returns c = checked_files
