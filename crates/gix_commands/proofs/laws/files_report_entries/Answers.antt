use Rattle.gix_commands.proofs.FileRuns.{files_report_entries}
use Rattle.gix_commands.proofs.laws.files_report_entries.Goals as goal

pub returns : goal.returns
returns c = files_report_entries
