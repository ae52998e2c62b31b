use Rattle.gix_output.proofs.OneLine.{each_on_one_line}
use Rattle.gix_output.proofs.laws.json_is_on_one_line.Goals as goal

pub returns : goal.returns
returns c = each_on_one_line
