use Rattle.gix_output.proofs.Pieces.{in_pieces}
use Rattle.gix_output.proofs.laws.quotes_in_pieces.Goals as goal

pub returns : goal.returns
returns c = in_pieces
