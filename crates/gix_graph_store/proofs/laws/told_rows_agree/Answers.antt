use Rattle.gix_graph_store.proofs.SoundRows.{told-rows-agree}
use Rattle.gix_graph_store.proofs.laws.told_rows_agree.Goals as goal

pub returns : goal.returns
returns c = told-rows-agree
