use Rattle.gix_graph_store.proofs.SoundRows.{rows-tell}
use Rattle.gix_graph_store.proofs.laws.rows_tell.Goals as goal

pub returns : goal.returns
returns c = rows-tell
