use Rattle.gix_graph_store.proofs.SoundRows.{told-is-stored}
use Rattle.gix_graph_store.proofs.laws.told_is_stored.Goals as goal

pub returns : goal.returns
returns c = told-is-stored
