-- An id whose parents a search has still to read.
use Rattle.gix_hash.specs.declared.ObjectId.{ObjectId}
use Rattle.gix_frontier.specs.declared.Side.{Side}

-- where to look for its row is left out: it says nothing of what is found
pub record Waiting : Type 0 where
  pub id : ObjectId
  pub side : Side

abbrev pub waiting_by : ObjectId → Side → Waiting
waiting_by i side = record { id = i; side = side }
