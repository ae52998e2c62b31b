-- A pending commit.
use Rattle.std.specs.Prelude.{ℤ}
use Rattle.gix_hash.specs.declared.ObjectId.{ObjectId}

-- where to look for its row is left out: it says nothing of what is found
pub record Pending : Type 0 where
  pub id : ObjectId
  pub time : ℤ

abbrev pub pending_by : ObjectId → ℤ → Pending
pending_by i time = record { id = i; time = time }
