-- What a run over a store may answer and write.
use Rattle.std.specs.Prelude.{ℕ, List, Option, Result, Err}
use Rattle.gix_hash.specs.declared.ObjectId.{ObjectId}
use Rattle.gix_object.specs.Object.{Objects}
use Rattle.gix_commitgraph.specs.Rows.{GraphRow}
use Rattle.gix_graph_check.specs.Sound.{AreSound, IsFirstUnsound}
use Rattle.gix_graph_check.specs.declared.Disagreement.TheVariants.{Row}
use Rattle.gix_graph_store.specs.Laws.{StoredAgree}
use Rattle.gix_graph_store.specs.StoredRows.{StoredDisagrees}
use Rattle.gix_words.specs.declared.fault.Fault.{Fault}
use Rattle.gix_words.specs.declared.fault.Fault.TheVariants as fault
use Rattle.gix_words.specs.Words.{Request}
use Rattle.gix_commands.specs.Run.{ServesOver}
use Rattle.gix_commands.specs.Walked.{never_faulty}

-- why rows can't be used together with a store: one isn't sound, or something else is stored at its id, or memory ran out
pub data FailsToAgree (rows : List GraphRow) (objects : Objects) : Fault → Type 0 where
  unsound : (i : ObjectId) → IsFirstUnsound rows i → FailsToAgree rows objects (fault.Row i)
  disagrees : (i : ObjectId) → AreSound rows → StoredDisagrees objects (never_faulty objects) rows (Row i) → FailsToAgree rows objects (fault.Disagrees i)
  no_memory : FailsToAgree rows objects fault.Memory

-- Over what is asked for, these objects and rows, and a writer that has the bytes `old`: which answers a run may give, and which bytes the
-- writer then has. Walks have the rows, and where nothing is stored at the id of a row there is the commit that the row says.
pub data RunsStored (request : Request) (objects : Objects) (rows : List GraphRow) (old : Option (List ℕ)) : Result (Unit {0}) Fault → Option (List ℕ) → Type 0 where
  -- memory ran out before a walk was begun
  without_memory : RunsStored request objects rows old (Err fault.Memory) old
  not_agreed : {e : Fault} → FailsToAgree rows objects e → RunsStored request objects rows old (Err e) old
  served : {answer : Result (Unit {0}) Fault} {new : Option (List ℕ)} → AreSound rows → StoredAgree rows objects
      → ServesOver objects rows old request answer new → RunsStored request objects rows old answer new
