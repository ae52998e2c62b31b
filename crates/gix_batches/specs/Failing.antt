-- Why a batch fails.
use Rattle.std.specs.Prelude.{◌≡◌, ◌≢◌, ℕ, List, [], Option, Some, Ok, Err}
use Rattle.gix_hash.specs.declared.ObjectId.{ObjectId}
use Rattle.gix_object.specs.Object.{Objects as Stored}
use Rattle.gix_words.specs.declared.fault.Fault.{Fault}
use Rattle.gix_words.specs.declared.fault.Fault.TheVariants as fault
use Rattle.gix_words.specs.Words.{Request, Commits, all_lines, request_of}
use Rattle.gix_words.specs.declared.words.Order.{Order}
use Rattle.gix_words.specs.declared.words.Shown.{Shown}
use Rattle.gix_commands.specs.Run.{Runs}
use Rattle.gix_commands.specs.StoredRuns.{RunsStored}
use Rattle.gix_batches.specs.declared.commit.Ending.{Ending}
use Rattle.gix_batches.specs.declared.commit.Ending.TheVariants.{Ended, More, Small, Failed}

-- all lines up to a limit
abbrev pub all_lines_to : Option ℕ → Shown
all_lines_to limit = record all_lines { limit = limit }

-- It asks for something else than all lines of a list of commits.
abbrev pub AsksForOther : Request → Type 0
AsksForOther request = (by : Order) (limit : Option ℕ) (tips hidden : List ObjectId) → request ≢ Commits by (all_lines_to limit) tips hidden

-- Why a request has no list: it asks for something else, or memory ran out.
pub data HasNoList (request : Request) : Fault → Type 0 where
  asks_another : AsksForOther request → HasNoList request fault.Usage
  no_memory : HasNoList request fault.Memory

-- Why a batch fails: as a run over these words and records does that writes into memory, whose lines are of the commits before; or its words ask
-- for something else. None fails for a reader or a writer, or for what never happens.
pub data Fails (words : List (List ℕ)) (records : List ℕ) : Fault → Type 0 where
  runs : {e : Fault} (lines : List ℕ) → Runs words (Some records) (Some []) (Err e) (Some lines) → e ≢ fault.Read → e ≢ fault.Write
      → e ≢ fault.Internal → Fails words records e
  asks_for_other : (request : Request) → request_of words ≡ Ok request → AsksForOther request → Fails words records fault.Usage

-- the same over objects that are there
pub data FailsOver (request : Request) (objects : Stored) : Fault → Type 0 where
  runs_over : {e : Fault} (lines : List ℕ) → RunsStored request objects [] (Some []) (Err e) (Some lines) → e ≢ fault.Read → e ≢ fault.Write
      → e ≢ fault.Internal → FailsOver request objects e
  asks_over : AsksForOther request → FailsOver request objects fault.Usage

abbrev pub IfFailed : (Fault → Type 0) → Ending → Type 0
IfFailed P Ended = Unit {0}
IfFailed P More = Unit {0}
IfFailed P (Small n) = Unit {0}
IfFailed P (Failed e) = P e
