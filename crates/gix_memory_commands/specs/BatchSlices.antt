-- What a caller finds in its slices for commits: what the page promises of a batch.
use Rattle.std.specs.Prelude.{◌≡◌, ℕ, nat_eq, List, map, Some, if◌then◌else◌}
use Rattle.std.specs.Str.Lossy.{utf8_lossy}
use Rattle.gix_statement.specs.WholeStatement.{AreFed, Objects}
use Rattle.gix_batches.specs.declared.commit.Batch.{Batch}
use Rattle.gix_batches.specs.declared.commit.Commit.{Commit}
use Rattle.gix_batches.specs.declared.commit.CommitId.{CommitId}
use Rattle.gix_batches.specs.declared.commit.Ending.{Ending}
use Rattle.gix_batches.specs.declared.commit.Ending.TheVariants.{Ended, More, Small, Failed}
use Rattle.gix_batches.specs.Batches.{Promises}
use Rattle.gix_memory_commands.specs.declared.answer.Answer.{Answer}
use Rattle.gix_memory_commands.specs.Answers.{of_fault, of_place}
use Rattle.gix_memory_commands.specs.Room.{of_length}
use Rattle.gix_memory_commands.specs.WordsOf.{words_of}

-- there is no room behind so many commits: for none of them, with the room for parents that is needed
abbrev pub of_full : (commits needed : ℕ) → Answer
of_full commits needed = if nat_eq commits 0 then of_place 1 needed else of_length 17 commits

abbrev pub of_ending : (commits : ℕ) → Ending → Answer
of_ending commits Ended = of_length 0 commits
of_ending commits More = of_full commits 0
of_ending commits (Small needed) = of_full commits needed
of_ending commits (Failed e) = record (of_fault e) { length = commits }

abbrev pub of_batch : Batch → Answer
of_batch batch = of_ending batch.commits batch.ending

-- what the page promises of a batch over a text of words and objects that are given so
abbrev pub PromisesBatch : (words : List ℕ) (AreGiven : Objects → Type 0) (skip : ℕ) (old new : List Commit) (before after : List CommitId) → Batch → Type 0
PromisesBatch words = Promises (map utf8_lossy (words_of words))

-- the slices hold such a batch, and the answer says how it ended
pub record IsBatchOf (words : List ℕ) (AreGiven : Objects → Type 0) (skip : ℕ) (old new : List Commit) (before after : List CommitId) (answer : Answer)
    : Type 0 where
  pub batch : Batch
  pub promises : PromisesBatch words AreGiven skip old new before after batch
  pub is : answer ≡ of_batch batch

-- over the bytes of records
abbrev pub IsBatch : (words records : List ℕ) (skip : ℕ) (old new : List Commit) (before after : List CommitId) → Answer → Type 0
IsBatch words records = IsBatchOf words (AreFed (Some records))
