-- What a call for a batch of commits over records answers.
use Rattle.std.specs.Prelude.{◌≡◌, ℕ, List, map, Some}
use Rattle.std.specs.Str.Lossy.{utf8_lossy}
use Rattle.gix_statement.specs.WholeStatement.{AreFed}
use Rattle.gix_batches.specs.declared.commit.Batch.{Batch}
use Rattle.gix_batches.specs.declared.commit.Commit.{Commit}
use Rattle.gix_batches.specs.declared.commit.CommitId.{CommitId}
use Rattle.gix_batches.specs.Failing.{Fails, IfFailed}
use Rattle.gix_memory_commands.specs.declared.answer.Answer.{Answer}
use Rattle.gix_memory_commands.specs.BatchSlices.{PromisesBatch, of_batch}
use Rattle.gix_memory_commands.specs.WordsOf.{words_of}

-- over a text of words, the bytes of records and the slices that a caller has: which answers a call may give, what the slices then hold, and
-- why it fails
pub record AnswersBatch (words records : List ℕ) (skip : ℕ) (old new : List Commit) (before after : List CommitId) (answer : Answer)
    : Type 0 where
  pub batch : Batch
  pub promises : PromisesBatch words (AreFed (Some records)) skip old new before after batch
  pub fails : IfFailed (Fails (map utf8_lossy (words_of words)) records) batch.ending
  pub is : answer ≡ of_batch batch
