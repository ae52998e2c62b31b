-- What a call over a repository in memory answers, and what it leaves in the room or in the slices.
use Rattle.std.specs.Prelude.{◌≡◌, ℕ, List, []}
use Rattle.gix_hash.specs.declared.ObjectId.{ObjectId}
use Rattle.gix_statement.specs.WholeStatement.{AreNamed}
use Rattle.gix_batches.specs.declared.commit.Commit.{Commit}
use Rattle.gix_batches.specs.declared.commit.CommitId.{CommitId}
use Rattle.gix_memory_commands.specs.declared.answer.Answer.{Answer}
use Rattle.gix_memory_commands.specs.declared.trouble.Trouble.{Trouble}
use Rattle.gix_memory_commands.specs.declared.trouble.Trouble.TheVariants as trouble
use Rattle.gix_memory_commands.specs.Answers.{of_fault, of_id, of_place}
use Rattle.gix_memory_commands.specs.BatchSlices.{IsBatchOf}
use Rattle.gix_memory_commands.specs.Nothing.{LinesOfNone}
use Rattle.gix_memory_commands.specs.Room.{IsWholeOf, of_length, well}

-- a revision by its place, and an object
abbrev pub of_both : (number place : ℕ) → ObjectId → Answer
of_both number place i = record (of_id number i) { place = place }

-- each trouble has a number, and the place or the id that it names
abbrev pub of_trouble : Trouble → Answer
of_trouble (trouble.Command e) = of_fault e
of_trouble trouble.Repository = of_length 18 0
of_trouble (trouble.Revision place) = of_place 19 place
of_trouble trouble.Objects = of_length 20 0
of_trouble (trouble.Hash i) = of_id 21 i
of_trouble trouble.NoCommit = of_length 23 0
of_trouble (trouble.Form place) = of_place 24 place
of_trouble (trouble.Ambiguous place) = of_place 25 place
of_trouble (trouble.Upstream place) = of_place 26 place
of_trouble (trouble.Parent place i) = of_both 27 place i
of_trouble (trouble.Entry place i) = of_both 28 place i
of_trouble (trouble.Tags place) = of_place 29 place
of_trouble (trouble.Steps place e) = record (of_fault e) { place = place }
of_trouble (trouble.Ref place) = of_place 30 place
of_trouble (trouble.Config line) = of_place 31 line
of_trouble trouble.Format = of_length 32 0
of_trouble trouble.Extension = of_length 33 0
of_trouble trouble.Reftable = of_length 34 0
of_trouble (trouble.PackedRef line) = of_place 35 line
of_trouble (trouble.Shallow line) = of_place 36 line
of_trouble trouble.File = of_length 37 0

-- some text
abbrev pub IsWholeText : (room : List ℕ) → Answer → List ℕ → Type 0
IsWholeText = IsWholeOf (λ text. Unit {0})

-- over a text of words and the slices that a caller has: which answers a call may give, and what the slices then hold
pub data AnswersFolder (words : List ℕ) (skip : ℕ) (old new : List Commit) (before after : List CommitId) (answer : Answer) : Type 0 where
  given : IsBatchOf words AreNamed skip old new before after answer → AnswersFolder words skip old new before after answer
  -- the words name no tip, since each set in them is empty
  none : LinesOfNone words [] → answer ≡ well 0 → new ≡ old → after ≡ before → AnswersFolder words skip old new before after answer
  failed : (why : Trouble) → answer ≡ of_trouble why → new ≡ old → after ≡ before → AnswersFolder words skip old new before after answer
