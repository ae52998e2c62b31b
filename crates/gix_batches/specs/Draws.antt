-- How slices are filled from a walk.
use Rattle.std.specs.Prelude.{◌≡◌, ℕ, ◌<◌, nat_lt, nat_eq, List, [], ◌∷◌, ◌++◌, map, length, Option, Some, None, Result, Ok, Err, if◌then◌else◌}
use Rattle.std.specs.Iterator.{Yields}
use Rattle.gix_hash.specs.declared.ObjectId.{ObjectId}
use Rattle.gix_revwalk.specs.declared.Info.{Info}
use Rattle.gix_words.specs.declared.fault.Fault.{Fault}
use Rattle.gix_batches.specs.declared.commit.Batch.{Batch}
use Rattle.gix_batches.specs.declared.commit.Commit.{Commit}
use Rattle.gix_batches.specs.declared.commit.CommitId.{CommitId}
use Rattle.gix_batches.specs.declared.commit.Ending.{Ending}
use Rattle.gix_batches.specs.declared.commit.Ending.TheVariants.{Ended, More, Small, Failed}
use Rattle.gix_revwalk.specs.Infos.{given}
use Rattle.gix_commands.specs.Walked.{Any, AsksForMore, EndsBy, Ends}
use Rattle.gix_batches.specs.Slices.{Holds, IsFull, IsSkipped, told_by}

-- how many commits are passed, and how many are put at most
abbrev pub least_of : Option ℕ → ℕ → ℕ
least_of None skip = skip
least_of (Some limit) skip = if nat_lt limit skip then limit else skip

abbrev pub most_of : Option ℕ → ℕ → ℕ
most_of None room = room
most_of (Some limit) room = if nat_lt limit room then limit else room

abbrev pub ending_at : Option ℕ → ℕ → Ending
ending_at None at = More
ending_at (Some limit) at = if nat_eq limit at then Ended else More

-- the ids of commits that a walk gave
abbrev pub ids_given : List Info → List ObjectId
ids_given infos = map (λ info. info.id) infos

-- How a walk stopped that gave these commits: it ended, or a limit was reached, or its next answer was a fault; or it was drawn no
-- further, or its next commit has so many parents
pub data Draws {W E : Type 0} (Steps : W → Option (Result Info E) → W → Type 0) (Tells : E → Fault → Type 0) (limit : Option ℕ) (walk : W)
    (infos : List Info) : Ending → Type 0 where
  ended : EndsBy Steps Tells Any ids_given limit walk infos (Ok tt) → Draws Steps Tells limit walk infos Ended
  failed : (f : Fault) → EndsBy Steps Tells Any ids_given limit walk infos (Err f) → Draws Steps Tells limit walk infos (Failed f)
  more : (at : W) → Yields Steps walk (given infos) at → AsksForMore limit (length infos) → Draws Steps Tells limit walk infos More
  small : (at : W) (next : Info) → Yields Steps walk (given (infos ++ next ∷ [])) at → AsksForMore limit (length infos)
      → Draws Steps Tells limit walk infos (Small (length next.parent_ids.items))

-- so many commits were drawn, or it stopped before
abbrev pub Passes : {W E : Type 0} → (W → Option (Result Info E) → W → Type 0) → (E → Fault → Type 0) → ℕ → W → Result (Unit {0}) Ending → W → Type 0
Passes Steps Tells number walk (Ok done) new = (infos : List Info) × Yields Steps walk (given infos) new × (length infos ≡ number)
Passes Steps Tells number walk (Err Ended) new = (infos : List Info) × Ends Steps Tells Any walk infos (Ok tt) × (length infos < number)
Passes Steps Tells number walk (Err (Failed f)) new = (infos : List Info) × Ends Steps Tells Any walk infos (Err f) × (length infos < number)
Passes Steps Tells number walk (Err More) new = ⊥
Passes Steps Tells number walk (Err (Small n)) new = ⊥

-- the slices hold what a walk gave
pub record FillsFront {W E : Type 0} (Steps : W → Option (Result Info E) → W → Type 0) (Tells : E → Fault → Type 0) (limit : Option ℕ) (walk : W)
    (old new : List Commit) (before after : List CommitId) (batch : Batch) : Type 0 where
  pub infos : List Info
  pub draws : Draws Steps Tells limit walk infos batch.ending
  pub holds : Holds (told_by infos) old new before after batch
  pub full : IsFull (length old) (length before) batch

-- the slices hold what a walk gave behind those that are skipped
pub record Fills {W E : Type 0} (Steps : W → Option (Result Info E) → W → Type 0) (Tells : E → Fault → Type 0) (limit : Option ℕ) (skip : ℕ) (walk : W)
    (old new : List Commit) (before after : List CommitId) (batch : Batch) : Type 0 where
  pub skipped : List Info
  pub infos : List Info
  pub draws : Draws Steps Tells limit walk (skipped ++ infos) batch.ending
  pub passed : IsSkipped skip skipped infos batch.ending
  pub holds : Holds (told_by infos) old new before after batch
  pub full : IsFull (length old) (length before) batch
