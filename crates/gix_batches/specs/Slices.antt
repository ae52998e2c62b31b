-- What a caller's slices hold of commits.
use Rattle.std.specs.Prelude.{◌≡◌, ◌⊎◌, ℕ, ℤ, pos, ◌+◌, ◌-◌, ◌<◌, List, [], ◌∷◌, ◌++◌, map, length, drop, replicate, Option, Some, None}
use Rattle.std.specs.List.{flat_map}
use Rattle.gix_hash.specs.declared.ObjectId.{ObjectId}
use Rattle.gix_hash.specs.Id.{bytes_of, id_len, kind_of}
use Rattle.gix_revwalk.specs.declared.Info.{Info}
use Rattle.gix_batches.specs.declared.commit.Batch.{Batch}
use Rattle.gix_batches.specs.declared.commit.Commit.{Commit}
use Rattle.gix_batches.specs.declared.commit.CommitId.{CommitId}
use Rattle.gix_batches.specs.declared.commit.Ending.{Ending}
use Rattle.gix_batches.specs.declared.commit.Ending.TheVariants.{Ended, More, Small, Failed}

-- what is told of a commit
pub record Told : Type 0 where
  pub id : ObjectId
  pub parents : List ObjectId
  pub time : Option ℤ
  pub generation : Option ℕ

-- an id of 20 bytes has twelve zeros behind it
abbrev pub id_of : ObjectId → CommitId
id_of i = record { bytes = bytes_of i ++ replicate (32 - id_len (kind_of i)) 0 }

abbrev pub or_zero : Option ℤ → ℤ
or_zero None = pos 0
or_zero (Some n) = n

abbrev pub or_none : Option ℕ → ℕ
or_none None = 0
or_none (Some n) = n

abbrev pub known_of : Option ℤ → Option ℕ → ℕ
known_of None None = 0
known_of (Some time) None = 1
known_of None (Some generation) = 2
known_of (Some time) (Some generation) = 3

-- a commit, the ids of whose parents begin there
abbrev pub commit_of : (parents_at : ℕ) → Told → Commit
commit_of parents_at t = record {
  id = id_of t.id;
  time = or_zero t.time;
  parents_at = parents_at;
  parents = length t.parents;
  generation = or_none t.generation;
  id_length = id_len (kind_of t.id);
  known = known_of t.time t.generation;
}

-- the ids of the parents of each, one behind another
abbrev pub ids_of : List Told → List CommitId
ids_of told = flat_map (λ t. map id_of t.parents) told

-- each commit, the ids of whose parents are behind those of the commits before it
abbrev pub commits_of : (parents_at : ℕ) → List Told → List Commit
commits_of at [] = []
commits_of at (t ∷ told) = commit_of at t ∷ commits_of (at + length t.parents) told

-- of a commit that a walk gives
abbrev pub told_of : Info → Told
told_of info = record { id = info.id; parents = info.parent_ids.items; time = info.commit_time; generation = info.generation }

abbrev pub told_by : List Info → List Told
told_by infos = map told_of infos

-- these commits are at the front of the slices, and the rest of both is as it was
pub record Holds (told : List Told) (old new : List Commit) (before after : List CommitId) (batch : Batch) : Type 0 where
  pub commits : new ≡ commits_of 0 told ++ drop (length told) old
  pub parents : after ≡ ids_of told ++ drop (length (ids_of told)) before
  pub number : batch.commits ≡ length told
  pub ids : batch.parents ≡ length (ids_of told)

-- a batch is full for its ending
abbrev pub IsFull : (room ids : ℕ) → Batch → Type 0
IsFull room ids batch = Full batch.ending
  where
    Full : Ending → Type 0
    Full Ended = Unit {0}
    Full (Failed f) = Unit {0}
    Full More = batch.commits ≡ room
    Full (Small n) = (batch.commits < room) × (ids < batch.parents + n)

-- nothing comes behind such an end
abbrev pub IsOver : Ending → Type 0
IsOver Ended = Unit {0}
IsOver More = ⊥
IsOver (Small n) = ⊥
IsOver (Failed e) = Unit {0}

-- so many were skipped; or fewer, and then nothing was given, and nothing comes behind
abbrev pub IsSkipped : {A B : Type 0} → ℕ → List A → List B → Ending → Type 0
IsSkipped skip skipped those ending = (length skipped ≡ skip) ⊎ ((length skipped < skip) × (those ≡ []) × IsOver ending)
