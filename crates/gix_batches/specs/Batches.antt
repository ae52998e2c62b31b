-- What a batch is, from lists of bytes up, in the words of the page: the beginning of the right list, and what the text of each commit says.
use Rattle.std.specs.Prelude.{◌≡◌, ◌≢◌, ℕ, List, [], ◌∷◌, ◌++◌, flat_map, take, length, Bool, true, false, Some, None, Contains, codes}
use Rattle.std.specs.List.{AllByRecursion}
use Rattle.gix_statement.specs.WholeStatement.{InEach, IsText, Lists, Objects, Row, Spells, digits_in, id_line}
use Rattle.gix_words.specs.declared.fault.Fault.{Fault}
use Rattle.gix_batches.specs.declared.commit.Batch.{Batch}
use Rattle.gix_batches.specs.declared.commit.Commit.{Commit}
use Rattle.gix_batches.specs.declared.commit.CommitId.{CommitId}
use Rattle.gix_batches.specs.declared.commit.Ending.{Ending}
use Rattle.gix_batches.specs.declared.commit.Ending.TheVariants.{Ended, More, Small, Failed}
use Rattle.gix_batches.specs.Slices.{Holds, IsFull, IsSkipped, Told}

-- What is told of a commit by these words, of which this is its text: all that it says, or its first parent alone; and no time by `breadth`.
pub data Says (r : Row) : List (List ℕ) → Told → Type 0 where
  breadth : {rest : List (List ℕ)} → take 1 rest ≢ codes "--first-parent" ∷ []
      → Says r (codes "breadth" ∷ rest) (record { id = r.id; parents = r.parents; time = None; generation = None })
  first : {rest : List (List ℕ)}
      → Says r (codes "breadth" ∷ codes "--first-parent" ∷ rest) (record { id = r.id; parents = take 1 r.parents; time = None; generation = None })
  timed : {by : List ℕ} {rest : List (List ℕ)} → Contains (codes "newest" ∷ codes "oldest" ∷ codes "topo" ∷ codes "date" ∷ []) by
      → Says r (by ∷ rest) (record { id = r.id; parents = r.parents; time = Some r.time; generation = None })

abbrev pub IsTold : Objects → List (List ℕ) → Told → Type 0
IsTold objects words t = (r : Row) × IsText objects r × Says r words t

-- in each history the lines of these commits are the beginning of what the words ask for, or all of it, and each is told as its text says
pub record Shows (objects : Objects) (words : List (List ℕ)) (told : List Told) (has_ended : Bool) : Type 0 where
  pub lists : InEach objects [] (λ parents time. Lists objects [] parents time (flat_map (λ t. id_line t.id) told) has_ended words)
  pub texts : AllByRecursion (IsTold objects words) told

abbrev pub has_ended : Ending → Bool
has_ended Ended = true
has_ended More = false
has_ended (Small n) = false
has_ended (Failed e) = false

-- where there is no room for the parents of the next commit, it has so many
abbrev pub IsNext : Objects → List (List ℕ) → List Told → Ending → Type 0
IsNext objects words told Ended = Unit {0}
IsNext objects words told More = Unit {0}
IsNext objects words told (Small n) = (next : Told) × Shows objects words (told ++ next ∷ []) false × (n ≡ length next.parents)
IsNext objects words told (Failed e) = Unit {0}

-- Of objects that are given so: behind those that are skipped, these are the next commits of the list, and this is why no more are told.
-- Hex digits spell the id of each.
pub record IsPart (words : List (List ℕ)) (AreGiven : Objects → Type 0) (skip : ℕ) (told : List Told) (ending : Ending) : Type 0 where
  pub objects : Objects
  pub given : AreGiven objects
  pub skipped : List Told
  pub shows : Shows objects words (skipped ++ told) (has_ended ending)
  pub spelled : AllByRecursion (λ t. (text : List ℕ) × Spells (digits_in t.id) text t.id) (skipped ++ told)
  pub next : IsNext objects words (skipped ++ told) ending
  pub passed : IsSkipped skip skipped told ending

-- the slices hold such commits, and the rest of both is as it was
pub record Gives (words : List (List ℕ)) (AreGiven : Objects → Type 0) (skip : ℕ) (old new : List Commit) (before after : List CommitId) (batch : Batch)
    : Type 0 where
  pub told : List Told
  pub part : IsPart words AreGiven skip told batch.ending
  pub holds : Holds told old new before after batch
  pub full : IsFull (length old) (length before) batch

-- What a call promises of a batch: that, or a fault behind which both slices are as they were. Given are the objects of records, which
-- `AreFed`, or of a repository, which `AreNamed`.
pub data Promises (words : List (List ℕ)) (AreGiven : Objects → Type 0) (skip : ℕ) (old new : List Commit) (before after : List CommitId) (batch : Batch)
    : Type 0 where
  gives : Gives words AreGiven skip old new before after batch → Promises words AreGiven skip old new before after batch
  gives_none : (e : Fault) → batch ≡ record { commits = 0; parents = 0; ending = Failed e } → new ≡ old → after ≡ before
      → Promises words AreGiven skip old new before after batch
