-- Two searches over one queue.
use Rattle.std.specs.Prelude.{◌≡◌, ◌⊎◌, ℕ, ◌+◌, ◌==◌, List, [], ◌∷◌, Bool, true, false, not, ◌&&◌, cond, if◌then◌else◌, Option, Some, None, Contains, IsPermutation}
use Rattle.std.specs.FinMap as map
use Rattle.gix_hash.specs.declared.ObjectId.{ObjectId}
use Rattle.gix_hash.specs.Id.{id_cmp, is_same}
use Rattle.gix_frontier.specs.declared.Side.{Side}
use Rattle.gix_frontier.specs.declared.Side.TheVariants.{Tips, Ends}
use Rattle.gix_frontier.specs.declared.Progress.{Progress}
use Rattle.gix_frontier.specs.declared.Progress.TheVariants.{Unseen, Queued, Done}
use Rattle.gix_frontier.specs.Inside.Known.{Known}
use Rattle.gix_frontier.specs.Inside.Waiting.{Waiting, waiting_by}
use Rattle.gix_frontier.specs.declared.Frontier.{Frontier}
use Rattle.gix_hash.specs.Reach.{Reaches}

abbrev pub is_side : Side → Side → Bool
is_side Tips Tips = true
is_side Tips Ends = false
is_side Ends Tips = false
is_side Ends Ends = true

abbrev pub is_seen : Progress → Bool
is_seen Unseen = false
is_seen Queued = true
is_seen Done = true

abbrev pub is_queued : Progress → Bool
is_queued Unseen = false
is_queued Queued = true
is_queued Done = false

abbrev pub is_done : Progress → Bool
is_done Unseen = false
is_done Queued = false
is_done Done = true

-- an id that wasn't met
abbrev pub unknown : Known
unknown = record { tips = Unseen; ends = Unseen; indegree = 0; was_ready = false }

abbrev pub known_or : Option Known → Known
known_or None = unknown
known_or (Some known) = known

abbrev pub known_of : map.FinMap id_cmp Known → ObjectId → Known
known_of those i = known_or (map.get those i)

abbrev pub progress_of : Side → Known → Progress
progress_of Tips known = known.tips
progress_of Ends known = known.ends

abbrev pub with_progress : Side → Progress → Known → Known
with_progress Tips progress known = record known { tips = progress }
with_progress Ends progress known = record known { ends = progress }

-- what is known of an id that the tips' search meets with one child more
abbrev pub met_again : Known → Known
met_again known = record known { tips = if is_seen known.tips then known.tips else Queued; indegree = known.indegree + 1 }

-- how far a search has come with an id
abbrev pub reached : map.FinMap id_cmp Known → Side → ObjectId → Progress
reached those side i = progress_of side (known_of those i)

-- one of the searches has read the parents of the id
abbrev pub IsDone : Frontier → ObjectId → Type 0
IsDone f i = (is_done (reached f.known Tips i) ≡ true) ⊎ (is_done (reached f.known Ends i) ≡ true)

-- how often an id waits in the queue of a side
abbrev pub waits_for : Side → ObjectId → ℕ × Waiting → ℕ
waits_for side i entry = cond (is_same i entry.1.id && is_side side entry.1.side) 1 0

abbrev pub waiting : List (ℕ × Waiting) → Side → ObjectId → ℕ
waiting [] side i = 0
waiting (entry ∷ queue) side i = waits_for side i entry + waiting queue side i

-- an id is met by a side
pub data Meets (old : Frontier) (generation : ℕ) (i : ObjectId) (side : Side) (new : Frontier) : Type 0 where
  seen : is_seen (reached old.known side i) ≡ true → new ≡ old → Meets old generation i side new
  unseen : is_seen (reached old.known side i) ≡ false → IsPermutation ((generation, waiting_by i side) ∷ old.queue) new.queue → new.known ≡ map.insert old.known i (with_progress side Queued (known_of old.known i)) → Meets old generation i side new

-- one more child of an id
pub record Counts (old : Frontier) (i : ObjectId) (new : Frontier) : Type 0 where
  pub queue : new.queue ≡ old.queue
  pub known : new.known ≡ map.insert old.known i (record (known_of old.known i) { indegree = (known_of old.known i).indegree + 1 })

-- one child of an id less, if it had one
pub record Uncounts (old : Frontier) (i : ObjectId) (new : Frontier) : Type 0 where
  pub queue : new.queue ≡ old.queue
  pub known : (n : ℕ) → (known_of old.known i).indegree ≡ n + 1 → new.known ≡ map.insert old.known i (record (known_of old.known i) { indegree = n })

-- an id becomes ready
pub record MarksReady (old : Frontier) (i : ObjectId) (new : Frontier) : Type 0 where
  pub queue : new.queue ≡ old.queue
  pub known : new.known ≡ map.insert old.known i (record (known_of old.known i) { was_ready = true })

-- a parent of a commit that a side reads: on the tips' side it is counted
abbrev pub MeetsParent : Side → Frontier → ℕ → ObjectId → Frontier → Type 0
MeetsParent Tips old generation i new = (counted : Frontier) × Counts old i counted × Meets counted generation i Tips new
MeetsParent Ends old generation i new = Meets old generation i Ends new

-- a side is done with an id
pub record Finishes (old : Frontier) (i : ObjectId) (side : Side) (new : Frontier) : Type 0 where
  pub queue : new.queue ≡ old.queue
  pub known : new.known ≡ map.insert old.known i (with_progress side Done (known_of old.known i))

-- A search from the starts by `next`: all that it has seen is reached, what is queued waits once, and what is done has its next ids seen.
pub record IsSearch (next : ObjectId → List ObjectId) (starts : List ObjectId) (progress : ObjectId → Progress) (waits : ObjectId → ℕ) : Type 0 where
  pub within : (i : ObjectId) → is_seen (progress i) ≡ true → Reaches next starts i
  pub queued : (i : ObjectId) → waits i ≡ cond (is_queued (progress i)) 1 0
  pub closed : (c i : ObjectId) → is_done (progress c) ≡ true → Contains (next c) i → is_seen (progress i) ≡ true

-- a commit of which this is known becomes ready when so many of its children are left
abbrev pub is_due : ℕ → Known → Bool
is_due left known = (left == 0 && not known.was_ready) && not (is_seen known.ends)
