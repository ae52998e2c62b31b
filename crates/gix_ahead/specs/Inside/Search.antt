-- What the search holds, marks and counts.
use Rattle.std.specs.Prelude.{◌≡◌, ◌≢◌, ◌⊎◌, ◌↔◌, ◌+◌, ◌≤◌, ◌&&◌, ◌||◌, ℕ, ℤ, List, [], ◌∷◌, filter, length, not, Bool, true, false, Option, Some, None, Contains, IsSome}
use Rattle.std.specs.FinMap as map_of
use Rattle.gix_hash.specs.declared.ObjectId.{ObjectId}
use Rattle.gix_hash.specs.Id.{id_cmp, is_among}
use Rattle.gix_hash.specs.Reach.{Reaches}
use Rattle.gix_object.specs.declared.find.existing_iter.Error.TheVariants as existing
use Rattle.gix_object.specs.Object.{Objects}
use Rattle.gix_ahead.specs.declared.search.Reached.{Reached}
use Rattle.gix_ahead.specs.declared.search.Search.{Search}
use Rattle.gix_ahead.specs.declared.search.Waiting.{Waiting}
use Rattle.gix_paint.specs.declared.Hidden.{Hidden}
use Rattle.gix_paint.specs.declared.Hidden.TheVariants as hidden_by
use Rattle.gix_paint.specs.Painting.{IsFaultAt}
use Rattle.gix_paint.specs.Reading.{Reads}
use Rattle.gix_revwalk.specs.Commits.{commit_at, parents_of}
use Rattle.gix_revwalk.specs.Ids.{AreDistinct, new_ids}

-- by which of the two commits an id is reached
pub data Side : Type 0 where
  One : Side
  Other : Side

abbrev pub tip_of : ObjectId → ObjectId → Side → ObjectId
tip_of one other One = one
tip_of one other Other = other

abbrev pub is_by : Side → Reached → Bool
is_by One r = r.one
is_by Other r = r.other

-- whether by says nothing more, and what both say
abbrev pub covers : Reached → Reached → Bool
covers old by = (old.one || not by.one) && (old.other || not by.other)

abbrev pub united : Reached → Reached → Reached
united old by = record { one = old.one || by.one; other = old.other || by.other }

-- the ids that were met
abbrev pub ReachedMap : Type 0
ReachedMap = map_of.FinMap id_cmp Reached

abbrev pub is_in : Side → Option Reached → Bool
is_in side None = false
is_in side (Some r) = is_by side r

abbrev pub is_reached : ReachedMap → Side → ObjectId → Bool
is_reached marks side i = is_in side (map_of.get marks i)

abbrev pub reached_at : ReachedMap → ObjectId → Reached
reached_at marks i = record { one = is_reached marks One i; other = is_reached marks Other i }

-- a commit that waits, by its time
abbrev pub Queued : Type 0
Queued = ℤ × Waiting

-- the commit of an id waits, with the parents that the store says
abbrev pub IsWaitingFor : Objects → ObjectId → Queued → Type 0
IsWaitingFor objects i w = (w.1.id ≡ i) × Reads objects i w.1.parent_ids.items

-- how many marks can still come, of these ids, and how many commits wait
abbrev pub room : {F : Type 0} → List ObjectId → Search F → ℕ
room named s = length (new_ids (is_reached s.marks One) named) + length (new_ids (is_reached s.marks Other) named) + length s.queue

-- ids are met that are reached so, and each of which that is news waits
pub record Meets {F : Type 0} (objects : F → Objects) (by : Reached) (ids : List ObjectId) (old new : Search F) : Type 0 where
  pub objects_stay : new.source.objects ≡ old.source.objects
  pub marks : (side : Side) (i : ObjectId) → is_reached new.marks side i ≡ ((is_by side by && is_among i ids) || is_reached old.marks side i)
  pub keeps : (w : Queued) → Contains old.queue w → Contains new.queue w
  pub adds : (w : Queued) → Contains new.queue w → Contains old.queue w
      ⊎ (Contains ids w.1.id × Reads (objects old.source.objects.now) w.1.id w.1.parent_ids.items)
  pub waits : (side : Side) (i : ObjectId) → Contains ids i → is_by side by ≡ true → is_reached old.marks side i ≡ false
      → (w : Queued) × Contains new.queue w × (w.1.id ≡ i)
  pub spends : (named : List ObjectId) → ((i : ObjectId) → Contains ids i → is_among i named ≡ true) → room named new ≤ room named old

-- out of memory, or one of the ids can't be read
abbrev pub MeetFails : {F : Type 0} → (F → Objects) → (F → ObjectId → Type 0) → List ObjectId → Search F → Hidden → Type 0
MeetFails objects faulty ids old why = why ≢ hidden_by.Find existing.Memory
    → (i : ObjectId) × Contains ids i × IsFaultAt (objects old.source.objects.now) (faulty old.source.objects.now) i why

-- exactly what the two commits reach is marked, each by its sides, and all of it was read
pub record MarksReached (objects : Objects) (one other : ObjectId) (marks : ReachedMap) : Type 0 where
  pub exact : (side : Side) (i : ObjectId) → (is_reached marks side i ≡ true) ↔ Reaches (parents_of objects) (tip_of one other side ∷ []) i
  pub read : (side : Side) (i : ObjectId) → is_reached marks side i ≡ true → IsSome (commit_at objects i)

-- out of memory, or a commit that the two reach can't be read
abbrev pub MarkFails : Objects → (ObjectId → Type 0) → ObjectId → ObjectId → Hidden → Type 0
MarkFails objects faulty one other why = why ≢ hidden_by.Find existing.Memory
    → (i : ObjectId) × Reaches (parents_of objects) (one ∷ other ∷ []) i × IsFaultAt objects faulty i why

-- whether an id is reached by this side alone
abbrev pub is_alone : ReachedMap → Side → Side → ObjectId → Bool
is_alone marks side other i = is_reached marks side i && not (is_reached marks other i)

-- how many ids each side alone reaches, of all that were met
pub record Tallies (marks : ReachedMap) (ahead behind : ℕ) : Type 0 where
  pub ids : List ObjectId
  pub once : AreDistinct ids
  pub all : (side : Side) (i : ObjectId) → is_reached marks side i ≡ true → Contains ids i
  pub ahead_is : ahead ≡ length (filter (is_alone marks One Other) ids)
  pub behind_is : behind ≡ length (filter (is_alone marks Other One) ids)
