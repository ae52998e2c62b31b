-- What a painting holds while it goes on, and what its steps do.
use Rattle.std.specs.Prelude.{◌≡◌, ◌≢◌, ◌⊎◌, ◌+◌, ◌≤◌, ◌==◌, ℕ, List, [], ◌∷◌, length, Bool, true, false, ◌&&◌, not, cond, if◌then◌else◌, is_some, Option, Some, None, Contains, IsPermutation}
use Rattle.std.specs.FinMap as map_of
use Rattle.std.specs.FinSet as set
use Rattle.std.specs.Int.Bits.{bit_and, bit_or}
use Rattle.gix_hash.specs.declared.ObjectId.{ObjectId}
use Rattle.gix_hash.specs.Id.{id_cmp, is_among, is_same}
use Rattle.gix_object.specs.Object.{Objects}
use Rattle.gix_commitgraph.specs.Rows.{GraphRow, row_of}
use Rattle.gix_paint.specs.declared.Marks.{Marks}
use Rattle.gix_paint.specs.declared.Side.{Side}
use Rattle.gix_paint.specs.declared.Side.TheVariants as side
use Rattle.gix_paint.specs.declared.queue.Generation.{Generation}
use Rattle.gix_paint.specs.declared.queue.Generation.TheVariants.{Told, Infinite}
use Rattle.gix_paint.specs.Inside.Queue.{QueueEntry, is_told, AreAllTold, IsNoneAbove}
use Rattle.gix_paint.specs.declared.Painter.{Painter}
use Rattle.gix_paint.specs.Reading.{ReadsParents}
use Rattle.gix_revwalk.specs.Reading.{rows_used}
pub use Rattle.gix_revwalk.specs.Agreeing.{rows_of}
use Rattle.gix_revwalk.specs.Ids.{new_ids}

-- the marks of all ids that were met
abbrev pub AllMarks : Type 0
AllMarks = map_of.FinMap id_cmp Marks

-- the marks of an id, none for one that wasn't met
abbrev pub bits_of : Option Marks → ℕ
bits_of None = 0
bits_of (Some marks) = marks.0

abbrev pub bits_at : AllMarks → ObjectId → ℕ
bits_at marks i = bits_of (map_of.get marks i)

-- an id has one more mark, and all others have theirs
abbrev pub AddsMark : ℕ → ObjectId → AllMarks → AllMarks → Type 0
AddsMark mark i old new = (j : ObjectId) → bits_at new j ≡ cond (is_same j i) (bit_or (bits_at old i) mark) (bits_at old j)

-- for which tips an id of these marks counts: for the hidden ones if it has their mark
abbrev pub side_by : ℕ → Option Side
side_by bits = cond (bit_and bits 2 == 2) (Some side.Hidden) (cond (bits == 0) None (Some side.Visible))

abbrev pub side_at : AllMarks → ObjectId → Option Side
side_at marks i = side_by (bits_at marks i)

-- whether an id counts for the hidden tips
abbrev pub hides : Option Side → Bool
hides None = false
hides (Some side.Visible) = false
hides (Some side.Hidden) = true

abbrev pub is_hidden : AllMarks → ObjectId → Bool
is_hidden marks i = hides (side_at marks i)

-- the ids that are marked hidden
unfoldable pub hidden_of : AllMarks → set.FinSet id_cmp
hidden_of marks = set.retain (set.from_list (map_of.keys marks)) (is_hidden marks)

-- an id is unmet, visible or hidden
abbrev pub mark_of : {F : Type 0} → Painter F → ObjectId → Option Side
mark_of p i = side_at p.marks i

-- by which generation a commit waits, with a row or without
abbrev pub generation_told : Option GraphRow → Generation
generation_told None = Infinite
generation_told (Some row) = Told row.generation

abbrev pub IsQueued : List GraphRow → QueueEntry → Type 0
IsQueued rows q = q.0 ≡ generation_told (row_of rows q.1.id)

-- how many entries there are and can still come, of these ids
abbrev pub room : {F : Type 0} → List ObjectId → Painter F → ℕ
room named p = length (new_ids (λ i. is_some (mark_of p i)) named) + length (new_ids (is_hidden p.marks) named) + length p.queue

-- what meeting an id on a side makes of it: it is marked for that side, and queued if it wasn't
pub data Becomes (on : Side) (met : Type 0) (queued : Type 0) : Option Side → Option Side → Type 0 where
  stays : {mark : Option Side} → (met → (mark ≢ None) × (on ≡ side.Hidden → mark ≡ Some side.Hidden)) → Becomes on met queued mark mark
  shows : on ≡ side.Visible → met → queued → Becomes on met queued None (Some side.Visible)
  covers : {mark : Option Side} → on ≡ side.Hidden → met → queued → Becomes on met queued mark (Some side.Hidden)

-- an entry of the id waits on this side: a visible one that has a row is in the frontier
pub record IsWaiting {F : Type 0} (p : Painter F) (on : Side) (i : ObjectId) : Type 0 where
  pub entry : QueueEntry
  pub queued : Contains p.queue entry
  pub on_side : entry.1.side ≡ on
  pub of_id : entry.1.id ≡ i
  pub in_frontier : on ≡ side.Visible → is_told entry.0 ≡ true → set.contains p.frontier i ≡ true

-- a visible id that waits, and has a row
abbrev pub WaitsWithRow : {F : Type 0} → Painter F → ObjectId → Type 0
WaitsWithRow p i = (mark_of p i ≡ Some side.Visible) × (q : QueueEntry) × Contains p.queue q × (q.1.side ≡ side.Visible) × (q.1.id ≡ i) × (is_told q.0 ≡ true)

-- the frontier is of such ids
abbrev pub IsTidy : {F : Type 0} → Painter F → Type 0
IsTidy p = (i : ObjectId) → set.contains p.frontier i ≡ true → WaitsWithRow p i

-- some ids are met on a side
pub record Meets {F : Type 0} (on : Side) (ids : List ObjectId) (old new : Painter F) : Type 0 where
  pub source_stays : new.source ≡ old.source
  pub marks : (i : ObjectId) → Becomes on (Contains ids i) (IsWaiting new on i) (mark_of old i) (mark_of new i)
  pub keeps : (q : QueueEntry) → Contains old.queue q → Contains new.queue q
  pub adds : (q : QueueEntry) → Contains new.queue q → Contains old.queue q ⊎ (Contains ids q.1.id × (q.1.side ≡ on) × IsQueued (rows_used old.source) q)
  pub keeps_frontier : (i : ObjectId) → set.contains old.frontier i ≡ true → mark_of new i ≢ Some side.Hidden → set.contains new.frontier i ≡ true
  pub tidies : IsTidy old → IsTidy new
  pub spends : (named : List ObjectId) → ((i : ObjectId) → Contains ids i → is_among i named ≡ true) → room named new ≤ room named old

-- a visible entry that has a row
abbrev pub is_of_frontier : QueueEntry → Bool
is_of_frontier q = is_told q.0 && not (hides (Some q.1.side))

-- an entry of the frontier leaves it when it is taken
abbrev pub frontier_without : QueueEntry → set.FinSet id_cmp → set.FinSet id_cmp
frontier_without q frontier = if is_of_frontier q then set.remove frontier q.1.id else frontier

-- it is to be read if its id isn't hidden by then, and any other entry always
abbrev pub is_turn : AllMarks → QueueEntry → Bool
is_turn marks q = not (is_of_frontier q && is_hidden marks q.1.id)

-- an entry that was taken from the queue is treated, which may drop the rows
pub record Takes {F : Type 0} (old : Painter F) (top : QueueEntry) (new : Painter F) : Type 0 where
  pub objects_stay : new.source.objects ≡ old.source.objects
  pub graph_stays : new.source.graph ≡ old.source.graph
  pub marks_stay : new.marks ≡ old.marks
  pub queue_stays : new.queue ≡ old.queue
  pub frontier : new.frontier ≡ frontier_without top old.frontier

-- the entry is left to the hidden side, or its parents are read and met
pub data TreatsEntry {F : Type 0} (objects : F → Objects) (old : Painter F) (top : QueueEntry) : Painter F → Type 0 where
  skips : {new : Painter F} → is_turn old.marks top ≡ false → Takes old top new → new.source.in_use ≡ old.source.in_use → TreatsEntry objects old top new
  reads : {mid new : Painter F} {ids : List ObjectId} → is_turn old.marks top ≡ true → Takes old top mid → ReadsParents (objects old.source.objects.now) (rows_of old.source.graph) old.source.in_use top.1.id ids mid.source.in_use
      → Meets top.1.side ids mid new → TreatsEntry objects old top new

-- nothing is queued; or the rows are in use, and all that is queued is hidden and has a row
abbrev pub IsSettled : {F : Type 0} → Painter F → Type 0
IsSettled p = (p.queue ≡ []) ⊎ ((p.source.in_use ≡ true) × (set.len p.frontier ≡ 0) × AreAllTold p.queue)

-- the next entry is taken from the queue
pub record Pops {F : Type 0} (old : Painter F) (top : QueueEntry) (new : Painter F) : Type 0 where
  pub source : new.source ≡ old.source
  pub marks : new.marks ≡ old.marks
  pub frontier : new.frontier ≡ old.frontier
  pub queue : IsPermutation old.queue (top ∷ new.queue)
  pub greatest : IsNoneAbove top.0 old.queue
