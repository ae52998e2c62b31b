-- What holds of a topological walk between two calls.
use Rattle.std.specs.Prelude.{◌≡◌, ◌⊎◌, ◌≤◌, List, [], Bool, true, false, Option, Some, None, Result, Ok, Err, Contains}
use Rattle.std.specs.FinSet as set
use Rattle.gix_hash.specs.declared.ObjectId.{ObjectId}
use Rattle.gix_object.specs.Object.{Objects}
use Rattle.gix_revwalk.specs.declared.Info.{Info}
use Rattle.gix_topo.specs.declared.Error.{Error}
use Rattle.gix_topo.specs.declared.counting.Counting.{Counting}
use Rattle.gix_frontier.specs.declared.Side.{Side}
use Rattle.gix_frontier.specs.declared.Side.TheVariants.{Tips}
use Rattle.gix_topo.specs.declared.walk.Walk.{Walk}
use Rattle.gix_revwalk.specs.Agreeing.{IsAgreeing}
use Rattle.gix_topo.specs.Depth.{known_generation}
use Rattle.gix_topo.specs.Reading.{Reads}
pub use Rattle.gix_frontier.specs.Inside.Frontier.{IsDone}
use Rattle.gix_frontier.specs.Inside.Frontier.{is_done, known_of, reached}
use Rattle.gix_topo.specs.Inside.Releasing.{plan_of, counted_by, taken_of, walk_of}
use Rattle.gix_topo.specs.Inside.Searched.{IsCounted, IsBegun}
use Rattle.gix_revwalk.specs.Ids.{AreDistinct}
use Rattle.gix_revwalk.specs.Infos.{IsInfo}
use Rattle.gix_topo.specs.Walk.{TopoPlan, TopoWalk, Ready, ready_ids, Chooses, IsReached, IsFound, IsNumberOf, IsBrokenRow, DropsBy, IsCommitRead, IsNextReady, IsFault, IsLate, Takes, text_walked, IsTextMember}
use Rattle.gix_topo.specs.WalkSet.{IsChild}

module _ {F : Type 0} (objects : F → Objects) (faulty : F → ObjectId → Type 0) (plan : TopoPlan F) where
  -- the commit was read, by its row or from the store; rows that are in use now were in use after that
  pub record IsReadOnce (in_use : Bool) (i : ObjectId) : Type 0 where
    pub info : Info
    pub before : Bool
    pub after : Bool
    pub reads : Reads (objects plan.store) (faulty plan.store) plan.rows before i (Ok info) after
    pub later : in_use ≡ true → after ≡ true

  -- all that is done was read, whatever the store and the rows
  abbrev pub AreRead : Counting F → Type 0
  AreRead c = (i : ObjectId) → IsDone c.frontier i → IsReadOnce c.reader.in_use i

module _ {F : Type 0} (objects : F → Objects) where
  -- rows are dropped for a corrupt one
  abbrev pub AreDroppedFor : TopoPlan F → Bool → Type 0
  AreDroppedFor plan in_use = in_use ≡ false → DropsBy objects plan

  -- both searches and the counts are as they are to be; ready commits are done
  pub record IsTallied (w : Walk F) : Type 0 where
    pub counted : IsCounted (objects (plan_of w).store) (plan_of w).rows (plan_of w).parents (plan_of w).tips (plan_of w).ends (set.contains (taken_of w)) w.counting.frontier
    pub begun : (side : Side) → IsBegun (plan_of w).tips (plan_of w).ends side w.counting.frontier
    pub done : (r : Ready) → Contains w.ready.commits r → is_done (reached w.counting.frontier.known Tips r.id) ≡ true

  -- each commit that was ready once is a member, and all its children were taken
  pub record IsSteady (w : Walk F) : Type 0 where
    pub member : (i : ObjectId) → (known_of w.counting.frontier.known i).was_ready ≡ true → IsTextMember objects (plan_of w) i
    pub children : (i d : ObjectId) → (known_of w.counting.frontier.known i).was_ready ≡ true → IsChild (text_walked objects (plan_of w)) (IsTextMember objects (plan_of w)) d i → set.contains (taken_of w) d ≡ true

  -- the number of commits that are done, none of which is below the depth as long as the rows are in use
  pub record HasCounted (plan : TopoPlan F) (c : Counting F) : Type 0 where
    pub number : IsNumberOf (IsDone c.frontier) c.expanded
    pub high : c.reader.in_use ≡ true → (i : ObjectId) → IsDone c.frontier i → c.depth ≤ known_generation plan.rows i
    pub dropped : c.reader.in_use ≡ false → IsBrokenRow objects plan c.depth

module _ {F : Type 0} (objects : F → Objects) (faulty : F → ObjectId → Type 0) where
  -- What holds of a walk that may go on, whatever its store and rows. The ready commits are different ones.
  pub record IsHeld (w : Walk F) : Type 0 where
    pub made : (i : ObjectId) → Contains (ready_ids w.ready.commits) i → (known_of w.counting.frontier.known i).was_ready ≡ true
    pub distinct : AreDistinct (ready_ids w.ready.commits)
    pub found : (r : Ready) → Contains w.ready.commits r → IsFound objects faulty (plan_of w) true w.counting.reader.in_use r
    -- with rows that agree
    pub tallied : IsAgreeing (objects (plan_of w).store) (plan_of w).rows → IsTallied objects w
    pub steady : IsAgreeing (objects (plan_of w).store) (plan_of w).rows → IsSteady objects w
    pub counts : IsAgreeing (objects (plan_of w).store) (plan_of w).rows → HasCounted objects (plan_of w) w.counting
    pub all_read : AreRead objects faulty (plan_of w) w.counting
    pub dropped : AreDroppedFor objects (plan_of w) w.counting.reader.in_use
    -- without rows, all that is walked was read
    pub idle : (plan_of w).rows ≡ [] → w.counting.frontier.queue ≡ []
    pub read : (plan_of w).rows ≡ [] → (i : ObjectId) → IsReached objects (plan_of w) i → IsCommitRead (objects (plan_of w).store) i

  -- nothing is ready, or the walk may go on
  abbrev pub IsOpen : Walk F → Type 0
  IsOpen w = (w.ready.commits ≡ []) ⊎ IsHeld w

  -- no predicate is asked
  abbrev pub unasked : Unit {0} → ObjectId → Bool → Unit {0} → Type 0
  unasked old i answer new = Unit {0}

  abbrev pub unasked_of : Walk F → TopoWalk F (Unit {0})
  unasked_of w = walk_of w tt

  -- a ready commit is taken
  pub record TakesReady (old : Walk F) (r : Ready) (new : Walk F) : Type 0 where
    pub takes : Takes objects faulty unasked (unasked_of old) r (counted_by new.counting) new.ready.commits
    pub plan : plan_of new ≡ plan_of old
    pub taken : taken_of new ≡ set.insert (taken_of old) r.id

  -- what the next ready commit gives
  pub data TakesNext (old : Walk F) : Option (Result Info Error) → Walk F → Type 0 where
    ended : {new : Walk F} → old.ready.commits ≡ [] → unasked_of new ≡ unasked_of old → TakesNext old None new
    given : {r : Ready} {new : Walk F} {info : Info} → TakesReady old r new → IsInfo info r.id r.parents r.generation (Some r.time) → TakesNext old (Some (Ok info)) new
    failed : {new : Walk F} (r : Ready) (others : List Ready) {e : Error} → Chooses old.ready.sorting old.ready.commits r others → IsFault objects faulty (plan_of old) (IsNextReady objects (plan_of old) (taken_of old) r.id) e → IsLate objects (plan_of old) (IsNextReady objects (plan_of old) (taken_of old) r.id) e → plan_of new ≡ plan_of old → new.ready.commits ≡ [] → TakesNext old (Some (Err e)) new
