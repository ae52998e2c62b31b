-- How a topological walk starts.
use Rattle.std.specs.Prelude.{◌≡◌, ◌++◌, List, [], ◌∷◌, Bool, true, false}
use Rattle.gix_hash.specs.declared.ObjectId.{ObjectId}
use Rattle.gix_object.specs.Object.{Objects}
use Rattle.gix_commitgraph.specs.Rows.{GraphRow}
use Rattle.gix_topo.specs.declared.Error.{Error}
use Rattle.gix_topo.specs.declared.Error.TheVariants as error
use Rattle.gix_topo.specs.declared.counting.Counting.{Counting}
use Rattle.gix_frontier.specs.declared.Frontier.{Frontier}
use Rattle.gix_frontier.specs.declared.Side.{Side}
use Rattle.gix_topo.specs.declared.walk.Walk.{Walk}
use Rattle.gix_revwalk.specs.Agreeing.{IsAgreeing}
use Rattle.gix_topo.specs.Depth.{known_generation}
use Rattle.gix_frontier.specs.Inside.Frontier.{is_due, known_of, Meets}
use Rattle.gix_topo.specs.Inside.Releasing.{plan_by, plan_of, counted_by, Pushes, IsPushFault}
use Rattle.gix_topo.specs.Inside.Searched.{IsCounted, IsBegun, IsExplored}
use Rattle.gix_topo.specs.Inside.Steady.{AreRead, AreDroppedFor, HasCounted}
use Rattle.gix_topo.specs.TopoOrder.{by_time}
use Rattle.gix_topo.specs.Walk.{TopoPlan, Ready, IsReached, first_depth, IsCommitRead, IsKnown, IsCounting}

-- by rising time, and at one time in the order given
abbrev pub by_rising_time : List Ready → List Ready
by_rising_time ready = by_time (λ r. r.time) ready

-- a side meets these ids, in order
pub data MeetsAll (rows : List GraphRow) (side : Side) : Frontier → List ObjectId → Frontier → Type 0 where
  met : {old : Frontier} → MeetsAll rows side old [] old
  meets : {old mid new : Frontier} {i : ObjectId} {ids : List ObjectId} → Meets old (known_generation rows i) i side mid → MeetsAll rows side mid ids new → MeetsAll rows side old (i ∷ ids) new

module _ {F : Type 0} (objects : F → Objects) (faulty : F → ObjectId → Type 0) where
  -- both searches have started, and have gone on to the depth of tips and ends; nothing was ready
  pub record HasBegun (plan : TopoPlan F) (c : Counting F) : Type 0 where
    pub same : plan_by c plan.sorting plan.tips plan.ends ≡ plan
    pub depth : c.depth ≡ first_depth plan
    pub unmade : (i : ObjectId) → (known_of c.frontier.known i).was_ready ≡ false
    pub begun : (side : Side) → IsBegun plan.tips plan.ends side c.frontier
    -- with rows that agree
    pub counted : (taken : ObjectId → Bool) → ((i : ObjectId) → taken i ≡ false) → IsAgreeing (objects plan.store) plan.rows → IsCounted (objects plan.store) plan.rows plan.parents plan.tips plan.ends taken c.frontier
    pub explored : IsAgreeing (objects plan.store) plan.rows → (side : Side) → IsExplored (objects plan.store) plan.rows plan.parents plan.tips plan.ends c.depth side c.frontier
    pub counts : IsAgreeing (objects plan.store) plan.rows → HasCounted objects plan c
    pub counting : IsAgreeing (objects plan.store) plan.rows → IsCounting objects plan (counted_by c)
    pub all_read : AreRead objects faulty plan c
    pub dropped : AreDroppedFor objects plan c.reader.in_use
    -- without rows, all that is walked was read
    pub idle : plan.rows ≡ [] → c.frontier.queue ≡ []
    pub read : plan.rows ≡ [] → (i : ObjectId) → IsReached objects plan i → IsCommitRead (objects plan.store) i
    -- with rows that agree, what is walked has a row, or was read
    pub known : IsAgreeing (objects plan.store) plan.rows → (i : ObjectId) → IsReached objects plan i → IsKnown (objects plan.store) plan.rows true i

  -- a tip becomes ready where it has no child and no end reaches it
  pub data Starts (old : Walk F) (i : ObjectId) : List Ready → Walk F → Type 0 where
    waits : is_due (known_of old.counting.frontier.known i).indegree (known_of old.counting.frontier.known i) ≡ false → Starts old i [] old
    frees : {r : Ready} {new : Walk F} → is_due (known_of old.counting.frontier.known i).indegree (known_of old.counting.frontier.known i) ≡ true → Pushes objects faulty old i r new → Starts old i (r ∷ []) new

  -- each of these tips, in order, and the commits that became ready
  pub data StartsAll : Walk F → List ObjectId → List Ready → Walk F → Type 0 where
    none : {old : Walk F} → StartsAll old [] [] old
    more : {old mid new : Walk F} {i : ObjectId} {ids : List ObjectId} {first others : List Ready} → Starts old i first mid → StartsAll mid ids others new → StartsAll old (i ∷ ids) (first ++ others) new

  -- one of them can't become ready, after those before it
  pub data IsStartFault : Walk F → List ObjectId → Error → Type 0 where
    here : {old : Walk F} {i : ObjectId} {ids : List ObjectId} {e : Error} → is_due (known_of old.counting.frontier.known i).indegree (known_of old.counting.frontier.known i) ≡ true → IsPushFault objects faulty old i e → IsStartFault old (i ∷ ids) e
    later : {old mid : Walk F} {i : ObjectId} {ids : List ObjectId} {first : List Ready} {e : Error} → Starts old i first mid → IsStartFault mid ids e → IsStartFault old (i ∷ ids) e
    short : {old : Walk F} {ids : List ObjectId} → IsStartFault old ids error.Memory

  -- a walk that has begun: each tip that has no child and that no end reaches is ready, by rising time
  pub record IsBegunWalk (plan : TopoPlan F) (w : Walk F) : Type 0 where
    -- before and after the tips
    pub first : Walk F
    pub mid : Walk F
    pub starts : List Ready
    pub begun : HasBegun plan first.counting
    pub before : plan_of first ≡ plan
    pub empty : first.ready.commits ≡ []
    pub all : StartsAll first plan.tips starts mid
    -- the walk is that, except for the order of the ready commits
    pub sorted : w.ready.commits ≡ by_rising_time starts
    pub counting : w.counting ≡ mid.counting
    pub same : plan_of w ≡ plan
