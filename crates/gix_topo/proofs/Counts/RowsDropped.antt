-- Rows are dropped only for a corrupt one, and a commit with a row is read from the store only then.
use Rattle.std.proofs.Common.{◌≡◌, ◌⊎◌, ℕ, List, Bool, true, Option, Some, None, Ok, Contains, refl, ap, subst, ⊎_elim, arith, inl, inr}
use Rattle.gix_topo.proofs.Common.{cases_Bool, ObjectId, Objects, GraphRow, row_of, Info, Sorting, Side, Tips, Ends, Progress, Waiting, Counting, Walk, IsAgreeing, infinity, known_generation, generation_in, Explores, is_seen, is_queued}
use Rattle.gix_topo.proofs.Common.{Reaches, rows_of, DropsRows, Reads, HasNoRowInUse, plan_by, plan_of, IsCounted, next_by, starts_by, AreDroppedFor, TopoPlan, Ready, IsReached, DropsBy}
use Rattle.gix_topo.specs.Inside.Exploring.{itself, further}
use Rattle.gix_revwalk.specs.RowParents.{IsUnrowed}
use Rattle.gix_topo.proofs.Counts.ExploreKeeps.{entry_queued, explores_keep, explores_same}
use Rattle.gix_topo.proofs.Counts.BothSearches.{waits_queued}
use Rattle.gix_topo.proofs.Counts.MakesReady.{MakesReady, reads_drops}

queued_seen : (p : Progress) → is_queued p ≡ true → is_seen p ≡ true
queued_seen p e = grind arith

module _ {F : Type 0} (objects : F → Objects) (faulty : F → ObjectId → Type 0) where
  abbrev Agree : TopoPlan F → Type 0
  Agree plan = IsAgreeing (objects plan.store) plan.rows

  -- what a side reaches by texts
  pub reached_by : (plan : TopoPlan F) (side : Side) (i : ObjectId) → Reaches (next_by (objects plan.store) plan.parents side) (starts_by plan.tips plan.ends side) i → IsReached objects plan i
  reached_by plan Tips i r = inl r
  reached_by plan Ends i r = inr r

  -- a reading drops rows for their reason
  pub read_dropped : (plan : TopoPlan F) {os : Objects} {fs : ObjectId → Type 0} {before after : Bool} {i : ObjectId} {info : Info} → (Agree plan → IsReached objects plan i) → Reads os fs plan.rows before i (Ok info) after → AreDroppedFor objects plan before → AreDroppedFor objects plan after
  read_dropped plan {before = before} {i = i} r reads h = λ e. ⊎_elim (λ q. record { id = i; corrupt = reads_drops objects faulty reads q e; reached = r }) h (cases_Bool before)

  -- and so do ids of which some become ready
  pub made_dropped : (plan : TopoPlan F) {old new : Walk F} {ids : List ObjectId} {added : List Ready} → plan_of old ≡ plan → ((i : ObjectId) → Contains ids i → Agree plan → IsReached objects plan i) → MakesReady objects faulty old ids added new → AreDroppedFor objects plan old.counting.reader.in_use → AreDroppedFor objects plan new.counting.reader.in_use
  made_dropped plan {old} {ids = ids} same r made h = λ e. ⊎_elim
      (λ q. let k : (i : ObjectId) × Contains ids i × DropsRows (plan_of old).rows i = made.dropped q e in record { id = k.0; corrupt = subst (λ p. DropsRows p.rows k.0) same k.2; reached = r k.0 k.1 })
      h (cases_Bool old.counting.reader.in_use)

  -- a commit of which no row is in use has none, or rows were dropped for their reason
  pub unrowed_own : (plan : TopoPlan F) (in_use : Bool) (i : ObjectId) → (Agree plan → IsReached objects plan i) → AreDroppedFor objects plan in_use → HasNoRowInUse plan.rows in_use i → (known_generation plan.rows i ≡ infinity) ⊎ DropsBy objects plan
  unrowed_own plan in_use i r h u = ⊎_elim (λ q. own (u q) (row_of plan.rows i) refl) (λ q. inr (h q)) (cases_Bool in_use)
    where
      own : IsUnrowed plan.rows i → (o : Option GraphRow) → row_of plan.rows i ≡ o → (known_generation plan.rows i ≡ infinity) ⊎ DropsBy objects plan
      own k None e = inl (ap generation_in e)
      own k (Some row) e = inr (record { id = i; corrupt = (row, e, k row e); reached = r })

  -- the same of one whose generation no row in use says
  pub unrowed_parent : (plan : TopoPlan F) (in_use : Bool) (i : ObjectId) → AreDroppedFor objects plan in_use → (in_use ≡ true → known_generation plan.rows i ≡ infinity) → (known_generation plan.rows i ≡ infinity) ⊎ DropsBy objects plan
  unrowed_parent plan in_use i h u = ⊎_elim (λ q. inl (u q)) (λ q. inr (h q)) (cases_Bool in_use)

-- exploring drops rows for their reason
module _ {F : Type 0} (objects : F → Objects) (faulty : F → ObjectId → Type 0) (sorting : Sorting) (tips ends : List ObjectId) (taken : ObjectId → Bool) (low : Counting F) (counted : IsAgreeing (objects low.reader.find) (rows_of low.reader.graph) → IsCounted (objects low.reader.find) (rows_of low.reader.graph) low.parents tips ends taken low.frontier) where
  -- what waits is reached by its side
  pub queued_within : {so_far : Counting F} → Explores objects faulty low so_far → (entry : ℕ × Waiting) → Contains so_far.frontier.queue entry → IsAgreeing (objects low.reader.find) (rows_of low.reader.graph) → Reaches (next_by (objects low.reader.find) low.parents entry.1.side) (starts_by tips ends entry.1.side) entry.1.id
  queued_within {so_far} explored entry queued a =
      let c : IsCounted (objects low.reader.find) (rows_of low.reader.graph) low.parents tips ends taken so_far.frontier = explores_keep objects faulty tips ends taken a explored (counted a) in
      (c.searched.search entry.1.side).within entry.1.id (queued_seen _ (waits_queued (objects low.reader.find) (rows_of low.reader.graph) low.parents tips ends so_far.frontier.queue so_far.frontier.known entry c.searched queued))

  pub explores_dropped : {explored : Counting F} → Explores objects faulty low explored → AreDroppedFor objects (plan_by low sorting tips ends) low.reader.in_use → AreDroppedFor objects (plan_by low sorting tips ends) explored.reader.in_use
  explores_dropped itself h = λ e. h e
  explores_dropped (further {mid = mid} {new = new} e p s) h =
      read_dropped objects faulty (plan_by low sorting tips ends)
      (λ a. reached_by objects faulty (plan_by low sorting tips ends) s.entry.1.side s.entry.1.id (queued_within e s.entry (entry_queued objects faulty mid new s) a))
      (subst (λ g. Reads (objects mid.reader.find) (faulty mid.reader.find) (rows_of g) mid.reader.in_use s.entry.1.id (Ok s.reads.info) new.reader.in_use) (explores_same objects faulty e).graph s.reads.reads)
      (explores_dropped e h)
