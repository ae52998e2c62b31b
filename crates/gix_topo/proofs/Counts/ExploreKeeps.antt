-- What a step and exploring do; with rows that agree they keep searches and counts as they are to be.
use Rattle.std.proofs.Common.{◌≡◌, ◌+◌, List, [], Bool, true, false, ◌&&◌, ◌||◌, cond, Contains, refl, sym, ap, subst, ◌∙◌, arith}
use Rattle.gix_topo.proofs.Common.{false≢true, or_right, ObjectId, is_same, is_among, among_from, among_is, Objects, GraphRow, Parents, Side, Tips, Ends, Queued, Done, Frontier, Counting, IsAgreeing, Steps, Explores, IsSamePlan}
use Rattle.gix_topo.proofs.Common.{side_mode, is_pending, is_side, is_done, reached, known_of, with_progress, by_mode, rows_of, IsCounted, next_by, last_places}
use Rattle.gix_topo.specs.Inside.Exploring.{itself, further}
use Rattle.gix_revwalk.specs.Ids.{times}
use Rattle.gix_topo.proofs.Counts.ExploreEnds.{same_on}
use Rattle.gix_topo.proofs.Counts.Frontier.{kept, has_seen, taken_from}
use Rattle.gix_topo.proofs.Counts.MeetsParents.{AreMet, is_new, counted_of, parents_met}
use Rattle.gix_topo.proofs.Readiness.IsReady.{last_in, last_from, times-last}
use Rattle.gix_topo.proofs.Counts.BothSearches.{step_moved, steps_searched, waits_queued}
use Rattle.gix_topo.proofs.Counts.Children.{children_of, was_ready_of, tally_steps}
use Rattle.gix_topo.proofs.Reading.ReadsCommit.{reads_text_next}

module _ {F : Type 0} (objects : F → Objects) (faulty : F → ObjectId → Type 0) where
  module _ (old new : Counting F) (s : Steps objects faulty old new) where
    met : AreMet (rows_of old.reader.graph) s.entry.1.side s.ids (counted_of s.entry.1.side s.ids) (record old.frontier { queue = s.left }) s.followed
    met = parents_met (rows_of old.reader.graph) s.follows

    pub entry_queued : Contains old.frontier.queue s.entry
    entry_queued = taken_from old.frontier.queue s.left s.entry s.taken_out

    step_now : (t : Side) (j : ObjectId) → reached new.frontier.known t j ≡ cond (is_same j s.entry.1.id && is_side t s.entry.1.side) Done (cond (is_new s.entry.1.side s.ids old.frontier t j) Queued (reached old.frontier.known t j))
    step_now = step_moved (rows_of old.reader.graph) s.entry s.ids (counted_of s.entry.1.side s.ids) (record old.frontier { queue = s.left }) s.followed new.frontier met s.finishes

    -- a step is done with one id
    pub done_now : (t : Side) (j : ObjectId) → is_done (reached new.frontier.known t j) ≡ ((is_same j s.entry.1.id && is_side t s.entry.1.side) || is_done (reached old.frontier.known t j))
    done_now t j = grind (arith, step_now t j)

    -- what is seen stays so
    steps_still : (t : Side) (j : ObjectId) → has_seen old.frontier t j ≡ true → has_seen new.frontier t j ≡ true
    steps_still t j h = grind (arith, step_now t j)

    -- no step changes which ids were ready
    steps_made : (j : ObjectId) → was_ready_of new.frontier j ≡ was_ready_of old.frontier j
    steps_made j = ap (λ those. (known_of those j).was_ready) s.finishes.known ∙ kept (λ k. k.was_ready) s.followed.known s.entry.1.id (with_progress s.entry.1.side Done (known_of s.followed.known s.entry.1.id)) j (grind arith) ∙ met.made j

    steps_children : (j : ObjectId) → children_of new.frontier j ≡ counted_of s.entry.1.side s.ids j + children_of old.frontier j
    steps_children j = ap (λ those. (known_of those j).indegree) s.finishes.known ∙ kept (λ k. k.indegree) s.followed.known s.entry.1.id (with_progress s.entry.1.side Done (known_of s.followed.known s.entry.1.id)) j (grind arith) ∙ met.children j

  pub explores_made : {old new : Counting F} → Explores objects faulty old new → (j : ObjectId) → was_ready_of new.frontier j ≡ was_ready_of old.frontier j
  explores_made itself j = refl
  explores_made (further {mid = mid} {new = new} e p s) j = steps_made mid new s j ∙ explores_made e j

  pub explores_same : {old new : Counting F} → Explores objects faulty old new → IsSamePlan objects faulty old new
  explores_same itself = record { find = refl; graph = refl; parents = refl; depth = refl }
  explores_same {old = old} {new = last} (further {mid = mid} {new = new} e p s) = same_on objects faulty old mid new (explores_same e) s.same

  -- what each step keeps, exploring keeps, said by what no step changes
  pub explores_by : {Over : Type 0} (over : Counting F → Over) → ((old new : Counting F) → IsSamePlan objects faulty old new → over new ≡ over old) → (P : Over → Counting F → Type 0)
      → ((mid new : Counting F) → is_pending mid.reader.in_use mid.depth mid.frontier.queue ≡ true → Steps objects faulty mid new → P (over mid) mid → P (over mid) new)
      → {old new : Counting F} → Explores objects faulty old new → P (over old) old → P (over old) new
  explores_by over same P keeps itself h = h
  explores_by over same P keeps {old = old} (further {mid = mid} {new = new} e p s) h =
      subst (λ o. P o new) (same old mid (explores_same e)) (keeps mid new p s (subst (λ o. P o mid) (sym (same old mid (explores_same e))) (explores_by over same P keeps e h)))

  -- where nothing waits, exploring does nothing
  pub explores_idle : {old new : Counting F} → Explores objects faulty old new → old.frontier.queue ≡ [] → new.frontier.queue ≡ []
  explores_idle itself e = e
  explores_idle (further {mid = mid} x p s) e = absurd (false≢true (sym (ap (is_pending mid.reader.in_use mid.depth) (explores_idle x e)) ∙ p))

  pub explores_still : {old new : Counting F} → Explores objects faulty old new → (t : Side) (j : ObjectId) → has_seen old.frontier t j ≡ true → has_seen new.frontier t j ≡ true
  explores_still itself t j h = h
  explores_still (further {mid = mid} {new = new} e p s) t j h = steps_still mid new s t j (explores_still e t j h)

  -- what is done stays so
  pub explores_done : {old new : Counting F} → Explores objects faulty old new → (t : Side) (j : ObjectId) → is_done (reached old.frontier.known t j) ≡ true → is_done (reached new.frontier.known t j) ≡ true
  explores_done itself t j h = h
  explores_done (further {mid = mid} {new = new} e p s) t j h = done_now mid new s t j ∙ or_right (is_same j s.entry.1.id && is_side t s.entry.1.side) _ (explores_done e t j h)

  module _ (tips ends : List ObjectId) (taken : ObjectId → Bool) where
    -- counted over a store, rows and parents that are walked
    abbrev Counted : Objects × (List GraphRow × Parents) → Frontier → Type 0
    Counted over f = IsCounted over.0 over.1.0 over.1.1 tips ends taken f

    abbrev over : Counting F → Objects × (List GraphRow × Parents)
    over c = (objects c.reader.find, (rows_of c.reader.graph, c.parents))

    pub steps_keep : (old new : Counting F) → IsAgreeing (objects old.reader.find) (rows_of old.reader.graph) → Steps objects faulty old new → Counted (over old) old.frontier → Counted (over old) new.frontier
    steps_keep old new agrees s h = record {
      searched = steps_searched (objects old.reader.find) (rows_of old.reader.graph) old.parents tips ends old.frontier s.followed new.frontier s.entry s.left s.ids (counted_of s.entry.1.side s.ids) s.taken_out
          (λ j a. last_from (next s.entry.1.side) j (subst (λ ids. Contains ids j) named (among_is j s.ids a)))
          (λ j m. among_from j s.ids (subst (λ ids. Contains ids j) (sym named) (last_in (next s.entry.1.side) j m))) (met old new s) s.finishes h.searched;
      tally = tally_steps (next_by (objects old.reader.find) old.parents Tips) (is_side Tips s.entry.1.side) (λ i. is_done (reached old.frontier.known Tips i)) (λ i. is_done (reached new.frontier.known Tips i)) taken (children_of old.frontier) (children_of new.frontier) s.entry.1.id
          undone (done_now old new s Tips) (λ p. steps_children old new s p ∙ ap (λ n. n + children_of old.frontier p) (once p s.entry.1.side refl)) h.tally;
    }
      where
        next : Side → List ObjectId
        next side = next_by (objects old.reader.find) old.parents side s.entry.1.id

        named : s.ids ≡ last_places (next s.entry.1.side)
        named = s.reads.named ∙ ap (λ ids. last_places (by_mode (side_mode s.entry.1.side old.parents) ids)) (reads_text_next (objects old.reader.find) (faulty old.reader.find) (rows_of old.reader.graph) agrees s.reads.reads)

        undone : is_side Tips s.entry.1.side ≡ true → is_done (reached old.frontier.known Tips s.entry.1.id) ≡ false
        undone e = grind (arith, waits_queued (objects old.reader.find) (rows_of old.reader.graph) old.parents tips ends old.frontier.queue old.frontier.known s.entry h.searched (entry_queued old new s))

        once : (p : ObjectId) (side : Side) → s.entry.1.side ≡ side → counted_of side s.ids p ≡ cond (is_side Tips side && is_among p (next Tips)) 1 0
        once p Tips e = ap (times p) (named ∙ ap (λ t. last_places (next t)) e) ∙ times-last p (next Tips)
        once p Ends e = refl

    pub explores_keep : {old new : Counting F} → IsAgreeing (objects old.reader.find) (rows_of old.reader.graph) → Explores objects faulty old new → Counted (over old) old.frontier → Counted (over old) new.frontier
    explores_keep a e h = explores_by over (λ a b s k. (objects (s.find k), (rows_of (s.graph k), s.parents k))) (λ o c. IsAgreeing o.0 o.1.0 → Counted o c.frontier) (λ mid new p s h a. steps_keep mid new a s (h a)) e (λ a. h) a
