-- Counting is exact down to the depth.
use Rattle.std.proofs.Common.{◌≡◌, ◌⊎◌, ◌≤◌, ℕ, ◌+◌, List, ◌∷◌, Bool, true, false, ◌||◌, Some, Contains, length, slice_get, refl, sym, subst, inl, inr, ⊎_elim, ◌∙◌, arith, true≢false}
use Rattle.gix_topo.proofs.Common.{nat_tests, or_cases, cases_Bool, ObjectId, Objects, same_is, same_itself, Contains-here, Contains-there, Contains-cons_cases, Sorting, Side, Tips, Ends, Waiting, Frontier, Counting, IsAgreeing}
use Rattle.gix_topo.proofs.Common.{known_generation, is_pending, IsRested, Steps, Explores, IsSamePlan, is_done, reached, rows_of, DropsRows, plan_by, counted_by, IsCounted, IsSearched, IsBegun, IsExplored, IsDone, IsReadOnce, AreRead}
use Rattle.gix_topo.proofs.Common.{HasCounted, TopoPlan, IsNumberOf, IsInDepth, IsBrokenRow, IsCounting, IsReached, row_stands, corrupt_row}
use Rattle.gix_topo.proofs.Counts.IndegreeZero.{done_seen}
use Rattle.gix_topo.proofs.Counts.ExploreKeeps.{steps_keep, explores_by, explores_keep, done_now, entry_queued}
use Rattle.gix_topo.proofs.Counts.AllDownToDepth.{exact_there}
use Rattle.gix_topo.proofs.Reading.OnceRead.{once_still, once_whole}
use Rattle.gix_topo.proofs.Counts.MakesReady.{reads_stands, reads_drops}

-- the same ids are so many
pub number_same : (P Q : ObjectId → Type 0) (m n : ℕ) → m ≡ n → ((i : ObjectId) → P i → Q i) → ((i : ObjectId) → Q i → P i) → IsNumberOf P m → IsNumberOf Q n
number_same P Q m n e f g h = record { ids = h.ids; distinct = h.distinct; each = λ i k. f i (h.each i k); all = λ i q. h.all i (g i q); number = h.number ∙ e }

-- one id more
number_more : (P Q : ObjectId → Type 0) (n m : ℕ) (c : ObjectId) → m ≡ n + 1 → (P c → ⊥) → Q c → ((i : ObjectId) → P i → Q i) → ((i : ObjectId) → Q i → (c ≡ i) ⊎ P i) → IsNumberOf P n → IsNumberOf Q m
number_more P Q n m c one absent now f g h = record {
  ids = c ∷ h.ids;
  distinct = (λ m. absent (h.each c m), h.distinct);
  each = λ i m. ⊎_elim (λ s. subst Q s now) (λ t. f i (h.each i t)) (Contains-cons_cases i c h.ids m);
  all = λ i q. ⊎_elim (λ s. subst (λ j. Contains (c ∷ h.ids) j) s (Contains-here c h.ids)) (λ p. Contains-there i c h.ids (h.all i p)) (g i q);
  number = let e : length h.ids ≡ n = h.number in omega arith;
}

-- the first that waits isn't below the depth as long as the rows are in use
top_high : (in_use : Bool) (depth : ℕ) (queue : List (ℕ × Waiting)) (entry : ℕ × Waiting) → slice_get queue 0 ≡ Some entry → is_pending in_use depth queue ≡ true → in_use ≡ true → depth ≤ entry.0
top_high in_use depth queue entry f p e = grind (arith, nat_tests)

module _ {F : Type 0} (objects : F → Objects) (faulty : F → ObjectId → Type 0) where
  -- a row that isn't whole has a fault, where the rows agree
  pub broken : (plan : TopoPlan F) → IsAgreeing (objects plan.store) plan.rows → (depth : ℕ) (i : ObjectId) → IsReached objects plan i → depth ≤ known_generation plan.rows i → DropsRows plan.rows i → IsBrokenRow objects plan depth
  broken plan agrees depth i r high d = record {
    id = i;
    row = d.0;
    in_depth = record { reached = r; high = high };
    by_row = d.1;
    corrupt = corrupt_row (objects plan.store) plan.rows agrees d.0 (row_stands plan.rows i d.0 d.1).0 d.2;
  }

  -- what is done is reached
  pub done_reached : (plan : TopoPlan F) (f : Frontier) → IsSearched (objects plan.store) plan.rows plan.parents plan.tips plan.ends f.queue f.known → (i : ObjectId) → IsDone f i → IsReached objects plan i
  done_reached plan f h i d = ⊎_elim (λ a. inl ((h.search Tips).within i (done_seen (reached f.known Tips i) a))) (λ b. inr ((h.search Ends).within i (done_seen (reached f.known Ends i) b))) d

  -- a step is done with one id
  module _ (old new : Counting F) (s : Steps objects faulty old new) where
    steps_from : (j : ObjectId) → IsDone old.frontier j → IsDone new.frontier j
    steps_from j d = grind (arith, done_now objects faulty old new s Tips j, done_now objects faulty old new s Ends j)

    steps_to : (j : ObjectId) → IsDone new.frontier j → (s.entry.1.id ≡ j) ⊎ IsDone old.frontier j
    steps_to j d = grind (arith, done_now objects faulty old new s Tips j, done_now objects faulty old new s Ends j, same_is j s.entry.1.id)

    steps_here : IsDone new.frontier s.entry.1.id
    steps_here = grind (arith, done_now objects faulty old new s Tips s.entry.1.id, done_now objects faulty old new s Ends s.entry.1.id, same_itself s.entry.1.id)

    -- it is counted if no side was done with it
    steps_number : IsNumberOf (IsDone old.frontier) old.expanded → IsNumberOf (IsDone new.frontier) new.expanded
    steps_number h = ⊎_elim
        (λ (b : (is_done (reached old.frontier.known Tips s.entry.1.id) || is_done (reached old.frontier.known Ends s.entry.1.id)) ≡ true).
        number_same (IsDone old.frontier) (IsDone new.frontier) old.expanded new.expanded (grind (arith, s.expanded)) steps_from (λ j e. ⊎_elim (λ q. subst (IsDone old.frontier) q (or_cases _ _ b)) (λ o. o) (steps_to j e)) h)
        (λ (b : (is_done (reached old.frontier.known Tips s.entry.1.id) || is_done (reached old.frontier.known Ends s.entry.1.id)) ≡ false).
        number_more (IsDone old.frontier) (IsDone new.frontier) old.expanded new.expanded s.entry.1.id (grind (arith, s.expanded)) (λ d. grind arith) steps_here steps_from steps_to h)
        (cases_Bool (is_done (reached old.frontier.known Tips s.entry.1.id) || is_done (reached old.frontier.known Ends s.entry.1.id)))

  module _ (sorting : Sorting) (tips ends : List ObjectId) (taken : ObjectId → Bool) where
    abbrev Plan : Counting F → TopoPlan F
    Plan c = plan_by c sorting tips ends

    abbrev Told : TopoPlan F → Frontier → Type 0
    Told plan f = IsCounted (objects plan.store) plan.rows plan.parents plan.tips plan.ends taken f

    -- a step keeps what holds of the done commits
    steps_counts : (old new : Counting F) → IsAgreeing (objects (Plan old).store) (Plan old).rows → Told (Plan old) old.frontier → is_pending old.reader.in_use old.depth old.frontier.queue ≡ true → Steps objects faulty old new → HasCounted objects (Plan old) old → HasCounted objects (Plan old) new
    steps_counts old new agrees counted pending s h = record {
      number = steps_number old new s h.number;
      high = λ e i d. subst (λ n. n ≤ known_generation (Plan old).rows i) (sym s.same.depth) (⊎_elim (λ q. subst (λ j. old.depth ≤ known_generation (Plan old).rows j) q (high (reads_stands objects faulty s.reads.reads e))) (λ o. h.high (reads_stands objects faulty s.reads.reads e) i o) (steps_to old new s i d));
      dropped = λ e. subst (IsBrokenRow objects (Plan old)) (sym s.same.depth) (⊎_elim (λ q. broken (Plan old) agrees old.depth s.entry.1.id is_reached (high q) (reads_drops objects faulty s.reads.reads q e)) h.dropped (cases_Bool old.reader.in_use));
    }
      where
        high : old.reader.in_use ≡ true → old.depth ≤ known_generation (Plan old).rows s.entry.1.id
        high e = subst (λ n. old.depth ≤ n) (counted.searched.keyed s.entry (entry_queued objects faulty old new s)) (top_high old.reader.in_use old.depth old.frontier.queue s.entry s.first pending e)

        is_reached : IsReached objects (Plan old) s.entry.1.id
        is_reached = done_reached (Plan old) new.frontier (steps_keep objects faulty tips ends taken old new agrees s counted).searched s.entry.1.id (steps_here old new s)

    same_plan : {old new : Counting F} → IsSamePlan objects faulty old new → Plan new ≡ Plan old
    same_plan s k = record { store = s.find k; rows = rows_of (s.graph k); parents = s.parents k; sorting = sorting; tips = tips; ends = ends }

    explores_counts : {old new : Counting F} → IsAgreeing (objects (Plan old).store) (Plan old).rows → Told (Plan old) old.frontier → Explores objects faulty old new → HasCounted objects (Plan old) old → HasCounted objects (Plan old) new
    explores_counts agrees counted e h =
        (explores_by objects faulty Plan (λ a b s. same_plan s) (λ plan c. IsAgreeing (objects plan.store) plan.rows → Told plan c.frontier × HasCounted objects plan c)
        (λ mid new p s h a. (steps_keep objects faulty tips ends taken mid new a s (h a).0, steps_counts mid new a (h a).0 p s (h a).1)) e (λ a. (counted, h)) agrees).1

    -- what is done after exploring was read
    pub explores_read : {old new : Counting F} → Explores objects faulty old new → AreRead objects faulty (Plan old) old → AreRead objects faulty (Plan old) new
    explores_read = explores_by objects faulty Plan (λ a b s. same_plan s) (AreRead objects faulty)
        (λ mid new p s h i d. ⊎_elim (λ q. subst (IsReadOnce objects faulty (Plan mid) new.reader.in_use) q (record { info = s.reads.info; before = mid.reader.in_use; after = new.reader.in_use; reads = s.reads.reads; later = λ k. k }))
        (λ o. once_still objects faulty (Plan mid) (reads_stands objects faulty s.reads.reads) (h i o)) (steps_to mid new s i d))

    -- after exploring, what holds of the done commits holds of all that is reached down to the depth
    pub counts_on : (low explored : Counting F) → IsAgreeing (objects (Plan low).store) (Plan low).rows → Told (Plan low) low.frontier → ((side : Side) → IsBegun tips ends side low.frontier) → HasCounted objects (Plan low) low → AreRead objects faulty (Plan low) low → Explores objects faulty low explored → IsRested explored.reader.in_use explored.depth explored.frontier.queue → HasCounted objects (Plan low) explored × IsCounting objects (Plan low) (counted_by explored)
    counts_on low explored agrees counted begun h reads e rested = (counts, record { exact = exact; all = all; dropped = counts.dropped; whole = whole })
      where
        counts : HasCounted objects (Plan low) explored
        counts = explores_counts agrees counted e h

        there : Told (Plan low) explored.frontier
        there = explores_keep objects faulty tips ends taken agrees e counted

        -- what is reached, and isn't below a depth to which exploring rests, is done
        done_down : (depth : ℕ) → IsRested explored.reader.in_use depth explored.frontier.queue → (i : ObjectId) → IsInDepth objects (Plan low) depth i → IsDone explored.frontier i
        done_down depth rests i d = ⊎_elim (λ r. inl (down Tips i r d.high)) (λ r. inr (down Ends i r d.high)) d.reached
          where
            down : (side : Side) → IsExplored (objects low.reader.find) (Plan low).rows low.parents tips ends depth side explored.frontier
            down side = exact_there objects faulty tips ends taken agrees e counted side (begun side) rests

        done_met : (i : ObjectId) → IsDone explored.frontier i → IsReached objects (Plan low) i
        done_met = done_reached (Plan low) explored.frontier there.searched

        whole : explored.reader.in_use ≡ true → IsBrokenRow objects (Plan low) explored.depth → ⊥
        whole stands b = once_whole objects faulty (Plan low) (explores_read e reads b.id (done_down explored.depth rested b.id b.in_depth)) stands b.row b.by_row b.corrupt

        exact : explored.reader.in_use ≡ true → IsNumberOf (IsInDepth objects (Plan low) explored.depth) explored.expanded
        exact stands =
            number_same (IsDone explored.frontier) (IsInDepth objects (Plan low) explored.depth) explored.expanded explored.expanded refl
            (λ i d. record { reached = done_met i d; high = counts.high stands i d }) (done_down explored.depth rested) counts.number

        -- with the rows dropped nothing waits
        all : explored.reader.in_use ≡ false → IsNumberOf (IsReached objects (Plan low)) explored.expanded
        all dropped =
            number_same (IsDone explored.frontier) (IsReached objects (Plan low)) explored.expanded explored.expanded refl done_met
            (λ i r. done_down 0 (⊎_elim (λ q. inl q) (λ held. absurd (true≢false (sym held.0 ∙ dropped))) rested) i (record { reached = r; high = omega arith })) counts.number
