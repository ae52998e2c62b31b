-- What counting has found when it has begun.
use Rattle.std.proofs.Common.{◌≡◌, ◌≤◌, ◌<◌, ℕ, min, List, [], ◌∷◌, ◌++◌, Bool, true, false, Option, Some, None, refl, sym, ap, subst, inl, inr, ⊎_elim, ◌∙◌, arith, true≢false}
use Rattle.std.specs.FinMap as map
use Rattle.gix_topo.proofs.Common.{ObjectId, Objects, GraphRow, row_of, no_member, Error, Sorting, Side, Tips, Ends, Counting, IsAgreeing, infinity, generation_in, known_generation, least, Explores, IsSamePlan, IsRested, IsExploringFault, rows_of}
use Rattle.gix_topo.proofs.Common.{plan_by, counted_by, IsCounted, IsExplored, HasBegun, MeetsAll, IsDone, AreRead, HasCounted, IsFirstReady, IsBuildFault, IsCommitRead, IsKnown, IsCounting, IsReached}
use Rattle.gix_topo.proofs.Counts.ExploreKeeps.{explores_keep, explores_made, explores_same, explores_still}
use Rattle.gix_topo.proofs.Counts.Expanded.{counts_on, explores_read}
use Rattle.gix_topo.proofs.Counts.AllDownToDepth.{exact_there}
use Rattle.gix_topo.proofs.Reading.OnceRead.{once_known}
use Rattle.gix_topo.proofs.Counts.MeetsParents.{no_members}
use Rattle.gix_topo.proofs.Counts.MeetsStarts.{IsFresh, fresh_met, fresh_counted}
use Rattle.gix_revwalk.proofs.Rows.{none_agree}
use Rattle.gix_topo.proofs.Counts.Rest.{least_below}
use Rattle.gix_topo.proofs.Counts.RowsDropped.{explores_dropped}
use Rattle.gix_topo.proofs.Counts.ReadFaults.{read_misses_no_count, exploring_fault}

-- the least of two lists, one after the other
least-append : (rows : List GraphRow) (depth : ℕ) (ids others : List ObjectId) → least rows (least rows depth others) ids ≡ least rows depth (ids ++ others)
least-append rows depth [] others = refl
least-append rows depth (i ∷ ids) others = ap (min (known_generation rows i)) (least-append rows depth ids others)

-- without rows nothing is known of generations
unknown_generation : (rows : List GraphRow) (i : ObjectId) → rows ≡ [] → known_generation rows i ≡ infinity
unknown_generation rows i e = ap (λ those. known_generation those i) e

module _ {F : Type 0} (objects : F → Objects) (faulty : F → ObjectId → Type 0) where
  -- both sides have met what they start from, and nothing is read
  pub record IsMet (tips ends : List ObjectId) (low : Counting F) : Type 0 where
    pub stands : low.reader.in_use ≡ true
    pub depth : low.depth ≡ least (rows_of low.reader.graph) infinity (tips ++ ends)
    pub expanded : low.expanded ≡ 0
    pub fresh : IsFresh (objects low.reader.find) (rows_of low.reader.graph) low.parents tips ends low.frontier

  -- with the depth of these
  abbrev pub lower_by : Counting F → List ObjectId → Counting F
  lower_by c ids = record c { depth = least (rows_of c.reader.graph) c.depth ids }

  module _ (sorting : Sorting) (tips ends : List ObjectId) (low explored : Counting F) (start : IsMet tips ends low) (explores : Explores objects faulty low explored) (rested : IsRested explored.reader.in_use explored.depth explored.frontier.queue) where
    abbrev Rows : List GraphRow
    Rows = rows_of low.reader.graph

    abbrev Agrees : Type 0
    Agrees = IsAgreeing (objects low.reader.find) Rows

    same : IsSamePlan objects faulty low explored
    same = explores_same objects faulty explores

    counted_low : (taken : ObjectId → Bool) → ((i : ObjectId) → taken i ≡ false) → IsCounted (objects low.reader.find) Rows low.parents tips ends taken low.frontier
    counted_low taken untaken = fresh_counted (objects low.reader.find) Rows low.parents tips ends low.frontier taken untaken start.fresh

    there : Agrees → (side : Side) → IsExplored (objects low.reader.find) Rows low.parents tips ends low.depth side explored.frontier
    there agrees side = exact_there objects faulty tips ends (λ i. false) agrees explores (counted_low (λ i. false) (λ i. refl)) side (start.fresh.begun side) (subst (λ d. IsRested explored.reader.in_use d explored.frontier.queue) same.depth rested)

    undone : (i : ObjectId) → IsDone low.frontier i → ⊥
    undone i = ⊎_elim (λ d. true≢false (sym d ∙ start.fresh.undone Tips i)) (λ d. true≢false (sym d ∙ start.fresh.undone Ends i))

    counts_low : HasCounted objects (plan_by low sorting tips ends) low
    counts_low = record {
      number = record { ids = []; distinct = tt; each = λ i m. absurd (no_member i m); all = λ i d. absurd (undone i d); number = sym start.expanded };
      high = λ s i d. absurd (undone i d);
      dropped = λ f. absurd (true≢false (sym start.stands ∙ f));
    }

    counts : IsAgreeing (objects (plan_by low sorting tips ends).store) (plan_by low sorting tips ends).rows → HasCounted objects (plan_by low sorting tips ends) explored × IsCounting objects (plan_by low sorting tips ends) (counted_by explored)
    counts agrees = counts_on objects faulty sorting tips ends (λ i. false) low explored agrees (counted_low (λ i. false) (λ i. refl)) start.fresh.begun counts_low (λ i d. absurd (undone i d)) explores rested

    low_depth : low.depth ≤ infinity
    low_depth = subst (λ d. d ≤ infinity) (sym start.depth) (least_below Rows infinity (tips ++ ends))

    idle : Rows ≡ [] → explored.frontier.queue ≡ []
    idle none = ⊎_elim (λ q. q) (λ r. no_members explored.frontier.queue (λ entry m.
        let c : IsCounted (objects low.reader.find) Rows low.parents tips ends (λ i. false) explored.frontier = explores_keep objects faulty tips ends (λ i. false) (none_agree (objects low.reader.find) Rows none) explores (counted_low (λ i. false) (λ i. refl)) in
        let k : entry.0 ≡ infinity = c.searched.keyed entry m ∙ unknown_generation Rows entry.1.id none in
        let l : entry.0 < explored.depth = r.1 entry m in
        let d : explored.depth ≡ low.depth = same.depth in
        let h : low.depth ≤ infinity = low_depth in
        absurd (omega arith))) rested

    all_read : AreRead objects faulty (plan_by low sorting tips ends) explored
    all_read = explores_read objects faulty sorting tips ends (λ i. false) explores (λ i d. absurd (undone i d))

    -- what is reached has a row, or it isn't below the depth, so it was read
    known : Agrees → (i : ObjectId) → IsReached objects (plan_by low sorting tips ends) i → IsKnown (objects low.reader.find) Rows true i
    known agrees i r = by (row_of Rows i) refl
      where
        by : (row : Option GraphRow) → row_of Rows i ≡ row → IsKnown (objects low.reader.find) Rows true i
        by (Some row) e = inl (refl, row, e)
        by None e =
            let high : low.depth ≤ known_generation Rows i = subst (λ g. low.depth ≤ g) (sym (ap generation_in e)) low_depth in
            once_known objects faulty (plan_by low sorting tips ends) true refl (all_read i (⊎_elim (λ t. inl (there agrees Tips i t high)) (λ t. inr (there agrees Ends i t high)) r))

    -- without rows all that is reached was read
    read : Rows ≡ [] → (i : ObjectId) → IsReached objects (plan_by low sorting tips ends) i → IsCommitRead (objects low.reader.find) i
    read none i r = ⊎_elim (λ q. absurd (rowless q.1 q.2)) (λ k. k) (known (none_agree (objects low.reader.find) Rows none) i r)
      where
        rowless : (row : GraphRow) → row_of Rows i ≡ Some row → ⊥
        rowless row e = let q : None ≡ Some row = sym (ap (λ those. row_of those i) none) ∙ e in cc

    -- the searches have begun
    pub begun_on : HasBegun objects faulty (plan_by low sorting tips ends) explored
    begun_on = record {
      same = λ k. record { store = same.find k; rows = rows_of (same.graph k); parents = same.parents k; sorting = sorting; tips = tips; ends = ends };
      depth = same.depth ∙ start.depth;
      unmade = λ i. explores_made objects faulty explores i ∙ start.fresh.unmade i;
      begun = λ side i m. explores_still objects faulty explores side i (start.fresh.begun side i m);
      counted = λ taken untaken agrees. explores_keep objects faulty tips ends taken agrees explores (counted_low taken untaken);
      explored = λ agrees side. subst (λ d. IsExplored (objects low.reader.find) Rows low.parents tips ends d side explored.frontier) (sym same.depth) (there agrees side);
      counts = λ agrees. (counts agrees).0;
      counting = λ agrees. (counts agrees).1;
      all_read = all_read;
      dropped = explores_dropped objects faulty sorting tips ends (λ i. false) low (λ agrees. counted_low (λ i. false) (λ i. refl)) explores (λ e. absurd (true≢false (sym start.stands ∙ e)));
      idle = idle;
      read = read;
      known = known;
    }

  -- the same, and why it fails, as the code comes there: both sides meet their starts, and the depth is lowered twice
  module _ (tips ends : List ObjectId) (old first second once low : Counting F) (stands : old.reader.in_use ≡ true) (depth : old.depth ≡ infinity) (expanded : old.expanded ≡ 0) (queue : old.frontier.queue ≡ []) (known : old.frontier.known ≡ map.empty)
      (is_first : first ≡ record old { frontier = first.frontier }) (tips_met : MeetsAll (rows_of old.reader.graph) Tips old.frontier tips first.frontier)
      (is_second : second ≡ record first { frontier = second.frontier }) (ends_met : MeetsAll (rows_of first.reader.graph) Ends first.frontier ends second.frontier) (c : once ≡ lower_by second ends) (d : low ≡ lower_by once tips) (sorting : Sorting) where
    lowered : low ≡ record old { frontier = second.frontier; depth = least (rows_of old.reader.graph) infinity (tips ++ ends) }
    lowered = d ∙ ap (λ x. lower_by x tips) c ∙ ap (λ x. lower_by (lower_by x ends) tips) (is_second ∙ (λ k. record (is_first k) { frontier = second.frontier }))
        ∙ ap (λ n. record old { frontier = second.frontier; depth = n }) (least-append (rows_of old.reader.graph) old.depth tips ends ∙ ap (λ n. least (rows_of old.reader.graph) n (tips ++ ends)) depth)

    plans : plan_by low sorting tips ends ≡ plan_by old sorting tips ends
    plans = ap (λ x. plan_by x sorting tips ends) lowered

    start_met : IsMet tips ends low
    start_met = subst (IsMet tips ends) (sym lowered) (record {
      stands = stands;
      depth = refl;
      expanded = expanded;
      fresh = fresh_met (objects old.reader.find) (rows_of old.reader.graph) old.parents tips ends old.frontier first.frontier second.frontier queue known tips_met
          (subst (λ r. MeetsAll (rows_of r.graph) Ends first.frontier ends second.frontier) (ap (λ x. x.reader) is_first) ends_met);
    })

    pub begun_from : (explored : Counting F) → Explores objects faulty low explored → IsRested explored.reader.in_use explored.depth explored.frontier.queue → HasBegun objects faulty (plan_by old sorting tips ends) explored
    begun_from explored explores rested = subst (λ plan. HasBegun objects faulty plan explored) plans (begun_on sorting tips ends low explored start_met explores rested)

    pub fault_from : (e : Error) → IsExploringFault objects faulty low e → IsBuildFault objects faulty (plan_by old sorting tips ends) e
    fault_from e f =
        subst (λ plan. IsBuildFault objects faulty plan e) plans (
          read_misses_no_count (objects f.so_far.reader.find) (faulty f.so_far.reader.find) f.fault.entry.1.id e f.fault.fault.0,
          exploring_fault objects faulty sorting tips ends (λ i. false) low (λ agrees. fresh_counted (objects low.reader.find) (rows_of low.reader.graph) low.parents tips ends low.frontier (λ i. false) (λ i. refl) start_met.fresh) (λ q. absurd (true≢false (sym start_met.stands ∙ q))) (IsFirstReady objects (plan_by low sorting tips ends)) e f,
        )
