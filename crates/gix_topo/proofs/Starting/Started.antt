-- What holds of a topological walk that has begun, and when one can't be built.
use Rattle.std.specs.FinSet as set
use Rattle.std.proofs.Common.{◌≡◌, ◌≤◌, List, [], ◌++◌, Bool, true, false, not, ◌&&◌, ◌||◌, Contains, ◌∷◌, refl, sym, ap, subst, inl, inr, ⊎_elim, ◌∙◌, arith, zero-add, true≢false}
use Rattle.std.proofs.Math.Bool.{or-false, and-not_self}
use Rattle.gix_topo.proofs.Common.{false≢true, Contains-append_left, ObjectId, id_cmp, is_among, Objects, id_total, id_apart, among_from, among_is, Contains-here, Contains-there, Tips, Ends, Counting, Walk, IsAgreeing, infinity}
use Rattle.gix_topo.proofs.Common.{known_generation, is_seen, is_done, reached, known_of, time_of, start, DropsRows, plan_of, counted_by, taken_of, walk_of, IsCounted, IsSearched, next_by, AreDistinct, HasBegun, IsBegunWalk}
use Rattle.gix_topo.proofs.Common.{by_rising_time, IsStartFault, Keeps, first_places, IsDone, AreRead, AreDroppedFor, IsTallied, IsSteady, HasCounted, IsHeld, unasked, unasked_of, TopoPlan, Ready, ready_ids, IsNumberOf}
use Rattle.gix_topo.proofs.Common.{IsInDepth, IsBrokenRow, IsCounting, IsStored, IsStarted, StartsWith, IsFound, text_walked, IsTextMember, IsReached, IsFirstReady, IsFault, IsBuildFault, IsChildless, times_once, Error, only_member}
use Rattle.gix_topo.specs.Inside.Starting.{here, later, short}
use Rattle.gix_topo.proofs.Counts.IndegreeZero.{unseen, all_taken, text_left, text_outside}
use Rattle.gix_topo.proofs.Counts.Expanded.{number_same, broken}
use Rattle.gix_topo.proofs.Counts.RowsDropped.{made_dropped}
use Rattle.gix_topo.proofs.Counts.MakesReady.{MakesReady, due_parts}
use Rattle.gix_revwalk.proofs.NewIds.{times}
use Rattle.gix_topo.proofs.Readiness.IsReady.{keeps_from, keeps_times, first_from, first_once, among_by, keeps_on}
use Rattle.gix_topo.proofs.Counts.Rest.{least_within}
use Rattle.gix_topo.proofs.Counts.Taken.{contains-taken}
use Rattle.gix_topo.proofs.Readiness.RisingTime.{by_time_moves, in_by_time, by_time_map}
use Rattle.gix_topo.proofs.Counts.BothSearches.{searched_same}
use Rattle.gix_topo.proofs.Starting.OneByOne.{IsDue, Frees, started, started_one}
use Rattle.gix_topo.proofs.Reading.FoundIsStored.{found_stored}
use Rattle.gix_topo.proofs.Reading.OnceRead.{all_still, found_later}
use Rattle.gix_topo.proofs.Counts.Children.{children_of, was_ready_of, tally_same}
use Rattle.gix_topo.proofs.Readiness.ReadyIds.{holds_times, times-permutation}
use Rattle.gix_topo.proofs.Counts.Frontier.{has_seen}
use Rattle.gix_topo.proofs.Counts.ReadFaults.{push_fault, push_misses_no_count}

module _ {F : Type 0} (objects : F → Objects) (faulty : F → ObjectId → Type 0) where
  -- a tip that is due when counting has begun becomes ready
  module _ (plan : TopoPlan F) (c : Counting F) (begun : HasBegun objects faulty plan c) where
    pub first_ready : IsAgreeing (objects plan.store) plan.rows → (i : ObjectId) → Contains plan.tips i → children_of c.frontier i ≡ 0 → has_seen c.frontier Ends i ≡ false → IsFirstReady objects plan i
    first_ready a i m z u = record {
      tip = m;
      childless = record {
        member = record { reached = start m; outside = text_outside (objects plan.store) (faulty plan.store) plan.rows plan.parents plan.tips plan.ends a c.frontier c.depth (begun.explored a) i u high };
        alone = λ d k. true≢false (sym (text_left (objects plan.store) (faulty plan.store) plan.rows plan.parents plan.tips plan.ends a c.frontier c.depth (begun.explored a) (λ j. false) (children_of c.frontier) (begun.counted (λ j. false) (λ j. refl) a).tally i z high d k.child.reached k.named));
      };
    }
      where
        high : c.depth ≤ known_generation plan.rows i
        high = subst (λ d. d ≤ known_generation plan.rows i) (sym begun.depth) (least_within plan.rows infinity (plan.tips ++ plan.ends) i (Contains-append_left plan.tips plan.ends i m))

    start_fails : {old : Walk F} {ids : List ObjectId} {e : Error} → plan_of old ≡ plan → AreDroppedFor objects plan old.counting.reader.in_use → ((j : ObjectId) → has_seen old.counting.frontier Ends j ≡ has_seen c.frontier Ends j) →
        ((j : ObjectId) → children_of old.counting.frontier j ≡ children_of c.frontier j) → ((i : ObjectId) → Contains ids i → Contains plan.tips i) → IsStartFault objects faulty old ids e → IsBuildFault objects faulty plan e
    start_fails {old} {e = e} same dropped seen counts all (here {i = i} {ids = ids} d f) =
        let parts : (children_of old.counting.frontier i ≡ 0) × (has_seen old.counting.frontier Ends i ≡ false) × (was_ready_of old.counting.frontier i ≡ false) = due_parts objects faulty (children_of old.counting.frontier i) (known_of old.counting.frontier.known i) d in
        let tip : Contains plan.tips i = all i (Contains-here i ids) in (
          push_misses_no_count objects faulty old i e f,
          subst (λ p. IsFault objects faulty p (IsFirstReady objects plan) e) same
              (push_fault objects faulty (IsFirstReady objects plan) old i e (λ a. start (subst (λ p. Contains p.tips i) (sym same) tip))
              (λ a. first_ready (subst (λ p. IsAgreeing (objects p.store) p.rows) same a) i tip (sym (counts i) ∙ parts.0) (sym (seen i) ∙ parts.1)) (subst (λ p. AreDroppedFor objects p old.counting.reader.in_use) (sym same) dropped) f),
        )
    start_fails same dropped seen counts all (later {mid = mid} {i = i} {ids = ids} {first = first} s f) =
        let by : Frees objects faulty false _ (i ∷ []) first mid = started_one objects faulty s in
        start_fails (by.ready.plan ∙ same) (made_dropped objects faulty plan same (λ j m a. inl (start (subst (Contains plan.tips) (only_member i j m) (all i (Contains-here i ids))))) by.ready dropped) (λ j. ap is_seen (by.ready.moved Ends j) ∙ seen j)
        (λ j. sym (zero-add _) ∙ by.children j ∙ counts j) (λ j m. all j (Contains-there j i ids m)) f
    start_fails same dropped seen counts all short = ((λ q. cc), tt)

  -- starting fails
  pub start_fault : (plan : TopoPlan F) (first : Walk F) → HasBegun objects faulty plan first.counting → plan_of first ≡ plan → (ids : List ObjectId) → ((i : ObjectId) → Contains ids i → Contains plan.tips i) → (e : Error) → IsStartFault objects faulty first ids e →
      IsBuildFault objects faulty plan e
  start_fault plan first begun same ids all e f = start_fails plan first.counting begun same begun.dropped (λ j. refl) (λ j. refl) all f

-- Ids down to the depth become ready, and counting stays exact. They were read before, so their rows drop no rows.
module _ {F : Type 0} (objects : F → Objects) (faulty : F → ObjectId → Type 0) (plan : TopoPlan F) (agrees : IsAgreeing (objects plan.store) plan.rows) {before after : Walk F} {ids : List ObjectId} {added : List Ready} (same : plan_of before ≡ plan) (made : MakesReady objects faulty before ids added after)
    (in_depth : (i : ObjectId) → Contains ids i → IsInDepth objects plan before.counting.depth i) (counts : HasCounted objects plan before.counting) (counting : IsCounting objects plan (counted_by before.counting)) where
  rows_stay : after.counting.reader.in_use ≡ false → before.counting.reader.in_use ≡ false
  rows_stay e = go before.counting.reader.in_use refl
    where
      go : (b : Bool) → before.counting.reader.in_use ≡ b → b ≡ false
      go false d = refl
      go true d =
          let k : (i : ObjectId) × Contains ids i × DropsRows (plan_of before).rows i = made.dropped d e in
          absurd (counting.whole d (broken objects faulty plan agrees before.counting.depth k.0 (in_depth k.0 k.1).reached (in_depth k.0 k.1).high (subst (λ q. DropsRows q.rows k.0) same k.2)))

  has_counted : HasCounted objects plan after.counting
  has_counted = record {
    number = number_same (IsDone before.counting.frontier) (IsDone after.counting.frontier) before.counting.expanded after.counting.expanded (sym made.expanded)
        (λ i d. ⊎_elim (λ e. inl (ap is_done (made.moved Tips i) ∙ e)) (λ e. inr (ap is_done (made.moved Ends i) ∙ e)) d) back counts.number;
    high = λ e i d. subst (λ n. n ≤ known_generation plan.rows i) (sym made.depth) (counts.high (made.stands e) i (back i d));
    dropped = λ e. subst (IsBrokenRow objects plan) (sym made.depth) (counts.dropped (rows_stay e));
  }
    where
      back : (i : ObjectId) → IsDone after.counting.frontier i → IsDone before.counting.frontier i
      back i d = ⊎_elim (λ e. inl (sym (ap is_done (made.moved Tips i)) ∙ e)) (λ e. inr (sym (ap is_done (made.moved Ends i)) ∙ e)) d

  pub counts_made : HasCounted objects plan after.counting × IsCounting objects plan (counted_by after.counting)
  counts_made = (
    has_counted,
    record {
      exact = λ e. subst (λ d. IsNumberOf (IsInDepth objects plan d) after.counting.expanded) (sym made.depth) (subst (IsNumberOf (IsInDepth objects plan before.counting.depth)) (sym made.expanded) (counting.exact (made.stands e)));
      all = λ e. subst (IsNumberOf (IsReached objects plan)) (sym made.expanded) (counting.all (rows_stay e));
      dropped = has_counted.dropped;
      whole = λ e b. counting.whole (made.stands e) (subst (IsBrokenRow objects plan) made.depth b);
    },
  )

module _ {F : Type 0} (objects : F → Objects) (faulty : F → ObjectId → Type 0) (plan : TopoPlan F) (w : Walk F) (h : IsBegunWalk objects faulty plan w) where
  -- the same walk, with the counting that the tips left
  abbrev v : Walk F
  v = record w { counting = h.mid.counting }

  v_is : v ≡ w
  v_is = λ k. record w { counting = sym h.counting k }

  abbrev p : TopoPlan F
  p = plan_of v

  same : p ≡ plan
  same = subst (λ x. plan_of x ≡ plan) (sym v_is) h.same

  abbrev old : Counting F
  old = h.first.counting

  abbrev new : Counting F
  new = h.mid.counting

  abbrev Member : ObjectId → Type 0
  Member = IsTextMember objects p

  begun : HasBegun objects faulty p old
  begun = subst (λ q. HasBegun objects faulty q old) (sym same) h.begun

  all : Frees objects faulty false h.first p.tips h.starts h.mid
  all = subst (λ q. Frees objects faulty false h.first q.tips h.starts h.mid) (sym same) (started objects faulty h.all)

  first_plan : plan_of h.first ≡ p
  first_plan = h.before ∙ sym same

  sorted : w.ready.commits ≡ by_rising_time h.starts
  sorted = h.sorted

  kept_children : (j : ObjectId) → children_of new.frontier j ≡ children_of old.frontier j
  kept_children j = sym (zero-add _) ∙ all.children j

  -- the ready commits
  in_starts : (r : Ready) → Contains w.ready.commits r → Contains h.starts r
  in_starts r m = in_by_time (λ s. s.time) h.starts r (subst (λ rs. Contains rs r) sorted m)

  ready_times : (i : ObjectId) → times i (ready_ids w.ready.commits) ≡ times i (ready_ids h.starts)
  ready_times i = holds_times (by_rising_time h.starts) w.ready.commits sorted i ∙ times-permutation i h.starts (by_rising_time h.starts) (by_time_moves (λ r. r.time) h.starts)

  ready_among : (i : ObjectId) → is_among i (ready_ids h.starts) ≡ is_among i (ready_ids w.ready.commits)
  ready_among i = among_by i (ready_ids h.starts) (ready_ids w.ready.commits) (sym (ready_times i))

  kept : Keeps (IsDue objects faulty h.first h.mid) (first_places p.tips) (ready_ids h.starts)
  kept = all.due (λ p. Prim.Native.Nat.zero-le) [] (λ j e. absurd (false≢true e))

  distinct : AreDistinct (ready_ids w.ready.commits)
  distinct = times_once (ready_ids w.ready.commits) (λ i.
      let a : times i (ready_ids w.ready.commits) ≡ times i (ready_ids h.starts) = ready_times i in
      let b : times i (ready_ids h.starts) ≤ times i (first_places p.tips) = keeps_times (IsDue objects faulty h.first h.mid) kept i in
      let c : times i (first_places p.tips) ≤ 1 = first_once p.tips i in
      omega arith)

  is_tip : (i : ObjectId) → Contains (ready_ids w.ready.commits) i → Contains p.tips i
  is_tip i m = (first_from [] p.tips i (keeps_from (IsDue objects faulty h.first h.mid) kept i (among_is i (ready_ids h.starts) (ready_among i ∙ among_from i _ m))).0).1

  first_read : AreRead objects faulty (plan_of h.first) h.first.counting
  first_read = subst (λ q. AreRead objects faulty q old) (sym first_plan) begun.all_read

  found : (r : Ready) → Contains w.ready.commits r → IsFound objects faulty p true new.reader.in_use r
  found r m = found_later objects faulty p (λ e. refl) (λ e. e) (subst (λ q. IsFound objects faulty q old.reader.in_use new.reader.in_use r) first_plan (all.ready.each first_read r (in_starts r m)))

  made_is : (i : ObjectId) → was_ready_of new.frontier i ≡ is_among i (ready_ids h.starts)
  made_is i = all.ready.made i ∙ ap (λ b. is_among i (ready_ids h.starts) || b) (begun.unmade i) ∙ or-false (is_among i (ready_ids h.starts))

  made_ready : (i : ObjectId) → was_ready_of new.frontier i ≡ is_among i (ready_ids w.ready.commits)
  made_ready i = made_is i ∙ ready_among i

  untaken : (i : ObjectId) → set.contains (taken_of v) i ≡ false
  untaken i = contains-taken new.frontier.known w.ready.commits i ∙ ap (λ b. b && not (is_among i (ready_ids w.ready.commits))) (made_ready i) ∙ and-not_self (is_among i (ready_ids w.ready.commits))

  -- no tip is below the depth
  tip_high : (i : ObjectId) → Contains p.tips i → old.depth ≤ known_generation p.rows i
  tip_high i m = subst (λ d. d ≤ known_generation p.rows i) (sym begun.depth) (least_within p.rows infinity (p.tips ++ p.ends) i (Contains-append_left p.tips p.ends i m))

  module _ (agrees : IsAgreeing (objects p.store) p.rows) where
    counted : IsCounted (objects p.store) p.rows p.parents p.tips p.ends (set.contains (taken_of v)) old.frontier
    counted = begun.counted (set.contains (taken_of v)) untaken agrees

    tallied : IsTallied objects v
    tallied = record {
      counted = record {
        searched = searched_same (objects p.store) p.rows p.parents p.tips p.ends new.frontier.queue old.frontier.known new.frontier.known all.ready.moved (subst (λ q. IsSearched (objects p.store) p.rows p.parents p.tips p.ends q old.frontier.known) (sym all.ready.queue) counted.searched);
        tally = tally_same (next_by (objects p.store) p.parents Tips) (λ i. is_done (reached old.frontier.known Tips i)) (λ i. is_done (reached new.frontier.known Tips i)) (set.contains (taken_of v)) (children_of old.frontier) (children_of new.frontier) (λ j. ap is_done (all.ready.moved Tips j)) kept_children counted.tally;
      };
      begun = λ side i m. ap is_seen (all.ready.moved side i) ∙ begun.begun side i m;
      done = λ r m. let tip : Contains p.tips r.id = all.ready.among r (in_starts r m) in ap is_done (all.ready.moved Tips r.id) ∙ begun.explored agrees Tips r.id (start tip) (tip_high r.id tip);
    }

    due_childless : (i : ObjectId) → Contains p.tips i → IsDue objects faulty h.first h.mid i → IsChildless (text_walked objects p) Member i
    due_childless i m d = (first_ready objects faulty p old begun agrees i m (sym (kept_children i) ∙ d.none_left) (sym (ap is_seen (all.ready.moved Ends i)) ∙ d.outside)).childless

    childless_due : (i : ObjectId) → IsChildless (text_walked objects p) Member i → IsDue objects faulty h.first h.mid i
    childless_due i q = record {
      none_left = kept_children i ∙ all_taken (objects p.store) (faulty p.store) p.rows p.parents p.tips p.ends agrees old.frontier old.depth (begun.explored agrees) (λ side. (counted.searched.search side).within) (set.contains (taken_of v))
          (children_of old.frontier) counted.tally i q.member (λ c k. absurd (q.alone c k));
      outside = ap is_seen (all.ready.moved Ends i) ∙ unseen (objects p.store) (faulty p.store) p.rows p.parents p.tips p.ends agrees old.frontier old.depth (begun.explored agrees) (λ side. (counted.searched.search side).within) (set.contains (taken_of v))
          (children_of old.frontier) counted.tally i q.member;
      unmade = begun.unmade i;
    }

    kept_childless : Keeps (IsChildless (text_walked objects p) Member) (first_places p.tips) (ready_ids h.starts)
    kept_childless = keeps_on (λ i m d. due_childless i (first_from [] p.tips i m).1 d) (λ i m q. childless_due i q) kept

    stored : (r : Ready) → Contains w.ready.commits r → IsStored objects p new.reader.in_use r
    stored r m = found_stored objects faulty p agrees (found r m)

    start_time : (r : Ready) → Contains h.starts r → r.time ≡ time_of (objects p.store) r.id
    start_time r m = (found_stored objects faulty p agrees (subst (λ q. IsFound objects faulty q old.reader.in_use h.mid.counting.reader.in_use r) first_plan (all.ready.each first_read r m))).time

    starts : StartsWith objects faulty (unasked objects faulty) p w.ready.commits
    starts = record {
      childless = ready_ids h.starts;
      starts = by_rising_time h.starts;
      kept = kept_childless;
      sorted = by_time_map (λ r. r.id) (λ r. r.time) (time_of (objects p.store)) h.starts start_time;
      holds = sorted;
    }

    both_counts : HasCounted objects p new × IsCounting objects p (counted_by new)
    both_counts = counts_made objects faulty p agrees first_plan all.ready (λ i m. record { reached = inl (start m); high = tip_high i m }) (begun.counts agrees) (begun.counting agrees)

    made_childless : (i : ObjectId) → was_ready_of new.frontier i ≡ true → IsChildless (text_walked objects p) Member i
    made_childless i e = (keeps_from (IsChildless (text_walked objects p) Member) kept_childless i (among_is i (ready_ids h.starts) (sym (made_is i) ∙ e))).1

    steady : IsSteady objects v
    steady = record { member = λ i e. (made_childless i e).member; children = λ i d e k. absurd ((made_childless i e).alone d k) }

  -- a walk that has begun is as a built one is to be
  pub started_on : IsStarted objects faulty (unasked objects faulty) (unasked_of objects faulty w)
  started_on = subst (λ x. IsStarted objects faulty (unasked objects faulty) (unasked_of objects faulty x)) v_is (record {
    untaken = set.same_set id_total id_apart (taken_of v) set.empty (λ i. untaken i ∙ sym (set.contains-empty id_cmp i));
    distinct = distinct;
    tips = is_tip;
    starts = starts;
    stored = stored;
    depth = all.ready.depth ∙ begun.depth;
    counting = λ agrees. (both_counts agrees).1;
    read = begun.read;
    known = begun.known;
    found = found;
  })

  -- and may go on
  pub begun_held : IsHeld objects faulty w
  begun_held = subst (IsHeld objects faulty) v_is (record {
    made = λ i m. made_ready i ∙ among_from i (ready_ids w.ready.commits) m;
    distinct = distinct;
    found = found;
    tallied = tallied;
    steady = steady;
    counts = λ agrees. (both_counts agrees).0;
    all_read = all_still objects faulty p old new all.ready.moved all.ready.stands begun.all_read;
    dropped = made_dropped objects faulty p first_plan (λ j m a. inl (start m)) all.ready begun.dropped;
    idle = λ e. all.ready.queue ∙ begun.idle e;
    read = begun.read;
  })

-- a walk starts as it does, whatever predicate it has
pub started_as : {F P : Type 0} (objects : F → Objects) (faulty : F → ObjectId → Type 0) (answers : P → ObjectId → Bool → P → Type 0) (w : Walk F) (p : P) → IsStarted objects faulty (unasked objects faulty) (unasked_of objects faulty w) → IsStarted objects faulty answers (walk_of w p)
started_as objects faulty answers w p h = record {
  untaken = h.untaken;
  distinct = h.distinct;
  tips = h.tips;
  starts = λ agrees. let s : StartsWith objects faulty (unasked objects faulty) (plan_of w) w.ready.commits = h.starts agrees in record { childless = s.childless; starts = s.starts; kept = s.kept; sorted = s.sorted; holds = s.holds };
  found = h.found;
  stored = h.stored;
  depth = h.depth;
  counting = h.counting;
  read = h.read;
  known = h.known;
}
