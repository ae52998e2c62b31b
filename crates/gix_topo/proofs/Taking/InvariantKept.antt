-- A ready commit is chosen and taken: what that adds to a walk, and that what a walk holds still holds; counting stays exact, down to the depth lowered to the commit's parents.
use Rattle.std.specs.FinSet as set
use Rattle.std.proofs.Common.{◌≡◌, ◌+◌, ◌≤◌, ℕ, List, Bool, false, cond, Contains, true, ◌||◌, ◌⊎◌, ◌∷◌, not, ◌&&◌, sym, ap, subst, ◌∙◌, refl, arith, inl, ⊎_elim, true≢false}
use Rattle.gix_topo.proofs.Common.{false_from_ne_true, or_from, or_parts, or_right, or_cases, or_left, ObjectId, is_same, is_among, Objects, id_total, same_is, among_from, id_apart, among_is, Side, Tips, Ends, Counting, Walk, ReadySet}
use Rattle.gix_topo.proofs.Common.{IsAgreeing, IsRested, IsSamePlan, Explores, is_done, reached, is_seen, by_mode, Reaches, step, rows_of, plan_of, lowered, with_counting, taken_of, counted_by, TakesOne, IsCounted, IsExplored, IsTally}
use Rattle.gix_topo.proofs.Common.{next_by, IsSearched, IsBegun, AreDistinct, last_places, Keeps, IsTallied, IsHeld, AreRead, IsSteady, unasked, unasked_of, AreDroppedFor, HasCounted, TakesReady, Ready, ready_ids, Chooses, IsTaken}
use Rattle.gix_topo.proofs.Common.{text_walked, IsTextMember, IsCounting, Adds, IsFound, IsCommitRead, IsReached, TopoPlan, IsBrokenRow, IsReady, IsChild, known_generation, times_once, walked_within, Contains-append_cases}
use Rattle.gix_topo.specs.Inside.Exploring.{itself, further}
use Rattle.gix_revwalk.specs.Ids.{times}
use Rattle.gix_topo.proofs.Counts.Frontier.{has_seen}
use Rattle.gix_topo.proofs.Counts.Rest.{least_within, least_below}
use Rattle.gix_topo.proofs.Counts.IndegreeZero.{done_seen, text_left, text_outside, unseen, all_taken}
use Rattle.gix_topo.proofs.Counts.ExploreKeeps.{explores_keep, explores_same, explores_done, explores_made, explores_still, explores_idle}
use Rattle.gix_topo.proofs.Counts.AllDownToDepth.{exact_there}
use Rattle.gix_topo.proofs.Reading.FoundIsStored.{found_text, found_named, found_stored}
use Rattle.gix_topo.proofs.Counts.Children.{children_of, was_ready_of, tally_takes, tally_same}
use Rattle.gix_topo.proofs.Readiness.IsReady.{times-last, keeps_from, keeps_times, last_from, last_once, keeps_on}
use Rattle.gix_topo.proofs.Counts.Taken.{ready_untaken, made_taken, contains-taken}
use Rattle.gix_topo.proofs.Readiness.ReadyIds.{chosen_in, in_ids, chosen_among, chosen_once, held_among, held_once, others_in}
use Rattle.gix_revwalk.proofs.NewIds.{times}
use Rattle.gix_topo.proofs.Starting.OneByOne.{IsDue}
use Rattle.gix_topo.proofs.Taking.AllReleases.{IsReleased, released, released_due}
use Rattle.gix_topo.proofs.Counts.Expanded.{explores_read, counts_on}
use Rattle.gix_topo.proofs.Reading.OnceRead.{all_still, found_later}
use Rattle.gix_topo.proofs.Counts.MakesReady.{reads_stands}
use Rattle.gix_topo.proofs.Counts.BothSearches.{searched_same}
use Rattle.gix_topo.proofs.Counts.RowsDropped.{made_dropped, explores_dropped}
use Rattle.gix_topo.proofs.Starting.Started.{counts_made}

-- of ids that were ready once, the chosen one is taken as well, where it is ready no longer and the added ones weren't ready before
chosen_too : (added made rest chosen : Bool) → (added ≡ true → made ≡ false) → ((chosen || rest) ≡ true → made ≡ true) → (chosen ≡ true → rest ≡ false) → ((added || made) && not (rest || added)) ≡ (chosen || (made && not (chosen || rest)))
chosen_too added made rest chosen a m r = grind arith

broken_lower : {F : Type 0} (objects : F → Objects) (plan : TopoPlan F) (low depth : ℕ) → low ≤ depth → IsBrokenRow objects plan depth → IsBrokenRow objects plan low
broken_lower objects plan low depth l b = record {
  id = b.id;
  row = b.row;
  in_depth = record { reached = b.in_depth.reached; high = let h : depth ≤ known_generation plan.rows b.id = b.in_depth.high in omega arith };
  by_row = b.by_row;
  corrupt = b.corrupt;
}

module _ {F : Type 0} (objects : F → Objects) (faulty : F → ObjectId → Type 0) where
  -- rows that are in use after exploring were in use before
  explores_stands : {old new : Counting F} → Explores objects faulty old new → new.reader.in_use ≡ true → old.reader.in_use ≡ true
  explores_stands itself e = e
  explores_stands (further x p s) e = explores_stands x (reads_stands objects faulty s.reads.reads e)

-- a ready commit is chosen to be taken, and counting goes on for it
module _ {F : Type 0} (objects : F → Objects) (faulty : F → ObjectId → Type 0) (w : Walk F) (rest : ReadySet) (r : Ready) (chosen : Chooses w.ready.sorting w.ready.commits r rest.commits) where
  abbrev those : Objects
  those = objects w.counting.reader.find

  abbrev low : Counting F
  low = lowered objects faulty (record w { ready = rest }) r

  abbrev named : List ObjectId
  named = by_mode w.counting.parents r.parents

  abbrev now_taken : ObjectId → Bool
  now_taken i = set.contains (set.insert (taken_of w) r.id) i

  pub was_ready : Contains w.ready.commits r
  was_ready = chosen_in w.ready.sorting w.ready.commits r rest.commits chosen

  -- exploring leaves what the walk goes over
  pub plan_taken : rest.sorting ≡ w.ready.sorting → (explored : Counting F) → IsSamePlan objects faulty low explored → plan_of (with_counting objects faulty (record w { ready = rest }) explored) ≡ plan_of w
  plan_taken same explored s = λ k. record { store = s.find k; rows = rows_of (s.graph k); parents = s.parents k; sorting = same k; tips = w.tips.items; ends = w.ends.items }

  module _ (held : IsHeld objects faulty w) where
    pub was_untaken : set.contains (taken_of w) r.id ≡ false
    was_untaken = ready_untaken w r.id (in_ids w.ready.commits r was_ready)

    module _ (agrees : IsAgreeing (objects (plan_of w).store) (plan_of w).rows) where
      tallied : IsTallied objects w
      tallied = held.tallied agrees

      -- its walked parents are the walked parents of its text, and tips reach them
      pub named_text : named ≡ next_by those w.counting.parents Tips r.id
      named_text = ap (by_mode w.counting.parents) (found_text objects faulty (plan_of w) agrees (held.found r was_ready))

      pub parents_reached : (i : ObjectId) → Contains named i → Reaches (next_by those w.counting.parents Tips) (plan_of w).tips i
      parents_reached i m =
          step ((tallied.counted.searched.search Tips).within r.id (done_seen (reached w.counting.frontier.known Tips r.id) (tallied.done r was_ready)))
          (subst (λ ids. Contains ids i) named_text m)

      -- what exploring has counted, and how far it went
      module _ (explored : Counting F) (explores : Explores objects faulty low explored) where
        pub counted_on : IsCounted those (plan_of w).rows w.counting.parents (plan_of w).tips (plan_of w).ends (set.contains (taken_of w)) explored.frontier
        counted_on = explores_keep objects faulty (plan_of w).tips (plan_of w).ends (set.contains (taken_of w)) agrees explores tallied.counted

        pub explored_on : IsRested explored.reader.in_use explored.depth explored.frontier.queue → (side : Side) → IsExplored those (plan_of w).rows w.counting.parents (plan_of w).tips (plan_of w).ends low.depth side explored.frontier
        explored_on rested side =
            exact_there objects faulty (plan_of w).tips (plan_of w).ends (set.contains (taken_of w)) agrees explores tallied.counted side (tallied.begun side)
            (subst (λ d. IsRested explored.reader.in_use d explored.frontier.queue) (explores_same objects faulty explores).depth rested)

        -- once it is taken, its parents have a child less
        pub tally_on : (children : ObjectId → ℕ) → ((p : ObjectId) → times p (last_places named) + children p ≡ children_of explored.frontier p) → IsTally (next_by those w.counting.parents Tips) (λ i. is_done (reached explored.frontier.known Tips i)) now_taken children
        tally_on children less =
            tally_takes (next_by those w.counting.parents Tips) (λ i. is_done (reached explored.frontier.known Tips i)) (set.contains (taken_of w)) now_taken (children_of explored.frontier) children r.id
            (explores_done objects faulty explores Tips r.id (tallied.done r was_ready)) was_untaken (λ j. set.contains-insert id_total (taken_of w) r.id j)
            (λ p. ap (λ n. n + children p) (sym (times-last p named ∙ ap (λ ids. cond (is_among p ids) 1 0) named_text)) ∙ less p) counted_on.tally

        -- a parent that is due is ready
        pub due_ready : IsRested explored.reader.in_use explored.depth explored.frontier.queue → (children : ObjectId → ℕ) → ((p : ObjectId) → times p (last_places named) + children p ≡ children_of explored.frontier p) → (i : ObjectId) → Contains named i →
            children i ≡ 0 → has_seen explored.frontier Ends i ≡ false → was_ready_of explored.frontier i ≡ false → IsReady (text_walked objects (plan_of w)) (IsTextMember objects (plan_of w)) (IsTaken (set.insert (taken_of w) r.id)) i
        due_ready rested children less i m none outside unmade = record {
          member = record {
            reached = parents_reached i m;
            outside = text_outside those (faulty w.counting.reader.find) (plan_of w).rows w.counting.parents (plan_of w).tips (plan_of w).ends agrees explored.frontier low.depth (explored_on rested) i outside high;
          };
          left = λ e. true≢false (sym e ∙ set.contains-insert id_total (taken_of w) r.id i ∙ or_from (is_same i r.id) _ (false_from_ne_true _ (λ s. true≢false (sym (among_from i _ (subst (Contains (ready_ids w.ready.commits)) (sym (same_is i r.id s)) (in_ids w.ready.commits r was_ready))) ∙ before.1))) before.0);
          children = λ d k. text_left those (faulty w.counting.reader.find) (plan_of w).rows w.counting.parents (plan_of w).tips (plan_of w).ends agrees explored.frontier low.depth (explored_on rested) now_taken children (tally_on children less) i none high d k.child.reached k.named;
        }
          where
            high : low.depth ≤ known_generation (plan_of w).rows i
            high = least_within (plan_of w).rows w.counting.depth named i m

            before : (set.contains (taken_of w) i ≡ false) × (is_among i (ready_ids w.ready.commits) ≡ false)
            before = or_parts _ _ (sym (explores_made objects faulty explores i ∙ made_taken w held.made i) ∙ unmade)

  -- it is taken
  module _ (same : rest.sorting ≡ w.ready.sorting) (added : List Ready) (new : Walk F) (t : TakesOne objects faulty (record w { ready = rest }) r added new) where
    abbrev between : Walk F
    between = with_counting objects faulty (record w { ready = rest }) t.explored

    abbrev walked : ObjectId → List ObjectId
    walked = text_walked objects (plan_of w)

    abbrev Member : ObjectId → Type 0
    Member = IsTextMember objects (plan_of w)

    abbrev next : Side → ObjectId → List ObjectId
    next = next_by those w.counting.parents

    rel : IsReleased objects faulty between (last_places named) added new
    rel = released objects faulty t.releases

    kept_plan : IsSamePlan objects faulty low t.explored
    kept_plan = explores_same objects faulty t.explores

    plan_between : plan_of between ≡ plan_of w
    plan_between = plan_taken same t.explored kept_plan

    due : Keeps (IsDue objects faulty between new) (last_places named) (ready_ids added)
    due = released_due objects faulty rel (λ j. last_once named j)

    plan_is : plan_of new ≡ plan_of w
    plan_is = rel.ready.plan ∙ plan_between

    others_ready : (q : Ready) → Contains rest.commits q → Contains w.ready.commits q
    others_ready q m = others_in w.ready.sorting w.ready.commits r rest.commits chosen q m

    was_among : (j : ObjectId) → is_among j (ready_ids w.ready.commits) ≡ (is_same j r.id || is_among j (ready_ids rest.commits))
    was_among = chosen_among w.ready.sorting w.ready.commits r rest.commits chosen

    is_now : (j : ObjectId) → is_among j (ready_ids new.ready.commits) ≡ (is_among j (ready_ids rest.commits) || is_among j (ready_ids added))
    is_now = held_among rest.commits added new.ready.commits rel.holds

    ready_cases : (A : Type 0) (q : Ready) → (Contains rest.commits q → A) → (Contains added q → A) → Contains new.ready.commits q → A
    ready_cases A q f g m = ⊎_elim f g (Contains-append_cases rest.commits added q (subst (λ rs. Contains rs q) rel.holds m))

    made_now : (j : ObjectId) → was_ready_of new.counting.frontier j ≡ (is_among j (ready_ids added) || was_ready_of w.counting.frontier j)
    made_now j = rel.ready.made j ∙ ap (λ b. is_among j (ready_ids added) || b) (explores_made objects faulty t.explores j)

    module _ (held : IsHeld objects faulty w) where
      -- all that is done after exploring was read
      read_between : AreRead objects faulty (plan_of between) t.explored
      read_between = subst (λ plan. AreRead objects faulty plan t.explored) (sym plan_between) (explores_read objects faulty w.ready.sorting w.tips.items w.ends.items (set.contains (taken_of w)) t.explores held.all_read)

      -- an added commit was read over the same store and rows
      found_added : (a : Ready) → Contains added a → IsFound objects faulty (plan_of w) w.counting.reader.in_use new.counting.reader.in_use a
      found_added a m = found_later objects faulty (plan_of w) (explores_stands objects faulty t.explores) (λ e. e) (subst (λ plan. IsFound objects faulty plan t.explored.reader.in_use new.counting.reader.in_use a) plan_between (rel.ready.each read_between a m))

      -- and so is what is done after that
      read_after : AreRead objects faulty (plan_of w) new.counting
      read_after = all_still objects faulty (plan_of w) t.explored new.counting rel.ready.moved rel.ready.stands (subst (λ plan. AreRead objects faulty plan t.explored) plan_between read_between)

      made_before : (p : ObjectId) → was_ready_of t.explored.frontier p ≡ (set.contains (taken_of w) p || is_among p (ready_ids w.ready.commits))
      made_before p = explores_made objects faulty t.explores p ∙ made_taken w held.made p

      unmade : (j : ObjectId) → is_among j (ready_ids added) ≡ true → was_ready_of w.counting.frontier j ≡ false
      unmade j e = sym (explores_made objects faulty t.explores j) ∙ (keeps_from (IsDue objects faulty between new) due j (among_is j (ready_ids added) e)).1.unmade

      was_made : (j : ObjectId) → (is_same j r.id || is_among j (ready_ids rest.commits)) ≡ true → was_ready_of w.counting.frontier j ≡ true
      was_made j e = held.made j (among_is j (ready_ids w.ready.commits) (was_among j ∙ e))

      -- the chosen one was ready once
      once : AreDistinct (r.id ∷ ready_ids rest.commits)
      once = chosen_once w.ready.sorting w.ready.commits r rest.commits chosen held.distinct

      other : (j : ObjectId) → is_same j r.id ≡ true → is_among j (ready_ids rest.commits) ≡ false
      other j s = false_from_ne_true _ (λ e. once.0 (subst (Contains (ready_ids rest.commits)) (same_is j r.id s) (among_is j _ e)))

      taken_now : (j : ObjectId) → set.contains (taken_of new) j ≡ (is_same j r.id || set.contains (taken_of w) j)
      taken_now j =
          contains-taken new.counting.frontier.known new.ready.commits j ∙ (λ k. made_now j k && not (is_now j k))
          ∙ chosen_too (is_among j (ready_ids added)) (was_ready_of w.counting.frontier j) (is_among j (ready_ids rest.commits)) (is_same j r.id) (unmade j) (was_made j) (other j)
          ∙ ap (λ b. is_same j r.id || b) (sym (contains-taken w.counting.frontier.known w.ready.commits j ∙ ap (λ b. was_ready_of w.counting.frontier j && not b) (was_among j)))

      taken_is : taken_of new ≡ set.insert (taken_of w) r.id
      taken_is = set.same_set id_total id_apart (taken_of new) (set.insert (taken_of w) r.id) (λ j. taken_now j ∙ sym (set.contains-insert id_total (taken_of w) r.id j))

      -- with rows that agree
      module _ (agrees : IsAgreeing (objects (plan_of w).store) (plan_of w).rows) where
        steady : IsSteady objects w
        steady = held.steady agrees

        counted : IsCounted those (plan_of w).rows w.counting.parents (plan_of w).tips (plan_of w).ends (set.contains (taken_of w)) t.explored.frontier
        counted = counted_on held agrees t.explored t.explores

        explored : (side : Side) → IsExplored those (plan_of w).rows w.counting.parents (plan_of w).tips (plan_of w).ends low.depth side t.explored.frontier
        explored = explored_on held agrees t.explored t.explores t.rested

        is_member : Member r.id
        is_member = steady.member r.id (made_taken w held.made r.id ∙ or_right (set.contains (taken_of w) r.id) _ (among_from r.id _ (in_ids w.ready.commits r was_ready)))

        tally : IsTally (next Tips) (λ i. is_done (reached t.explored.frontier.known Tips i)) now_taken (children_of new.counting.frontier)
        tally = tally_on held agrees t.explored t.explores (children_of new.counting.frontier) rel.children

        seen_there : (p : ObjectId) → has_seen new.counting.frontier Ends p ≡ has_seen t.explored.frontier Ends p
        seen_there p = ap is_seen (rel.ready.moved Ends p)

        due_now : (p : ObjectId) → Contains (last_places named) p → IsDue objects faulty between new p → IsReady walked Member (IsTaken (set.insert (taken_of w) r.id)) p
        due_now p m d = due_ready held agrees t.explored t.explores t.rested (children_of new.counting.frontier) rel.children p (last_from named p m) d.none_left (sym (seen_there p) ∙ d.outside) d.unmade

        ready_due : (p : ObjectId) → Contains (last_places named) p → IsReady walked Member (IsTaken (set.insert (taken_of w) r.id)) p → IsDue objects faulty between new p
        ready_due p m q = record {
          none_left = all_taken those (faulty w.counting.reader.find) (plan_of w).rows w.counting.parents (plan_of w).tips (plan_of w).ends agrees t.explored.frontier low.depth explored (λ side. (counted.searched.search side).within) now_taken
              (children_of new.counting.frontier) tally p q.member q.children;
          outside = seen_there p ∙ unseen those (faulty w.counting.reader.find) (plan_of w).rows w.counting.parents (plan_of w).tips (plan_of w).ends agrees t.explored.frontier low.depth explored (λ side. (counted.searched.search side).within) now_taken
              (children_of new.counting.frontier) tally p q.member;
          unmade = false_from_ne_true _ (λ e. true≢false (sym (steady.children p r.id (sym (explores_made objects faulty t.explores p) ∙ e) child) ∙ was_untaken held));
        }
          where
            child : IsChild walked Member r.id p
            child = record { child = is_member; parent = q.member; named = subst (λ ids. Contains ids p) (named_text held agrees) (last_from named p m) }

        -- the parents that are added are those that became ready, each at its last place
        became : Keeps (IsReady walked Member (IsTaken (set.insert (taken_of w) r.id))) (last_places (walked r.id)) (ready_ids added)
        became = subst (λ ids. Keeps (IsReady walked Member (IsTaken (set.insert (taken_of w) r.id))) (last_places ids) (ready_ids added)) (named_text held agrees) (keeps_on due_now ready_due due)

        counted_now : IsCounted those (plan_of w).rows w.counting.parents (plan_of w).tips (plan_of w).ends (set.contains (taken_of new)) new.counting.frontier
        counted_now = record {
          searched = searched_same those (plan_of w).rows w.counting.parents (plan_of w).tips (plan_of w).ends new.counting.frontier.queue t.explored.frontier.known new.counting.frontier.known rel.ready.moved
              (subst (λ q. IsSearched those (plan_of w).rows w.counting.parents (plan_of w).tips (plan_of w).ends q t.explored.frontier.known) (sym rel.ready.queue) counted.searched);
          tally = subst (λ s. IsTally (next Tips) (λ i. is_done (reached new.counting.frontier.known Tips i)) (set.contains s) (children_of new.counting.frontier)) (sym taken_is) (tally_same (next Tips) (λ i. is_done (reached t.explored.frontier.known Tips i)) (λ i. is_done (reached new.counting.frontier.known Tips i)) now_taken (children_of new.counting.frontier) (children_of new.counting.frontier) (λ j. ap is_done (rel.ready.moved Tips j)) (λ p. refl) tally);
        }

        -- a walked parent was reached, and it isn't below the depth
        parent_done : (p : ObjectId) → Contains named p → is_done (reached t.explored.frontier.known Tips p) ≡ true
        parent_done p m =
            explored Tips p
            (((tallied held agrees).counted.searched.search Tips).within p (((tallied held agrees).counted.searched.search Tips).closed r.id p ((tallied held agrees).done r was_ready) (subst (λ ids. Contains ids p) (named_text held agrees) m)))
            (least_within (plan_of w).rows w.counting.depth named p m)

        done_now : (q : Ready) → Contains new.ready.commits q → is_done (reached new.counting.frontier.known Tips q.id) ≡ true
        done_now q m =
            ap is_done (rel.ready.moved Tips q.id) ∙
            ready_cases (is_done (reached t.explored.frontier.known Tips q.id) ≡ true) q (λ o. explores_done objects faulty t.explores Tips q.id ((tallied held agrees).done q (others_ready q o))) (λ a. parent_done q.id (last_from named q.id (rel.ready.among q a))) m

        tallied_now : IsTallied objects new
        tallied_now = record {
          counted = subst (λ p. IsCounted (objects p.store) p.rows p.parents p.tips p.ends (set.contains (taken_of new)) new.counting.frontier) (sym plan_is) counted_now;
          begun = subst (λ p. (side : Side) → IsBegun p.tips p.ends side new.counting.frontier) (sym plan_is) (λ side i m. ap is_seen (rel.ready.moved side i) ∙ explores_still objects faulty t.explores side i ((tallied held agrees).begun side i m));
          done = done_now;
        }

        -- the same done commits, down to the lowered depth
        low_counts : HasCounted objects (plan_of w) low
        low_counts =
            let h : HasCounted objects (plan_of w) w.counting = held.counts agrees in
            let l : low.depth ≤ w.counting.depth = least_below (plan_of w).rows w.counting.depth named in
            record { number = h.number; high = λ e i d. let a : w.counting.depth ≤ known_generation (plan_of w).rows i = h.high e i d in omega arith; dropped = λ e. broken_lower objects (plan_of w) low.depth w.counting.depth l (h.dropped e) }

        explored_counts : HasCounted objects (plan_of w) t.explored × IsCounting objects (plan_of w) (counted_by t.explored)
        explored_counts = counts_on objects faulty w.ready.sorting w.tips.items w.ends.items (set.contains (taken_of w)) low t.explored agrees (tallied held agrees).counted (tallied held agrees).begun low_counts held.all_read t.explores t.rested

        -- what holds of the done commits still holds, and counting stays exact
        counts_taken : HasCounted objects (plan_of w) new.counting × IsCounting objects (plan_of w) (counted_by new.counting)
        counts_taken =
            counts_made objects faulty (plan_of w) agrees plan_between rel.ready
            (λ i m. let n : Contains named i = last_from named i m in record { reached = inl (parents_reached held agrees i n); high = subst (λ d. d ≤ known_generation (plan_of w).rows i) (sym kept_plan.depth) (least_within (plan_of w).rows w.counting.depth named i n) })
            explored_counts.0 explored_counts.1

        now_ready : (i : ObjectId) → is_among i (ready_ids added) ≡ true → IsReady walked Member (IsTaken (set.insert (taken_of w) r.id)) i
        now_ready i e = (keeps_from (IsReady walked Member (IsTaken (set.insert (taken_of w) r.id))) became i (among_is i (ready_ids added) e)).1

        member_now : (i : ObjectId) → was_ready_of new.counting.frontier i ≡ true → Member i
        member_now i e = ⊎_elim (λ a. (now_ready i a).member) (λ o. steady.member i o) (or_cases (is_among i (ready_ids added)) (was_ready_of w.counting.frontier i) (sym (made_now i) ∙ e))

        children_now : (i d : ObjectId) → was_ready_of new.counting.frontier i ≡ true → IsChild walked Member d i → set.contains (taken_of new) d ≡ true
        children_now i d e c =
            ⊎_elim (λ a. ap (λ s. set.contains s d) taken_is ∙ (now_ready i a).children d c) (λ o. taken_now d ∙ or_right (is_same d r.id) _ (steady.children i d o c))
            (or_cases (is_among i (ready_ids added)) (was_ready_of w.counting.frontier i) (sym (made_now i) ∙ e))

        steady_now : IsSteady objects new
        steady_now = record {
          member = λ i e. subst (λ p. IsTextMember objects p i) (sym plan_is) (member_now i e);
          children = λ i d e c. children_now i d e (subst (λ p. IsChild (text_walked objects p) (IsTextMember objects p) d i) plan_is c);
        }

      -- what is added to a walk that may go on
      adds : Adds objects faulty (unasked objects faulty) (unasked_of objects faulty w) r (counted_by new.counting) added
      adds = record {
        distinct = times_once (ready_ids added) (λ i. let a : times i (ready_ids added) ≤ times i (last_places named) = keeps_times (IsDue objects faulty between new) due i in let b : times i (last_places named) ≤ 1 = last_once named i in omega arith);
        unmade = λ i m. sym (made_before i) ∙ (keeps_from (IsDue objects faulty between new) due i m).1.unmade;
        named = λ i m. found_named objects faulty (plan_of w) (held.found r was_ready) i (walked_within w.counting.parents r.parents i (last_from named i (keeps_from (IsDue objects faulty between new) due i m).0));
        became = became;
        found = found_added;
        stored = λ agrees a m. found_stored objects faulty (plan_of w) agrees (found_added a m);
        stands = λ e. explores_stands objects faulty t.explores (rel.ready.stands e);
        depth = rel.ready.depth ∙ kept_plan.depth;
        counting = λ agrees. (counts_taken agrees).1;
      }

      still_made : (j : ObjectId) → (is_among j (ready_ids rest.commits) ≡ true) ⊎ (is_among j (ready_ids added) ≡ true) → (is_among j (ready_ids added) || was_ready_of w.counting.frontier j) ≡ true
      still_made j c = ⊎_elim (λ e. or_right (is_among j (ready_ids added)) _ (was_made j (or_right (is_same j r.id) _ e))) (λ e. or_left _ _ e) c

      -- rows that are dropped were dropped for their reason
      dropped_now : AreDroppedFor objects (plan_of w) new.counting.reader.in_use
      dropped_now =
          made_dropped objects faulty (plan_of w) plan_between (λ j m a. inl (parents_reached held a j (last_from named j m))) rel.ready
          (explores_dropped objects faulty w.ready.sorting w.tips.items w.ends.items (set.contains (taken_of w)) low (λ a. (held.tallied a).counted) t.explores held.dropped)

      found_now : (q : Ready) → Contains new.ready.commits q → IsFound objects faulty (plan_of new) true new.counting.reader.in_use q
      found_now q m = subst (λ p. IsFound objects faulty p true new.counting.reader.in_use q) (sym plan_is) (ready_cases (IsFound objects faulty (plan_of w) true new.counting.reader.in_use q) q
          (λ o. found_later objects faulty (plan_of w) (λ e. e) adds.stands (held.found q (others_ready q o))) (λ a. found_later objects faulty (plan_of w) (λ e. refl) (λ e. e) (adds.found q a)) m)

      -- what a walk holds, after a ready commit was taken
      pub held_on : IsHeld objects faulty new
      held_on = record {
        made = λ j m. made_now j ∙ still_made j (or_cases (is_among j (ready_ids rest.commits)) (is_among j (ready_ids added)) (sym (is_now j) ∙ among_from j (ready_ids new.ready.commits) m));
        distinct = held_once rest.commits added new.ready.commits rel.holds once.1 adds.distinct (λ i m. (or_parts _ _ (sym (was_among i) ∙ (or_parts _ _ (adds.unmade i m)).1)).1);
        found = found_now;
        tallied = λ a. tallied_now (subst (λ p. IsAgreeing (objects p.store) p.rows) plan_is a);
        steady = λ s. steady_now (subst (λ plan. IsAgreeing (objects plan.store) plan.rows) plan_is s);
        counts = λ s. subst (λ p. HasCounted objects p new.counting) (sym plan_is) (counts_taken (subst (λ plan. IsAgreeing (objects plan.store) plan.rows) plan_is s)).0;
        all_read = subst (λ p. AreRead objects faulty p new.counting) (sym plan_is) read_after;
        dropped = subst (λ p. AreDroppedFor objects p new.counting.reader.in_use) (sym plan_is) dropped_now;
        idle = λ e. rel.ready.queue ∙ explores_idle objects faulty t.explores (held.idle (sym (ap (λ p. p.rows) plan_is) ∙ e));
        read = λ e i h. subst (λ p. IsCommitRead (objects p.store) i) (sym plan_is) (held.read (sym (ap (λ p. p.rows) plan_is) ∙ e) i (subst (λ p. IsReached objects p i) plan_is h));
      }

      -- a ready commit is taken
      pub takes_on : TakesReady objects faulty w r new
      takes_on = record {
        takes = record { others = rest.commits; added = added; chosen = chosen; adds = adds; holds = rel.holds };
        plan = plan_is;
        taken = taken_is;
      }
