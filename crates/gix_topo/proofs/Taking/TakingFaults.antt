-- When a topological walk can't take a ready commit.
use Rattle.std.proofs.Common.{◌≡◌, ◌⊎◌, ◌≤◌, ℕ, ◌+◌, ◌-◌, List, [], ◌∷◌, ◌++◌, drop, Bool, true, false, cond, Some, None, Err, Contains, refl, sym, ap, subst, inl, inr, ⊎_elim, ◌∙◌, arith}
use Rattle.std.specs.FinSet as set
use Rattle.gix_topo.proofs.Common.{ObjectId, kind_of, is_among, Object, Objects, commit_items, same_itself, among_from, Contains-here, Contains-cons_cases, no_member, Parents, Error, Counting, Tips, Ends, Walk, ReadySet, IsAgreeing}
use Rattle.gix_topo.proofs.Common.{Explores, IsRested, is_seen, is_done, known_of, reached, Frontier, or_parts, by_mode, Reaches, step, IsReadFault, plan_of, taken_of, IsPushFault, parent, with_frontier, with_counting, ReleasesAll}
use Rattle.gix_topo.proofs.Common.{IsReleaseFault, uncounted, unread, IsFaultAmong, lowered, IsTakingFault, exploring, releasing, next_by, last_places, AreDroppedFor, IsTallied, IsHeld, TopoPlan, Ready, ready_ids, Chooses, IsCommitRead}
use Rattle.gix_topo.proofs.Common.{IsNextReady, IsOtherParent, IsLate, IsFault, IsReached, times-append, among_times, Contains-append_left, Contains-append_right}
use Rattle.gix_object.specs.declared.Kind.TheVariants as object
use Rattle.gix_object.specs.declared.find.existing_iter.Error.TheVariants as existing
use Rattle.gix_revwalk.specs.declared.Parents.TheVariants as mode
use Rattle.gix_topo.specs.declared.Error.TheVariants as error
use Rattle.gix_topo.specs.Inside.Releasing.{itself as pushed, no_memory, none, more, here, later, short}
use Rattle.gix_topo.specs.Inside.Searched.{text_next}
use Rattle.gix_revwalk.specs.Ids.{times}
use Rattle.gix_topo.proofs.Counts.ExploreKeeps.{explores_same, explores_done, explores_idle}
use Rattle.gix_topo.proofs.Counts.Frontier.{has_seen}
use Rattle.gix_topo.proofs.Readiness.IsReady.{last_from, last_once, times-last}
use Rattle.gix_topo.proofs.Taking.AllReleases.{IsReleased, uncounted_made, uncounted_moved, released}
use Rattle.gix_topo.proofs.Counts.Children.{children_of, was_ready_of, tally_counts}
use Rattle.gix_topo.proofs.Reading.ReadsCommit.{reads_text_next}
use Rattle.gix_revwalk.proofs.Rows.{none_agree}
use Rattle.gix_topo.proofs.Taking.InvariantKept.{was_ready, plan_taken, was_untaken, named_text, parents_reached, counted_on, due_ready}
use Rattle.gix_topo.proofs.Counts.RowsDropped.{made_dropped, explores_dropped}
use Rattle.gix_topo.proofs.Counts.ReadFaults.{fault_item, exploring_fault, push_fault}
use Rattle.gix_topo.proofs.Counts.MakesReady.{due_parts}

same_object : (a b : Object) → Some a ≡ Some b → a ≡ b
same_object a b e = cc

module _ {F : Type 0} (objects : F → Objects) (faulty : F → ObjectId → Type 0) where
  -- a commit that tips reach, where without rows all that is reached was read
  record IsUpcoming (plan : TopoPlan F) (i : ObjectId) : Type 0 where
    reach : IsAgreeing (objects plan.store) plan.rows → Reaches (next_by (objects plan.store) plan.parents Tips) plan.tips i
    read : plan.rows ≡ [] → (j : ObjectId) → IsReached objects plan j → IsCommitRead (objects plan.store) j

  abbrev Fails : TopoPlan F → (ObjectId → Type 0) → Error → Type 0
  Fails plan Q e = IsFault objects faulty plan Q e × IsLate objects plan Q e

  abbrev Agree : TopoPlan F → Type 0
  Agree plan = IsAgreeing (objects plan.store) plan.rows

  -- what was read is read again
  late : (plan : TopoPlan F) (Q : ObjectId → Type 0) (p : ObjectId) (e : Error) → (plan.rows ≡ [] → IsCommitRead (objects plan.store) p ⊎ IsOtherParent objects plan Q p) → IsReadFault (objects plan.store) (faulty plan.store) p e → IsLate objects plan Q e
  late plan Q p error.MissingIndegreeUnexpected c f = tt
  late plan Q p error.MissingStateUnexpected c f = absurd f
  late plan Q p (error.Find existing.Store) c f = tt
  late plan Q p (error.Find (existing.NotFound oid)) c f =
      λ n. ⊎_elim (λ k. let bad : None ≡ Some (record { kind = object.Commit; bytes = k.bytes }) = sym f.1 ∙ k.stored in cc) (λ o. subst (IsOtherParent objects plan Q) (sym f.0) o) (c n)
  late plan Q p (error.Find (existing.ObjectKind oid wanted actual)) c f =
      λ n. ⊎_elim (λ k. let same : ◌≡◌ {A = Object} (record { kind = actual; bytes = f.3 }) (record { kind = object.Commit; bytes = k.bytes }) = same_object _ _ (sym f.4 ∙ k.stored) in absurd (f.2 (ap (λ o. o.kind) same))) (λ o. subst (IsOtherParent objects plan Q) (sym f.0) o) (c n)
  late plan Q p (error.Find existing.Memory) c f = f
  late plan Q p (error.ObjectDecode e) c f =
      let item : Contains (commit_items (kind_of p) f.0) (Err e) = fault_item (commit_items (kind_of p) f.0) e f.2 f.3 in
      λ n. ⊎_elim (λ k. let same : ◌≡◌ {A = Object} (record { kind = object.Commit; bytes = f.0 }) (record { kind = object.Commit; bytes = k.bytes }) = same_object _ _ (sym f.1 ∙ k.stored) in absurd (k.faultless e (subst (λ b. Contains (commit_items (kind_of p) b) (Err e)) (ap (λ o. o.bytes) same) item)))
      (λ o. (p, o, (f.0, f.1, item))) (c n)
  late plan Q p error.Memory c f = tt

  -- without rows, a parent of a commit that tips reach was read, or isn't the first
  parent_read : (plan : TopoPlan F) (Q : ObjectId → Type 0) (i p : ObjectId) → IsUpcoming plan i → (Agree plan → Q i) → plan.rows ≡ [] → Contains (text_next (objects plan.store) i) p → IsCommitRead (objects plan.store) p ⊎ IsOtherParent objects plan Q p
  parent_read plan Q i p up ready n m = by plan.parents refl
    where
      walked : Contains (by_mode plan.parents (text_next (objects plan.store) i)) p → IsCommitRead (objects plan.store) p ⊎ IsOtherParent objects plan Q p
      walked k = inl (up.read n p (inl (step (up.reach (none_agree (objects plan.store) plan.rows n)) k)))

      first : plan.parents ≡ mode.First → (ids : List ObjectId) → text_next (objects plan.store) i ≡ ids → Contains ids p → IsCommitRead (objects plan.store) p ⊎ IsOtherParent objects plan Q p
      first e [] s m = absurd (no_member p m)
      first e (x ∷ xs) s m =
          ⊎_elim (λ q. walked (subst (λ k. Contains (by_mode k (text_next (objects plan.store) i)) p) (sym e) (subst (λ ids. Contains (by_mode mode.First ids) p) (sym s) (subst (λ y. Contains (x ∷ []) y) q (Contains-here x [])))))
          (λ t. inr (record { unwalked = e; child = i; ready = ready (none_agree (objects plan.store) plan.rows n); named = subst (λ ids. Contains (drop 1 ids) p) (sym s) t }))
          (Contains-cons_cases p x xs m)

      by : (k : Parents) → plan.parents ≡ k → IsCommitRead (objects plan.store) p ⊎ IsOtherParent objects plan Q p
      by mode.All e = walked (subst (λ k. Contains (by_mode k (text_next (objects plan.store) i)) p) (sym e) m)
      by mode.First e = first e (text_next (objects plan.store) i) refl m

  push_fails : (old : Walk F) (Q : ObjectId → Type 0) (i : ObjectId) (e : Error) → IsUpcoming (plan_of old) i → (Agree (plan_of old) → Q i) → AreDroppedFor objects (plan_of old) old.counting.reader.in_use → IsPushFault objects faulty old i e → Fails (plan_of old) Q e
  push_fails old Q i e up ready dropped f = (push_fault objects faulty Q old i e up.reach ready dropped f, fails f)
    where
      fails : IsPushFault objects faulty old i e → IsLate objects (plan_of old) Q e
      fails (pushed f) = late (plan_of old) Q i e (λ n. inl (up.read n i (inl (up.reach (none_agree (objects (plan_of old).store) (plan_of old).rows n))))) f.0
      fails (parent {p = p} reads m f) = late (plan_of old) Q p e (λ n. parent_read (plan_of old) Q i p up ready n (subst (λ ids. Contains ids p) (reads_text_next (objects (plan_of old).store) (faulty (plan_of old).store) (plan_of old).rows (none_agree (objects (plan_of old).store) (plan_of old).rows n) reads) m)) f.0

  -- the last child of a commit that wasn't ready, and that no end has seen, was taken
  record IsLastChild (f : Frontier) (i : ObjectId) : Type 0 where
    one : children_of f i ≡ 1
    outside : has_seen f Ends i ≡ false
    unmade : was_ready_of f i ≡ false

  release_fails : {old : Walk F} {i : ObjectId} {e : Error} (Q : ObjectId → Type 0) → IsUpcoming (plan_of old) i → AreDroppedFor objects (plan_of old) old.counting.reader.in_use → (Agree (plan_of old) → IsLastChild old.counting.frontier i → Q i) → (Agree (plan_of old) → 1 ≤ children_of old.counting.frontier i) → IsReleaseFault objects faulty old i e → Fails (plan_of old) Q e
  release_fails Q up dropped ready c (uncounted z) = (λ a. let l : 1 ≤ _ = c a in absurd (omega arith), tt)
  release_fails {old} {i} {e} Q up dropped ready c (unread {f = f} n k u d p) =
      let parts : (n ≡ 0) × (is_seen (known_of f.known i).ends ≡ false) × ((known_of f.known i).was_ready ≡ false) = due_parts objects faulty n (known_of f.known i) d in
      push_fails (with_frontier objects faulty old f) Q i e up
      (λ a. ready a (record { one = k ∙ ap (λ m. m + 1) parts.0; outside = sym (ap is_seen (uncounted_moved objects faulty old.counting.frontier f i n k u Ends i)) ∙ parts.1; unmade = sym (uncounted_made objects faulty old.counting.frontier f i n k u i) ∙ parts.2 })) dropped p
  release_fails Q up dropped ready c no_memory = (tt, tt)

  -- the parents released before the one that fails
  record IsFailing (old : Walk F) (ids : List ObjectId) (e : Error) : Type 0 where
    before : List ObjectId
    id : ObjectId
    behind : List ObjectId
    added : List Ready
    mid : Walk F
    releases : ReleasesAll objects faulty old before added mid
    fault : IsReleaseFault objects faulty mid id e
    all : ids ≡ before ++ id ∷ behind

  failing : {old : Walk F} {ids : List ObjectId} {e : Error} → IsFaultAmong objects faulty old ids e → IsFailing old ids e
  failing {old} (here {i = i} {ids = ids} f) = record { before = []; id = i; behind = ids; added = []; mid = old; releases = none; fault = f; all = refl }
  failing (later {i = i} {first = first} r f) =
      let k = failing f in
      record { before = i ∷ k.before; id = k.id; behind = k.behind; added = first ++ k.added; mid = k.mid; releases = more r k.releases; fault = k.fault; all = ap (λ xs. i ∷ xs) k.all }

  -- each of these is reached, and has a child left
  among_fails : (plan : TopoPlan F) (Q : ObjectId → Type 0) (old : Walk F) (all : List ObjectId) → ((p : ObjectId) → times p all ≤ 1) → ((i : ObjectId) → Contains all i → IsUpcoming plan i) → (Agree plan → (i : ObjectId) → Contains all i → IsLastChild old.counting.frontier i → Q i) →
      plan_of old ≡ plan → AreDroppedFor objects plan old.counting.reader.in_use → (Agree plan → (p : ObjectId) → times p all ≤ children_of old.counting.frontier p) → {e : Error} → IsFaultAmong objects faulty old all e → Fails plan Q e
  among_fails plan Q old all once up ready same dropped c {e} f =
      subst (λ p. Fails p Q e) plan_mid (release_fails Q (subst (λ p. IsUpcoming p k.id) (sym plan_mid) (up k.id there)) (subst (λ p. AreDroppedFor objects p k.mid.counting.reader.in_use) (sym plan_mid) dropped_mid)
      (λ a l. ready (on a) k.id there (first l)) (λ a. let l : times k.id all ≤ children_of old.counting.frontier k.id = c (on a) k.id in let n = counts in let r = rel.children k.id in omega arith) k.fault)
    where
      k : IsFailing old all e
      k = failing f

      rel : IsReleased objects faulty old k.before k.added k.mid
      rel = released objects faulty k.releases

      plan_mid : plan_of k.mid ≡ plan
      plan_mid = rel.ready.plan ∙ same

      on : Agree (plan_of k.mid) → Agree plan
      on a = subst (λ p. IsAgreeing (objects p.store) p.rows) plan_mid a

      there : Contains all k.id
      there = subst (λ ids. Contains ids k.id) (sym k.all) (Contains-append_right k.before (k.id ∷ k.behind) k.id (Contains-here k.id k.behind))

      dropped_mid : AreDroppedFor objects plan k.mid.counting.reader.in_use
      dropped_mid = made_dropped objects faulty plan same (λ j m a. inl ((up j (subst (λ ids. Contains ids j) (sym k.all) (Contains-append_left k.before (k.id ∷ k.behind) j m))).reach a)) rel.ready dropped

      counts : times k.id all ≡ times k.id k.before + (1 + times k.id k.behind)
      counts = ap (times k.id) k.all ∙ times-append k.id k.before (k.id ∷ k.behind) ∙ ap (λ b. times k.id k.before + (cond b 1 0 + times k.id k.behind)) (same_itself k.id)

      first : IsLastChild k.mid.counting.frontier k.id → IsLastChild old.counting.frontier k.id
      first l = record {
        one = let o : times k.id all ≤ 1 = once k.id in let n = counts in let r = rel.children k.id in let m : children_of k.mid.counting.frontier k.id ≡ 1 = l.one in omega arith;
        outside = sym (ap is_seen (rel.ready.moved Ends k.id)) ∙ l.outside;
        unmade = (or_parts (is_among k.id (ready_ids k.added)) (was_ready_of old.counting.frontier k.id) (sym (rel.ready.made k.id) ∙ l.unmade)).1;
      }

  module _ (w : Walk F) (held : IsHeld objects faulty w) (rest : ReadySet) (same : rest.sorting ≡ w.ready.sorting) (r : Ready) (chosen : Chooses w.ready.sorting w.ready.commits r rest.commits) where
    abbrev Agrees : Type 0
    Agrees = IsAgreeing (objects (plan_of w).store) (plan_of w).rows

    abbrev low : Counting F
    low = lowered objects faulty (record w { ready = rest }) r

    abbrev next : ObjectId → List ObjectId
    next = next_by (objects w.counting.reader.find) w.counting.parents Tips

    abbrev named : List ObjectId
    named = by_mode w.counting.parents r.parents

    upcoming : (i : ObjectId) → Contains (last_places named) i → IsUpcoming (plan_of w) i
    upcoming i m = record {
      reach = λ a. parents_reached objects faulty w rest r chosen held a i (last_from named i m);
      read = held.read;
    }

    children_left : (explored : Counting F) → Explores objects faulty low explored → Agrees → (p : ObjectId) → times p (last_places named) ≤ children_of explored.frontier p
    children_left explored x a p = counted (is_among p named) (times p (last_places named)) (children_of explored.frontier p) (times-last p named) (λ e.
        tally_counts next (λ i. is_done (reached explored.frontier.known Tips i)) (set.contains (taken_of w)) (children_of explored.frontier) (counted_on objects faulty w rest r chosen held a explored x).tally p r.id
        (explores_done objects faulty x Tips r.id (t.done r (was_ready objects faulty w rest r chosen))) (was_untaken objects faulty w rest r chosen held) (ap (is_among p) (sym (named_text objects faulty w rest r chosen held a)) ∙ e))
      where
        t : IsTallied objects w
        t = held.tallied a

        counted : (b : Bool) (n m : ℕ) → n ≡ cond b 1 0 → (b ≡ true → 1 ≤ m) → n ≤ m
        counted b n m l h = grind arith

    module _ (explored : Counting F) (x : Explores objects faulty low explored) (rests : IsRested explored.reader.in_use explored.depth explored.frontier.queue) where
      -- how many children are left once it is taken
      abbrev left : ObjectId → ℕ
      left p = children_of explored.frontier p - times p (last_places named)

      -- a parent that loses its last child becomes ready
      next_ready : Agrees → (i : ObjectId) → Contains (last_places named) i → IsLastChild explored.frontier i → IsNextReady objects (plan_of w) (taken_of w) r.id i
      next_ready a i m l = record {
        named = subst (λ ids. Contains ids i) (named_text objects faulty w rest r chosen held a) (last_from named i m);
        ready = due_ready objects faulty w rest r chosen held a explored x rests left (λ p. apart p (children_left explored x a p)) i (last_from named i m) none_left l.outside l.unmade;
      }
        where
          apart : (p : ObjectId) → times p (last_places named) ≤ children_of explored.frontier p → times p (last_places named) + (children_of explored.frontier p - times p (last_places named)) ≡ children_of explored.frontier p
          apart p n = omega arith

          none_left : (children_of explored.frontier i - times i (last_places named)) ≡ 0
          none_left =
              let n : 1 ≤ times i (last_places named) = among_times i (last_places named) (among_from i (last_places named) m) in
              let o : children_of explored.frontier i ≡ 1 = l.one in
              omega arith

    -- taking the chosen commit fails for a reason, and a fault found so late without rows is that of another parent
    pub taking_fault : (e : Error) → IsTakingFault objects faulty (record w { ready = rest }) r e → IsFault objects faulty (plan_of w) (IsNextReady objects (plan_of w) (taken_of w) r.id) e × IsLate objects (plan_of w) (IsNextReady objects (plan_of w) (taken_of w) r.id) e
    taking_fault e (exploring f) = (
      exploring_fault objects faulty w.ready.sorting w.tips.items w.ends.items (set.contains (taken_of w)) low (λ a. (held.tallied a).counted) held.dropped (IsNextReady objects (plan_of w) (taken_of w) r.id) e f,
      late (plan_of w) (IsNextReady objects (plan_of w) (taken_of w) r.id) f.fault.entry.1.id e (λ n. absurd (no_member f.fault.entry (subst (λ queue. Contains queue f.fault.entry) (explores_idle objects faulty f.explored (held.idle n)) f.fault.queued))) (subst (λ x. IsReadFault (objects x) (faulty x) f.fault.entry.1.id e) (explores_same objects faulty f.explored).find f.fault.fault.0),
    )
    taking_fault e (releasing {explored = explored} x rests f) =
        among_fails (plan_of w) (IsNextReady objects (plan_of w) (taken_of w) r.id) (with_counting objects faulty (record w { ready = rest }) explored) (last_places named) (last_once named) upcoming (next_ready explored x rests)
        (plan_taken objects faulty w rest r chosen same explored (explores_same objects faulty x))
        (explores_dropped objects faulty w.ready.sorting w.tips.items w.ends.items (set.contains (taken_of w)) low (λ a. (held.tallied a).counted) x held.dropped) (children_left explored x) f
    taking_fault e (short q) = subst (Fails (plan_of w) (IsNextReady objects (plan_of w) (taken_of w) r.id)) (sym q) (tt, tt)
