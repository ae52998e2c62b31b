-- A walk that was made of some tips, and whose order was chosen, is fresh, and gives no id twice.
use Rattle.std.proofs.Common.{◌≡◌, ◌⊎◌, ◌+◌, ◌≤◌, ℤ, List, [], ◌∷◌, filter, Bool, true, false, not, ◌&&◌, cond, Option, Some, Result, Contains, refl, sym, ap, subst, inl, inr, ⊎_elim, ◌∙◌, arith}
use Rattle.std.specs.FinSet as set
use Rattle.gix_simple.proofs.Common.{Yields, ObjectId, id_cmp, is_among, Objects, among_from, among_is, Contains-cons_cases, no_member, CommitTimeOrder, Pending, Info, Error, Sorting, time_of, SimpleWalk, time_order, cutoff, is_older}
use Rattle.gix_simple.proofs.Common.{IsMade, Next, ids_of, AreDistinct, AnswersBy, IsFresh, given_ids, IsSortedByTime, timed, recent, outdated, IsBuilt, filter_within, among-filter, among_times, times_none, times_once}
use Rattle.gix_revwalk.specs.declared.Parents.TheVariants as mode
use Rattle.gix_simple.specs.declared.Sorting.TheVariants as by
use Rattle.gix_simple.specs.Building.{made, breadth_first, by_time, hides, walks, reads}
use Rattle.gix_revwalk.proofs.NewIds.{times}
use Rattle.gix_simple.proofs.Moves.{asking, fewer_filter}
use Rattle.gix_simple.proofs.NeverTwice.{IsSole, asked_sole, drawn_once}
use Rattle.gix_simple.proofs.MadeOfTips.{is_new_walk, pending_is}

module _ (objects : Objects) where
  -- of pending commits with their times, those whose time is of some kind
  ids_by_time : (f : ℤ → Bool) (ps : List Pending) → ids_of (filter (λ p. f p.time) (timed objects ps)) ≡ filter (λ i. f (time_of objects i)) (ids_of ps)
  ids_by_time f [] = refl
  ids_by_time f (p ∷ ps) = grind (arith, ids_by_time f ps)

  among_by_time : (f : ℤ → Bool) (ps : List Pending) (i : ObjectId) → is_among i (ids_of (filter (λ p. f p.time) (timed objects ps))) ≡ (f (time_of objects i) && is_among i (ids_of ps))
  among_by_time f ps i = ap (is_among i) (ids_by_time f ps) ∙ among-filter i (λ i. f (time_of objects i)) (ids_of ps)

  pub recent_ids : (limit : Option ℤ) (ps : List Pending) → ids_of (recent limit (timed objects ps)) ≡ filter (λ i. not (is_older (time_of objects i) limit)) (ids_of ps)
  recent_ids limit = ids_by_time (λ t. not (is_older t limit))

  recent_among : (limit : Option ℤ) (ps : List Pending) (i : ObjectId) → is_among i (ids_of (recent limit (timed objects ps))) ≡ (not (is_older (time_of objects i) limit) && is_among i (ids_of ps))
  recent_among limit = among_by_time (λ t. not (is_older t limit))

  outdated_among : (limit : Option ℤ) (ps : List Pending) (i : ObjectId) → is_among i (outdated limit (timed objects ps)) ≡ (is_older (time_of objects i) limit && is_among i (ids_of ps))
  outdated_among limit = among_by_time (λ t. is_older t limit)

  timed_ids : (ps : List Pending) → ids_of (timed objects ps) ≡ ids_of ps
  timed_ids [] = refl
  timed_ids (p ∷ ps) = ap (λ is. p.id ∷ is) (timed_ids ps)

  timed_so : (ps : List Pending) (p : Pending) → Contains (timed objects ps) p → p.time ≡ time_of objects p.id
  timed_so [] p h = absurd (no_member p h)
  timed_so (q ∷ ps) p h =
      ⊎_elim (λ e. ap (λ x. x.time) (sym e) ∙ ap (λ x. time_of objects x.id) e) (timed_so ps p) (Contains-cons_cases p (record { id = q.id; time = time_of objects q.id }) (timed objects ps) h)

module _ {F P : Type 0} (objects : F → Objects) (faulty : F → ObjectId → Type 0) (answers : P → ObjectId → Bool → P → Type 0) where
  -- whatever the predicate answers, sorting leaves nothing pending twice, and nothing that isn't seen
  sorted_sole : (old new : SimpleWalk F P) (sorting : Sorting) → IsSole objects faulty answers [] old → IsSortedByTime objects old sorting new → IsSole objects faulty answers [] new
  sorted_sole old new sorting sole s = λ j.
      let limit : Option ℤ = cutoff mode.All sorting in
      let found : Objects = objects old.store in
      let none = times_none j (ids_of (recent limit (timed found old.pending))) in
      let fewer : times j (ids_of (recent limit (timed found old.pending))) ≤ times j (ids_of (timed found old.pending)) = (fewer_filter (λ p. not (is_older p.time limit)) (timed found old.pending)).as_often j in
      let all : times j (ids_of (timed found old.pending)) ≡ times j (ids_of old.pending) = ap (times j) (timed_ids found old.pending) in
      let left : times j (ids_of new.pending) ≡ times j (ids_of (recent limit (timed found old.pending))) = ap (λ ps. times j (ids_of ps)) s.pending in
      let once : times j (ids_of old.pending) + 0 ≤ cond (set.contains old.seen j) 1 0 = sole j in
      let seen = s.seen j in
      let kept = recent_among found limit old.pending j in
      let gone = outdated_among found limit old.pending j in
      grind arith

  built_sole : {store : F} {predicate : P} {tips : List ObjectId} {walk : SimpleWalk F P} → IsBuilt objects faulty answers store predicate tips walk → IsSole objects faulty answers [] walk
  built_sole (made m) = asked_sole objects faulty answers [] (asking objects faulty answers {Named = λ i. Unit {0}} (λ i c. tt) m) (λ j. omega arith)
  built_sole (breadth_first b) = built_sole b
  built_sole (by_time {walk = walk} {new = new} {by = sorting} b s) = sorted_sole walk new sorting (built_sole b) s
  built_sole (hides b) = built_sole b
  built_sole (walks b) = built_sole b
  built_sole (reads b) = built_sole b

module _ {F P : Type 0} (objects : F → Objects) (faulty : F → ObjectId → Type 0) (answers : P → ObjectId → Bool → P → Type 0) (accepts : ObjectId → Bool) (store : F) (predicate : P) (by_test : AnswersBy answers predicate accepts) where
  -- what every builder call keeps
  record Holds (now : P) (at : F) (pending : List Pending) (met yes marks : set.FinSet id_cmp) (begun : Bool) (order : Sorting) : Type 0 where
    tested : AnswersBy answers now accepts
    same_store : at ≡ store
    accepted : (i : ObjectId) → is_among i (ids_of pending) ≡ true → accepts i ≡ true
    seen : (i : ObjectId) → set.contains met i ≡ true → (is_among i (ids_of pending) ≡ true) ⊎ (accepts i ≡ false)
    remembered : (i : ObjectId) → set.contains yes i ≡ true → accepts i ≡ true
    shown : (i : ObjectId) → set.contains marks i ≡ false
    unbegun : begun ≡ false
    timely : (by : CommitTimeOrder) → time_order mode.All order ≡ Some by → (p : Pending) → Contains pending p → p.time ≡ time_of (objects at) p.id

  abbrev Built : SimpleWalk F P → Type 0
  Built walk = Holds walk.predicate walk.store walk.pending walk.seen walk.remembered walk.hidden walk.begun walk.sorting

  made_built : (tips : List ObjectId) (walk : SimpleWalk F P) → IsMade objects faulty answers store predicate tips walk → Built walk
  made_built tips walk m =
      let new = is_new_walk objects faulty answers store predicate accepts tips walk by_test m in
      record {
        tested = new.by_test;
        same_store = new.same_store;
        accepted = λ i h. (pending_is objects faulty answers store predicate accepts tips walk by_test m i (among_is i (ids_of walk.pending) h)).0;
        seen = λ i h. ⊎_elim (λ c. inl (among_from i (ids_of walk.pending) c)) inr (new.fresh.seen i h);
        remembered = new.fresh.remembered;
        shown = new.fresh.shown;
        unbegun = new.fresh.unbegun;
        timely = λ order e. timeless new.breadth_first e;
      }
    where
      timeless : {order : CommitTimeOrder} {A : Type 0} → walk.sorting ≡ by.BreadthFirst → time_order mode.All walk.sorting ≡ Some order → A
      timeless b e = cc (ap (time_order mode.All) b)

  by_time_built : (old new : SimpleWalk F P) (sorting : Sorting) → Built old → IsSortedByTime objects old sorting new → Built new
  by_time_built old new sorting b s = record {
    tested = subst (λ p. AnswersBy answers p accepts) (sym (ap (λ w. w.predicate) s.others)) b.tested;
    same_store = stored ∙ b.same_store;
    accepted = λ i h. let k = kept i in b.accepted i (grind arith);
    seen = λ i h. let k = kept i in let o = outdated_among found limit old.pending i in let t = s.seen i in let was = b.seen i in grind arith;
    remembered = λ i h. let o = outdated_among found limit old.pending i in let t = s.remembered i in let yes = b.remembered i in let was = b.accepted i in grind arith;
    shown = λ i. ap (λ w. set.contains w.hidden i) s.others ∙ b.shown i;
    unbegun = ap (λ w. w.begun) s.others ∙ b.unbegun;
    timely = λ order e p c. timed_so found old.pending p (filter_within (λ p. not (is_older p.time limit)) (timed found old.pending) p (subst (λ ps. Contains ps p) s.pending c)) ∙ ap (λ f. time_of (objects f) p.id) (sym stored);
  }
    where
      limit : Option ℤ
      limit = cutoff mode.All sorting

      found : Objects
      found = objects old.store

      stored : new.store ≡ old.store
      stored = ap (λ w. w.store) s.others

      kept : (i : ObjectId) → is_among i (ids_of new.pending) ≡ (not (is_older (time_of found i) limit) && is_among i (ids_of old.pending))
      kept i = ap (λ ps. is_among i (ids_of ps)) s.pending ∙ recent_among found limit old.pending i

  fresh_of : (walk : SimpleWalk F P) → Built walk → IsSole objects faulty answers [] walk → IsFresh objects walk accepts
  fresh_of walk b sole = record {
    distinct = times_once (ids_of walk.pending) (λ i. let k : times i (ids_of walk.pending) + 0 ≤ cond (set.contains walk.seen i) 1 0 = sole i in grind arith);
    pending_seen = λ i c. let some = among_times i (ids_of walk.pending) (among_from i (ids_of walk.pending) c) in let once = sole i in grind arith;
    seen = λ i h. ⊎_elim (λ e. inl (among_is i (ids_of walk.pending) e)) inr (b.seen i h);
    remembered = b.remembered;
    shown = b.shown;
    unbegun = b.unbegun;
    timed = λ order e. b.timely order (grind arith);
  }

  built_all : (tips : List ObjectId) {walk : SimpleWalk F P} → IsBuilt objects faulty answers store predicate tips walk → Built walk
  built_all tips (made {walk = walk} m) = made_built tips walk m
  built_all tips (breadth_first {walk = walk} b) =
      let w : Built walk = built_all tips b in
      record { tested = w.tested; same_store = w.same_store; accepted = w.accepted; seen = w.seen; remembered = w.remembered; shown = w.shown; unbegun = w.unbegun; timely = λ order e. cc }
  built_all tips (by_time {walk = walk} {new = new} {by = sorting} b s) = by_time_built walk new sorting (built_all tips b) s
  built_all tips (hides b) = built_all tips b
  built_all tips (walks b) = built_all tips b
  built_all tips (reads b) = built_all tips b

  -- the law
  pub built : (tips : List ObjectId) (walk : SimpleWalk F P) → IsBuilt objects faulty answers store predicate tips walk → IsFresh objects walk accepts × AnswersBy answers walk.predicate accepts × (walk.store ≡ store)
  built tips walk b = let w = built_all tips b in (fresh_of walk w (built_sole objects faulty answers b), w.tested, w.same_store)

module _ {F P : Type 0} (objects : F → Objects) (faulty : F → ObjectId → Type 0) (answers : P → ObjectId → Bool → P → Type 0) where
  -- the law
  pub never_twice : (store : F) (predicate : P) (tips : List ObjectId) (walk new : SimpleWalk F P) (list : List (Result Info Error)) → IsBuilt objects faulty answers store predicate tips walk → Yields (Next objects faulty answers) walk list new → AreDistinct (given_ids list)
  never_twice store predicate tips walk new list b drawn = drawn_once objects faulty answers walk new list (built_sole objects faulty answers b) drawn
