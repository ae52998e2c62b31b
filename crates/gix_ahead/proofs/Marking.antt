-- What holds while the search goes on, and what it marks in the end.
use Rattle.std.proofs.Common.{◌≡◌, ◌⊎◌, ◌+◌, ◌≤◌, suc, List, [], ◌∷◌, length, Bool, true, false, ◌&&◌, Contains, IsPermutation, IsSome, flat_map, refl, sym, ap, subst, inl, inr, ⊎_elim, ◌∙◌, arith}
use Rattle.std.specs.FinMap as map_of
use Rattle.std.proofs.lemmas.Bool.{false≢true, or_left, or_right}
use Rattle.std.proofs.lemmas.List.Sorted.{Contains-permutation, IsPermutation-sym, length_permutation}
use Rattle.gix_hash.specs.declared.ObjectId.{ObjectId}
use Rattle.gix_hash.specs.Id.{id_cmp, is_among}
use Rattle.gix_hash.specs.Reach.{Reaches, start, step}
use Rattle.gix_hash.proofs.Ids.Membership.{among_from, among_is, Contains-cons_cases, Contains-here, Contains-there, no_member}
use Rattle.gix_hash.proofs.Lists.{only_member}
use Rattle.gix_object.specs.Object.{Objects}
use Rattle.gix_ahead.specs.declared.search.Reached.{Reached}
use Rattle.gix_ahead.specs.declared.search.Search.{Search}
use Rattle.gix_ahead.specs.Inside.Search.{Side, One, Other, is_by, is_in, is_reached, MarksReached, MarkFails, MeetFails, Meets, Queued, reached_at, room, tip_of}
use Rattle.gix_ahead.proofs.Meeting.{by_mark}
use Rattle.gix_contained.proofs.Deciding.{among_stored}
use Rattle.gix_paint.specs.declared.Hidden.{Hidden}
use Rattle.gix_paint.specs.Painting.{IsFaultAt}
use Rattle.gix_paint.specs.Reading.{Reads}
use Rattle.gix_revwalk.specs.Commits.{commit_at, parents_in, parents_of}
use Rattle.gix_revwalk.specs.Ids.{new_ids}
use Rattle.gix_revwalk.proofs.Reached.{reach_more}

-- the ids that stored commits name
abbrev pub names : Objects → List ObjectId
names objects = flat_map (λ entry. parents_of objects entry.0) (map_of.entries objects)

-- of a side alone, and of none
abbrev pub alone : Side → Reached
alone One = record { one = true; other = false }
alone Other = record { one = false; other = true }

abbrev pub nobody : Reached
nobody = record { one = false; other = false }

by_nobody : (side : Side) → is_by side nobody ≡ true → ⊥
by_nobody One e = false≢true e
by_nobody Other e = false≢true e

by_itself : (side : Side) → is_by side (alone side) ≡ true
by_itself One = refl
by_itself Other = refl

module _ {F : Type 0} (objects_of : F → Objects) (faulty : F → ObjectId → Type 0) (store : F) (one other : ObjectId) where
  abbrev objects : Objects
  objects = objects_of store

  abbrev parents : ObjectId → List ObjectId
  parents = parents_of objects

  abbrev Reach : Side → ObjectId → Type 0
  Reach side i = Reaches parents (tip_of one other side ∷ []) i

  -- the commit of an id waits
  abbrev Waits : Search F → ObjectId → Type 0
  Waits s i = (w : Queued) × Contains s.queue w × (w.1.id ≡ i)

  -- the parents of an id were met by a side
  abbrev AreMet : Search F → Side → ObjectId → Type 0
  AreMet s side i = (c : ObjectId) → Contains (parents i) c → is_reached s.marks side c ≡ true

  -- what became of an id that a side reaches: it waits, or its parents were met by that side, or they are to be
  abbrev Fate : Reached → List ObjectId → Search F → Side → ObjectId → Type 0
  Fate by busy s side i = Waits s i ⊎ AreMet s side i ⊎ ((is_by side by ≡ true) × ((c : ObjectId) → Contains (parents i) c → Contains busy c))

  -- what holds while some ids are still to be met
  pub record Holds (by : Reached) (busy : List ObjectId) (s : Search F) : Type 0 where
    pub same_store : s.source.objects.now ≡ store
    pub sound : (side : Side) (i : ObjectId) → is_reached s.marks side i ≡ true → Reach side i
    pub bring : (w : Queued) → Contains s.queue w → Reads objects w.1.id w.1.parent_ids.items
    pub known : (w : Queued) → Contains s.queue w → (side : Side) × (is_reached s.marks side w.1.id ≡ true)
    pub followed : (side : Side) (i : ObjectId) → is_reached s.marks side i ≡ true → Fate by busy s side i
    pub read : (side : Side) (i : ObjectId) → is_reached s.marks side i ≡ true → IsSome (commit_at objects i)

  -- before the first id is met
  pub blank : (s : Search F) → s.source.objects.now ≡ store → s.marks ≡ map_of.empty → s.queue ≡ [] → Holds nobody [] s
  blank s same marks queue = record {
    same_store = same;
    sound = λ side i e. absurd (unmet side i e);
    bring = λ w c. absurd (none w c);
    known = λ w c. absurd (none w c);
    followed = λ side i e. absurd (unmet side i e);
    read = λ side i e. absurd (unmet side i e);
  }
    where
      unmet : (side : Side) (i : ObjectId) → is_reached s.marks side i ≡ true → ⊥
      unmet side i e = false≢true (sym (ap (λ m. is_reached m side i) marks ∙ ap (is_in side) (map_of.get-empty id_cmp i)) ∙ e)

      none : (w : Queued) → Contains s.queue w → ⊥
      none w c = no_member w (subst (λ ws. Contains ws w) queue c)

  -- other ids are to be met next
  again : (by : Reached) (busy : List ObjectId) (s : Search F) → Holds nobody [] s → Holds by busy s
  again by busy s h = record {
    same_store = h.same_store;
    sound = h.sound;
    bring = h.bring;
    known = h.known;
    followed = λ side i e. onward side i (h.followed side i e);
    read = h.read;
  }
    where
      onward : (side : Side) (i : ObjectId) → Fate nobody [] s side i → Fate by busy s side i
      onward side i (inl w) = inl w
      onward side i (inr (inl d)) = inr (inl d)
      onward side i (inr (inr n)) = absurd (by_nobody side n.0)

  -- ids are met that these sides reach
  module _ (by : Reached) (busy : List ObjectId) (s new : Search F) (m : Meets objects_of by busy s new) (reach : (side : Side) → is_by side by ≡ true → (i : ObjectId) → Contains busy i → Reach side i)
      (some : (i : ObjectId) → Contains busy i → (side : Side) × (is_by side by ≡ true)) (h : Holds by busy s) where
    pub stays : (side : Side) (i : ObjectId) → is_reached s.marks side i ≡ true → is_reached new.marks side i ≡ true
    stays side i e = m.marks side i ∙ or_right (is_by side by && is_among i busy) (is_reached s.marks side i) e

    pub added : (side : Side) (i : ObjectId) → is_by side by ≡ true → Contains busy i → is_reached new.marks side i ≡ true
    added side i e c = m.marks side i ∙ or_left (is_by side by && is_among i busy) (is_reached s.marks side i) (let a : is_among i busy ≡ true = among_from i busy c in grind arith)

    -- a mark is old, or the id waits
    split : (side : Side) (i : ObjectId) → is_reached new.marks side i ≡ true → (is_reached s.marks side i ≡ true) ⊎ ((is_by side by ≡ true) × Contains busy i × Waits new i)
    split side i e = go (is_reached s.marks side i) refl
      where
        go : (b : Bool) → is_reached s.marks side i ≡ b → (is_reached s.marks side i ≡ true) ⊎ ((is_by side by ≡ true) × Contains busy i × Waits new i)
        go true k = inl k
        go false k =
            let now = m.marks side i in
            let b : is_by side by ≡ true = grind arith in
            let c : Contains busy i = among_is i busy (grind arith) in
            inr (b, c, m.waits side i c b k)

    bring_new : (w : Queued) → Contains new.queue w → Reads objects w.1.id w.1.parent_ids.items
    bring_new w c = ⊎_elim (λ o. h.bring w o) (λ n. subst (λ o. Reads (objects_of o) w.1.id w.1.parent_ids.items) h.same_store n.1) (m.adds w c)

    pub met : Holds nobody [] new
    met = record {
      same_store = ap (λ o. o.now) m.objects_stay ∙ h.same_store;
      sound = λ side i e. ⊎_elim (λ o. h.sound side i o) (λ n. reach side n.0 i n.1) (split side i e);
      bring = bring_new;
      known = λ w c. ⊎_elim (λ o. let k = h.known w o in (k.0, stays k.0 w.1.id k.1)) (λ n. let k = some w.1.id n.0 in (k.0, added k.0 w.1.id k.1 n.0)) (m.adds w c);
      followed = λ side i e. ⊎_elim (λ o. old side i (h.followed side i o)) (λ n. inl n.2) (split side i e);
      read = λ side i e. ⊎_elim (λ o. h.read side i o) (λ n. let w = n.2 in subst (λ j. IsSome (commit_at objects j)) w.2 (subst IsSome (sym (bring_new w.0 w.1).1) refl)) (split side i e);
    }
      where
        old : (side : Side) (i : ObjectId) → Fate by busy s side i → Fate nobody [] new side i
        old side i (inl w) = inl (w.0, m.keeps w.0 w.1, w.2)
        old side i (inr (inl d)) = inr (inl (λ c k. stays side c (d c k)))
        old side i (inr (inr n)) = inr (inl (λ c k. added side c n.0 (n.1 c k)))

  -- one of the two commits is met
  module _ (side : Side) (s new : Search F) (m : Meets objects_of (alone side) (tip_of one other side ∷ []) s new) (h : Holds nobody [] s) where
    reach_tip : (k : Side) → is_by k (alone side) ≡ true → (i : ObjectId) → Contains (tip_of one other side ∷ []) i → Reach k i
    reach_tip k e i c = start (subst (λ t. Contains (t ∷ []) i) (same side k e) c)
      where
        same : (side k : Side) → is_by k (alone side) ≡ true → tip_of one other side ≡ tip_of one other k
        same One One e = refl
        same Other Other e = refl
        same One Other e = absurd (false≢true e)
        same Other One e = absurd (false≢true e)

    some_side : (i : ObjectId) → Contains (tip_of one other side ∷ []) i → (k : Side) × (is_by k (alone side) ≡ true)
    some_side i c = (side, by_itself side)

    ready : Holds (alone side) (tip_of one other side ∷ []) s
    ready = again (alone side) (tip_of one other side ∷ []) s h

    pub tip_met : Holds nobody [] new
    tip_met = met (alone side) (tip_of one other side ∷ []) s new m reach_tip some_side ready

    pub tip_marked : is_reached new.marks side (tip_of one other side) ≡ true
    tip_marked = added (alone side) (tip_of one other side ∷ []) s new m reach_tip some_side ready side (tip_of one other side) (by_itself side) (Contains-here (tip_of one other side) [])

    pub marks_stay : (k : Side) (i : ObjectId) → is_reached s.marks k i ≡ true → is_reached new.marks k i ≡ true
    marks_stay = stays (alone side) (tip_of one other side ∷ []) s new m reach_tip some_side ready

  -- both are marked, and what holds goes on to hold
  pub record Goes (s : Search F) : Type 0 where
    pub holds : Holds nobody [] s
    pub started : (side : Side) → is_reached s.marks side (tip_of one other side) ≡ true

  pub goes_start : (none first s : Search F) → none.source.objects.now ≡ store → none.marks ≡ map_of.empty → none.queue ≡ [] → Meets objects_of (alone One) (one ∷ []) none first → Meets objects_of (alone Other) (other ∷ []) first s → Goes s
  goes_start none first s same marks queue a b = record { holds = tip_met Other first s b held; started = both }
    where
      held : Holds nobody [] first
      held = tip_met One none first a (blank none same marks queue)

      both : (side : Side) → is_reached s.marks side (tip_of one other side) ≡ true
      both One = marks_stay Other first s b held One one (tip_marked One none first a (blank none same marks queue))
      both Other = tip_marked Other first s b held

  either : (side : Side) (i : ObjectId) → Reach side i → Reaches parents (one ∷ other ∷ []) i
  either side = reach_more parents (tip_of one other side ∷ []) (one ∷ other ∷ []) (λ i c. subst (Contains (one ∷ other ∷ [])) (only_member (tip_of one other side) i c) (within side))
    where
      within : (side : Side) → Contains (one ∷ other ∷ []) (tip_of one other side)
      within One = Contains-here one (other ∷ [])
      within Other = Contains-there other one (other ∷ []) (Contains-here other [])

  fails : (s : Search F) → s.source.objects.now ≡ store → (ids : List ObjectId) → ((i : ObjectId) → Contains ids i → Reaches parents (one ∷ other ∷ []) i) → (why : Hidden) → MeetFails objects_of faulty ids s why → MarkFails objects (faulty store) one other why
  fails s same ids reach why f n = let k = f n in (k.0, reach k.0 k.1, subst (λ o. IsFaultAt (objects_of o) (faulty o) k.0 why) same k.2)

  -- one of the two can't be read
  pub tip_fails : (side : Side) (s : Search F) → s.source.objects.now ≡ store → (why : Hidden) → MeetFails objects_of faulty (tip_of one other side ∷ []) s why → MarkFails objects (faulty store) one other why
  tip_fails side s same why f = fails s same (tip_of one other side ∷ []) (λ i c. either side i (start c)) why f

  -- a turn: a commit is taken from the queue
  module _ (s mid : Search F) (goes : Goes s) (q : Queued) (source : mid.source ≡ s.source) (marks : mid.marks ≡ s.marks) (queue : IsPermutation s.queue (q ∷ mid.queue)) where
    abbrev h : Holds nobody [] s
    h = goes.holds

    there : Contains s.queue q
    there = Contains-permutation _ _ q (IsPermutation-sym _ _ queue) (Contains-here q mid.queue)

    back : (w : Queued) → Contains mid.queue w → Contains s.queue w
    back w c = Contains-permutation _ _ w (IsPermutation-sym _ _ queue) (Contains-there w q mid.queue c)

    was : (side : Side) (i : ObjectId) → is_reached mid.marks side i ≡ true → is_reached s.marks side i ≡ true
    was side i e = ap (λ m. is_reached m side i) (sym marks) ∙ e

    same_now : mid.source.objects.now ≡ store
    same_now = ap (λ x. x.objects.now) source ∙ h.same_store

    abbrev ids : List ObjectId
    ids = q.1.parent_ids.items

    abbrev by : Reached
    by = reached_at mid.marks q.1.id

    by_it : (side : Side) → is_by side by ≡ is_reached s.marks side q.1.id
    by_it side = by_mark mid.marks side q.1.id ∙ ap (λ m. is_reached m side q.1.id) marks

    named : ids ≡ parents q.1.id
    named = let r = h.bring q there in r.2 ∙ sym (ap parents_in r.1)

    popped : Holds by ids mid
    popped = record {
      same_store = same_now;
      sound = λ side i e. h.sound side i (was side i e);
      bring = λ w c. h.bring w (back w c);
      known = λ w c. let k = h.known w (back w c) in (k.0, ap (λ m. is_reached m k.0 w.1.id) marks ∙ k.1);
      followed = λ side i e. fates side i (was side i e) (h.followed side i (was side i e));
      read = λ side i e. h.read side i (was side i e);
    }
      where
        fates : (side : Side) (i : ObjectId) → is_reached s.marks side i ≡ true → Fate nobody [] s side i → Fate by ids mid side i
        fates side i e (inl w) = ⊎_elim
            (λ same. let is : q.1.id ≡ i = ap (λ x. x.1.id) same ∙ w.2 in inr (inr (by_it side ∙ ap (is_reached s.marks side) is ∙ e, λ c k. subst (λ xs. Contains xs c) (ap parents (sym is) ∙ sym named) k)))
            (λ o. inl (w.0, o, w.2)) (Contains-cons_cases w.0 q mid.queue (Contains-permutation _ _ w.0 queue w.1))
        fates side i e (inr (inl d)) = inr (inl (λ c k. ap (λ m. is_reached m side c) marks ∙ d c k))
        fates side i e (inr (inr n)) = absurd (by_nobody side n.0)

    reach_parent : (side : Side) → is_by side by ≡ true → (i : ObjectId) → Contains ids i → Reach side i
    reach_parent side e i c = step (h.sound side q.1.id (sym (by_it side) ∙ e)) (subst (λ xs. Contains xs i) named c)

    some_mark : (side : Side) × (is_by side by ≡ true)
    some_mark = let k = h.known q there in (k.0, by_it k.0 ∙ k.1)

    module _ (new : Search F) (m : Meets objects_of by ids mid new) where
      pub goes_on : Goes new
      goes_on = record {
        holds = met by ids mid new m reach_parent (λ i c. some_mark) popped;
        started = λ side. stays by ids mid new m reach_parent (λ i c. some_mark) popped side (tip_of one other side) (ap (λ k. is_reached k side (tip_of one other side)) marks ∙ goes.started side);
      }

      pub goes_less : suc (room (names objects) new) ≤ room (names objects) s
      goes_less =
          let spent : room (names objects) new ≤ room (names objects) mid = m.spends (names objects) (λ i c. among_stored objects q.1.id ids (h.bring q there) i c) in
          let fewer : length s.queue ≡ suc (length mid.queue) = sym (length_permutation _ _ queue) in
          let same : room (names objects) mid ≡ length (new_ids (is_reached s.marks One) (names objects)) + length (new_ids (is_reached s.marks Other) (names objects)) + length mid.queue =
          ap (λ k. length (new_ids (is_reached k One) (names objects)) + length (new_ids (is_reached k Other) (names objects)) + length mid.queue) marks in
          omega arith

    -- a parent can't be read
    pub turn_fails : (why : Hidden) → MeetFails objects_of faulty ids mid why → MarkFails objects (faulty store) one other why
    turn_fails why f = fails mid same_now ids (λ i c. either some_mark.0 i (reach_parent some_mark.0 some_mark.1 i c)) why f

  -- where nothing waits all that is reached is marked
  module _ (s : Search F) (goes : Goes s) (none : s.queue ≡ []) where
    whole : (side : Side) (i : ObjectId) → Reach side i → is_reached s.marks side i ≡ true
    whole side i (start c) = ap (is_reached s.marks side) (sym (only_member (tip_of one other side) i c)) ∙ goes.started side
    whole side i (step {c = c} r m) = onward (goes.holds.followed side c (whole side c r))
      where
        onward : Fate nobody [] s side c → is_reached s.marks side i ≡ true
        onward (inl w) = absurd (no_member w.0 (subst (λ ws. Contains ws w.0) none w.1))
        onward (inr (inl d)) = d i m
        onward (inr (inr n)) = absurd (by_nobody side n.0)

    pub all_marked : MarksReached objects one other s.marks
    all_marked = record { exact = λ side i. (goes.holds.sound side i, whole side i); read = goes.holds.read }
