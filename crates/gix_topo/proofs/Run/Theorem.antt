-- A topological walk takes what the definitions say, in their order: all of it where it is drawn to its end.
use Rattle.std.proofs.Common.{◌≡◌, ◌⊎◌, ◌<ℤ◌, ◌≤ℤ◌, ℤ, List, [], ◌∷◌, ◌++◌, Bool, true, false, not, ◌&&◌, ◌||◌, cond, filter, find, reverse, slice_get, Some, None, Result, Ok, Err, Contains, All, refl, sym, ap, subst, ⊎_elim, inl, inr}
use Rattle.std.proofs.Common.{◌∙◌, arith, append_assoc, append-nil}
use Rattle.std.proofs.Math.Bool.{or_comm}
use Rattle.std.specs.List.{AllZip}
use Rattle.gix_topo.proofs.Common.{ints, false≢true, false_from_ne_true, not_from_false, Contains-append_left, Contains-push, Contains-push_cases, All-head, All-tail, filter-append, filter_agree, Drains, Yields}
use Rattle.gix_topo.proofs.Common.{ObjectId, id_cmp, is_same, is_among, Objects, Info, Sorting, Error, time_of, IsReady, Keeps, last_places, IsMadeReady, IsAgreeing, TopoPlan, TopoWalk, Ready, Counted, ready_ids, IsTaken}
use Rattle.gix_topo.proofs.Common.{Chooses, TakesLatest, NewestFirst, IsStored, IsSound, IsFault, StartsWith, IsStarted, Takes, after, Next, text_walked, IsTextMember, walked_of, IsMember, IsNoRefusal, IsBeginningBy, IsListBy, IsNextBy, IsNextTaken}
use Rattle.gix_topo.proofs.Common.{IsNextByText, IsCommitInfo, IsTextInfo, IsGiven, IsTextGiven, GivesInOrder, BeginsInOrder, GivesTextOrder, BeginsTextOrder, IsWholeRun, AreApart, id_total, same_is, same_itself}
use Rattle.gix_topo.proofs.Common.{among-append, among-one, among_from, among_is, Contains-here, Contains-there, Contains-cons_cases, no_member, walked_within, filter_all}
use Rattle.std.proofs.lemmas.List.{map-append, reverse-append}
use Rattle.std.specs.FinSet as set
use Rattle.gix_object.specs.declared.find.existing_iter.Error.TheVariants as existing
use Rattle.gix_topo.specs.declared.Sorting.TheVariants as order
use Rattle.gix_topo.specs.declared.Error.TheVariants as error
use Rattle.gix_revwalk.specs.Texts.{text_next}
use Rattle.gix_revwalk.specs.Asking.{Becomes, itself, further, AnswersBy}
use Rattle.gix_revwalk.specs.TimeOrder.{is_no_worse}
use Rattle.gix_revwalk.proofs.Beginnings.{begins_empty, begins_more}
use Rattle.gix_revwalk.proofs.NewIds.{find-filter, find-behind}
use Rattle.gix_revwalk.proofs.SomeOrder.{itself_is}
use Rattle.gix_topo.proofs.Readiness.IsReady.{among_by, among-by_time, keeps_from, keeps_alike, AreReady, ready_alike, takes_ready, starts_ready, in_walk_top}
use Rattle.gix_topo.proofs.Run.ReadyInTurn.{made_one, reverse_in, in_reverse}
use Rattle.gix_topo.proofs.Reading.WholeTexts.{member_text, text_member, member_names, member_walks}
use Rattle.gix_topo.proofs.Run.Draws.{Draws, rests, shows, hides, breaks, ready_after, all_drawn, drained}
use Rattle.gix_topo.proofs.Run.EachOnce.{each_by, first_by}
use Rattle.gix_topo.proofs.Run.Ends.{apart_on, started_apart}
use Rattle.gix_topo.proofs.Run.SameOrder.{list_to, begins_to}
use Rattle.gix_topo.proofs.Readiness.ReadyIds.{in_ids, from_ids, Splits, chosen_splits, holds_times, chosen_in, chosen_among, chosen_once, held_among}

-- the first that passes is the first of those that pass
first_found : (p : ObjectId → Bool) (xs : List ObjectId) → find p xs ≡ slice_get (filter p xs) 0
first_found p [] = refl
first_found p (x ∷ xs) = go (p x) (first_found p xs)
  where
    go : (b : Bool) → find p xs ≡ slice_get (filter p xs) 0 → cond b (Some x) (find p xs) ≡ slice_get (cond b (x ∷ filter p xs) (filter p xs)) 0
    go b r = grind arith

filter-reverse : (p : ObjectId → Bool) (xs : List ObjectId) → filter p (reverse xs) ≡ reverse (filter p xs)
filter-reverse p [] = refl
filter-reverse p (x ∷ xs) = ap (filter p) (reverse-append (x ∷ []) xs) ∙ filter-append p (reverse xs) (x ∷ []) ∙ ap (λ ys. ys ++ filter p (x ∷ [])) (filter-reverse p xs) ∙ go (p x)
  where
    go : (b : Bool) → reverse (filter p xs) ++ cond b (x ∷ []) [] ≡ reverse (cond b (x ∷ filter p xs) (filter p xs))
    go true = sym (reverse-append (x ∷ []) (filter p xs))
    go false = append-nil (reverse (filter p xs))

filter_twice : (p q : ObjectId → Bool) (xs : List ObjectId) → filter q (filter p xs) ≡ filter (λ x. p x && q x) xs
filter_twice p q [] = refl
filter_twice p q (x ∷ xs) = go (p x) (filter_twice p q xs)
  where
    go : (b : Bool) → filter q (filter p xs) ≡ filter (λ x. p x && q x) xs → filter q (cond b (x ∷ filter p xs) (filter p xs)) ≡ cond (b && q x) (x ∷ filter (λ x. p x && q x) xs) (filter (λ x. p x && q x) xs)
    go true r = ap (λ ys. cond (q x) (x ∷ ys) ys) r
    go false r = r

earlier : (a b : ℤ) → a <ℤ b → is_no_worse NewestFirst a b ≡ false
earlier a b l = grind (arith, ints)

module _ {P : Type 0} (answers : P → ObjectId → Bool → P → Type 0) where
  becomes_on : (old mid : P) (i : ObjectId) (b : Bool) → answers old i b mid → (new : P) → Becomes answers mid new → Becomes answers old new
  becomes_on old mid i b a new itself = further itself a
  becomes_on old mid i b a new (further {mid = m} h s) = further (becomes_on old mid i b a m h) s

  answers_on : (accepts : ObjectId → Bool) (old mid : P) (i : ObjectId) (b : Bool) → answers old i b mid → AnswersBy answers old accepts → AnswersBy answers mid accepts
  answers_on accepts old mid i b a by = λ m n j c h s. by m n j c (becomes_on old mid i b a m h) s

module _ {F P : Type 0} (objects : F → Objects) (faulty : F → ObjectId → Type 0) (answers : P → ObjectId → Bool → P → Type 0) (accepts : ObjectId → Bool) where
  -- no answer is a fault
  abbrev IsFaultless : List (Result Info Error) → Type 0
  IsFaultless list = (e : Error) → Contains list (Err e) → ⊥

  -- the next commit in the order that was asked for
  abbrev IsNext : Sorting → TopoPlan F → List ObjectId → ObjectId → Type 0
  IsNext s plan = IsNextBy s (time_of (objects plan.store)) (text_walked objects plan) (IsTextMember objects plan) plan.tips

  -- the ready ones are those made ready and not taken, in their order
  record Stacks (w : TopoWalk F P) (done : List ObjectId) : Type 0 where
    made : List ObjectId
    is_made : IsMadeReady (time_of (objects w.plan.store)) (text_walked objects w.plan) (IsTextMember objects w.plan) w.plan.tips (reverse done) made
    left : ready_ids w.ready ≡ filter (λ i. not (is_among i done)) made

  -- the invariant, where the rows agree
  record Stands (w : TopoWalk F P) (done : List ObjectId) : Type 0 where
    agrees : IsAgreeing (objects w.plan.store) w.plan.rows
    apart : AreApart w
    taken : (i : ObjectId) → set.contains w.taken i ≡ is_among i done
    ready : AreReady (text_walked objects w.plan) (IsTextMember objects w.plan) (Contains done) (ready_ids w.ready)
    stored : (r : Ready) → Contains w.ready r → IsStored objects w.plan w.counted.in_use r
    stacks : Stacks w done

  -- a commit is taken
  module _ (w : TopoWalk F P) (done : List ObjectId) (c : Ready) (counted : Counted) (ready : List Ready) (t : Takes objects faulty answers w c counted ready) (h : Stands w done) where
    c_in : Contains w.ready c
    c_in = chosen_in w.plan.sorting w.ready c t.others t.chosen

    c_ready : IsReady (text_walked objects w.plan) (IsTextMember objects w.plan) (Contains done) c.id
    c_ready = h.ready.each c.id (among_from c.id (ready_ids w.ready) (in_ids w.ready c c_in))

    alone : Contains (ready_ids t.others) c.id → ⊥
    alone = (chosen_once w.plan.sorting w.ready c t.others t.chosen h.apart.distinct).0

    among_now : (i : ObjectId) → is_among i (done ++ c.id ∷ []) ≡ (is_among i done || is_same i c.id)
    among_now i = among-append i done (c.id ∷ []) ∙ ap (λ b. is_among i done || b) (among-one i c.id)

    taken_now : (i : ObjectId) → set.contains (set.insert w.taken c.id) i ≡ is_among i (done ++ c.id ∷ [])
    taken_now i = set.contains-insert id_total w.taken c.id i ∙ or_comm (is_same i c.id) (set.contains w.taken i) ∙ ap (λ b. b || is_same i c.id) (h.taken i) ∙ sym (among_now i)

    became : (Taken : ObjectId → Type 0) → ((i : ObjectId) → Contains (done ++ c.id ∷ []) i → Taken i) → ((i : ObjectId) → Taken i → Contains (done ++ c.id ∷ []) i) →
        Keeps (IsReady (text_walked objects w.plan) (IsTextMember objects w.plan) Taken) (last_places (text_walked objects w.plan c.id)) (ready_ids t.added)
    became Taken to from =
        let f : (i : ObjectId) → IsTaken (set.insert w.taken c.id) i → Taken i = λ i e. to i (among_is i _ (sym (taken_now i) ∙ e)) in
        let g : (i : ObjectId) → Taken i → IsTaken (set.insert w.taken c.id) i = λ i e. taken_now i ∙ among_from i _ (from i e) in
        keeps_alike _ (IsReady (text_walked objects w.plan) (IsTextMember objects w.plan) Taken) (ready_alike (text_walked objects w.plan) (IsTextMember objects w.plan) (IsTaken (set.insert w.taken c.id)) Taken f g)
        (ready_alike (text_walked objects w.plan) (IsTextMember objects w.plan) Taken (IsTaken (set.insert w.taken c.id)) g f) (t.adds.became h.agrees)

    became_now : Keeps (IsReady (text_walked objects w.plan) (IsTextMember objects w.plan) (Contains (done ++ c.id ∷ []))) (last_places (text_walked objects w.plan c.id)) (ready_ids t.added)
    became_now = became (Contains (done ++ c.id ∷ [])) (λ i m. m) (λ i m. m)

    s : Stacks w done
    s = h.stacks

    k : Splits w.ready c t.others
    k = chosen_splits w.plan.sorting w.ready c t.others t.chosen

    left_is : filter (λ i. not (is_among i done)) s.made ≡ ready_ids k.before ++ c.id ∷ ready_ids k.behind
    left_is = sym s.left ∙ ap ready_ids k.place ∙ map-append (λ r. r.id) k.before (c ∷ k.behind)

    -- the last one of a stack
    last_next : w.plan.sorting ≡ order.TopoOrder → IsNext order.TopoOrder w.plan done c.id
    last_next o =
        let stack_is : filter (λ i. not (is_among i done)) s.made ≡ ready_ids t.others ++ c.id ∷ [] = sym s.left ∙ ap ready_ids (subst (λ x. Chooses x w.ready c t.others) o t.chosen) ∙ map-append (λ r. r.id) t.others (c ∷ []) in
        (s.made, s.is_made, first_found (λ i. not (is_among i done)) (reverse s.made) ∙ ap (λ ids. slice_get ids 0) (filter-reverse _ s.made ∙ ap reverse stack_is ∙ reverse-append (ready_ids t.others) (c.id ∷ [])))

    without : (xs ys : List ObjectId) → filter (λ i. not (is_same i c.id)) (xs ++ c.id ∷ ys) ≡ filter (λ i. not (is_same i c.id)) (xs ++ ys)
    without xs ys =
        filter-append (λ i. not (is_same i c.id)) xs (c.id ∷ ys)
        ∙ ap (λ b. filter (λ i. not (is_same i c.id)) xs ++ cond (not b) (c.id ∷ filter (λ i. not (is_same i c.id)) ys) (filter (λ i. not (is_same i c.id)) ys)) (same_itself c.id)
        ∙ sym (filter-append (λ i. not (is_same i c.id)) xs ys)

    others_left : ready_ids t.others ≡ filter (λ i. not (is_among i (done ++ c.id ∷ []))) s.made
    others_left =
        sym (filter_all (λ i. not (is_same i c.id)) (ready_ids t.others) (λ i m. not_from_false _ (false_from_ne_true _ (λ e. alone (subst (Contains (ready_ids t.others)) (same_is i c.id e) m)))))
        ∙ ap (λ rs. filter (λ i. not (is_same i c.id)) (ready_ids rs)) k.left
        ∙ ap (filter (λ i. not (is_same i c.id))) (map-append (λ r. r.id) k.before k.behind)
        ∙ sym (without (ready_ids k.before) (ready_ids k.behind))
        ∙ ap (filter (λ i. not (is_same i c.id))) (sym left_is)
        ∙ filter_twice (λ i. not (is_among i done)) (λ i. not (is_same i c.id)) s.made
        ∙ filter_agree (λ i. not (is_among i done) && not (is_same i c.id)) (λ i. not (is_among i (done ++ c.id ∷ []))) (λ i. both (is_among i done) (is_same i c.id) ∙ ap not (sym (among_now i))) s.made
      where
        both : (a b : Bool) → (not a && not b) ≡ not (a || b)
        both a b = grind arith

    stacks_on : (predicate : P) → Stacks (after objects faulty answers w c counted ready predicate) (done ++ c.id ∷ [])
    stacks_on predicate = record {
      made = s.made ++ ready_ids t.added;
      is_made = subst (λ taken. IsMadeReady (time_of (objects w.plan.store)) (text_walked objects w.plan) (IsTextMember objects w.plan) w.plan.tips taken (s.made ++ ready_ids t.added)) (sym (reverse-append done (c.id ∷ [])))
          (s.made, ready_ids t.added, s.is_made, became (Contains (c.id ∷ reverse done)) to from, refl);
      left = ap ready_ids t.holds ∙ map-append (λ r. r.id) t.others t.added ∙ (λ k. others_left k ++ added_left k) ∙ sym (filter-append (λ i. not (is_among i (done ++ c.id ∷ []))) s.made (ready_ids t.added));
    }
      where
        to : (i : ObjectId) → Contains (done ++ c.id ∷ []) i → Contains (c.id ∷ reverse done) i
        to i m = ⊎_elim (λ n. Contains-there i c.id (reverse done) (in_reverse i done n)) (λ e. subst (λ y. Contains (c.id ∷ reverse done) y) e (Contains-here c.id (reverse done))) (Contains-push_cases done c.id i m)

        from : (i : ObjectId) → Contains (c.id ∷ reverse done) i → Contains (done ++ c.id ∷ []) i
        from i m = ⊎_elim (λ e. subst (λ y. Contains (done ++ c.id ∷ []) y) e (Contains-push done c.id)) (λ n. Contains-append_left done (c.id ∷ []) i (reverse_in i done n)) (Contains-cons_cases i c.id (reverse done) m)

        added_left : ready_ids t.added ≡ filter (λ i. not (is_among i (done ++ c.id ∷ []))) (ready_ids t.added)
        added_left = sym (filter_all (λ i. not (is_among i (done ++ c.id ∷ []))) (ready_ids t.added) (λ i m. not_from_false _ (false_from_ne_true _ (λ e. (keeps_from _ became_now i m).1.left (among_is i _ e)))))

    -- by date the first of greatest time
    time_in : (q : Ready) → Contains w.ready q → q.time ≡ time_of (objects w.plan.store) q.id
    time_in q m = (h.stored q m).time

    abbrev as_late : ObjectId → Bool
    as_late j = is_no_worse NewestFirst (time_of (objects w.plan.store) j) (time_of (objects w.plan.store) c.id)

    best_next : w.plan.sorting ≡ order.DateOrder → IsNext order.DateOrder w.plan done c.id
    best_next o =
        let ch : TakesLatest w.ready c t.others = subst (λ x. Chooses x w.ready c t.others) o t.chosen in
        let here : c.time ≡ time_of (objects w.plan.store) c.id = time_in c c_in in (
          s.made,
          s.is_made,
          record {
            best = record {
              among = c_ready;
              best = λ other r.
                  let q : (q : Ready) × Contains w.ready q × (q.id ≡ other) = from_ids w.ready other (among_is other (ready_ids w.ready) (h.ready.all other r)) in
                  let there : q.0.time ≡ time_of (objects w.plan.store) other = time_in q.0 q.1 ∙ ap (time_of (objects w.plan.store)) q.2 in
                  let l : q.0.time ≤ℤ c.time = ch.best q.0 q.1 in
                  omega (arith, ints);
            };
            first =
                sym (find-filter as_late (λ j. not (is_among j done)) s.made)
                ∙ ap (find as_late) (sym s.left ∙ ap ready_ids ch.place ∙ map-append (λ r. r.id) ch.before (c ∷ ch.behind))
                ∙ find-behind as_late (ready_ids ch.before) (ready_ids ch.behind) c.id
                (λ j m.
                let q : (q : Ready) × Contains ch.before q × (q.id ≡ j) = from_ids ch.before j m in
                let there : q.0.time ≡ time_of (objects w.plan.store) j = time_in q.0 (subst (λ rs. Contains rs q.0) (sym ch.place) (Contains-append_left ch.before (c ∷ ch.behind) q.0 q.1)) ∙ ap (time_of (objects w.plan.store)) q.2 in
                let l : q.0.time <ℤ c.time = ch.first q.0 q.1 in
                earlier (time_of (objects w.plan.store) j) (time_of (objects w.plan.store) c.id) (omega (arith, ints))) (itself_is NewestFirst (time_of (objects w.plan.store) c.id));
          },
        )

    turn : (s : Sorting) → w.plan.sorting ≡ s → IsNext s w.plan done c.id
    turn order.DateOrder e = best_next e
    turn order.TopoOrder e = last_next e

    stands_on : (predicate : P) → Stands (after objects faulty answers w c counted ready predicate) (done ++ c.id ∷ [])
    stands_on predicate = record {
      agrees = h.agrees;
      apart = apart_on objects faulty answers w c counted ready predicate t h.apart;
      taken = taken_now;
      ready = takes_ready (text_walked objects w.plan) (IsTextMember objects w.plan) (Contains done) (Contains (done ++ c.id ∷ [])) c.id (ready_ids w.ready) (ready_ids t.others) (ready_ids t.added) (ready_ids ready)
          (record { before = λ i m. Contains-append_left done (c.id ∷ []) i m; now = Contains-push done c.id; either = λ i m. Contains-push_cases done c.id i m })
          h.ready (chosen_among w.plan.sorting w.ready c t.others t.chosen) alone became_now (held_among t.others t.added ready t.holds);
      stored = λ r m. ⊎_elim (λ o. let k = h.stored r o in record { parents = k.parents; time = k.time; by_row = k.by_row; told = λ e. k.told (t.adds.stands e) }) (λ a. t.adds.stored h.agrees r a) (ready_after objects faulty answers t r m);
      stacks = stacks_on predicate;
    }

  -- nothing is ready
  none_next : (w : TopoWalk F P) (done : List ObjectId) → Stands w done → w.ready ≡ [] → (s : Sorting) → w.plan.sorting ≡ s → (i : ObjectId) → IsNext s w.plan done i → ⊥
  none_next w done h e order.DateOrder o i n = false≢true (sym (ap (λ rs. is_among i (ready_ids rs)) e) ∙ h.ready.all i n.2.best.among)
  none_next w done h e order.TopoOrder o i n =
      let s : Stacks w done = h.stacks in
      let none : find (λ j. not (is_among j done)) (reverse s.made) ≡ None = first_found (λ j. not (is_among j done)) (reverse s.made) ∙ ap (λ ids. slice_get ids 0) (filter-reverse _ s.made ∙ ap reverse (sym s.left ∙ ap ready_ids e)) in
      let some : find (λ j. not (is_among j done)) (reverse s.made) ≡ Some i = subst (λ made. find (λ j. not (is_among j done)) (reverse made) ≡ Some i) (made_one (time_of (objects w.plan.store)) (text_walked objects w.plan) (IsTextMember objects w.plan) w.plan.tips (reverse done) n.0 s.made n.1 s.is_made) n.2 in
      let no : None ≡ Some i = sym none ∙ some in cc

  -- each commit is taken in its turn, and where nothing is ready nothing comes next
  abbrev GoesTo : TopoWalk F P → TopoPlan F → List ObjectId → Type 0
  GoesTo new plan ids = IsBeginningBy (IsNextByText objects plan) ids × (new.ready ≡ [] → (i : ObjectId) → IsNextByText objects plan ids i → ⊥)

  draws_turns : {w new : TopoWalk F P} {ids : List ObjectId} {list : List (Result Info Error)} → Draws objects faulty answers w ids list new → IsFaultless list → (done : List ObjectId) → Stands w done → IsBeginningBy (IsNextByText objects w.plan) done → GoesTo new w.plan (done ++ ids)
  draws_turns (rests {w = w}) ok done h b = subst (GoesTo w w.plan) (sym (append-nil done)) (b, λ e. none_next w done h e w.plan.sorting refl)
  draws_turns {new = new} (shows {w = w} {c = c} {counted = counted} {ready = ready} {q = q} {info = info} {ids = ids} {list = list} t a is d) ok done h b =
      subst (GoesTo new w.plan) (append_assoc done (c.id ∷ []) ids)
      (draws_turns d (λ x m. ok x (Contains-there (Err x) (Ok info) list m)) (done ++ c.id ∷ []) (stands_on w done c counted ready t h q) (begins_more (IsNextByText objects w.plan) done c.id b (turn w done c counted ready t h w.plan.sorting refl)))
  draws_turns {new = new} (hides {w = w} {c = c} {counted = counted} {ready = ready} {q = q} {ids = ids} t a d) ok done h b =
      subst (GoesTo new w.plan) (append_assoc done (c.id ∷ []) ids)
      (draws_turns d ok (done ++ c.id ∷ []) (stands_on w done c counted ready t h q) (begins_more (IsNextByText objects w.plan) done c.id b (turn w done c counted ready t h w.plan.sorting refl)))
  draws_turns (breaks c others {e = x} ch f l) ok done h b = absurd (ok x (Contains-here (Err x) []))

  begins_order : {w new : TopoWalk F P} {ids : List ObjectId} {list : List (Result Info Error)} → Draws objects faulty answers w ids list new → IsFaultless list → Stands w [] → IsBeginningBy (IsNextByText objects w.plan) ids
  begins_order d ok h = (draws_turns d ok [] h (begins_empty _)).0

  in_order : {w new : TopoWalk F P} {ids : List ObjectId} {list : List (Result Info Error)} → Draws objects faulty answers w ids list new → IsFaultless list → new.ready ≡ [] → Stands w [] → IsListBy (IsNextByText objects w.plan) ids
  in_order d ok e h = record { begins = begins_order d ok h; ends = (draws_turns d ok [] h (begins_empty _)).1 e }

  -- what is given: each answer is G of its commit
  module _ (G : Result Info Error → ObjectId → Type 0) where
    draws_given : {w new : TopoWalk F P} {ids : List ObjectId} {list : List (Result Info Error)} → Draws objects faulty answers w ids list new → AnswersBy answers w.predicate accepts → IsFaultless list → (done : List ObjectId) → Stands w done →
        ((info : Info) (i : ObjectId) → IsTextMember objects w.plan i → IsTextInfo objects w.plan info i → G (Ok info) i) → AllZip G list (filter accepts ids)
    draws_given rests by ok done h says = tt
    draws_given (shows {w = w} {c = c} {counted = counted} {ready = ready} {q = q} {info = info} {ids = ids} {list = list} t a is d) by ok done h says =
        let r : IsStored objects w.plan w.counted.in_use c = h.stored c (c_in w done c counted ready t h) in
        subst (λ b. AllZip G (Ok info ∷ list) (cond b (c.id ∷ filter accepts ids) (filter accepts ids))) (by w.predicate q c.id true itself a) (
          says info c.id (c_ready w done c counted ready t h).member (record { generation = c.generation; by_row = r.by_row; info_is = record { same_id = is.same_id; same_parents = is.same_parents ∙ r.parents; same_generation = is.same_generation; same_time = is.same_time ∙ ap Some r.time } }),
          draws_given d (answers_on answers accepts w.predicate q c.id true a by) (λ x m. ok x (Contains-there (Err x) (Ok info) list m)) (done ++ c.id ∷ []) (stands_on w done c counted ready t h q) says,
        )
    draws_given (hides {w = w} {c = c} {counted = counted} {ready = ready} {q = q} {ids = ids} {list = list} t a d) by ok done h says =
        subst (λ b. AllZip G list (cond b (c.id ∷ filter accepts ids) (filter accepts ids))) (by w.predicate q c.id false itself a) (draws_given d (answers_on answers accepts w.predicate q c.id false a by) ok (done ++ c.id ∷ []) (stands_on w done c counted ready t h q) says)
    draws_given (breaks c others {e = x} ch f l) by ok done h says = absurd (ok x (Contains-here (Err x) []))

  -- a walk that was built
  starts_stands : (w : TopoWalk F P) → IsAgreeing (objects w.plan.store) w.plan.rows → IsStarted objects faulty answers w → Stands w []
  starts_stands w agrees h =
      let st : StartsWith objects faulty answers w.plan w.ready = h.starts agrees in
      record {
        agrees = agrees;
        apart = started_apart objects faulty answers w h;
        taken = λ i. ap (λ s. set.contains s i) h.untaken ∙ set.contains-empty id_cmp i;
        ready = starts_ready (text_walked objects w.plan) (IsTextMember objects w.plan) (Contains []) w.plan.tips st.childless (ready_ids w.ready) (λ i c. no_member i c)
            (in_walk_top (text_walked objects w.plan) (text_next (objects w.plan.store)) w.plan.tips w.plan.ends (λ c i n. walked_within w.plan.parents _ i n)) st.kept
            (λ i. among_by i (ready_ids w.ready) (ready_ids st.starts) (holds_times st.starts w.ready st.holds i) ∙ ap (is_among i) st.sorted ∙ among-by_time (time_of (objects w.plan.store)) i st.childless);
        stored = h.stored agrees;
        stacks = record {
          made = ready_ids st.starts;
          is_made = (st.childless, st.kept, st.sorted);
          left = ap ready_ids st.holds ∙ sym (filter_all (λ i. not false) (ready_ids st.starts) (λ i c. refl));
        };
      }

  -- a whole run without a fault
  pub gives_text : (w : TopoWalk F P) (list : List (Result Info Error)) → AnswersBy answers w.predicate accepts → IsStarted objects faulty answers w → IsAgreeing (objects w.plan.store) w.plan.rows → IsFaultless list → Drains (Next objects faulty answers) w list → GivesTextOrder objects w.plan accepts list
  gives_text w list by st agrees ok drains =
      let d = drained objects faulty answers list w drains in
      record { ids = d.0; in_order = in_order d.2 ok d.3 (starts_stands w agrees st); given = draws_given (IsTextGiven objects w.plan) d.2 by ok [] (starts_stands w agrees st) (λ info i m k. k) }

  -- a beginning of one
  pub begins_text : (w new : TopoWalk F P) (list : List (Result Info Error)) → AnswersBy answers w.predicate accepts → IsStarted objects faulty answers w → IsAgreeing (objects w.plan.store) w.plan.rows → IsFaultless list → Yields (Next objects faulty answers) w list new → BeginsTextOrder objects w.plan accepts list
  begins_text w new list by st agrees ok yields =
      let d = all_drawn objects faulty answers list w new yields in
      record { ids = d.0; begins = begins_order d.1 ok (starts_stands w agrees st); given = draws_given (IsTextGiven objects w.plan) d.1 by ok [] (starts_stands w agrees st) (λ info i m k. k) }

  -- over a sound history no fault comes, where neither memory nor the store fails
  sound_fault : (plan : TopoPlan F) (Q : ObjectId → Type 0) (e : Error) → IsSound objects faulty plan → IsFault objects faulty plan Q e → (e ≡ error.Memory) ⊎ (e ≡ error.Find existing.Store)
  sound_fault plan Q error.MissingIndegreeUnexpected s f = absurd (f s.agreeing)
  sound_fault plan Q error.MissingStateUnexpected s f = absurd f
  sound_fault plan Q (error.Find e) s f = inr (f.2.store_fails s)
  sound_fault plan Q (error.ObjectDecode e) s f = inr (f.2.store_fails s)
  sound_fault plan Q error.Memory s f = inl refl

  draws_faultless : {w new : TopoWalk F P} {ids : List ObjectId} {list : List (Result Info Error)} → Draws objects faulty answers w ids list new → IsSound objects faulty w.plan → All IsNoRefusal list → IsFaultless list
  draws_faultless rests s ok = λ e m. no_member (Err e) m
  draws_faultless (shows {info = info} {list = list} t a is d) s ok = λ e m. ⊎_elim (λ k. cc) (draws_faultless d s (All-tail IsNoRefusal (Ok info) list ok) e) (Contains-cons_cases (Err e) (Ok info) list m)
  draws_faultless (hides t a d) s ok = draws_faultless d s ok
  draws_faultless (breaks {w = w} c others {e = x} ch f l) s ok =
      let n : IsNoRefusal (Err x) = All-head IsNoRefusal (Err x) [] ok in
      λ e m. absurd (⊎_elim (λ k. n.0 (ap Err k)) (λ k. n.1 (ap Err k)) (sound_fault w.plan _ x s f))

  module _ (plan : TopoPlan F) (s : IsSound objects faulty plan) where
    -- there, a commit is given as the store says
    whole_info : (info : Info) (i : ObjectId) → IsTextMember objects plan i → IsTextInfo objects plan info i → IsCommitInfo objects plan info i
    whole_info info i m k = record { generation = k.generation; by_row = k.by_row; info_is = record { same_id = k.info_is.same_id; same_parents = k.info_is.same_parents ∙ sym (member_names objects faulty plan s i m); same_generation = k.info_is.same_generation; same_time = k.info_is.same_time } }

    -- and taken in the store's order
    whole_order : (ids : List ObjectId) → IsListBy (IsNextByText objects plan) ids → IsListBy (IsNextTaken objects plan) ids
    whole_order ids o =
        list_to (time_of (objects plan.store)) (text_walked objects plan) (walked_of objects plan) (IsTextMember objects plan) (IsMember objects plan) (text_member objects faulty plan s) (member_text objects faulty plan s) (member_walks objects faulty plan s) plan.tips ids
        (each_by (objects plan.store) (text_next (objects plan.store)) (λ c i n. n) plan.parents (time_of (objects plan.store)) plan.tips plan.ends ids plan.sorting o).1 plan.sorting o

    whole_beginning : (ids : List ObjectId) → IsBeginningBy (IsNextByText objects plan) ids → IsBeginningBy (IsNextTaken objects plan) ids
    whole_beginning ids o =
        begins_to (time_of (objects plan.store)) (text_walked objects plan) (walked_of objects plan) (IsTextMember objects plan) (IsMember objects plan) (text_member objects faulty plan s) (member_text objects faulty plan s) (member_walks objects faulty plan s) plan.tips ids
        (first_by (objects plan.store) (text_next (objects plan.store)) (λ c i n. n) plan.parents (time_of (objects plan.store)) plan.tips plan.ends ids plan.sorting o).1 plan.sorting o

  -- a whole run
  pub gives : (w : TopoWalk F P) (list : List (Result Info Error)) → IsWholeRun objects faulty answers w accepts list → GivesInOrder objects w.plan accepts list
  gives w list run =
      let s : IsSound objects faulty w.plan = run.sound in
      let d = drained objects faulty answers list w run.drawn in
      let ok : IsFaultless list = draws_faultless d.2 s run.unrefused in
      let st : Stands w [] = starts_stands w s.agreeing run.started in
      record { ids = d.0; in_order = whole_order w.plan s d.0 (in_order d.2 ok d.3 st); given = draws_given (IsGiven objects w.plan) d.2 run.by_test ok [] st (whole_info w.plan s) }

  pub run_faultless : (w : TopoWalk F P) (list : List (Result Info Error)) → IsWholeRun objects faulty answers w accepts list → IsFaultless list
  run_faultless w list run = draws_faultless (drained objects faulty answers list w run.drawn).2 run.sound run.unrefused

  -- a beginning of a run
  pub begins : (w new : TopoWalk F P) (list : List (Result Info Error)) → AnswersBy answers w.predicate accepts → IsStarted objects faulty answers w → IsSound objects faulty w.plan → All IsNoRefusal list → Yields (Next objects faulty answers) w list new → BeginsInOrder objects w.plan accepts list
  begins w new list by started s un yields =
      let d = all_drawn objects faulty answers list w new yields in
      let ok : IsFaultless list = draws_faultless d.1 s un in
      let st : Stands w [] = starts_stands w s.agreeing started in
      record { ids = d.0; begins = whole_beginning w.plan s d.0 (begins_order d.1 ok st); given = draws_given (IsGiven objects w.plan) d.1 by ok [] st (whole_info w.plan s) }
