-- What a loop of `breadthfirst` keeps, and what each of its steps leaves of that. A state knows ids and no names.
use Rattle.std.proofs.Common.{◌≡◌, ◌≢◌, ℕ, List, [], ◌∷◌, ◌++◌, map, Some, Result, Ok, Err, refl, sym, ap, ◌∙◌, subst, append_assoc, append-nil}
use Rattle.std.proofs.lemmas.List.{map-append}
use Rattle.std.specs.FinMap.{get}
use Rattle.gix_tree.proofs.Common.{ObjectId, is_among, kind_of, Objects, TreeEntry, is_tree, tree_items, Error, Action, Call, PopFront, Run, RefusedIn, Items, Place, Visit, visit, inside, Outcome, Leaves, Enters, Cycles, Breaks}
use Rattle.gix_tree.proofs.Common.{outcome_of, outcome, Ending, Whole, Task, Turn, shows, unknown_root, items_or_none, level_calls, LevelQueue, Waiting, ShowsEntry, ShowsTree, visit_below, error_of_find, items_of_object, trees_of}
use Rattle.gix_tree.proofs.Common.{LookUpFails, level_answer, BreadthFirst}
use Rattle.gix_object.specs.declared.find.existing_iter.Error.{Error as ExistingError}
use Rattle.gix_object.specs.declared.find.existing_iter.Error.TheVariants as existing
use Rattle.gix_object.specs.declared.Kind.TheVariants as kind
use Rattle.gix_tree.specs.Script as script
use Rattle.gix_tree.specs.Inside.ShowsEntry as round
use Rattle.gix_tree.proofs.Places.{first_seen, none_seen}
use Rattle.gix_tree.proofs.SoFar.{look_up_failed, Ended, SoFar, at_start, further, ends}
use Rattle.gix_tree.proofs.Levels.Queue.{LevelFrom}
use Rattle.gix_tree.proofs.Levels.Script.{level_script}

abbrev waiting_of : Place × ObjectId → Waiting
waiting_of w = (w.1, w.0.ids)

module _ {V : Type 0} (objects : Objects) (faulty : ObjectId → Type 0) (steps : V → Call → V → Type 0) (root : Items) (old : V) where
  waiting_tasks : List (Place × ObjectId) → List Task
  waiting_tasks [] = []
  waiting_tasks (w ∷ ws) = Turn w.0 w.1 ∷ (shows w.0 (items_or_none (trees_of objects w.1)) ++ waiting_tasks ws)

  waiting_more : (ws : List (Place × ObjectId)) (w : Place × ObjectId) → waiting_tasks (ws ++ w ∷ []) ≡ waiting_tasks ws ++ Turn w.0 w.1 ∷ shows w.0 (items_or_none (trees_of objects w.1))
  unfolding waiting_tasks
  waiting_more [] w = ap (λ l. Turn w.0 w.1 ∷ l) (append-nil (shows w.0 (items_or_none (trees_of objects w.1))))
  waiting_more (v ∷ ws) w =
      ap (λ l. Turn v.0 v.1 ∷ (shows v.0 (items_or_none (trees_of objects v.1)) ++ l)) (waiting_more ws w)
      ∙ ap (λ l. Turn v.0 v.1 ∷ l) (sym (append_assoc (shows v.0 (items_or_none (trees_of objects v.1))) (waiting_tasks ws) (Turn w.0 w.1 ∷ shows w.0 (items_or_none (trees_of objects w.1)))))

  abbrev Walk : List Task → List Call → List Visit → Ending → Type 0
  Walk tasks calls visits end = LevelFrom (trees_of objects) (LookUpFails objects faulty) tasks calls visits end

  -- The delegate was called as a walk by levels says, which goes on with these items of a tree below these known ids, and
  -- then with the trees that wait.
  pub record LevelSoFar (now : V) (ids : List ObjectId) (items : Items) (waiting : List Waiting) : Type 0 where
    place : Place
    places : List (Place × ObjectId)
    known : place.ids ≡ ids
    same : map waiting_of places ≡ waiting
    so_far : SoFar steps old (Walk (shows unknown_root root)) (Walk (shows place items ++ waiting_tasks places)) now

  pub so_far_start : LevelSoFar old [] root []
  unfolding waiting_tasks
  so_far_start = record {
    place = unknown_root;
    places = [];
    known = refl;
    same = refl;
    so_far = at_start steps old _ (λ more rest end walk. rw (append-nil (shows unknown_root root)) at walk);
  }

  level_ended : {now : V} {end : Ending} → Ended steps old (Walk (shows unknown_root root)) now end → BreadthFirst objects faulty steps root old now (level_answer end)
  level_ended {end = end} h = record {
    calls = h.calls;
    visits = h.visits;
    end = end;
    script = level_script (trees_of objects) (LookUpFails objects faulty) unknown_root root h.script;
    run = h.run;
    answered = refl;
  }

  module _ {mid : V} {ids : List ObjectId} {items : Items} {waiting : List Waiting} where
    outcome_here : (h : LevelSoFar mid ids items waiting) (e : TreeEntry) (a : Action) (o : Outcome) → outcome (visit_below ids e a) ≡ o → outcome (visit h.place e a) ≡ o
    outcome_here h e a o is = subst (λ l. outcome_of (is_tree e.mode) a (is_among e.id l) ≡ o) (sym h.known) is

    run_here : (h : LevelSoFar mid ids items waiting) (e : TreeEntry) (a : Action) (now : V) → Run steps mid (level_calls (visit_below ids e a)) now → Run steps mid (level_calls (visit h.place e a)) now
    run_here h e a now run = subst (λ l. Run steps mid (level_calls (visit_below l e a)) now) (sym h.known) run

    -- a walk that ends so has come to its end
    ended : {now : V} (h : LevelSoFar mid ids items waiting) {more : List Call} {rest : List Visit} {end : Ending} → Walk (shows h.place items ++ waiting_tasks h.places) more rest end
        → Run steps mid more now
        → BreadthFirst objects faulty steps root old now (level_answer end)
    ended h walk run = level_ended (ends steps old _ h.so_far walk run)

  -- an entry that the walk doesn't go into
  so_far_leaves : {mid now : V} {ids : List ObjectId} {items : Items} {waiting : List Waiting} (e : TreeEntry) (a : Action) → LevelSoFar mid ids (Ok e ∷ items) waiting
      → outcome (visit_below ids e a) ≡ Leaves → Run steps mid (level_calls (visit_below ids e a)) now → LevelSoFar now ids items waiting
  so_far_leaves {items = items} e a h o run =
      let leaves : outcome (visit h.place e a) ≡ Leaves = outcome_here h e a Leaves o in
      record {
        place = h.place;
        places = h.places;
        known = h.known;
        same = h.same;
        so_far = further steps old _ (level_calls (visit h.place e a)) (visit h.place e a ∷ []) h.so_far (run_here h e a _ run)
            (λ more rest end walk. script.leaves refl leaves (rw (leaves, append-nil (shows h.place items ++ waiting_tasks h.places)) walk));
      }

  -- a tree that the walk will go into
  so_far_enters : {mid now : V} {ids : List ObjectId} {items : Items} {waiting : List Waiting} (e : TreeEntry) (a : Action) → LevelSoFar mid ids (Ok e ∷ items) waiting
      → outcome (visit_below ids e a) ≡ Enters → Run steps mid (level_calls (visit_below ids e a)) now
      → LevelSoFar now ids items (waiting ++ (e.id, e.id ∷ ids) ∷ [])
  so_far_enters {ids = ids} {items = items} e a h o run =
      let enters : outcome (visit h.place e a) ≡ Enters = outcome_here h e a Enters o in
      let w : Place × ObjectId = (inside h.place e, e.id) in
      let tasks : (shows h.place items ++ waiting_tasks h.places) ++ Turn (inside h.place e) e.id ∷ shows (inside h.place e) (items_or_none (trees_of objects e.id)) ≡ shows h.place items ++ waiting_tasks (h.places ++ w ∷ []) =
      append_assoc (shows h.place items) (waiting_tasks h.places) _ ∙ ap (λ l. shows h.place items ++ l) (sym (waiting_more h.places w)) in
      record {
        place = h.place;
        places = h.places ++ w ∷ [];
        known = h.known;
        same = map-append waiting_of h.places (w ∷ []) ∙ (λ i. h.same i ++ (e.id, e.id ∷ h.known i) ∷ []);
        so_far = further steps old _ (level_calls (visit h.place e a)) (visit h.place e a ∷ []) h.so_far (run_here h e a _ run)
            (λ more rest end walk. script.enters refl enters (rw enters (rw tasks walk)));
      }

  pub so_far_whole : (now : V) {ids : List ObjectId} → LevelSoFar now ids [] [] → BreadthFirst objects faulty steps root old now (Ok tt)
  unfolding waiting_tasks
  so_far_whole now h = ended h (subst (λ l. Walk (waiting_tasks l) [] [] Whole) (sym (none_seen waiting_of h.places h.same)) (script.whole refl)) refl

  -- THE TURN OF A TREE

  -- the tree that has waited longest is next
  record AtTurn (now : V) (i : ObjectId) (below : List ObjectId) (rest : List Waiting) : Type 0 where
    place : Place
    others : List (Place × ObjectId)
    known : place.ids ≡ below
    same : map waiting_of others ≡ rest
    so_far : SoFar steps old (Walk (shows unknown_root root)) (Walk (Turn place i ∷ (shows place (items_or_none (trees_of objects i)) ++ waiting_tasks others))) now

  at_turn : {now : V} {ids below : List ObjectId} {waiting rest : List Waiting} (i : ObjectId) → LevelSoFar now ids [] waiting → waiting ≡ (i, below) ∷ rest → AtTurn now i below rest
  unfolding waiting_tasks
  at_turn {now} {below = below} {rest = rest} i h first =
      let f = first_seen waiting_of (λ y. y.1) (λ y. y.0) (λ t. refl) (λ t. refl) h.places (i, below) rest (h.same ∙ first) in
      record { place = f.place; others = f.others; known = f.known; same = f.same; so_far = subst (λ l. SoFar steps old (Walk (shows unknown_root root)) (Walk (waiting_tasks l)) now) f.is h.so_far }

  pub so_far_found : (mid now : V) {ids below : List ObjectId} {waiting rest : List Waiting} (i : ObjectId) (held : List ℕ) → LevelSoFar mid ids [] waiting → waiting ≡ (i, below) ∷ rest
      → steps mid PopFront now
      → get objects i ≡ Some (record { kind = kind.Tree; bytes = held }) → LevelSoFar now below (tree_items (kind_of i) held) rest
  so_far_found mid now i held h first step found =
      let t = at_turn i h first in
      let is : trees_of objects i ≡ Some (tree_items (kind_of i) held) = ap (λ o. items_of_object i o) found in
      let tasks : List Task = shows t.place (items_or_none (trees_of objects i)) ++ waiting_tasks t.others in
      record {
        place = t.place;
        places = t.others;
        known = t.known;
        same = t.same;
        so_far = further steps old _ (PopFront ∷ []) [] t.so_far (now, step, refl)
            (λ more rest end walk. script.turn refl is (rw (append-nil tasks) (subst (λ l. Walk (shows t.place (items_or_none l) ++ waiting_tasks t.others) more rest end) (sym is) walk)));
      }

  pub so_far_look_up_fails : (mid now : V) {ids below : List ObjectId} {waiting rest : List Waiting} (i : ObjectId) (why : ExistingError) → LevelSoFar mid ids [] waiting
      → waiting ≡ (i, below) ∷ rest → steps mid PopFront now
      → (why ≢ existing.Memory → LookUpFails objects faulty i why) → BreadthFirst objects faulty steps root old now (Err (error_of_find why))
  so_far_look_up_fails mid now i why h first step failed =
      let t = at_turn i h first in
      look_up_failed (λ x. BreadthFirst objects faulty steps root old now (Err x)) (LookUpFails objects faulty i)
      (level_ended (ends steps old _ t.so_far (script.no_memory_in_turn refl) (now, step, refl)))
      (λ x fails. level_ended (ends steps old _ t.so_far (script.not_found refl fails) (now, step, refl))) why failed

  -- ONE TREE

  -- what showing entries leaves: the walk goes on with these items and the trees that wait, or it has come to its end
  abbrev pub Shown : V → LevelQueue → Items → Result (Unit {0}) Error → Type 0
  Shown now left items (Ok done) = LevelSoFar now left.known items left.waiting
  Shown now left items (Err why) = BreadthFirst objects faulty steps root old now (Err why)

  entry_shown : (mid now : V) {e : TreeEntry} {items : Items} {queue left : LevelQueue} {answer : Result (Unit {0}) Error} → LevelSoFar mid queue.known (Ok e ∷ items) queue.waiting
      → ShowsEntry steps e mid queue now left answer
      → Shown now left items answer
  entry_shown mid now {e = e} h (round.left a o run) = so_far_leaves e a h o run
  entry_shown mid now {e = e} h (round.entered a o run) = so_far_enters e a h o run
  entry_shown mid now {e = e} h (round.broke a o run) = ended h (script.breaks refl (outcome_here h e a Breaks o)) (run_here h e a _ run)
  entry_shown mid now {e = e} h (round.cycled a o run) = ended h (script.cycles refl (outcome_here h e a Cycles o)) (run_here h e a _ run)
  entry_shown mid now {e = e} h (round.no_memory a o run) = ended h (script.no_memory_for_descent a refl (outcome_here h e a Enters o)) run
  entry_shown mid now {e = e} h (round.refused {made = made} a refused run) = ended h (script.refused a refl (subst (λ l. RefusedIn (level_calls (visit_below l e a)) made) (sym h.known) refused)) run

  pub so_far_shown : (mid now : V) {items : Items} {queue left : LevelQueue} {answer : Result (Unit {0}) Error} → LevelSoFar mid queue.known items queue.waiting
      → ShowsTree steps items mid queue now left answer → Shown now left [] answer
  so_far_shown mid now h round.whole = h
  so_far_shown mid now h (round.fault {why = why}) = ended h (script.fault refl) refl
  so_far_shown mid now h (round.ends shows) = entry_shown mid now h shows
  so_far_shown mid now h (round.goes_on {mid = low} shows rest) = so_far_shown low now (entry_shown mid low h shows) rest
