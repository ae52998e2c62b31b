-- What a loop of `depthfirst` keeps, and what each of its steps leaves of that. A state knows ids and no names.
use Rattle.std.proofs.Common.{◌≡◌, ◌≢◌, List, [], ◌∷◌, ◌++◌, map, drop, Some, Result, Ok, Err, refl, sym, ap, ◌∙◌, subst, append_assoc}
use Rattle.gix_tree.proofs.Common.{ObjectId, is_among, kind_of, Objects, TreeEntry, is_tree, tree_items, Error, Action, Call, PopBack, Run, RefusedIn, Items, Place, Visit, visit, inside, Outcome, Leaves, Enters, Cycles, Breaks}
use Rattle.gix_tree.proofs.Common.{outcome_of, outcome, Ending, Whole, known_root, depth_calls, DepthScript, IsDepthScript, visit_below, Stop, ShowsUpTo, error_of_find, FoundTree, items_at, items_of_object, trees_of, LookUpFails}
use Rattle.gix_tree.proofs.Common.{depth_answer, DepthFirst}
use Rattle.gix_object.specs.declared.find.existing_iter.Error.{Error as ExistingError}
use Rattle.gix_object.specs.declared.find.existing_iter.Error.TheVariants as existing
use Rattle.gix_tree.specs.declared.breadthfirst.Error.TheVariants as error
use Rattle.gix_tree.specs.Script as script
use Rattle.gix_tree.specs.declared.depthfirst.Stop.TheVariants as stop
use Rattle.gix_tree.specs.declared.depthfirst.Tree.{Tree}
use Rattle.gix_tree.specs.Inside.ShowsBelow as below
use Rattle.gix_tree.proofs.Places.{first_seen, none_seen}
use Rattle.gix_tree.proofs.Depth.Stack.{Above}
use Rattle.gix_tree.proofs.Depth.Script.{DepthFrom, outermost, resumes, depth_leaves, depth_enters, depth_ends}
use Rattle.gix_tree.proofs.SoFar.{run_more, look_up_failed, Ended, SoFar, at_start, further, ends}

abbrev above_of : Place × Items → Above
above_of f = (f.0.ids, f.1)

module _ {V : Type 0} (objects : Objects) (faulty : ObjectId → Type 0) (steps : V → Call → V → Type 0) (root : ObjectId) (old : V) where
  abbrev From : Place → Items → List (Place × Items) → List Call → List Visit → Ending → Type 0
  From p items above calls visits end = DepthFrom (trees_of objects) (LookUpFails objects faulty) p items above calls visits end

  abbrev InTree : Place → Items → List Call → List Visit → Ending → Type 0
  InTree p items calls visits end = DepthScript (trees_of objects) (LookUpFails objects faulty) p items calls visits end

  abbrev All : List Call → List Visit → Ending → Type 0
  All calls visits end = IsDepthScript (trees_of objects) (LookUpFails objects faulty) root calls visits end

  -- The delegate was called as a walk in depth says, which goes on with these items of a tree below these known ids, and
  -- then with what is left of the trees above it.
  pub record DepthSoFar (now : V) (ids : List ObjectId) (items : Items) (above : List Above) : Type 0 where
    place : Place
    frames : List (Place × Items)
    known : place.ids ≡ ids
    same : map above_of frames ≡ above
    so_far : SoFar steps old All (From place items frames) now

  -- the root is found
  pub so_far_start : (now : V) (items : Items) → trees_of objects root ≡ Some items → steps old PopBack now → DepthSoFar now (root ∷ []) items []
  so_far_start now items found step = record {
    place = known_root root;
    frames = [];
    known = refl;
    same = refl;
    so_far = further steps old All (PopBack ∷ []) [] (at_start steps old All {Rest = All} (λ more rest end walk. walk)) (now, step, refl) (λ more rest end walk. script.found found (inner walk));
  }
    where
      inner : {more : List Call} {rest : List Visit} {end : Ending} → From (known_root root) items [] more rest end → InTree (known_root root) items more rest end
      inner (outermost walk) = walk

  depth_ended : {now : V} {end : Ending} → Ended steps old All now end → DepthFirst objects faulty steps root old now (depth_answer end)
  depth_ended {end = end} h = record { calls = h.calls; visits = h.visits; end = end; script = h.script; run = h.run; answered = refl }

  module _ {mid : V} {ids : List ObjectId} {items : Items} {above : List Above} where
    outcome_here : (h : DepthSoFar mid ids items above) (e : TreeEntry) (a : Action) (o : Outcome) → outcome (visit_below ids e a) ≡ o → outcome (visit h.place e a) ≡ o
    outcome_here h e a o is = subst (λ l. outcome_of (is_tree e.mode) a (is_among e.id l) ≡ o) (sym h.known) is

    run_here : (h : DepthSoFar mid ids items above) (e : TreeEntry) (a : Action) (now : V) → Run steps mid (depth_calls (visit_below ids e a)) now → Run steps mid (depth_calls (visit h.place e a)) now
    run_here h e a now run = subst (λ l. Run steps mid (depth_calls (visit_below l e a)) now) (sym h.known) run

    -- a walk that ends so in its tree has come to its end
    ended : {now : V} (h : DepthSoFar mid ids items above) {more : List Call} {rest : List Visit} {end : Ending} → end ≢ Whole → InTree h.place items more rest end → Run steps mid more now
        → DepthFirst objects faulty steps root old now (depth_answer end)
    ended h ne walk run = depth_ended (ends steps old All h.so_far (depth_ends (trees_of objects) (LookUpFails objects faulty) ne walk) run)

  -- an entry that the walk doesn't go into
  so_far_leaves : {mid now : V} {ids : List ObjectId} {items : Items} {above : List Above} (e : TreeEntry) (a : Action) → DepthSoFar mid ids (Ok e ∷ items) above
      → outcome (visit_below ids e a) ≡ Leaves → Run steps mid (depth_calls (visit_below ids e a)) now → DepthSoFar now ids items above
  so_far_leaves e a h o run = record {
    place = h.place;
    frames = h.frames;
    known = h.known;
    same = h.same;
    so_far = further steps old All (depth_calls (visit h.place e a)) (visit h.place e a ∷ []) h.so_far (run_here h e a _ run)
        (λ more rest end walk. depth_leaves (trees_of objects) (LookUpFails objects faulty) (outcome_here h e a Leaves o) walk);
  }

  -- a tree's end, and the walk goes on above it
  pub so_far_resumes : (mid now : V) {ids below : List ObjectId} {items : Items} {above : List Above} → DepthSoFar mid ids [] ((below, items) ∷ above) → steps mid PopBack now → DepthSoFar now below items above
  so_far_resumes mid now {below = below} {items = items} {above = above} h step =
      let f = first_seen above_of (λ y. y.0) (λ y. y.1) (λ t. refl) (λ t. refl) h.frames (below, items) above h.same in
      record {
        place = f.place;
        frames = f.others;
        known = f.known;
        same = f.same;
        so_far = further steps old All (PopBack ∷ []) [] h.so_far (now, step, refl)
            (λ more rest end walk. subst (λ l. From h.place [] l (PopBack ∷ more) rest end) (sym f.is) (resumes script.whole walk));
      }

  pub so_far_whole : (now : V) {ids : List ObjectId} → DepthSoFar now ids [] [] → DepthFirst objects faulty steps root old now (Ok tt)
  so_far_whole now h = depth_ended (ends steps old All h.so_far (subst (λ l. From h.place [] l [] [] Whole) (sym (none_seen above_of h.frames h.same)) (outermost script.whole)) refl)

  pub root_fails : (why : ExistingError) → (why ≢ existing.Memory → LookUpFails objects faulty root why) → DepthFirst objects faulty steps root old old (Err (error_of_find why))
  root_fails why failed =
      look_up_failed (λ x. DepthFirst objects faulty steps root old old (Err x)) (LookUpFails objects faulty root)
      (depth_ended (record { calls = []; visits = []; script = script.no_memory; run = refl }))
      (λ x fails. depth_ended (record { calls = []; visits = []; script = script.not_found fails; run = refl })) why failed

  -- WHERE A TREE IS LEFT

  -- the walk goes into the tree of this id, and has these items left behind its entry
  pub record GoesInto (now : V) (ids : List ObjectId) (above : List Above) (i : ObjectId) (left : Items) : Type 0 where
    mid : V
    entry : TreeEntry
    answer : Action
    so_far : DepthSoFar mid ids (Ok entry ∷ left) above
    enters : outcome (visit_below ids entry answer) ≡ Enters
    run : Run steps mid (depth_calls (visit_below ids entry answer)) now
    same : entry.id ≡ i

  abbrev pub Shown : V → List ObjectId → List Above → Result Stop Error → Items → Type 0
  Shown now ids above (Ok stop.End) left = DepthSoFar now ids [] above
  Shown now ids above (Ok stop.Broken) left = DepthFirst objects faulty steps root old now (Ok tt)
  Shown now ids above (Ok (stop.Into i)) left = GoesInto now ids above i left
  Shown now ids above (Err why) left = DepthFirst objects faulty steps root old now (Err why)

  pub so_far_shown : {ids : List ObjectId} (mid now : V) {items left : Items} {above : List Above} {answer : Result Stop Error} → DepthSoFar mid ids items above → ShowsUpTo steps ids items mid now answer left → Shown now ids above answer left
  so_far_shown mid now h below.whole = h
  so_far_shown mid now h (below.fault {why = why}) = ended h (λ x. cc) script.fault refl
  so_far_shown mid now h (below.ends {e = e} (below.cycled a o run)) = ended h (λ x. cc) (script.cycles (outcome_here h e a Cycles o)) (run_here h e a _ run)
  so_far_shown mid now h (below.ends {e = e} (below.no_memory a o run)) = ended h (λ x. cc) (script.no_memory_for_descent a (outcome_here h e a Enters o)) run
  so_far_shown mid now h (below.ends {e = e} (below.refused {made = made} a refused run)) =
      ended h (λ x. cc) (script.refused a (subst (λ l. RefusedIn (depth_calls (visit_below l e a)) made) (sym h.known) refused)) run
  so_far_shown mid now h (below.stops {e = e} (below.entered a o run)) = record { mid = mid; entry = e; answer = a; so_far = h; enters = o; run = run; same = refl }
  so_far_shown mid now h (below.stops {e = e} (below.broke a o run)) = ended h (λ x. cc) (script.breaks (outcome_here h e a Breaks o)) (run_here h e a _ run)
  so_far_shown mid now h (below.goes_on {e = e} {mid = low} (below.left a o run) rest) = so_far_shown low now (so_far_leaves e a h o run) rest

  -- the tree is found
  pub so_far_into : (low now : V) {ids : List ObjectId} {above : List Above} {left : Items} (i : ObjectId) (sub : Items) → GoesInto low ids above i left → trees_of objects i ≡ Some sub → steps low PopBack now → DepthSoFar now (i ∷ ids) sub ((ids, left) ∷ above)
  so_far_into low now {ids = ids} {above = above} {left = left} i sub g found step =
      let h = g.so_far in
      let v = visit h.place g.entry g.answer in
      let run = run_more steps g.mid low now (depth_calls v) (PopBack ∷ []) (run_here h g.entry g.answer low g.run) (now, step, refl) in
      let enters : outcome v ≡ Enters = outcome_here h g.entry g.answer Enters g.enters in
      let sub_is : trees_of objects g.entry.id ≡ Some sub = subst (λ j. trees_of objects j ≡ Some sub) (sym g.same) found in
      record {
        place = inside h.place g.entry;
        frames = (h.place, left) ∷ h.frames;
        known = λ j. g.same j ∷ h.known j;
        same = λ j. (h.known j, left) ∷ h.same j;
        so_far = further steps old All (depth_calls v ++ PopBack ∷ []) (v ∷ []) h.so_far run
            (λ more rest end walk. rw (append_assoc (depth_calls v) (PopBack ∷ []) more) (depth_enters (trees_of objects) (LookUpFails objects faulty) enters sub_is walk));
      }

  pub so_far_into_no_memory : (now : V) {ids : List ObjectId} {above : List Above} {left : Items} (i : ObjectId) → GoesInto now ids above i left → DepthFirst objects faulty steps root old now (Err error.Memory)
  so_far_into_no_memory now i g = ended g.so_far (λ x. cc) (script.no_memory_at_look_up (outcome_here g.so_far g.entry g.answer Enters g.enters)) (run_here g.so_far g.entry g.answer now g.run)

  pub so_far_into_fails : (now : V) {ids : List ObjectId} {above : List Above} {left : Items} (i : ObjectId) (why : ExistingError) → GoesInto now ids above i left
      → (why ≢ existing.Memory → LookUpFails objects faulty i why)
      → DepthFirst objects faulty steps root old now (Err (error_of_find why))
  so_far_into_fails now i why g failed =
      let enters = outcome_here g.so_far g.entry g.answer Enters g.enters in
      look_up_failed (λ x. DepthFirst objects faulty steps root old now (Err x)) (LookUpFails objects faulty i) (so_far_into_no_memory now i g)
      (λ x fails. ended g.so_far (λ e. cc) (script.not_found enters (subst (λ j. LookUpFails objects faulty j x) (sym g.same) fails)) (run_here g.so_far g.entry g.answer now g.run)) why failed

-- what is read of a tree that a look-up gave
pub found_tree : (objects : Objects) (faulty : ObjectId → Type 0) (i : ObjectId) (t : Tree) → FoundTree objects faulty i (Ok t) → trees_of objects i ≡ Some (items_at t)
found_tree objects faulty i t h = ap (λ o. items_of_object i o) h.2 ∙ (λ j. Some (tree_items (kind_of (sym h.0 j)) (drop (sym h.1 j) t.bytes.items)))
