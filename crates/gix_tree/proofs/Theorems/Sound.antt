-- The trees that a delegate goes into read whole and don't hold themselves, where all that it may reach are such trees.
use Rattle.std.proofs.Common.{◌≡◌, ℕ, suc, Bool, true, false, ◌&&◌, ◌||◌, List, [], ◌∷◌, ◌++◌, Option, Ok, Err, refl, sym, subst, arith, if◌then◌else◌, Contains, Continue}
use Rattle.gix_tree.proofs.Common.{AllByRecursion, ObjectId, is_same, is_among, TreeEntry, is_tree, Action, Call, VisitTree, Run, Items, Place, Visit, visit, Enters, visit_call, visit_call_of, Ending, Task, Turn, Show, Fault, shows}
use Rattle.gix_tree.proofs.Common.{unknown_root, items_or_none, entries_in, entries_at, IsLevelScript, IsDepthScript, GoesIn, subtrees, subtrees_of, EntersWhole, AllEnterWhole, AreSound, GoesOnlyInto}
use Rattle.gix_object.specs.declared.find.existing_iter.Error.{Error as ExistingError}
use Rattle.gix_hash.proofs.Ids.Membership.{same_is}
use Rattle.gix_hash.specs.Reach as reach
use Rattle.gix_hash.specs.Reach.{Reaches}
use Rattle.gix_tree.proofs.Outcomes.{says}
use Rattle.gix_tree.proofs.TaskWalk as walk
use Rattle.gix_tree.proofs.TaskWalk.{Manner, TaskWalk, all_with, level_walk, depth_walk}
use Rattle.gix_tree.proofs.Theorems.Called.{called}

holds_first : (i : ObjectId) (ids : List ObjectId) → Contains (i ∷ ids) i
holds_first i ids = (0, omega arith, refl)

holds_later : (j i : ObjectId) (ids : List ObjectId) → Contains ids i → Contains (j ∷ ids) i
holds_later j i ids h = (suc h.0, omega arith, h.2)

both_true : (b c : Bool) → b ≡ true → c ≡ true → b && c ≡ true
both_true b c e f = grind arith

-- WHAT A DELEGATE GOES INTO

-- a call that goes into a tree goes into one of which `into` is true
pub record IsOnlyInto (into : TreeEntry → Bool) (call : Call) : Type 0 where
  only : (e : TreeEntry) → call ≡ VisitTree e (Continue true) → into e ≡ true

pub run_only : {V : Type 0} (steps : V → Call → V → Type 0) (into : TreeEntry → Bool) (old : V) (calls : List Call) (new : V) → GoesOnlyInto steps old into → Run steps old calls new → AllByRecursion (IsOnlyInto into) calls
run_only steps into old [] new goes run = tt
run_only steps into old (call ∷ calls) new goes run = (
  record { only = λ e is. goes [] old run.0 e refl (subst (λ c. steps old c run.0) is run.1) },
  run_only steps into run.0 calls new (λ before low next e r k. goes (call ∷ before) low next e (run.0, run.1, r) k) run.2,
)

call_of : (t : Bool) (e : TreeEntry) (a : Action) → t ≡ true → a ≡ Continue true → visit_call_of t e a ≡ VisitTree e (Continue true)
call_of true e a t is = cc
call_of false e a t is = cc

goes_into : (into : TreeEntry → Bool) (v : Visit) → IsOnlyInto into (visit_call v) → GoesIn v → into v.entry ≡ true
goes_into into v h g = h.only v.entry (call_of (is_tree v.entry.mode) v.entry v.answer g.0 g.1)

module _ (trees : ObjectId → Option Items) (fails misses : ObjectId → ExistingError → Type 0) (into : TreeEntry → Bool) where
  -- a tree among entries is among their subtrees
  record IsHeld (es : List TreeEntry) (e : TreeEntry) : Type 0 where
    held : into e && is_tree e.mode ≡ true → Contains (subtrees into es) e.id

  held_first : (e : TreeEntry) (es : List TreeEntry) → IsHeld (e ∷ es) e
  held_first e es = record { held = λ t. subst (λ b. Contains (if b then e.id ∷ subtrees into es else subtrees into es) e.id) (sym t) (holds_first e.id (subtrees into es)) }

  held_later : (x e : TreeEntry) (es : List TreeEntry) → IsHeld es e → IsHeld (x ∷ es) e
  held_later x e es h = record { held = λ t. go (into x && is_tree x.mode) (h.held t) }
    where
      go : (b : Bool) → Contains (subtrees into es) e.id → Contains (if b then x.id ∷ subtrees into es else subtrees into es) e.id
      go true c = holds_later x.id e.id (subtrees into es) c
      go false c = c

  abbrev Next : ObjectId → List ObjectId
  Next i = subtrees_of trees fails into i

  -- an entry below known ids that the delegate may go into is reached from the starts, and from each of these ids
  record Fine (starts ids : List ObjectId) (e : TreeEntry) : Type 0 where
    met : into e && is_tree e.mode ≡ true → Reaches Next starts e.id
    below : (j : ObjectId) → is_among j ids ≡ true → into e && is_tree e.mode ≡ true → Reaches Next (Next j) e.id

  module _ (starts : List ObjectId) where
    -- an entry of a tree that is reached from the starts, and from each known id above it
    fine_in : (i : ObjectId) (ids : List ObjectId) (x : TreeEntry) → Reaches Next starts i → ((j : ObjectId) → is_among j ids ≡ true → Reaches Next (Next j) i)
        → IsHeld (entries_at trees i) x → Fine starts (i ∷ ids) x
    fine_in i ids x met below held = record {
      met = λ u. reach.step met (held.held u);
      below = λ j among u. go j (is_same j i) refl among u;
    }
      where
        go : (j : ObjectId) (b : Bool) → is_same j i ≡ b → is_among j (i ∷ ids) ≡ true → into x && is_tree x.mode ≡ true → Reaches Next (Next j) x.id
        go j true same among u = subst (λ k. Reaches Next (Next k) x.id) (sym (same_is j i same)) (reach.start (held.held u))
        go j false same among u =
            let later : is_among j ids ≡ true = subst (λ b. b || is_among j ids ≡ true) same among in
            reach.step (below j later) (held.held u)

    -- the entry that a task is to show is fine
    abbrev IsFineTask : Task → Type 0
    IsFineTask (Turn p i) = Unit {0}
    IsFineTask (Show p e) = Fine starts p.ids e
    IsFineTask (Fault why) = Unit {0}

    fine_shows : (p : Place) (items : Items) → ((x : TreeEntry) → IsHeld (entries_in items) x → Fine starts p.ids x) → AllByRecursion IsFineTask (shows p items)
    fine_shows p [] f = tt
    fine_shows p (Ok e ∷ items) f = (f e (held_first e (entries_in items)), fine_shows p items (λ x h. f x (held_later e x (entries_in items) h)))
    fine_shows p (Err why ∷ items) f = (tt, tt)

    fine_turn : (names : List (List ℕ)) (i : ObjectId) (ids : List ObjectId) → Reaches Next starts i → ((j : ObjectId) → is_among j ids ≡ true → Reaches Next (Next j) i)
        → AllByRecursion IsFineTask (shows (record { names = names; ids = i ∷ ids }) (items_or_none (trees i)))
    fine_turn names i ids met below = fine_shows (record { names = names; ids = i ∷ ids }) (items_or_none (trees i)) (λ x h. fine_in i ids x met below h)

    -- a visit that goes in finds a whole tree, which isn't above it
    enters_whole : (p : Place) (e : TreeEntry) (a : Action) → AreSound trees misses into starts → Fine starts p.ids e → IsOnlyInto into (visit_call (visit p e a)) → GoesIn (visit p e a)
        → EntersWhole trees misses (visit p e a)
    enters_whole p e a sound h only g =
        let t = both_true (into e) (is_tree e.mode) (goes_into into (visit p e a) only g) g.0 in
        record { whole = sound.whole e.id (h.met t); free = go (is_among e.id p.ids) refl t }
      where
        go : (b : Bool) → is_among e.id p.ids ≡ b → into e && is_tree e.mode ≡ true → b ≡ false
        go true is t = absurd (sound.free e.id (h.met t) (h.below e.id is t))
        go false is t = refl

    sound_walk : {m : Manner} {tasks : List Task} {calls : List Call} {visits : List Visit} {end : Ending} → AreSound trees misses into starts → TaskWalk trees fails m tasks calls visits end
        → AllByRecursion IsFineTask tasks → AllByRecursion (λ v. IsOnlyInto into (visit_call v)) visits → AllEnterWhole trees misses visits
    sound_walk sound walk.whole h only = tt
    sound_walk sound (walk.stops why) h only = tt
    sound_walk sound (walk.turn rest) h only = sound_walk sound rest h.1 only
    sound_walk sound (walk.leaves {p = p} {e = e} {a = a} o rest) h only = (enters_whole p e a sound h.0 only.0, sound_walk sound rest h.1 only.1)
    sound_walk {m} sound (walk.enters {p = p} {e = e} {a = a} {tasks = tasks} o rest) h only =
        let g = (says (is_tree e.mode) _ a Enters o).0 in
        let t = both_true (into e) (is_tree e.mode) (goes_into into (visit p e a) only.0 g) g.0 in
        let inner = fine_turn (p.names ++ e.name ∷ []) e.id p.ids (h.0.met t) (λ j among. h.0.below j among t) in
        (enters_whole p e a sound h.0 only.0, sound_walk sound rest (all_with trees IsFineTask m p e tasks h.1 (tt, inner) tt) only.1)
    sound_walk sound (walk.breaks {p = p} {e = e} {a = a} o) h only = (enters_whole p e a sound h.0 only.0, tt)
    sound_walk sound (walk.cycles {p = p} {e = e} {a = a} o) h only = (enters_whole p e a sound h.0 only.0, tt)

  -- OF A ROOT

  pub sound_level_visits : (root : Items) {calls : List Call} {visits : List Visit} {end : Ending} → AreSound trees misses into (subtrees into (entries_in root))
      → IsLevelScript trees fails unknown_root root calls visits end
      → AllByRecursion (IsOnlyInto into) calls → AllEnterWhole trees misses visits
  sound_level_visits root sound script only =
      let starts = subtrees into (entries_in root) in
      let walk = level_walk trees fails unknown_root root script in
      let fine = fine_shows starts unknown_root root (λ x h. record { met = λ t. reach.start (h.held t); below = λ j among t. cc }) in
      sound_walk starts sound walk fine (called trees fails (IsOnlyInto into) walk only)

  pub sound_depth_visits : (root : ObjectId) {calls : List Call} {visits : List Visit} {end : Ending} → AreSound trees misses into (root ∷ []) → IsDepthScript trees fails root calls visits end
      → AllByRecursion (IsOnlyInto into) calls → AllEnterWhole trees misses visits
  sound_depth_visits root sound script only =
      let walk = depth_walk trees fails root script in
      let fine = fine_turn (root ∷ []) [] root [] (reach.start (holds_first root [])) (λ j among. cc) in
      sound_walk (root ∷ []) sound walk (tt, fine) (called trees fails (IsOnlyInto into) walk only)
