-- Both walks of trees show the same.
use Rattle.std.proofs.Common.{◌≡◌, ℕ, Bool, true, false, List, [], ◌∷◌, ◌++◌, map, Option, Some, Ok, Err, refl, ap, ◌∙◌, subst, append_assoc, Continue, flat_map}
use Rattle.gix_tree.proofs.Common.{flat_map-append, AllByRecursion, ObjectId, TreeEntry, is_tree, Call, Items, Place, Visit, inside, Leaves, Enters, Breaks, Ending, Whole, Task, Turn, Show, Fault, shows, unknown_root, known_root}
use Rattle.gix_tree.proofs.Common.{items_or_none, entries_in, IsPreorder}
use Rattle.std.proofs.lemmas.List.Sorted.{IsPermutation-refl, IsPermutation-cons, IsPermutation-trans, IsPermutation-sym, IsPermutation-append_comm, IsPermutation-append_right}
use Rattle.std.specs.List.Sorted.{IsPermutation}
use Rattle.gix_object.specs.declared.find.existing_iter.Error.{Error as ExistingError}
use Rattle.gix_tree.specs.Script.{entries_at}
use Rattle.gix_tree.specs.Preorder as order
use Rattle.gix_tree.proofs.All.{all_right}
use Rattle.gix_tree.proofs.Outcomes.{says}
use Rattle.gix_tree.proofs.TaskWalk as walk
use Rattle.gix_tree.proofs.TaskWalk.{Manner, ByLevels, InDepth, tasks_in, tasks_with, TaskWalk}

-- an entry and the names of the trees above it, as they are shown
pub record Shown : Type 0 where
  pub names : List (List ℕ)
  pub entry : TreeEntry

abbrev pub shown_by : Visit → Shown
shown_by v = record { names = v.place.names; entry = v.entry }

-- every visit was answered to go on, and into a tree
abbrev pub GoOn : List Visit → Type 0
GoOn visits = AllByRecursion (λ v. v.answer ≡ Continue true) visits

abbrev at_names : List (List ℕ) → TreeEntry → Shown
at_names names e = record { names = names; entry = e }

abbrev under : Shown → List TreeEntry → List Shown
under x es = map (at_names (x.names ++ x.entry.name ∷ [])) es

-- what is to be shown, and what that unfolds to, tree by tree
data Unfolds (entries : ObjectId → List TreeEntry) : List Shown → List Shown → Type 0 where
  none : Unfolds entries [] []
  plain : {x : Shown} {xs us : List Shown} → is_tree x.entry.mode ≡ false → Unfolds entries xs us → Unfolds entries (x ∷ xs) (x ∷ us)
  tree : {x : Shown} {xs ws us : List Shown} → is_tree x.entry.mode ≡ true → Unfolds entries (under x (entries x.entry.id)) ws → Unfolds entries xs us → Unfolds entries (x ∷ xs) (x ∷ (ws ++ us))

module _ (entries : ObjectId → List TreeEntry) where
  same_unfolding : {xs us vs : List Shown} → Unfolds entries xs us → Unfolds entries xs vs → us ≡ vs
  same_unfolding none none = refl
  same_unfolding (plain {x = x} f a) (plain g b) = ap (λ l. x ∷ l) (same_unfolding a b)
  same_unfolding (plain f a) (tree g w b) = cc (f, g)
  same_unfolding (tree f w a) (plain g b) = cc (f, g)
  same_unfolding (tree {x = x} f w a) (tree g z b) = λ i. x ∷ (same_unfolding w z i ++ same_unfolding a b i)

  -- what lists unfold to, where these are in some order what both together unfold to
  record Parts (xs ys us : List Shown) : Type 0 where
    front : List Shown
    back : List Shown
    moved : IsPermutation (front ++ back) us
    of_front : Unfolds entries xs front
    of_back : Unfolds entries ys back

  parts : (xs ys : List Shown) {us : List Shown} → Unfolds entries (xs ++ ys) us → Parts xs ys us
  parts [] ys {us} h = record { front = []; back = us; moved = IsPermutation-refl us; of_front = none; of_back = h }
  parts (x ∷ xs) ys (plain {us = us} f h) =
      let r = parts xs ys h in
      record { front = x ∷ r.front; back = r.back; moved = IsPermutation-cons x (r.front ++ r.back) us r.moved; of_front = plain f r.of_front; of_back = r.of_back }
  parts (x ∷ xs) ys (tree {ws = ws} {us = us} f w h) =
      let r = parts xs ys h in
      let same : IsPermutation ((ws ++ r.front) ++ r.back) (ws ++ us) = rw (append_assoc ws r.front r.back) (IsPermutation-append_right ws (r.front ++ r.back) us r.moved) in
      record { front = x ∷ (ws ++ r.front); back = r.back; moved = IsPermutation-cons x ((ws ++ r.front) ++ r.back) (ws ++ us) same; of_front = tree f w r.of_front; of_back = r.of_back }

  -- where each visit goes on, none breaks
  pub unbroken : {p : Place} {es : List TreeEntry} {vs : List Visit} {broken : Bool} → IsPreorder entries p es vs broken → GoOn vs → broken ≡ false
  unbroken order.none h = refl
  unbroken (order.leaves o rest) h = unbroken rest h.1
  unbroken (order.enters {ws = ws} {vs = vs} o sub rest) h = unbroken rest (all_right (λ v. v.answer ≡ Continue true) ws vs h.1)
  unbroken (order.broken_inside o sub) h = unbroken sub h.1
  unbroken (order.breaks {p = p} {e = e} {a = a} o) h = let b = says (is_tree e.mode) _ a Breaks o in cc (h.0, b.1)

-- the entries that tasks show
names_of : Task → List Shown
names_of (Turn p i) = []
names_of (Show p e) = at_names p.names e ∷ []
names_of (Fault why) = []

abbrev names_in : List Task → List Shown
names_in tasks = flat_map names_of tasks

names_in-shows : (p : Place) (items : Items) → names_in (shows p items) ≡ map (at_names p.names) (entries_in items)
unfolding names_of
names_in-shows p [] = refl
names_in-shows p (Ok e ∷ items) = ap (λ l. at_names p.names e ∷ l) (names_in-shows p items)
names_in-shows p (Err why ∷ items) = refl

module _ (trees : ObjectId → Option Items) (fails : ObjectId → ExistingError → Type 0) where
  -- what is shown unfolds to the visits, in some order
  record Shows (shown : List Shown) (vs : List Visit) : Type 0 where
    all : List Shown
    unfolds : Unfolds (entries_at trees) shown all
    moved : IsPermutation all (map shown_by vs)

  -- a tree's entries among the tasks
  tree_parts : (m : Manner) (p : Place) (e : TreeEntry) (tasks : List Task) {us : List Shown} → Unfolds (entries_at trees) (names_in (tasks_with trees m p e tasks)) us
      → Parts (entries_at trees) (under (at_names p.names e) (entries_at trees e.id)) (names_in tasks) us
  unfolding names_of
  tree_parts ByLevels p e tasks {us} u =
      let inner = under (at_names p.names e) (entries_at trees e.id) in
      let is : names_in (tasks ++ tasks_in trees p e) ≡ names_in tasks ++ inner =
      flat_map-append names_of tasks (tasks_in trees p e) ∙ ap (λ l. names_in tasks ++ l) (names_in-shows (inside p e) (items_or_none (trees e.id))) in
      let r = parts (entries_at trees) (names_in tasks) inner (subst (λ l. Unfolds (entries_at trees) l us) is u) in
      record {
        front = r.back;
        back = r.front;
        moved = IsPermutation-trans (r.back ++ r.front) (r.front ++ r.back) us (IsPermutation-append_comm r.back r.front) r.moved;
        of_front = r.of_back;
        of_back = r.of_front;
      }
  tree_parts InDepth p e tasks {us} u =
      let inner = under (at_names p.names e) (entries_at trees e.id) in
      let is : names_in (tasks_in trees p e ++ Turn p e.id ∷ tasks) ≡ inner ++ names_in tasks =
      flat_map-append names_of (tasks_in trees p e) (Turn p e.id ∷ tasks) ∙ ap (λ l. l ++ names_in tasks) (names_in-shows (inside p e) (items_or_none (trees e.id))) in
      parts (entries_at trees) inner (names_in tasks) (subst (λ l. Unfolds (entries_at trees) l us) is u)

  walk_shows : {m : Manner} {tasks : List Task} {calls : List Call} {visits : List Visit} {end : Ending} → TaskWalk trees fails m tasks calls visits end → end ≡ Whole → GoOn visits
      → Shows (names_in tasks) visits
  unfolding names_of
  walk_shows walk.whole w h = record { all = []; unfolds = none; moved = IsPermutation-refl [] }
  walk_shows (walk.stops why) w h = cc
  walk_shows (walk.turn rest) w h = walk_shows rest w h
  walk_shows (walk.leaves {p = p} {e = e} {a = a} {visits = vs} o rest) w h =
      let g = walk_shows rest w h.1 in
      let x = at_names p.names e in
      record { all = x ∷ g.all; unfolds = plain (says (is_tree e.mode) _ a Leaves o h.0) g.unfolds; moved = IsPermutation-cons x g.all (map shown_by vs) g.moved }
  walk_shows {m} (walk.enters {p = p} {e = e} {a = a} {tasks = tasks} {visits = vs} o rest) w h =
      let g = walk_shows rest w h.1 in
      let x = at_names p.names e in
      let r = tree_parts m p e tasks g.unfolds in
      record {
        all = x ∷ (r.front ++ r.back);
        unfolds = tree (says (is_tree e.mode) _ a Enters o).0.0 r.of_front r.of_back;
        moved = IsPermutation-cons x (r.front ++ r.back) (map shown_by vs) (IsPermutation-trans (r.front ++ r.back) g.all (map shown_by vs) r.moved g.moved);
      }
  walk_shows (walk.breaks o) w h = cc
  walk_shows (walk.cycles o) w h = cc

  -- both walks of one whole tree show the same entries under the same names, as often
  pub both_show : (root : ObjectId) (items : Items) {calls more : List Call} {visits others : List Visit} {end last : Ending} → trees root ≡ Some items → end ≡ Whole → last ≡ Whole
      → TaskWalk trees fails ByLevels (shows unknown_root items) calls visits end
      → TaskWalk trees fails InDepth (Turn (known_root root) root ∷ shows (known_root root) (items_or_none (trees root))) more others last
      → GoOn visits → GoOn others → IsPermutation (map shown_by visits) (map shown_by others)
  unfolding names_of
  both_show root items {visits = visits} {others = others} is w z level depth h g =
      let s = walk_shows level w h in
      let d = walk_shows depth z g in
      let u = subst (λ l. Unfolds (entries_at trees) l s.all) (names_in-shows unknown_root items) s.unfolds in
      let names = names_in-shows (known_root root) (items_or_none (trees root)) ∙ ap (λ o. map (at_names []) (entries_in (items_or_none o))) is in
      let v = subst (λ l. Unfolds (entries_at trees) l d.all) names d.unfolds in
      IsPermutation-trans (map shown_by visits) s.all (map shown_by others) (IsPermutation-sym s.all (map shown_by visits) s.moved)
      (subst (λ l. IsPermutation l (map shown_by others)) (same_unfolding (entries_at trees) v u) d.moved)
