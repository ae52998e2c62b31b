-- What a recorder holds after a walk.
use Rattle.std.proofs.Common.{◌≡◌, ◌≢◌, ℕ, Bool, true, false, List, [], ◌∷◌, ◌++◌, map, reverse, Option, Some, None, Ok, Err, refl, sym, ap, ◌∙◌, subst, arith, append_assoc, append-nil}
use Rattle.std.proofs.lemmas.List.{reverse-append}
use Rattle.std.proofs.lemmas.Bool.Decides.{nat_tests}
use Rattle.gix_tree.proofs.Common.{AllByRecursion, ObjectId, TreeEntry, is_tree, Path, Action, Call, PushPath, PopPath, PushBack, Items, Place, Visit, visit, inside, Outcome, Leaves, Enters, Cycles, Breaks, outcome, visit_call_of}
use Rattle.gix_tree.proofs.Common.{Ending, Failed, Task, Turn, Show, Fault, shows, IsName, HaveNames, joined, unknown_root, known_root, items_or_none, level_calls_behind, depth_calls_behind, IsLevelScript, IsDepthScript, Record}
use Rattle.gix_tree.proofs.Common.{Recorded, with_name, front_from, before_slash, path_or_empty, without_name, last_path, without_last, first_path, without_first, fresh, recorded, recorded_all, record_of}
use Rattle.gix_object.specs.declared.find.existing_iter.Error.{Error as ExistingError}
use Rattle.gix_tree.specs.declared.breadthfirst.Error.TheVariants as error
use Rattle.gix_tree.specs.Script as script
use Rattle.gix_tree.proofs.All.{all_both}
use Rattle.gix_tree.proofs.TaskWalk as walk
use Rattle.gix_tree.proofs.TaskWalk.{Manner, ByLevels, InDepth, calls_behind, calls_by, pop_by, lost_by, tasks_in, tasks_with, TaskWalk, level_walk, tree_walk}

pub not_here : (b : ℕ) → b ≢ 47 → front_from b None ≡ None
not_here b h = grind (arith, nat_tests)

no_slash : (bytes : List ℕ) → AllByRecursion (λ b. b ≢ 47) bytes → before_slash bytes ≡ None
no_slash [] h = refl
no_slash (b ∷ bytes) h = ap (front_from b) (no_slash bytes h.1) ∙ not_here b h.0

pub last_slash : (path name : List ℕ) → AllByRecursion (λ b. b ≢ 47) name → before_slash (path ++ 47 ∷ name) ≡ Some path
last_slash [] name h = ap (front_from 47) (no_slash name h)
last_slash (b ∷ path) name h = ap (front_from b) (last_slash path name h)

without_with : (path name : List ℕ) → IsName name → without_name (with_name path name) ≡ path
without_with path [] h = absurd h
without_with [] (b ∷ name) h = ap path_or_empty (no_slash (b ∷ name) h)
without_with (c ∷ path) (b ∷ name) h = ap path_or_empty (last_slash (c ∷ path) (b ∷ name) h)

with_some : (path name : List ℕ) → path ≢ [] → IsName name → with_name path name ≡ path ++ 47 ∷ name
with_some path [] some h = absurd h
with_some [] (b ∷ name) some h = absurd (some refl)
with_some (c ∷ path) (b ∷ name) some h = refl

some_front : (a b : List ℕ) → a ++ 47 ∷ b ≢ []
some_front [] b e = cc
some_front (x ∷ a) b e = cc

some_joined : (a : List ℕ) (names : List (List ℕ)) → IsName a → joined (a ∷ names) ≢ []
some_joined [] names h e = h
some_joined (b ∷ a) [] h e = cc
some_joined (b ∷ a) (n ∷ names) h e = cc

pub joined_more : (names : List (List ℕ)) (name : List ℕ) → AllByRecursion IsName names → IsName name → joined (names ++ name ∷ []) ≡ with_name (joined names) name
joined_more [] [] hs h = absurd h
joined_more [] (b ∷ name) hs h = refl
joined_more (a ∷ []) name hs h = sym (with_some a name (some_joined a [] hs.0) h)
joined_more (a ∷ c ∷ names) name hs h =
    ap (λ l. a ++ 47 ∷ l) (joined_more (c ∷ names) name hs.1 h ∙ with_some (joined (c ∷ names)) name (some_joined c names hs.1.0) h)
    ∙ sym (append_assoc a (47 ∷ joined (c ∷ names)) (47 ∷ name))
    ∙ sym (with_some (a ++ 47 ∷ joined (c ∷ names)) name (some_front a (joined (c ∷ names))) h)

abbrev holding : List ℕ → List (List ℕ) → List Record → Recorded
holding path queue records = record { path = path; queue = queue; records = records }

-- an entry is pushed and visited
push_visit : (path : List ℕ) (queue : List (List ℕ)) (records : List Record) (e : TreeEntry) (a : Action) (t : Bool)
    → recorded (Some Path) (recorded (Some Path) (holding path queue records) (PushPath e.name)) (visit_call_of t e a)
    ≡ holding (with_name path e.name) queue (records ++ record { mode = e.mode; path = with_name path e.name; id = e.id } ∷ [])
push_visit path queue records e a true = refl
push_visit path queue records e a false = refl

-- the path of a tree, whose names are names
record StandsAt (path : List ℕ) (p : Place) : Type 0 where
  is : path ≡ joined p.names
  named : AllByRecursion IsName p.names

inside_at : {path : List ℕ} {p : Place} (e : TreeEntry) → StandsAt path p → IsName e.name → StandsAt (with_name path e.name) (inside p e)
inside_at {path} {p} e at h = record {
  is = ap (λ l. with_name l e.name) at.is ∙ sym (joined_more p.names e.name at.named h);
  named = all_both IsName p.names (e.name ∷ []) at.named (h, tt);
}

pub last_more : (queue : List (List ℕ)) (path : List ℕ) → last_path (queue ++ path ∷ []) ≡ path
last_more [] path = refl
last_more (a ∷ []) path = refl
last_more (a ∷ b ∷ queue) path = last_more (b ∷ queue) path

pub without_more : (queue : List (List ℕ)) (path : List ℕ) → without_last (queue ++ path ∷ []) ≡ queue
without_more [] path = refl
without_more (a ∷ []) path = refl
without_more (a ∷ b ∷ queue) path = ap (λ l. a ∷ l) (without_more (b ∷ queue) path)

-- what a queue of tasks says of the path and of the paths that wait, the next first
abbrev Fits : List ℕ → List Task → List (List ℕ) → Type 0
Fits path [] waiting = waiting ≡ []
Fits path (Show p e ∷ tasks) waiting = StandsAt path p × Fits path tasks waiting
Fits path (Fault why ∷ tasks) waiting = Fits path tasks waiting
Fits path (Turn p i ∷ tasks) [] = ⊥
Fits path (Turn p i ∷ tasks) (front ∷ waiting) = StandsAt front p × Fits front tasks waiting

shows_fit : (path : List ℕ) (p : Place) (items : Items) (tasks : List Task) (waiting : List (List ℕ)) → StandsAt path p → Fits path tasks waiting → Fits path (shows p items ++ tasks) waiting
shows_fit path p [] tasks waiting at h = h
shows_fit path p (Ok e ∷ items) tasks waiting at h = (at, shows_fit path p items tasks waiting at h)
shows_fit path p (Err why ∷ items) tasks waiting at h = h

-- a tree that waits behind all others
fits_more : (path : List ℕ) (tasks : List Task) (waiting : List (List ℕ)) (front : List ℕ) (p : Place) (i : ObjectId) (items : Items) → Fits path tasks waiting → StandsAt front p
    → Fits path (tasks ++ Turn p i ∷ shows p items) (waiting ++ front ∷ [])
fits_more path [] [] front p i items h at = (at, subst (λ l. Fits front l []) (append-nil (shows p items)) (shows_fit front p items [] [] at refl))
fits_more path [] (q ∷ waiting) front p i items h at = cc
fits_more path (Show q e ∷ tasks) waiting front p i items h at = (h.0, fits_more path tasks waiting front p i items h.1 at)
fits_more path (Fault why ∷ tasks) waiting front p i items h at = fits_more path tasks waiting front p i items h at
fits_more path (Turn q j ∷ tasks) [] front p i items h at = absurd h
fits_more path (Turn q j ∷ tasks) (next ∷ waiting) front p i items h at = (h.0, fits_more next tasks waiting front p i items h.1 at)

-- the queue that holds the paths that wait: by levels the next is its first, and in depth its last
abbrev queue_by : Manner → List (List ℕ) → List (List ℕ)
queue_by ByLevels waiting = waiting
queue_by InDepth waiting = reverse waiting

-- a recorder is ready for the tasks
record Ready (m : Manner) (tasks : List Task) (r : Recorded) : Type 0 where
  waiting : List (List ℕ)
  queued : r.queue ≡ queue_by m waiting
  fits : Fits r.path tasks waiting

ready_at : {m : Manner} {tasks : List Task} (r : Recorded) {path : List ℕ} (waiting : List (List ℕ)) → r.path ≡ path → r.queue ≡ queue_by m waiting → Fits path tasks waiting → Ready m tasks r
ready_at {tasks = tasks} r waiting at queued fits = record { waiting = waiting; queued = queued; fits = subst (λ l. Fits l tasks waiting) (sym at) fits }

pop_gives : (m : Manner) (r : Recorded) (front : List ℕ) (waiting : List (List ℕ)) → r.queue ≡ queue_by m (front ∷ waiting)
    → ((recorded (Some Path) r (pop_by m)).path ≡ front) × ((recorded (Some Path) r (pop_by m)).queue ≡ queue_by m waiting)
pop_gives ByLevels r front waiting e = (ap first_path e, ap without_first e)
pop_gives InDepth r front waiting e =
    let last : r.queue ≡ reverse waiting ++ front ∷ [] = e ∙ reverse-append (front ∷ []) waiting in
    (ap last_path last ∙ last_more (reverse waiting) front, ap without_last last ∙ without_more (reverse waiting) front)

pop_records : (m : Manner) (r : Recorded) → (recorded (Some Path) r (pop_by m)).records ≡ r.records
pop_records ByLevels r = refl
pop_records InDepth r = refl

lost_records : (m : Manner) (r : Recorded) → (recorded_all (Some Path) r (lost_by m)).records ≡ r.records
lost_records ByLevels r = refl
lost_records InDepth r = refl

ready_turn : {m : Manner} {p : Place} {i : ObjectId} {tasks : List Task} (r : Recorded) → Ready m (Turn p i ∷ tasks) r → Ready m tasks (recorded (Some Path) r (pop_by m))
ready_turn {m} {p} {i} {tasks} r h = go h.waiting h.queued h.fits
  where
    go : (waiting : List (List ℕ)) → r.queue ≡ queue_by m waiting → Fits r.path (Turn p i ∷ tasks) waiting → Ready m tasks (recorded (Some Path) r (pop_by m))
    go [] e f = absurd f
    go (front ∷ waiting) e f = let g = pop_gives m r front waiting e in ready_at (recorded (Some Path) r (pop_by m)) waiting g.0 g.1 f.1

-- the calls behind a visit record nothing
level_behind : (name : List ℕ) (o : Outcome) (r : Recorded) → (recorded_all (Some Path) r (level_calls_behind name o)).records ≡ r.records
level_behind name Leaves r = refl
level_behind name Enters r = refl
level_behind name Cycles r = refl
level_behind name Breaks r = refl

depth_behind : (name : List ℕ) (t : Bool) (o : Outcome) (r : Recorded) → (recorded_all (Some Path) r (depth_calls_behind name t o)).records ≡ r.records
depth_behind name t Leaves r = refl
depth_behind name t Enters r = refl
depth_behind name t Cycles r = refl
depth_behind name true Breaks r = refl
depth_behind name false Breaks r = refl

behind_records : (m : Manner) (v : Visit) (r : Recorded) → (recorded_all (Some Path) r (calls_behind m v)).records ≡ r.records
behind_records ByLevels v r = level_behind v.entry.name (outcome v) r
behind_records InDepth v r = depth_behind v.entry.name (is_tree v.entry.mode) (outcome v) r

visit_records : (m : Manner) {p : Place} (e : TreeEntry) (a : Action) (r : Recorded) → StandsAt r.path p → IsName e.name
    → (recorded_all (Some Path) r (calls_by m (visit p e a))).records ≡ r.records ++ record_of (visit p e a) ∷ []
visit_records m {p} e a r at h =
    let w : with_name r.path e.name ≡ joined (p.names ++ e.name ∷ []) = (inside_at e at h).is in
    behind_records m (visit p e a) _ ∙ ap (λ s. s.records) (push_visit r.path r.queue r.records e a (is_tree e.mode))
    ∙ (λ i. r.records ++ record { mode = e.mode; path = w i; id = e.id } ∷ [])

-- the calls up to the visit, and those behind it
around : (m : Manner) (p : Place) (e : TreeEntry) (a : Action) (r : Recorded) (behind : List Call) → calls_behind m (visit p e a) ≡ behind
    → recorded_all (Some Path) r (calls_by m (visit p e a))
    ≡ recorded_all (Some Path) (holding (with_name r.path e.name) r.queue (r.records ++ record { mode = e.mode; path = with_name r.path e.name; id = e.id } ∷ [])) behind
around m p e a r behind is = λ i. recorded_all (Some Path) (push_visit r.path r.queue r.records e a (is_tree e.mode) i) (is i)

ready_leaves : (m : Manner) {p : Place} (e : TreeEntry) (a : Action) {tasks : List Task} (r : Recorded) → Ready m (Show p e ∷ tasks) r → IsName e.name → outcome (visit p e a) ≡ Leaves
    → Ready m tasks (recorded_all (Some Path) r (calls_by m (visit p e a)))
ready_leaves m {p} e a {tasks} r h name o =
    subst (λ s. Ready m tasks s) (sym (around m p e a r (PopPath ∷ []) (by m))) (ready_at _ h.waiting (without_with r.path e.name name) h.queued h.fits.1)
  where
    by : (k : Manner) → calls_behind k (visit p e a) ≡ PopPath ∷ []
    by ByLevels = rw o refl
    by InDepth = rw o refl

module _ (trees : ObjectId → Option Items) where
  ready_enters : (m : Manner) {p : Place} (e : TreeEntry) (a : Action) {tasks : List Task} (r : Recorded) → Ready m (Show p e ∷ tasks) r → IsName e.name → outcome (visit p e a) ≡ Enters
      → Ready m (tasks_with trees m p e tasks) (recorded_all (Some Path) r (calls_by m (visit p e a)))
  ready_enters ByLevels {p} e a {tasks} r h name o =
      let q : without_name (with_name r.path e.name) ≡ r.path = without_with r.path e.name name in
      let fits = fits_more r.path tasks h.waiting (with_name r.path e.name) (inside p e) e.id (items_or_none (trees e.id)) h.fits.1 (inside_at e h.fits.0 name) in
      subst (λ s. Ready ByLevels (tasks ++ tasks_in trees p e) s) (sym (around ByLevels p e a r (PopPath ∷ PushBack e.name ∷ PopPath ∷ []) (rw o refl)))
      (ready_at _ (h.waiting ++ with_name r.path e.name ∷ []) (ap (λ l. without_name (with_name l e.name)) q ∙ q) (λ i. h.queued i ++ with_name (q i) e.name ∷ []) fits)
  ready_enters InDepth {p} e a {tasks} r h name o =
      let q : without_name (with_name r.path e.name) ≡ r.path = without_with r.path e.name name in
      let front = with_name r.path e.name in
      let at = inside_at e h.fits.0 name in
      let two : reverse (front ∷ r.path ∷ h.waiting) ≡ (reverse h.waiting ++ r.path ∷ []) ++ front ∷ [] =
      reverse-append (front ∷ []) (r.path ∷ h.waiting) ∙ ap (λ l. l ++ front ∷ []) (reverse-append (r.path ∷ []) h.waiting) in
      subst (λ s. Ready InDepth (tasks_in trees p e ++ Turn p e.id ∷ tasks) s) (sym (around InDepth p e a r (PopPath ∷ PushBack [] ∷ PushBack e.name ∷ []) (rw o refl)))
      (ready_at _ {path = front} (front ∷ r.path ∷ h.waiting) (ap (λ l. with_name l e.name) q) ((λ i. (h.queued i ++ q i ∷ []) ++ with_name (q i) e.name ∷ []) ∙ sym two)
      (at, shows_fit front (inside p e) (items_or_none (trees e.id)) (Turn p e.id ∷ tasks) (r.path ∷ h.waiting) at (h.fits.0, h.fits.1)))

recorded_more : (r : Recorded) (calls more : List Call) → recorded_all (Some Path) r (calls ++ more) ≡ recorded_all (Some Path) (recorded_all (Some Path) r calls) more
recorded_more r [] more = refl
recorded_more r (call ∷ calls) more = recorded_more (recorded (Some Path) r call) calls more

-- a visit, and the rest of the walk
visit_more : (m : Manner) {p : Place} (e : TreeEntry) (a : Action) (r : Recorded) (calls : List Call) (visits : List Visit) → StandsAt r.path p → IsName e.name
    → (recorded_all (Some Path) (recorded_all (Some Path) r (calls_by m (visit p e a))) calls).records ≡ (recorded_all (Some Path) r (calls_by m (visit p e a))).records ++ map record_of visits
    → (recorded_all (Some Path) r (calls_by m (visit p e a) ++ calls)).records ≡ r.records ++ map record_of (visit p e a ∷ visits)
visit_more m {p} e a r calls visits at name rest =
    ap (λ s. s.records) (recorded_more r (calls_by m (visit p e a)) calls) ∙ rest
    ∙ ap (λ l. l ++ map record_of visits) (visit_records m e a r at name) ∙ append_assoc r.records (record_of (visit p e a) ∷ []) (map record_of visits)

module _ (trees : ObjectId → Option Items) (fails : ObjectId → ExistingError → Type 0) where
  walk_records : {m : Manner} {tasks : List Task} {calls : List Call} {visits : List Visit} {end : Ending} (r : Recorded) → TaskWalk trees fails m tasks calls visits end → end ≢ Failed error.Memory
      → Ready m tasks r → HaveNames visits
      → (recorded_all (Some Path) r calls).records ≡ r.records ++ map record_of visits
  walk_records r walk.whole w f h = sym (append-nil r.records)
  walk_records r (walk.stops walk.fault) w f h = sym (append-nil r.records)
  walk_records {m} r (walk.stops (walk.not_found failed)) w f h = lost_records m r ∙ sym (append-nil r.records)
  walk_records r (walk.stops walk.no_memory) w f h = absurd (w refl)
  walk_records {m} r (walk.turn {visits = visits} rest) w f h = walk_records (recorded (Some Path) r (pop_by m)) rest w (ready_turn r f) h ∙ ap (λ l. l ++ map record_of visits) (pop_records m r)
  walk_records {m} r (walk.leaves {e = e} {a = a} {visits = visits} o rest) w f h =
      visit_more m e a r _ visits f.fits.0 h.0 (walk_records (recorded_all (Some Path) r (calls_by m (visit _ e a))) rest w (ready_leaves m e a r f h.0 o) h.1)
  walk_records {m} r (walk.enters {e = e} {a = a} {visits = visits} o rest) w f h =
      visit_more m e a r _ visits f.fits.0 h.0 (walk_records (recorded_all (Some Path) r (calls_by m (visit _ e a))) rest w (ready_enters trees m e a r f h.0 o) h.1)
  walk_records {m} r (walk.breaks {e = e} {a = a} o) w f h = visit_records m e a r f.fits.0 h.0
  walk_records {m} r (walk.cycles {e = e} {a = a} o) w f h = visit_records m e a r f.fits.0 h.0

  -- a fresh recorder is ready for a root's entries
  fresh_ready : (m : Manner) (p : Place) (items : Items) → p.names ≡ [] → Ready m (shows p items) fresh
  fresh_ready m p items e = record {
    waiting = [];
    queued = none m;
    fits = subst (λ l. Fits [] l []) (append-nil (shows p items)) (shows_fit [] p items [] [] (record { is = sym (ap joined e); named = subst (λ l. AllByRecursion IsName l) (sym e) tt }) refl);
  }
    where
      none : (k : Manner) → [] ≡ queue_by k []
      none ByLevels = refl
      none InDepth = refl

  -- it then holds a record for each visit
  pub fresh_level : (root : Items) {calls : List Call} {visits : List Visit} {end : Ending} → IsLevelScript trees fails unknown_root root calls visits end → end ≢ Failed error.Memory → HaveNames visits
      → (recorded_all (Some Path) fresh calls).records ≡ map record_of visits
  fresh_level root walk w h = walk_records fresh (level_walk trees fails unknown_root root walk) w (fresh_ready ByLevels unknown_root root refl) h

  pub fresh_depth : (root : ObjectId) {calls : List Call} {visits : List Visit} {end : Ending} → IsDepthScript trees fails root calls visits end → end ≢ Failed error.Memory → HaveNames visits
      → (recorded_all (Some Path) fresh calls).records ≡ map record_of visits
  fresh_depth root (script.found {items = items} is walk) w h = walk_records fresh (tree_walk trees fails (known_root root) walk) w (fresh_ready InDepth (known_root root) items refl) h
  fresh_depth root (script.not_found why) w h = refl
  fresh_depth root script.no_memory w h = absurd (w refl)
