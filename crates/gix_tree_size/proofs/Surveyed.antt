-- What a survey has seen wherever its walk is, and the walk of a recorder that goes into each tree.
use Rattle.std.proofs.Common.{◌≡◌, ◌≢◌, inl, inr, ℕ, zero, suc, ◌+◌, max, cond, Bool, true, false, ◌&&◌, List, [], ◌∷◌, ◌++◌, length, length-append, Option, Some, None, is_some, Result, Ok, Err, refl, sym, ap, subst, ◌∙◌, arith, if◌then◌else◌, Continue, Break, IfErr}
use Rattle.std.specs.List.{AllByRecursion}
use Rattle.std.specs.FinMap as map
use Rattle.gix_hash.specs.declared.ObjectId.{ObjectId}
use Rattle.gix_hash.specs.Id.{id_cmp, is_among, is_same}
use Rattle.gix_hash.proofs.Ids.Membership.{id_total, same_is}
use Rattle.gix_object.specs.declared.find.existing_iter.Error.{Error as ExistingError}
use Rattle.gix_object.specs.Object.{Objects}
use Rattle.gix_object.specs.TreeItems.{TreeEntry, is_tree}
use Rattle.gix_tree.specs.declared.breadthfirst.Error.{Error}
use Rattle.gix_tree.specs.declared.breadthfirst.Error.TheVariants as error
use Rattle.gix_tree.specs.Delegate.{Action, Call, PushPath, PopBack, Run}
use Rattle.gix_tree.specs.Paths.{known_root}
use Rattle.gix_tree.specs.Recorder.{IsRecorderAnswer, recorded}
use Rattle.gix_tree.specs.Script as script
use Rattle.gix_tree.specs.Script.{DepthScript, IsDepthScript, depth_calls, depth_calls_behind}
use Rattle.gix_tree.specs.Tracked.{Tracked, Tracks, fresh_recorder}
use Rattle.gix_tree.specs.Visits.{Items, Place, Visit, visit, inside, Outcome, Leaves, Enters, Cycles, Breaks, outcome, outcome_of, visit_call_of, Ending, Whole, Broken, Failed}
use Rattle.gix_tree.specs.Walk.{DepthFirst, LookUpFails, depth_answer, trees_of}
use Rattle.gix_tree.proofs.All.{all_both}
use Rattle.gix_tree.proofs.Outcomes.{says}
use Rattle.gix_tree_size.specs.declared.Survey.{Survey}
use Rattle.gix_tree_size.specs.declared.surveyor.Level.{Level}
use Rattle.gix_tree_size.specs.declared.surveyor.Size.{Size}
use Rattle.gix_tree_size.specs.Survey.{FailsSo, IsFirstMisnamed, IsSurvey, capped, deepest, is_name}
use Rattle.gix_tree_size.specs.Inside.Surveyor.{Surveying, Surveys, fresh_surveyor, size_with, size_with_tree, level_of, misnamed_by, noted, found, size_left, with_size, entered, met, replaced, left, turned, survey_of}
use Rattle.gix_tree_size.proofs.Names.{Tells, tells_none, tells_names, tells_one, tells_both, tells_all}
use Rattle.gix_tree_size.proofs.Sized.{Sized, same_items, Holds, IsPlace, Unfolds, unfolds, place_inside, free, raised, raised_other, raised_tree, deepest_both, go, visit_answered, calls_answered}

-- SIZES

abbrev size : ℕ → ℕ → Size
size n h = record { entries = capped n; depth = capped h }

one_more : (n h : ℕ) → size_with (size n h) ≡ size (n + 1) (max h 1)
one_more n h =
    let entries : capped (capped n + 1) ≡ capped (n + 1) = omega arith in
    let depth : max (capped h) 1 ≡ capped (max h 1) = omega arith in
    λ i. record { entries = entries i; depth = depth i }

tree_more : (n h m k : ℕ) → size_with_tree (size n h) (size m k) ≡ size (n + suc m) (max h (suc k))
tree_more n h m k =
    let entries : capped (capped (capped n + 1) + capped m) ≡ capped (n + suc m) = omega arith in
    let depth : max (capped h) (capped (capped k + 1)) ≡ capped (max h (suc k)) = omega arith in
    λ i. record { entries = entries i; depth = depth i }

-- a tree of which this much was seen
abbrev seen : ObjectId → ℕ → ℕ → Level
seen i n h = level_of i (size n h)

same_seen : (i : ObjectId) {n m h k : ℕ} → n ≡ m → h ≡ k → seen i n h ≡ seen i m k
same_seen i p q = λ j. seen i (p j) (q j)

abbrev calls_around : TreeEntry → Action → Bool → Outcome → List Call
calls_around e a t out = PushPath e.name ∷ visit_call_of t e a ∷ depth_calls_behind e.name t out

run_split : {V : Type 0} (steps : V → Call → V → Type 0) (a c : V) (calls more : List Call) → Run steps a (calls ++ more) c → (b : V) × Run steps a calls b × Run steps b more c
run_split steps a c [] more h = (a, refl, h)
run_split steps a c (call ∷ calls) more h = let r = run_split steps h.0 c calls more h.2 in (r.0, (h.0, h.1, r.1), r.2)

module _ (trees : ObjectId → Option Items) (fails : ObjectId → ExistingError → Type 0) where
  -- A tree that the walk has left: its size is right, and where no name was found that is none, it has none.
  record Knows (i : ObjectId) (s : Size) (m : Option ObjectId) : Type 0 where
    items : Items
    read : trees i ≡ Some items
    entries : ℕ
    depth : ℕ
    named : Bool
    sized : Sized trees items entries depth named
    is : s ≡ size entries depth
    names : m ≡ None → named ≡ true

  abbrev Known : map.FinMap id_cmp (Option Size) → Option ObjectId → Type 0
  Known sizes m = (i : ObjectId) (s : Size) → map.get sizes i ≡ Some (Some s) → Knows i s m

  -- with less found before
  knows_later : {i : ObjectId} {s : Size} {m f : Option ObjectId} → (f ≡ None → m ≡ None) → Knows i s m → Knows i s f
  knows_later less k = record { items = k.items; read = k.read; entries = k.entries; depth = k.depth; named = k.named; sized = k.sized; is = k.is; names = λ none. k.names (less none) }

  known_put : (sizes : map.FinMap id_cmp (Option Size)) (m : Option ObjectId) (i : ObjectId) (value : Option Size) → ((s : Size) → value ≡ Some s → Knows i s m) → Known sizes m → Known (map.insert sizes i value) m
  known_put sizes m i value new old j s at = choose (is_same j i) refl
    where
      there : cond (is_same j i) (Some value) (map.get sizes j) ≡ Some (Some s)
      there = sym (map.get-insert id_total sizes i value j) ∙ at

      choose : (b : Bool) → is_same j i ≡ b → Knows j s m
      choose true same =
          let is : Some value ≡ Some (Some s) = subst (λ b. cond b (Some value) (map.get sizes j) ≡ Some (Some s)) same there in
          let here : value ≡ Some s = cc in
          subst (λ k. Knows k s m) (sym (same_is j i same)) (new s here)
      choose false same = old j s (subst (λ b. cond b (Some value) (map.get sizes j) ≡ Some (Some s)) same there)

  known_replaced : (sizes : map.FinMap id_cmp (Option Size)) (m : Option ObjectId) (i : ObjectId) (s : Size) → Knows i s m → Known sizes m → Known (replaced sizes i s) m
  known_replaced sizes m i s new old = choose (is_some (map.get sizes i))
    where
      choose : (b : Bool) → Known (if b then map.insert sizes i (Some s) else sizes) m
      choose true = known_put sizes m i (Some s) (λ other is. let same : s ≡ other = cc in subst (λ x. Knows i x m) same new) old
      choose false = old

  -- WHAT IS SEEN

  -- what these visits show of what is read of a tree that lies under so many others
  record Measures (above : ℕ) (items : Items) (visits : List Visit) (m f : Option ObjectId) (n h : ℕ) : Type 0 where
    named : Bool
    sized : Sized trees items n h named
    entries : length visits ≡ n
    depth : deepest visits ≡ raised above h
    tells : Tells m visits f
    names : f ≡ None → named ≡ true

  -- the survey has seen this much of the tree more, and is in it again
  record Done (above : ℕ) (items : Items) (visits : List Visit) (i : ObjectId) (n h : ℕ) (old new : Surveying) : Type 0 where
    more : ℕ
    deep : ℕ
    measures : Measures above items visits old.misnamed new.misnamed more deep
    tree : new.tree ≡ seen i (n + more) (max h deep)
    entering : new.entering ≡ false
    levels : new.above ≡ old.above
    known : Known new.sizes new.misnamed

  -- a recorder is shown this, and where that is all, the survey has seen it
  record Shows (p : Place) (above : ℕ) (items : Items) (end : Ending) (i : ObjectId) (n h : ℕ) (old new : Surveying) : Type 0 where
    calls : List Call
    visits : List Visit
    script : DepthScript trees fails p items calls visits end
    answers : AllByRecursion IsRecorderAnswer calls
    unbroken : end ≢ Broken
    done : end ≡ Whole → Done above items visits i n h old new

  -- the survey is in this tree, and has seen so much of it
  record In (i : ObjectId) (n h : ℕ) (s : Surveying) : Type 0 where
    tree : s.tree ≡ seen i n h
    entering : s.entering ≡ false
    known : Known s.sizes s.misnamed

  -- and goes on from there by these calls
  abbrev GoesOn : Place → ℕ → Items → Ending → ObjectId → List Call → Type 0
  GoesOn p above items end i calls = (n h : ℕ) (old new : Surveying) → In i n h old → Run Surveys old calls new → Shows p above items end i n h old new

  -- NAMES

  -- what is found behind the name of an entry
  abbrev found_at : ObjectId → TreeEntry → Option ObjectId → Option ObjectId
  found_at i e m = misnamed_by (is_name e.name) m i

  less_found : (i : ObjectId) (e : TreeEntry) (m : Option ObjectId) → found_at i e m ≡ None → (m ≡ None) × (is_name e.name ≡ true)
  less_found i e m = choose m (is_name e.name)
    where
      choose : (m : Option ObjectId) (b : Bool) → misnamed_by b m i ≡ None → (m ≡ None) × (b ≡ true)
      choose (Some j) b none = cc
      choose None true none = (refl, refl)
      choose None false none = cc

  known_later : (sizes : map.FinMap id_cmp (Option Size)) (i : ObjectId) (e : TreeEntry) (m : Option ObjectId) → Known sizes m → Known sizes (found_at i e m)
  known_later sizes i e m known j s at = knows_later (λ none. (less_found i e m none).0) (known j s at)

  -- MEASURES

  module _ {p : Place} {i : ObjectId} {up : List ObjectId} {above : ℕ} {all : Items} (at : IsPlace trees fails p i up above all) (e : TreeEntry) {m f : Option ObjectId} where
    measures_other : {items : Items} {visits : List Visit} {n h : ℕ} → is_tree e.mode ≡ false → Measures above items visits (found_at i e m) f n h → Measures above (Ok e ∷ items) (go p e ∷ visits) m f (suc n) (max 1 h)
    measures_other {visits = visits} {h = h} plain r = record {
      named = is_name e.name && r.named;
      sized = Sized.other plain r.sized;
      entries = ap suc r.entries;
      depth = (λ k. max (at.deep k) (r.depth k)) ∙ raised_other above h;
      tells = tells_both m (found_at i e m) f (go p e ∷ []) visits (tells_one (go p e) i up at.ids m) r.tells;
      names = λ none.
          let both = less_found i e m (tells_all (found_at i e m) visits f r.tells none).0 in
          λ j. both.1 j && r.names none j;
    }

    measures_tree : {sub items : Items} {ws visits : List Visit} {g : Option ObjectId} {l k n h : ℕ} → is_tree e.mode ≡ true → trees e.id ≡ Some sub → Measures (suc above) sub ws (found_at i e m) g l k
        → Measures above items visits g f n h → Measures above (Ok e ∷ items) (go p e ∷ (ws ++ visits)) m f (suc (l + n)) (max (suc k) h)
    measures_tree {ws = ws} {visits = visits} {g = g} {k = k} {h = h} is read inner r = record {
      named = is_name e.name && (inner.named && r.named);
      sized = Sized.tree is read inner.sized r.sized;
      entries = omega (arith, length-append ws visits, inner.entries, r.entries);
      depth = omega (arith, deepest_both ws visits, at.deep, inner.depth, r.depth, raised_tree above k h);
      tells = tells_both m (found_at i e m) f (go p e ∷ []) (ws ++ visits) (tells_one (go p e) i up at.ids m) (tells_both (found_at i e m) g f ws visits inner.tells r.tells);
      names = λ none.
          let before : g ≡ None = (tells_all g visits f r.tells none).0 in
          let both = less_found i e m (tells_all (found_at i e m) ws g inner.tells before).0 in
          λ j. both.1 j && (inner.names before j && r.names none j);
    }

  -- STEPS

  module _ {p : Place} {i : ObjectId} {up : List ObjectId} {above : ℕ} {all : Items} (at : IsPlace trees fails p i up above all) (e : TreeEntry) where
    -- behind the name of its entry the survey is so
    in_noted : {n h : ℕ} {old : Surveying} → In i n h old → noted old e ≡ record old { misnamed = found_at i e old.misnamed }
    in_noted {old = old} is = λ j. record old { misnamed = misnamed_by (is_name e.name) old.misnamed (is.tree j).id }

    step_other : {items : Items} {end : Ending} (calls : List Call) (a : Action) → is_tree e.mode ≡ false → GoesOn p above items end i calls → GoesOn p above (Ok e ∷ items) end i (calls_around e a false Leaves ++ calls)
    step_other {items = items} {end = end} calls a plain rest n h old new is run =
        let mid : Surveying = run.2.2.0 in
        let now : mid ≡ record old { misnamed = found_at i e old.misnamed; tree = level_of i (size_with (size n h)) } =
        run.2.2.1 ∙ run.2.1.1 ∙ ap (λ s. with_size (noted s e) (size_with s.tree.size)) run.1
        ∙ (λ j. record old { misnamed = misnamed_by (is_name e.name) old.misnamed (is.tree j).id; tree = level_of (is.tree j).id (size_with (is.tree j).size) }) in
        let same : mid.misnamed ≡ found_at i e old.misnamed = ap (λ s. s.misnamed) now in
        let there : In i (n + 1) (max h 1) mid = record {
          tree = ap (λ s. s.tree) now ∙ ap (level_of i) (one_more n h);
          entering = ap (λ s. s.entering) now ∙ is.entering;
          known = subst (λ s. Known s.sizes s.misnamed) (sym now) (known_later old.sizes i e old.misnamed is.known);
        } in
        let r : Shows p above items end i (n + 1) (max h 1) mid new = rest (n + 1) (max h 1) mid new there run.2.2.2 in
        record {
          calls = depth_calls (go p e) ++ r.calls;
          visits = go p e ∷ r.visits;
          script = script.leaves (ap (λ t. outcome_of t (Continue true) (is_among e.id p.ids)) plain) r.script;
          answers = calls_answered p e r.calls r.answers;
          unbroken = r.unbroken;
          done = λ w.
              let d = r.done w in
              record {
                more = suc d.more;
                deep = max 1 d.deep;
                measures = measures_other at e plain (subst (λ m. Measures above items r.visits m new.misnamed d.more d.deep) same d.measures);
                tree = d.tree ∙ same_seen i (omega arith) (omega arith);
                entering = d.entering;
                levels = d.levels ∙ ap (λ s. s.above) now;
                known = d.known;
              };
        }

    -- the place of a tree that the entry is of
    module _ {sub : Items} (is_one : is_tree e.mode ≡ true) (read : trees e.id ≡ Some sub) (held : Holds trees all e.id) where
      abbrev below : IsPlace trees fails (inside p e) e.id (i ∷ up) (suc above) sub
      below = place_inside trees fails at e sub read held

      enters_it : {k l : ℕ} {b : Bool} → Sized trees sub k l b → outcome (go p e) ≡ Enters
      enters_it {k} {l} {b} s =
          let new : is_among e.id p.ids ≡ false = ap (is_among e.id) at.ids ∙ free trees e.id i up below.chain l (record { items = sub; found = read; entries = k; named = b; sized = s }) in
          λ j. outcome_of (is_one j) (Continue true) (new j)

      -- It was left before, or is left now: its visits are shown, and then what follows.
      step_tree : {items : Items} {end : Ending} {n h l k : ℕ} {old mid new : Surveying} {g : Option ObjectId} (calls : List Call) (ws : List Visit) → DepthScript trees fails (inside p e) sub calls ws Whole
          → AllByRecursion IsRecorderAnswer calls → Measures (suc above) sub ws (found_at i e old.misnamed) g l k → mid.misnamed ≡ g → mid.above ≡ old.above
          → Shows p above items end i (n + suc l) (max h (suc k)) mid new → Shows p above (Ok e ∷ items) end i n h old new
      step_tree {items = items} {l = l} {k = k} {old = old} {mid = mid} {new = new} {g = g} calls ws shown answers inner same levels r = record {
        calls = depth_calls (go p e) ++ (PopBack ∷ calls ++ PopBack ∷ r.calls);
        visits = go p e ∷ (ws ++ r.visits);
        script = script.enters (enters_it inner.sized) read shown r.script;
        answers = calls_answered p e _ (tt, all_both IsRecorderAnswer calls (PopBack ∷ r.calls) answers (tt, r.answers));
        unbroken = r.unbroken;
        done = λ w.
            let d = r.done w in
            record {
              more = suc (l + d.more);
              deep = max (suc k) d.deep;
              measures = measures_tree at e is_one read inner (subst (λ m. Measures above items r.visits m new.misnamed d.more d.deep) same d.measures);
              tree = d.tree ∙ same_seen i (omega arith) (omega arith);
              entering = d.entering;
              levels = d.levels ∙ levels;
              known = d.known;
            };
      }

      step_known : {items : Items} {end : Ending} (calls : List Call) (a : Action) (s : Size) → GoesOn p above items end i calls → (n h : ℕ) (old new : Surveying) → In i n h old
          → Run Surveys old (calls_around e a true Leaves ++ calls) new → found old e.id ≡ Some s → Knows e.id s old.misnamed → Shows p above (Ok e ∷ items) end i n h old new
      step_known {items = items} {end = end} calls a s rest n h old new is run has knows =
          let mid : Surveying = run.2.2.0 in
          let names : found_at i e old.misnamed ≡ None → knows.named ≡ true = λ none. knows.names (less_found i e old.misnamed none).0 in
          let sized : Sized trees sub knows.entries knows.depth knows.named = subst (λ those. Sized trees those knows.entries knows.depth knows.named) (same_items trees knows.read read) knows.sized in
          let inner : Unfolds trees fails (inside p e) (suc above) sub knows.entries knows.depth knows.named = unfolds trees fails sized (inside p e) e.id (i ∷ up) (suc above) sub below (λ x there. there) in
          let seen_it : ◌≡◌ {A = Action × Surveying} (a, run.2.0) (met (noted run.0 e) e (found run.0 e.id)) = run.2.1 in
          let now : mid ≡ record old { misnamed = found_at i e old.misnamed; tree = level_of i (size_with_tree (size n h) (size knows.entries knows.depth)) } =
          run.2.2.1 ∙ ap (λ pair. pair.1) (seen_it ∙ ap (λ z. met (noted z e) e (found z e.id)) run.1 ∙ ap (met (noted old e) e) has)
          ∙ (λ j. record old { misnamed = misnamed_by (is_name e.name) old.misnamed (is.tree j).id; tree = level_of (is.tree j).id (size_with_tree (is.tree j).size (knows.is j)) }) in
          let same : mid.misnamed ≡ found_at i e old.misnamed = ap (λ z. z.misnamed) now in
          let there : In i (n + suc knows.entries) (max h (suc knows.depth)) mid = record {
            tree = ap (λ z. z.tree) now ∙ ap (level_of i) (tree_more n h knows.entries knows.depth);
            entering = ap (λ z. z.entering) now ∙ is.entering;
            known = subst (λ z. Known z.sizes z.misnamed) (sym now) (known_later old.sizes i e old.misnamed is.known);
          } in
          let measures : Measures (suc above) sub inner.visits (found_at i e old.misnamed) (found_at i e old.misnamed) knows.entries knows.depth = record {
            named = knows.named;
            sized = sized;
            entries = inner.entries;
            depth = inner.depth;
            tells = tells_names (found_at i e old.misnamed) inner.visits (λ none. inner.names (names none));
            names = names;
          } in
          step_tree inner.calls inner.visits inner.script inner.answers measures same (ap (λ z. z.above) now) (rest (n + suc knows.entries) (max h (suc knows.depth)) mid new there run.2.2.2)

      entered_in : {n h : ℕ} (old mid : Surveying) → In i n h old → mid ≡ record (entered (noted old e) e) { entering = false } → In e.id 0 0 mid
      entered_in old mid is now = record {
        tree = ap (λ z. z.tree) now;
        entering = ap (λ z. z.entering) now;
        known = subst (λ z. Known z.sizes z.misnamed) (sym now)
            (known_put old.sizes (misnamed_by (is_name e.name) old.misnamed old.tree.id) e.id None (λ s none. cc) (known_later old.sizes old.tree.id e old.misnamed is.known));
      }

      -- and is back in the tree above, behind it
      back_in : {n h : ℕ} (old mid last back : Surveying) {ws : List Visit} → In i n h old → mid ≡ record (entered (noted old e) e) { entering = false }
          → (d : Done (suc above) sub ws e.id 0 0 mid last) → back ≡ turned last → In i (n + suc d.more) (max h (suc d.deep)) back × (back.misnamed ≡ last.misnamed) × (back.above ≡ old.above)
      back_in {n} {h} old mid last back is now d turn =
          let s : Size = size d.more d.deep in
          let at_end : last.tree ≡ level_of e.id s = d.tree ∙ same_seen e.id (omega arith) (omega arith) in
          let levels : last.above ≡ old.tree ∷ old.above = d.levels ∙ ap (λ z. z.above) now in
          let here : back ≡ record last { sizes = replaced last.sizes e.id s; tree = level_of i (size_with_tree (size n h) s); above = old.above; entering = false } =
          turn ∙ (λ j. if d.entering j then record last { entering = false } else left (record last { entering = d.entering j; tree = at_end j }) (levels j))
          ∙ (λ j. record last { sizes = replaced last.sizes e.id s; tree = level_of (is.tree j).id (size_with_tree (is.tree j).size s); above = old.above; entering = false }) in
          let knows : Knows e.id s last.misnamed = record { items = sub; read = read; entries = d.more; depth = d.deep; named = d.measures.named; sized = d.measures.sized; is = refl; names = d.measures.names } in (
            record {
              tree = ap (λ z. z.tree) here ∙ ap (level_of i) (tree_more n h d.more d.deep);
              entering = ap (λ z. z.entering) here;
              known = subst (λ z. Known z.sizes z.misnamed) (sym here) (known_replaced last.sizes last.misnamed e.id s knows d.known);
            },
            ap (λ z. z.misnamed) here,
            ap (λ z. z.above) here,
          )

  -- THE WALK

  continues : (e : TreeEntry) (a : Action) (t : Bool) (old new : Surveying) → Surveys old (visit_call_of t e a) new → (into : Bool) × (a ≡ Continue into)
  continues e a false old new h = (true, h.0)
  continues e a true old new h = choose (found old e.id) (ap (λ pair. pair.0) h)
    where
      choose : (size : Option Size) → a ≡ (met (noted old e) e size).0 → (into : Bool) × (a ≡ Continue into)
      choose (Some s) is = (false, is)
      choose None is = (true, is)

  goes_in : (e : TreeEntry) (a : Action) (size : Option Size) (old : Surveying) → a ≡ (met old e size).0 → a ≡ Continue true → size ≡ None
  goes_in e a (Some s) old is goes = cc
  goes_in e a None old is goes = refl

  -- the survey enters the entry's tree
  entering_in : (e : TreeEntry) (a : Action) (calls : List Call) (old new : Surveying) → Run Surveys old (calls_around e a true Enters ++ PopBack ∷ calls) new → found old e.id ≡ None
      → (mid : Surveying) × (mid ≡ record (entered (noted old e) e) { entering = false }) × Run Surveys mid calls new
  entering_in e a calls old new run none =
      let seen_it : ◌≡◌ {A = Action × Surveying} (a, run.2.0) (met (noted run.0 e) e (found run.0 e.id)) = run.2.1 in
      let behind = run.2.2.2.2.2 in (
        behind.0,
        behind.1 ∙ ap turned (run.2.2.2.2.1 ∙ run.2.2.2.1 ∙ run.2.2.1 ∙ ap (λ pair. pair.1) (seen_it ∙ ap (λ z. met (noted z e) e (found z e.id)) run.1 ∙ ap (met (noted old e) e) none)),
        behind.2,
      )

  -- a survey that goes into the tree of an entry
  entered_at : (p : Place) (e : TreeEntry) (a : Action) → outcome (visit p e a) ≡ Enters
      → (is_tree e.mode ≡ true) × (a ≡ Continue true) → (old new : Surveying) (calls : List Call) → Run Surveys old (depth_calls (visit p e a) ++ PopBack ∷ calls) new
      → (mid : Surveying) × (mid ≡ record (entered (noted old e) e) { entering = false }) × Run Surveys mid calls new
  entered_at p e a o into old new calls run =
      let made : Run Surveys old (calls_around e a true Enters ++ PopBack ∷ calls) new =
      subst (λ out. Run Surveys old (calls_around e a true out ++ PopBack ∷ calls) new) o (subst (λ t. Run Surveys old (calls_around e a t (outcome (visit p e a)) ++ PopBack ∷ calls) new) into.0 run) in
      let answer : a ≡ (met (noted old e) e (found old e.id)).0 = ap (λ pair. pair.0) (made.2.1 ∙ ap (λ z. met (noted z e) e (found z e.id)) made.1) in
      entering_in e a calls old new made (goes_in e a (found old e.id) (noted old e) answer into.1)

  -- a walk that ends here, by an ending that shows not all
  ends_by : {p : Place} {above : ℕ} {items : Items} {end : Ending} {i : ObjectId} {n h : ℕ} {old new : Surveying} (calls : List Call) (visits : List Visit) → DepthScript trees fails p items calls visits end
      → AllByRecursion IsRecorderAnswer calls → end ≢ Broken → end ≢ Whole → Shows p above items end i n h old new
  ends_by calls visits s answers unbroken other = record { calls = calls; visits = visits; script = s; answers = answers; unbroken = unbroken; done = λ w. absurd (other w) }

  walked : {p : Place} {items : Items} {calls : List Call} {visits : List Visit} {end : Ending} → DepthScript trees fails p items calls visits end → end ≢ Failed error.Memory
      → (i : ObjectId) (up : List ObjectId) (above : ℕ) (all : Items) → IsPlace trees fails p i up above all → ((x : ObjectId) → Holds trees items x → Holds trees all x) → GoesOn p above items end i calls
  walked script.whole ne i up above all at held n h old new is run = record {
    calls = [];
    visits = [];
    script = script.whole;
    answers = tt;
    unbroken = λ e. cc;
    done = λ w. record {
      more = 0;
      deep = 0;
      measures = record {
        named = true;
        sized = Sized.none;
        entries = refl;
        depth = refl;
        tells = subst (Tells old.misnamed []) (sym (ap (λ z. z.misnamed) run)) (tells_none old.misnamed);
        names = λ _. refl;
      };
      tree = ap (λ z. z.tree) run ∙ is.tree ∙ same_seen i (omega arith) (omega arith);
      entering = ap (λ z. z.entering) run ∙ is.entering;
      levels = ap (λ z. z.above) run;
      known = subst (λ z. Known z.sizes z.misnamed) (sym run) is.known;
    };
  }
  walked (script.leaves {p = p} {e = e} {a = a} {items = items} {calls = calls} {end = end} o rest) ne i up above all at held n h old new is run =
      choose (is_tree e.mode) refl (walked rest ne i up above all at (λ x there. held x (inr there)))
    where
      choose : (t : Bool) → is_tree e.mode ≡ t → GoesOn p above items end i calls → Shows p above (Ok e ∷ items) end i n h old new
      choose false plain again =
          step_other at e calls a plain again n h old new is
          (subst (λ out. Run Surveys old (calls_around e a false out ++ calls) new) o (subst (λ t. Run Surveys old (calls_around e a t (outcome (visit p e a)) ++ calls) new) plain run))
      choose true is_one again =
          let made : Run Surveys old (calls_around e a true Leaves ++ calls) new =
          subst (λ out. Run Surveys old (calls_around e a true out ++ calls) new) o (subst (λ t. Run Surveys old (calls_around e a t (outcome (visit p e a)) ++ calls) new) is_one run) in
          look made (map.get old.sizes e.id) refl
        where
          unseen : Run Surveys old (calls_around e a true Leaves ++ calls) new → found old e.id ≡ None → ⊥
          unseen made none =
              let goes : a ≡ Continue true = ap (λ pair. pair.0) (made.2.1 ∙ ap (λ z. met (noted z e) e (found z e.id)) made.1 ∙ ap (met (noted old e) e) none) in
              let plain : is_tree e.mode ≡ false = says (is_tree e.mode) (is_among e.id p.ids) a Leaves o goes in
              let no : true ≡ false = sym is_one ∙ plain in
              cc

          look : Run Surveys old (calls_around e a true Leaves ++ calls) new → (size : Option (Option Size)) → map.get old.sizes e.id ≡ size → Shows p above (Ok e ∷ items) end i n h old new
          look made (Some (Some s)) there =
              let knows : Knows e.id s old.misnamed = is.known e.id s there in
              step_known at e is_one knows.read (held e.id (inl (is_one, refl))) calls a s again n h old new is made (ap size_left there) knows
          look made (Some None) there = absurd (unseen made (ap size_left there))
          look made None there = absurd (unseen made (ap size_left there))
  walked (script.enters {p = p} {e = e} {a = a} {sub = sub} {items = items} {calls = calls} {more = more} {end = end} o read inner rest) ne i up above all at held n h old new is run =
      let into = says (is_tree e.mode) (is_among e.id p.ids) a Enters o in
      let there : Holds trees all e.id = held e.id (inl (into.0.0, refl)) in
      let made = entered_at p e a o into.0 old new (calls ++ PopBack ∷ more) run in
      let mid : Surveying = made.0 in
      let parts = run_split Surveys mid new calls (PopBack ∷ more) made.2 in
      let last : Surveying = parts.0 in
      let s : Shows (inside p e) (suc above) sub Whole e.id 0 0 mid last =
      walked inner (λ k. cc) e.id (i ∷ up) (suc above) sub (place_inside trees fails at e sub read there) (λ x k. k) 0 0 mid last (entered_in at e into.0.0 read there old mid is made.1) parts.1 in
      let d : Done (suc above) sub s.visits e.id 0 0 mid last = s.done refl in
      let back : Surveying = parts.2.0 in
      let b = back_in at e into.0.0 read there old mid last back is made.1 d parts.2.1 in
      let before : mid.misnamed ≡ found_at i e old.misnamed = ap (λ z. z.misnamed) made.1 ∙ ap (λ l. misnamed_by (is_name e.name) old.misnamed l.id) is.tree in
      step_tree at e into.0.0 read there s.calls s.visits s.script s.answers (subst (λ m. Measures (suc above) sub s.visits m last.misnamed d.more d.deep) before d.measures) b.1 b.2
      (walked rest ne i up above all at (λ x k. held x (inr k)) (n + suc d.more) (max h (suc d.deep)) back new b.0 parts.2.2)
  walked (script.ends_inside {p = p} {e = e} {a = a} {sub = sub} {items = items} {calls = calls} {end = end} o read inner other) ne i up above all at held n h old new is run =
      let into = says (is_tree e.mode) (is_among e.id p.ids) a Enters o in
      let there : Holds trees all e.id = held e.id (inl (into.0.0, refl)) in
      let made = entered_at p e a o into.0 old new calls run in
      let s : Shows (inside p e) (suc above) sub end e.id 0 0 made.0 new =
      walked inner ne e.id (i ∷ up) (suc above) sub (place_inside trees fails at e sub read there) (λ x k. k) 0 0 made.0 new (entered_in at e into.0.0 read there old made.0 is made.1) made.2 in
      ends_by (depth_calls (go p e) ++ PopBack ∷ s.calls) (go p e ∷ s.visits) (script.ends_inside (subst (λ b. outcome (visit p e b) ≡ Enters) into.0.1 o) read s.script other)
      (calls_answered p e _ (tt, s.answers)) s.unbroken other
  walked (script.not_found {p = p} {e = e} {a = a} o f) ne i up above all at held n h old new is run =
      let goes = (says (is_tree e.mode) (is_among e.id p.ids) a Enters o).0.1 in
      ends_by (depth_calls (go p e)) (go p e ∷ []) (script.not_found (subst (λ b. outcome (visit p e b) ≡ Enters) goes o) f) (visit_answered p e) (λ k. cc) (λ k. cc)
  walked (script.breaks {p = p} {e = e} {a = a} o) ne i up above all at held n h old new is run =
      let broke = says (is_tree e.mode) (is_among e.id p.ids) a Breaks o in
      let on = continues e a (is_tree e.mode) run.0 run.2.0 run.2.1 in
      let no : Break broke.0 ≡ Continue on.0 = sym broke.1 ∙ on.1 in
      cc
  walked (script.cycles {p = p} {e = e} {a = a} o) ne i up above all at held n h old new is run =
      let goes = (says (is_tree e.mode) (is_among e.id p.ids) a Cycles o).0.1 in
      ends_by (depth_calls (go p e)) (go p e ∷ []) (script.cycles (subst (λ b. outcome (visit p e b) ≡ Cycles) goes o)) (visit_answered p e) (λ k. cc) (λ k. cc)
  walked script.fault ne i up above all at held n h old new is run = ends_by [] [] script.fault tt (λ k. cc) (λ k. cc)
  walked (script.no_memory_at_look_up o) ne i up above all at held n h old new is run = absurd (ne refl)
  walked (script.no_memory_for_descent a o) ne i up above all at held n h old new is run = absurd (ne refl)
  walked (script.refused a r) ne i up above all at held n h old new is run = absurd (ne refl)

-- A WALK FROM A ROOT

-- a recorder that was led so
tracked : (old : Tracked) (calls : List Call) → AllByRecursion IsRecorderAnswer calls → (new : Tracked) × Run Tracks old calls new
tracked old [] h = (old, refl)
tracked old (call ∷ calls) h = let next : Tracked = record old { held = recorded old.location old.held call } in let r = tracked next calls h.1 in (r.0, (next, (refl, (h.0, refl)), r.1))

deep_at : (visits : List Visit) (deep : ℕ) → deepest visits ≡ raised 0 deep → max 0 deep ≡ deepest visits
deep_at visits zero e = omega (arith, e)
deep_at visits (suc deep) e = omega (arith, e)

-- the survey says this of these visits
record IsSaid (visits : List Visit) (s : Surveying) : Type 0 where
  entries : s.tree.size.entries ≡ capped (length visits)
  depth : s.tree.size.depth ≡ capped (deepest visits)
  misnamed : IsFirstMisnamed visits s.misnamed

module _ (objects : Objects) (faulty : ObjectId → Type 0) (root : ObjectId) (new : Surveying) where
  abbrev Fails : ObjectId → ExistingError → Type 0
  Fails = LookUpFails objects faulty

  -- a recorder is shown this, and where that is all, the survey has seen it
  record Rooted (end : Ending) : Type 0 where
    calls : List Call
    visits : List Visit
    script : IsDepthScript (trees_of objects) Fails root calls visits end
    answers : AllByRecursion IsRecorderAnswer calls
    unbroken : end ≢ Broken
    done : end ≡ Whole → IsSaid visits new

  rooted : {calls : List Call} {visits : List Visit} {end : Ending} → IsDepthScript (trees_of objects) Fails root calls visits end → end ≢ Failed error.Memory → Run Surveys (fresh_surveyor root) calls new → Rooted end
  rooted (script.found {items = items} read walk) ne run =
      let at : IsPlace (trees_of objects) Fails (known_root root) root [] 0 items = record { ids = refl; deep = refl; chain = (tt, tt); read = read } in
      let known : Known (trees_of objects) Fails (map.insert map.empty root None) None =
      known_put (trees_of objects) Fails map.empty None root None (λ s none. cc) (λ i s there. let no : None ≡ Some (Some s) = sym (map.get-empty id_cmp i) ∙ there in cc) in
      let is : In (trees_of objects) Fails root 0 0 run.0 = record {
        tree = ap (λ z. z.tree) run.1;
        entering = ap (λ z. z.entering) run.1;
        known = subst (λ z. Known (trees_of objects) Fails z.sizes z.misnamed) (sym run.1) known;
      } in
      let s = walked (trees_of objects) Fails walk ne root [] 0 items at (λ x k. k) 0 0 run.0 new is run.2 in
      record {
        calls = PopBack ∷ s.calls;
        visits = s.visits;
        script = script.found read s.script;
        answers = (tt, s.answers);
        unbroken = s.unbroken;
        done = λ w.
            let d = s.done w in
            record {
              entries = ap (λ l. l.size.entries) d.tree ∙ ap capped (omega (arith, d.measures.entries));
              depth = ap (λ l. l.size.depth) d.tree ∙ ap capped (deep_at s.visits d.deep d.measures.depth);
              misnamed = subst (λ m. Tells m s.visits new.misnamed) (ap (λ z. z.misnamed) run.1) d.measures.tells;
            };
      }
  rooted (script.not_found f) ne run = record { calls = []; visits = []; script = script.not_found f; answers = tt; unbroken = λ e. cc; done = λ w. cc }
  rooted script.no_memory ne run = absurd (ne refl)

  -- what a survey that ended so says
  pub told : (old : Surveying) → old ≡ fresh_surveyor root → (answer : Result (Unit {0}) Error) → DepthFirst objects faulty Surveys root old new answer → answer ≡ Ok tt → IsSurvey objects faulty root (survey_of new)
  told old fresh answer walk well = choose walk.end (rooted walk.script (λ e. let no : Ok tt ≡ Err error.Memory = sym well ∙ walk.answered ∙ ap depth_answer e in cc) (subst (λ s. Run Surveys s walk.calls new) fresh walk.run)) (sym well ∙ walk.answered)
    where
      choose : (end : Ending) → Rooted end → Ok tt ≡ depth_answer end → IsSurvey objects faulty root (survey_of new)
      choose Whole r is =
          let t = tracked fresh_recorder r.calls r.answers in
          let d = r.done refl in
          record {
            recorder = t.0;
            walk = record { calls = r.calls; visits = r.visits; end = Whole; script = r.script; run = t.1; answered = refl };
            entries = d.entries;
            depth = d.depth;
            misnamed = d.misnamed;
          }
      choose Broken r is = absurd (r.unbroken refl)
      choose (Failed why) r is = cc

  -- and why it fails
  failed : (old : Surveying) → old ≡ fresh_surveyor root → (answer : Result (Unit {0}) Error) → DepthFirst objects faulty Surveys root old new answer → (e : Error) → answer ≡ Err e → e ≢ error.Memory → FailsSo objects faulty root e
  failed old fresh answer walk e is other = choose walk.end (sym is ∙ walk.answered) (λ ne. rooted walk.script ne (subst (λ s. Run Surveys s walk.calls new) fresh walk.run))
    where
      choose : (end : Ending) → Err e ≡ depth_answer end → (end ≢ Failed error.Memory → Rooted end) → FailsSo objects faulty root e
      choose Whole same r = cc
      choose Broken same r = cc
      choose (Failed why) same r =
          let one : e ≡ why = cc in
          let s = r (λ k. let no : why ≡ error.Memory = cc in other (one ∙ no)) in
          let t = tracked fresh_recorder s.calls s.answers in
          (t.0, record { calls = s.calls; visits = s.visits; end = Failed why; script = s.script; run = t.1; answered = same })

  pub failed_by : (old : Surveying) → old ≡ fresh_surveyor root → (answer : Result (Unit {0}) Error) → DepthFirst objects faulty Surveys root old new answer → (e : Error) → answer ≡ Err e → (result : Result Survey Error) → result ≡ Err e
      → IfErr result (λ why. why ≢ error.Memory → FailsSo objects faulty root why)
  failed_by old fresh answer walk e is result same = subst (λ r. IfErr r (λ why. why ≢ error.Memory → FailsSo objects faulty root why)) (sym same) (failed old fresh answer walk e is)
