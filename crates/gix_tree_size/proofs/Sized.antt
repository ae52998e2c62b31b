-- How large a tree is that holds itself nowhere, and its walk wherever it is met.
use Rattle.std.proofs.lemmas.Bool.{and_parts}
use Rattle.std.proofs.Common.{◌≡◌, ◌≤◌, ◌<◌, ◌⊎◌, inl, inr, ℕ, zero, suc, ◌+◌, max, Bool, true, false, ◌&&◌, ◌||◌, List, [], ◌∷◌, ◌++◌, length, length-append, Option, Some, Ok, Err, refl, sym, ap, subst, ◌∙◌, arith, Continue}
use Rattle.std.specs.List.{AllByRecursion}
use Rattle.gix_hash.specs.declared.ObjectId.{ObjectId}
use Rattle.gix_hash.specs.Id.{is_among, is_same}
use Rattle.gix_hash.proofs.Ids.Membership.{same_is}
use Rattle.gix_object.specs.declared.find.existing_iter.Error.{Error as ExistingError}
use Rattle.gix_object.specs.TreeItems.{TreeEntry, is_tree}
use Rattle.gix_tree.specs.Delegate.{Call, PopBack}
use Rattle.gix_tree.specs.Paths.{HaveNames, IsName}
use Rattle.gix_tree.specs.Recorder.{IsRecorderAnswer}
use Rattle.gix_tree.specs.Script.{DepthScript, depth_calls, depth_calls_behind, whole, leaves, enters}
use Rattle.gix_tree.specs.Visits.{Items, Place, Visit, visit, inside, Outcome, Leaves, Enters, Cycles, Breaks, outcome, outcome_of, visit_call_of, Whole}
use Rattle.gix_tree.proofs.All.{all_both}
use Rattle.gix_tree_size.specs.Survey.{deepest, is_name}
use Rattle.gix_tree_size.proofs.Names.{is_named}

-- how deep visits are in a tree of this depth that lies under so many others
abbrev pub raised : ℕ → ℕ → ℕ
raised above zero = 0
raised above (suc depth) = above + suc depth

module _ (trees : ObjectId → Option Items) where
  -- Of what is read of a tree: how many entries there are in all, how deep they lie, and whether each name is one. There is no such number of
  -- a tree that holds itself.
  pub data Sized : Items → (entries depth : ℕ) → (named : Bool) → Type 0 where
    none : Sized [] 0 0 true
    other : {e : TreeEntry} {items : Items} {n h : ℕ} {b : Bool} → is_tree e.mode ≡ false → Sized items n h b → Sized (Ok e ∷ items) (suc n) (max 1 h) (is_name e.name && b)
    tree : {e : TreeEntry} {sub items : Items} {m k n h : ℕ} {b c : Bool} → is_tree e.mode ≡ true → trees e.id ≡ Some sub → Sized sub m k b → Sized items n h c
        → Sized (Ok e ∷ items) (suc (m + n)) (max (suc k) h) (is_name e.name && (b && c))

  pub same_items : {i : ObjectId} {xs ys : Items} → trees i ≡ Some xs → trees i ≡ Some ys → xs ≡ ys
  same_items f g = let both : Some _ ≡ Some _ = sym f ∙ g in cc

  one_depth : {items : Items} {n m h k : ℕ} {b c : Bool} → Sized items n h b → Sized items m k c → h ≡ k
  one_depth none none = refl
  one_depth (other p s) (other q t) = ap (max 1) (one_depth s t)
  one_depth (other p s) (tree q f u t) = cc
  one_depth (tree p f u s) (other q t) = cc
  one_depth (tree {k = k} {h = h} {b = b} p f u s) (tree {m = m} {k = l} {h = g} {b = c} q d v t) =
      let inner : k ≡ l = one_depth u (subst (λ those. Sized those m l c) (same_items d f) v) in
      let rest : h ≡ g = one_depth s t in
      omega (arith, inner, rest)

  -- a stored tree of this depth
  pub record SizedAt (i : ObjectId) (h : ℕ) : Type 0 where
    pub items : Items
    pub found : trees i ≡ Some items
    pub entries : ℕ
    pub named : Bool
    pub sized : Sized items entries h named

  one_depth_at : {i : ObjectId} {h k : ℕ} → SizedAt i h → SizedAt i k → h ≡ k
  one_depth_at {k = k} s t = one_depth s.sized (subst (λ those. Sized those t.entries k t.named) (same_items t.found s.found) t.sized)

  -- the tree of this id is among what is read of another
  abbrev pub Holds : Items → ObjectId → Type 0
  Holds [] i = ⊥
  Holds (Ok e ∷ items) i = ((is_tree e.mode ≡ true) × (e.id ≡ i)) ⊎ Holds items i
  Holds (Err why ∷ items) i = Holds items i

  -- it has a lesser depth
  abbrev Lesser : ObjectId → ℕ → Type 0
  Lesser i h = (k : ℕ) × SizedAt i k × (k < h)

  lesser : {items : Items} {n h : ℕ} {b : Bool} → Sized items n h b → (i : ObjectId) → Holds items i → Lesser i h
  lesser none i held = absurd held
  lesser (other p s) i (inl held) = cc
  lesser (other p s) i (inr held) = let r = lesser s i held in (r.0, r.1, omega (arith, r.2))
  lesser (tree {sub = sub} {m = m} {k = k} {b = b} p f u s) i (inl held) = (k, subst (λ j. SizedAt j k) held.1 (record { items = sub; found = f; entries = m; named = b; sized = u }), omega arith)
  lesser (tree p f u s) i (inr held) = let r = lesser s i held in (r.0, r.1, omega (arith, r.2))

  -- these ids, the nearest first, are those of a tree, of a tree that holds it, and so on
  abbrev pub IsUnder : ObjectId → List ObjectId → Type 0
  IsUnder i [] = Unit {0}
  IsUnder i (j ∷ up) = (items : Items) × (trees j ≡ Some items) × Holds items i

  abbrev pub Chain : List ObjectId → Type 0
  Chain [] = Unit {0}
  Chain (i ∷ up) = IsUnder i up × Chain up

  lesser_under : (i j : ObjectId) (up : List ObjectId) → IsUnder i (j ∷ up) → (h : ℕ) → SizedAt j h → Lesser i h
  lesser_under i j up under h s = lesser s.sized i (subst (λ those. Holds those i) (same_items under.1 s.found) under.2)

  -- where a tree above has a depth, the nearest has one, and no greater
  nearest : (i : ObjectId) (up : List ObjectId) → Chain (i ∷ up) → (a : ObjectId) (h : ℕ) → SizedAt a h → is_among a (i ∷ up) ≡ true → (k : ℕ) × SizedAt i k × (k ≤ h)
  nearest i [] chain a h s among = go (is_same a i) refl among
    where
      go : (b : Bool) → is_same a i ≡ b → b || false ≡ true → (k : ℕ) × SizedAt i k × (k ≤ h)
      go true same e = (h, subst (λ x. SizedAt x h) (same_is a i same) s, omega arith)
      go false same e = cc
  nearest i (j ∷ up) chain a h s among = go (nearest j up chain.1 a h s) (is_same a i) refl among
    where
      go : (is_among a (j ∷ up) ≡ true → (k : ℕ) × SizedAt j k × (k ≤ h)) → (b : Bool) → is_same a i ≡ b → b || is_among a (j ∷ up) ≡ true → (k : ℕ) × SizedAt i k × (k ≤ h)
      go above true same e = (h, subst (λ x. SizedAt x h) (same_is a i same) s, omega arith)
      go above false same e =
          let r = above e in
          let l = lesser_under i j up chain.0 r.0 r.1 in
          (l.0, l.1, omega (arith, l.2, r.2))

  -- a tree that has a depth is none of those that it lies under
  pub free : (x i : ObjectId) (up : List ObjectId) → Chain (x ∷ i ∷ up) → (k : ℕ) → SizedAt x k → is_among x (i ∷ up) ≡ false
  free x i up chain k s = go (is_among x (i ∷ up)) refl
    where
      go : (b : Bool) → is_among x (i ∷ up) ≡ b → b ≡ false
      go false among = refl
      go true among =
          let r = nearest i up chain.1 x k s among in
          let l = lesser_under x i up chain.0 r.0 r.1 in
          let same : l.0 ≡ k = one_depth_at l.1 s in
          let no : ⊥ = omega (arith, l.2, r.2, same) in
          absurd no

raised_is : (above : ℕ) (h : ℕ) → 0 < h → raised above h ≡ above + h
raised_is above zero p = let no : ⊥ = omega arith in absurd no
raised_is above (suc h) p = refl

-- of one entry that is no tree
pub raised_other : (a h : ℕ) → max (suc a) (raised a h) ≡ raised a (max 1 h)
raised_other a zero = omega (arith, raised_is a (max 1 0) (omega arith))
raised_other a (suc h) = omega (arith, raised_is a (max 1 (suc h)) (omega arith))

-- and of one that is a tree
pub raised_tree : (a k h : ℕ) → max (suc a) (max (raised (suc a) k) (raised a h)) ≡ raised a (max (suc k) h)
raised_tree a zero zero = omega (arith, raised_is a (max (suc 0) 0) (omega arith))
raised_tree a zero (suc h) = omega (arith, raised_is a (max (suc 0) (suc h)) (omega arith))
raised_tree a (suc k) zero = omega (arith, raised_is a (max (suc (suc k)) 0) (omega arith))
raised_tree a (suc k) (suc h) = omega (arith, raised_is a (max (suc (suc k)) (suc h)) (omega arith))

pub deepest_both : (xs ys : List Visit) → deepest (xs ++ ys) ≡ max (deepest xs) (deepest ys)
deepest_both [] ys = omega arith
deepest_both (v ∷ xs) ys = omega (arith, deepest_both xs ys)

-- CALLS OF A RECORDER

abbrev pub go : Place → TreeEntry → Visit
go p e = visit p e (Continue true)

answered : (t : Bool) (e : TreeEntry) → IsRecorderAnswer (visit_call_of t e (Continue true))
answered true e = refl
answered false e = refl

behind_answered : (name : List ℕ) (t : Bool) (o : Outcome) → AllByRecursion IsRecorderAnswer (depth_calls_behind name t o)
behind_answered name t Leaves = (tt, tt)
behind_answered name t Enters = (tt, (tt, (tt, tt)))
behind_answered name t Cycles = (tt, tt)
behind_answered name true Breaks = (tt, tt)
behind_answered name false Breaks = tt

-- around a visit that goes on
pub visit_answered : (p : Place) (e : TreeEntry) → AllByRecursion IsRecorderAnswer (depth_calls (go p e))
visit_answered p e = (tt, (answered (is_tree e.mode) e, behind_answered e.name (is_tree e.mode) (outcome (go p e))))

-- and then these
pub calls_answered : (p : Place) (e : TreeEntry) (calls : List Call) → AllByRecursion IsRecorderAnswer calls → AllByRecursion IsRecorderAnswer (depth_calls (go p e) ++ calls)
calls_answered p e calls h = all_both IsRecorderAnswer (depth_calls (go p e)) calls (visit_answered p e) h

-- A WALK THAT SHOWS ALL

module _ (trees : ObjectId → Option Items) (fails : ObjectId → ExistingError → Type 0) where
  -- A walk of a recorder through what is read of a tree at this place, which lies under so many trees, shows this much.
  pub record Unfolds (p : Place) (above : ℕ) (items : Items) (n h : ℕ) (named : Bool) : Type 0 where
    pub calls : List Call
    pub visits : List Visit
    pub script : DepthScript trees fails p items calls visits Whole
    pub answers : AllByRecursion IsRecorderAnswer calls
    pub entries : length visits ≡ n
    pub depth : deepest visits ≡ raised above h
    pub names : named ≡ true → HaveNames visits

  -- the place of the tree of the nearest id, of which all this is read, and how many trees it lies under
  pub record IsPlace (p : Place) (i : ObjectId) (up : List ObjectId) (above : ℕ) (all : Items) : Type 0 where
    pub ids : p.ids ≡ i ∷ up
    pub deep : length p.ids ≡ suc above
    pub chain : Chain trees (i ∷ up)
    pub read : trees i ≡ Some all

  -- the place of a tree in it
  pub place_inside : {p : Place} {i : ObjectId} {up : List ObjectId} {above : ℕ} {all : Items} → IsPlace p i up above all → (e : TreeEntry) (sub : Items)
      → trees e.id ≡ Some sub → Holds trees all e.id → IsPlace (inside p e) e.id (i ∷ up) (suc above) sub
  place_inside {all = all} at e sub found held = record { ids = ap (λ ids. e.id ∷ ids) at.ids; deep = ap suc at.deep; chain = ((all, at.read, held), at.chain); read = found }

  pub unfolds : {items : Items} {n h : ℕ} {named : Bool} → Sized trees items n h named → (p : Place) (i : ObjectId) (up : List ObjectId) (above : ℕ) (all : Items) → IsPlace p i up above all
      → ((x : ObjectId) → Holds trees items x → Holds trees all x) → Unfolds p above items n h named
  unfolds none p i up above all at held = record { calls = []; visits = []; script = whole; answers = tt; entries = refl; depth = refl; names = λ _. tt }
  unfolds (other {e = e} {h = h} {b = b} plain s) p i up above all at held =
      let r = unfolds s p i up above all at (λ x there. held x (inr there)) in
      let out : outcome (go p e) ≡ Leaves = ap (λ t. outcome_of t (Continue true) (is_among e.id p.ids)) plain in
      record {
        calls = depth_calls (go p e) ++ r.calls;
        visits = go p e ∷ r.visits;
        script = leaves out r.script;
        answers = calls_answered p e r.calls r.answers;
        entries = ap suc r.entries;
        depth = (λ k. max (at.deep k) (r.depth k)) ∙ raised_other above h;
        names = λ t. let both = and_parts (is_name e.name) b t in (is_named e.name both.0, r.names both.1);
      }
  unfolds (tree {e = e} {sub = sub} {m = m} {k = k} {n = n} {h = h} {b = b} {c = c} is found u s) p i up above all at held =
      let there : Holds trees all e.id = held e.id (inl (is, refl)) in
      let below = place_inside at e sub found there in
      let new : is_among e.id p.ids ≡ false = ap (is_among e.id) at.ids ∙ free trees e.id i up below.chain k (record { items = sub; found = found; entries = m; named = b; sized = u }) in
      let out : outcome (go p e) ≡ Enters = λ j. outcome_of (is j) (Continue true) (new j) in
      let inner = unfolds u (inside p e) e.id (i ∷ up) (suc above) sub below (λ x there. there) in
      let r = unfolds s p i up above all at (λ x there. held x (inr there)) in
      record {
        calls = depth_calls (go p e) ++ (PopBack ∷ inner.calls ++ PopBack ∷ r.calls);
        visits = go p e ∷ (inner.visits ++ r.visits);
        script = enters out found inner.script r.script;
        answers = calls_answered p e _ (tt, all_both IsRecorderAnswer inner.calls (PopBack ∷ r.calls) inner.answers (tt, r.answers));
        entries = omega (arith, length-append inner.visits r.visits, inner.entries, r.entries);
        depth = omega (arith, deepest_both inner.visits r.visits, at.deep, inner.depth, r.depth, raised_tree above k h);
        names = λ t.
            let both = and_parts (is_name e.name) (b && c) t in
            let two = and_parts b c both.1 in
            (is_named e.name both.0, all_both (λ v. IsName v.entry.name) inner.visits r.visits (inner.names two.0) (r.names two.1));
      }
