-- The names of what a walk of a tree visits are those of the entries of the trees that it meets.
use Rattle.std.proofs.Common.{◌≡◌, List, [], ◌∷◌, Bool, true, false, refl, sym, subst, ◌∙◌, if◌then◌else◌, Contains}
use Rattle.gix_commands.proofs.Common.{ObjectId, Objects, Contains-here, Contains-there, entries_at, LookUpFails, trees_of, Place, Visit, Enters, never_faulty}
use Rattle.std.specs.List.{AllByRecursion}
use Rattle.gix_hash.specs.Reach as reach
use Rattle.gix_hash.specs.Reach.{Reaches}
use Rattle.gix_object.specs.TreeItems.{TreeEntry, is_tree}
use Rattle.gix_tree.specs.Laws.{subtrees, subtrees_of}
use Rattle.gix_tree.specs.Paths.{HaveNames, IsName}
use Rattle.gix_tree.specs.Preorder as order
use Rattle.gix_tree.specs.Preorder.{IsPreorder}
use Rattle.gix_tree.proofs.All.{all_both, all_right}
use Rattle.gix_tree.proofs.Outcomes.{says}
use Rattle.gix_tree_size.specs.Survey.{IsMisnamed}
use Rattle.gix_commands.specs.Listings.{Unfolds, Misnames, AreNamed}

-- no visit is of a name that is none where all are of names
pub no_misnamed : (visits : List Visit) (i : ObjectId) → HaveNames visits → IsMisnamed visits i → ⊥
no_misnamed visits i names first = first.6 (all_right (λ v. IsName v.entry.name) first.0 (first.2 ∷ first.1) (subst HaveNames first.4 names)).0

module _ (objects : Objects) (tree : ObjectId) where
  abbrev entries : ObjectId → List TreeEntry
  entries = entries_at (trees_of objects)

  -- the visit's entry is in the nearest tree of its place
  record Held (v : Visit) : Type 0 where
    nearest : ObjectId
    above : List ObjectId
    place : v.place.ids ≡ nearest ∷ above
    holds : Contains (entries nearest) v.entry

  held : {p : Place} {es : List TreeEntry} {vs : List Visit} {broken : Bool} → IsPreorder entries p es vs broken → (i : ObjectId) (up : List ObjectId) → p.ids ≡ i ∷ up
      → ((e : TreeEntry) → Contains es e → Contains (entries i) e) → AllByRecursion Held vs
  held order.none i up k w = tt
  held (order.leaves {e = e} {es = es} o rest) i up k w = (record { nearest = i; above = up; place = k; holds = w e (Contains-here e es) }, held rest i up k (λ x c. w x (Contains-there x e es c)))
  held (order.enters {p = p} {e = e} {es = es} {ws = ws} {vs = vs} o sub rest) i up k w = (
    record { nearest = i; above = up; place = k; holds = w e (Contains-here e es) },
    all_both Held ws vs (held sub e.id p.ids refl (λ x c. c)) (held rest i up k (λ x c. w x (Contains-there x e es c))),
  )
  held (order.broken_inside {p = p} {e = e} {es = es} o sub) i up k w = (record { nearest = i; above = up; place = k; holds = w e (Contains-here e es) }, held sub e.id p.ids refl (λ x c. c))
  held (order.breaks {e = e} {es = es} o) i up k w = (record { nearest = i; above = up; place = k; holds = w e (Contains-here e es) }, tt)

  first_same : {i j : ObjectId} {is js : List ObjectId} → i ∷ is ≡ j ∷ js → i ≡ j
  first_same e = cc

  pub misnames : (visits : List Visit) (i : ObjectId) → Unfolds objects tree visits → IsMisnamed visits i → Misnames objects tree i
  misnames visits i unfolds first =
      let all = held unfolds.in_order tree [] refl (λ x c. c) in
      let one : Held first.2 = (all_right Held first.0 (first.2 ∷ first.1) (subst (AllByRecursion Held) first.4 all)).0 in
      record {
        visits = visits;
        unfolds = unfolds;
        first = first;
        entry = first.2.entry;
        held = subst (λ j. Contains (entries j) first.2.entry) (first_same (sym one.place ∙ first.7)) one.holds;
        unnamed = first.6;
      }

  module _ (named : AreNamed objects tree) where
    abbrev Next : ObjectId → List ObjectId
    Next i = subtrees_of (trees_of objects) (LookUpFails objects (never_faulty objects)) (λ e. true) i

    -- an entry of a tree that is met
    record Met (e : TreeEntry) : Type 0 where
      name : IsName e.name
      met : is_tree e.mode ≡ true → Reaches Next (tree ∷ []) e.id

    all_met : (es : List TreeEntry) → ((j : ObjectId) → Contains (subtrees (λ e. true) es) j → Reaches Next (tree ∷ []) j) → AllByRecursion (λ e. IsName e.name) es → AllByRecursion Met es
    all_met [] w h = tt
    all_met (e ∷ es) w h = (
      record { name = h.0; met = λ t. w e.id (subst (λ b. Contains (if b then e.id ∷ subtrees (λ x. true) es else subtrees (λ x. true) es) e.id) (sym t) (Contains-here e.id (subtrees (λ x. true) es))) },
      all_met es (λ j c. w j (later (is_tree e.mode) j c)) h.1,
    )
      where
        later : (b : Bool) (j : ObjectId) → Contains (subtrees (λ x. true) es) j → Contains (if b then e.id ∷ subtrees (λ x. true) es else subtrees (λ x. true) es) j
        later true j c = Contains-there j e.id (subtrees (λ x. true) es) c
        later false j c = c

    met_at : (i : ObjectId) → Reaches Next (tree ∷ []) i → AllByRecursion Met (entries i)
    met_at i r = all_met (entries i) (λ j c. reach.step r c) (named i r)

    names : {p : Place} {es : List TreeEntry} {vs : List Visit} {broken : Bool} → IsPreorder entries p es vs broken → AllByRecursion Met es → HaveNames vs
    names order.none h = tt
    names (order.leaves o rest) h = (h.0.name, names rest h.1)
    names (order.enters {p = p} {e = e} {a = a} {ws = ws} {vs = vs} o sub rest) h =
        (h.0.name, all_both (λ v. IsName v.entry.name) ws vs (names sub (met_at e.id (h.0.met (says (is_tree e.mode) _ a Enters o).0.0))) (names rest h.1))
    names (order.broken_inside {p = p} {e = e} {a = a} o sub) h = (h.0.name, names sub (met_at e.id (h.0.met (says (is_tree e.mode) _ a Enters o).0.0)))
    names (order.breaks o) h = (h.0.name, tt)

    pub have_names : (visits : List Visit) → Unfolds objects tree visits → HaveNames visits
    have_names visits unfolds = names unfolds.in_order (met_at tree (reach.start (Contains-here tree [])))
