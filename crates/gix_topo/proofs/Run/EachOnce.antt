-- What a list in either order has, over parents that texts name: each once, members alone, children first, and all where no member is its own ancestor.
use Rattle.std.proofs.Common.{◌≡◌, ◌⊎◌, ◌++◌, List, ◌∷◌, true, ℤ, Option, Some, None, Contains, refl, sym, subst, ◌∙◌, flat_map}
use Rattle.gix_topo.proofs.Common.{Contains-append_left, Contains-append_right, ObjectId, is_among, Reaches, start, step, Object, Objects, Parents, Sorting, by_mode, AreDistinct, IsInWalk, IsAcyclicIn, IsChild, IsBeginningBy, IsListBy, IsNextBy}
use Rattle.gix_topo.proofs.Common.{among_from, among_is, no_member, among_flat, walked_within}
use Rattle.std.specs.FinMap as map_of
use Rattle.gix_revwalk.specs.Texts.{text_parents, next_in, text_next}
use Rattle.gix_revwalk.proofs.Rows.{found_entry}
use Rattle.gix_topo.proofs.Readiness.IsReady.{in_walk_top}
use Rattle.gix_topo.proofs.Run.ReadyInTurn.{IsReadyNext, ready_list, ready_begins, each_once, each_member, children_before, all_given}

-- what the texts of stored commits name is finite
abbrev pub named_all : Objects → List ObjectId
named_all objects = flat_map (λ entry. text_parents entry.0 entry.1) (map_of.entries objects)

texts_named : (objects : Objects) (c i : ObjectId) → Contains (text_next objects c) i → Contains (named_all objects) i
texts_named objects c i n = go (map_of.get objects c) refl
  where
    go : (o : Option Object) → map_of.get objects c ≡ o → Contains (named_all objects) i
    go None e = absurd (no_member i (subst (λ o. Contains (next_in c o) i) e n))
    go (Some object) e = among_is i _ (among_flat (λ entry. text_parents entry.0 entry.1) (map_of.entries objects) (c, object) i (found_entry (map_of.entries objects) c object (sym (map_of.get-entries objects c) ∙ e)) (among_from i _ (subst (λ o. Contains (next_in c o) i) e n)))

-- what starts reach is among the starts and what texts name
pub reached_known : (objects : Objects) (next : ObjectId → List ObjectId) (starts : List ObjectId) → ((c i : ObjectId) → Contains (next c) i → Contains (text_next objects c) i) → (i : ObjectId) → Reaches next starts i → Contains (starts ++ named_all objects) i
reached_known objects next starts named i (start s) = Contains-append_left starts (named_all objects) i s
reached_known objects next starts named i (step {c = c} r n) = Contains-append_right starts (named_all objects) i (texts_named objects c i (named c i n))

module _ (objects : Objects) (next : ObjectId → List ObjectId) (named : (c i : ObjectId) → Contains (next c) i → Contains (text_next objects c) i) (m : Parents) (time : ObjectId → ℤ) (tips ends ids : List ObjectId) where
  abbrev walked : ObjectId → List ObjectId
  walked i = by_mode m (next i)

  abbrev In : ObjectId → Type 0
  In = IsInWalk walked next tips ends

  reached_named : (i : ObjectId) → Reaches walked tips i → is_among i (tips ++ named_all objects) ≡ true
  reached_named i r = among_from i (tips ++ named_all objects) (reached_known objects walked tips (λ c j n. named c j (walked_within m (next c) j n)) i r)

  top : (i : ObjectId) → In i → Contains tips i ⊎ ((c : ObjectId) × IsChild walked In c i)
  top = in_walk_top walked next tips ends (λ c i n. walked_within m (next c) i n)

  pub all_ready : (s : Sorting) → IsListBy (IsNextBy s time walked In tips) ids → IsListBy (IsReadyNext walked In) ids
  all_ready s h = ready_list time walked In tips top s ids h

  -- a beginning has each once, members alone, and every child of a member before it
  pub first_by : (s : Sorting) → IsBeginningBy (IsNextBy s time walked In tips) ids
      → AreDistinct ids × ((i : ObjectId) → Contains ids i → In i) × ((taken rest : List ObjectId) (d p : ObjectId) → ids ≡ taken ++ p ∷ rest → IsChild walked In d p → Contains taken d)
  first_by s h =
      let t : IsBeginningBy (IsReadyNext walked In) ids = ready_begins time walked In tips top s ids h in
      (each_once walked In ids t, each_member walked In ids t, children_before walked In ids t)

  pub each_by : (s : Sorting) → IsListBy (IsNextBy s time walked In tips) ids
      → AreDistinct ids × ((i : ObjectId) → Contains ids i → In i) × (IsAcyclicIn walked In → (i : ObjectId) → In i → Contains ids i)
      × ((taken rest : List ObjectId) (child parent : ObjectId) → ids ≡ taken ++ parent ∷ rest → Contains ids child → Contains (walked child) parent → Contains taken child)
  each_by s h =
      let t : IsListBy (IsReadyNext walked In) ids = all_ready s h in
      let f = first_by s h.begins in (
        f.0,
        f.1,
        λ acyclic i m. all_given walked In ids t (tips ++ named_all objects) (λ j k. reached_named j k.reached) acyclic i m,
        λ taken rest child parent e c n. f.2 taken rest child parent e (record { child = f.1 child c; parent = (t.begins taken rest parent e).member; named = n }),
      )
