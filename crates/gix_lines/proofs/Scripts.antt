-- Paths by what is before their last names, and what a walk in depth has before it, by its script.
use Rattle.std.proofs.Common.{◌≡◌, ◌≤◌, ℕ, suc, List, [], ◌∷◌, ◌++◌, map, length, true, Option, Some, Ok, Continue, flat_map, refl, sym, ap, subst, ◌∙◌, arith, append-nil, append_assoc}
use Rattle.std.proofs.lemmas.List.{length_push, map-append, map_push}
use Rattle.std.proofs.lemmas.List.Folds.{flat_map-map}
use Rattle.std.proofs.lemmas.Option.{same_Some}
use Rattle.std.specs.List.{AllByRecursion}
use Rattle.gix_hash.specs.declared.ObjectId.{ObjectId}
use Rattle.gix_object.specs.declared.find.existing_iter.Error.{Error as ExistingError}
use Rattle.gix_object.specs.TreeItems.{TreeEntry, is_tree}
use Rattle.gix_tree.specs.Delegate.{Action, Call}
use Rattle.gix_tree.specs.Paths.{joined}
use Rattle.gix_tree.specs.Recorder.{Record, record_of}
use Rattle.gix_tree.specs.Script as script
use Rattle.gix_tree.specs.Script.{DepthScript, IsDepthScript}
use Rattle.gix_tree.specs.Visits.{Enters, Items, Leaves, Place, Visit, Whole, inside, visit}
use Rattle.gix_tree.proofs.All.{all_left, all_right}
use Rattle.gix_tree.proofs.Outcomes.{says}
use Rattle.gix_tree.proofs.Theorems.SameRecords.{GoOn}
use Rattle.gix_tree_size.specs.Survey.{deepest}
use Rattle.gix_lines.specs.Inside.{Above, AreLeft, Left, Standing, back, ended, names_above, other, record_in, tree}

-- what the paths in a place begin with
abbrev pub before : List (List ℕ) → List ℕ
before names = flat_map (λ name. name ++ 47 ∷ []) names

-- a path is what is before its last name, and that name
pub joined_behind : (names : List (List ℕ)) (name : List ℕ) → joined (names ++ name ∷ []) ≡ before names ++ name
joined_behind [] name = refl
joined_behind (n ∷ []) name = sym (append_assoc n (47 ∷ []) name) ∙ ap (λ xs. xs ++ name) (sym (append-nil (n ++ 47 ∷ [])))
joined_behind (n ∷ m ∷ names) name = ap (λ xs. n ++ 47 ∷ xs) (joined_behind (m ∷ names) name) ∙ sym (append_assoc n (47 ∷ []) (before (m ∷ names) ++ name)) ∙ sym (append_assoc (n ++ 47 ∷ []) (before (m ∷ names)) name)

-- the path of an entry, by the names of the trees above
path_in : (above : List Above) (name : List ℕ) → joined (map (λ u. u.name) above ++ name ∷ []) ≡ names_above above ++ name
path_in above name = joined_behind (map (λ (u : Above). u.name) above) name ∙ ap (λ xs. xs ++ name) (flat_map-map (λ n. n ++ 47 ∷ []) (λ (u : Above). u.name) above)

-- each entry is in so many trees at the most
abbrev AreWithin : ℕ → List Visit → Type 0
AreWithin room visits = AllByRecursion (λ v. length v.place.ids ≤ room) visits

within_deepest : (room : ℕ) (visits : List Visit) → deepest visits ≤ room → AreWithin room visits
within_deepest room [] h = tt
within_deepest room (v ∷ visits) h = (omega (arith, h), within_deepest room visits (omega (arith, h)))

-- a tree is below these
record IsBelow (above : List Above) (p : Place) : Type 0 where
  names : p.names ≡ map (λ u. u.name) above
  ids : length p.ids ≡ suc (length above)

module _ (trees : ObjectId → Option Items) (fails : ObjectId → ExistingError → Type 0) (room : ℕ) where
  same_record : (above : List Above) (p : Place) (e : TreeEntry) (a : Action) → IsBelow above p → record_of (visit p e a) ≡ record_in above e
  same_record above p e a at = ap (λ path. record { mode = e.mode; path = path; id = e.id }) (ap (λ names. joined (names ++ e.name ∷ [])) at.names ∙ path_in above e.name)

  script_left : {p : Place} {items : Items} {calls : List Call} {visits : List Visit} → DepthScript trees fails p items calls visits Whole → GoOn visits → AreWithin room visits → (above : List Above) → IsBelow above p → (records : List Record)
      → Left trees room [] above records → Left trees room items above (map record_of visits ++ records)
  script_left script.whole go within above at records rest = rest
  script_left (script.leaves {p = p} {e = e} {a = a} {items = items} {visits = visits} o script) go within above at records rest =
      let plain = says (is_tree e.mode) _ a Leaves o go.0 in
      subst (λ r. Left trees room (Ok e ∷ items) above (r ∷ (map record_of visits ++ records))) (sym (same_record above p e a at)) (other plain (script_left script go.1 within.1 above at records rest))
  script_left (script.enters {p = p} {e = e} {a = a} {sub = sub} {items = items} {visits = visits} {others = others} o found inner script) go within above at records rest =
      let is = (says (is_tree e.mode) _ a Enters o).0.0 in
      let u : Above = record { name = e.name; items = items } in
      let behind = script_left script (all_right (λ v. v.answer ≡ Continue true) visits others go.1) (all_right (λ v. length v.place.ids ≤ room) visits others within.1) above at records rest in
      let below : IsBelow (above ++ u ∷ []) (inside p e) = record {
        names = ap (λ names. names ++ e.name ∷ []) at.names ∙ sym (map_push (λ (u : Above). u.name) above u);
        ids = ap suc at.ids ∙ ap suc (omega (arith, length_push above u));
      }
      in
      let first = script_left inner (all_left (λ v. v.answer ≡ Continue true) visits others go.1) (all_left (λ v. length v.place.ids ≤ room) visits others within.1) (above ++ u ∷ []) below (map record_of others ++ records) (back above u refl behind) in
      subst (λ rs. Left trees room (Ok e ∷ items) above (record_of (visit p e a) ∷ rs)) (sym (append_assoc (map record_of visits) (map record_of others) records) ∙ ap (λ rs. rs ++ records) (sym (map-append record_of visits others)))
      (subst (λ r. Left trees room (Ok e ∷ items) above (r ∷ (map record_of visits ++ (map record_of others ++ records)))) (sym (same_record above p e a at)) (tree sub is (omega (arith, within.0, at.ids)) found first))
  script_left (script.ends_inside o found inner unended) go within above at records rest = absurd (unended refl)

  -- from the root on
  pub walk_left : {root : ObjectId} {calls : List Call} {visits : List Visit} (items : Items) (walk : Standing) → IsDepthScript trees fails root calls visits Whole → GoOn visits → deepest visits ≤ room
      → Some items ≡ trees root → walk ≡ record { items = items; above = []; room = room } → AreLeft trees walk (map record_of visits)
  walk_left {visits = visits} items walk (script.found found script) go deep has is =
      subst (λ s. AreLeft trees s (map record_of visits)) (sym is)
      (subst (λ those. Left trees room those [] (map record_of visits)) (same_Some _ _ (sym found ∙ sym has))
      (subst (Left trees room _ []) (append-nil (map record_of visits)) (script_left script go (within_deepest room visits deep) [] (record { names = refl; ids = refl }) [] ended)))
