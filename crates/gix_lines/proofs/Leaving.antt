-- What a walk has before it, where it stands.
use Rattle.std.proofs.Common.{◌≡◌, ◌<◌, ℕ, List, [], ◌∷◌, ◌++◌, length, true, false, Option, Some, Ok, Err, refl, sym, subst, ◌∙◌}
use Rattle.std.proofs.lemmas.Bool.{false≢true}
use Rattle.std.proofs.lemmas.List.{same_from_push}
use Rattle.gix_hash.specs.declared.ObjectId.{ObjectId}
use Rattle.gix_object.specs.declared.decode.Error.{Error as DecodeError}
use Rattle.gix_object.specs.TreeItems.{TreeEntry, is_tree}
use Rattle.gix_tree.specs.Recorder.{Record}
use Rattle.gix_tree.specs.Visits.{Items}
use Rattle.gix_lines.specs.Inside.{Above, Left, back, other, tree, Standing, AreLeft, record_in}

not_empty : {A : Type 0} (xs : List A) (x : A) → xs ++ x ∷ [] ≡ [] → ⊥
not_empty [] x e = cc
not_empty (y ∷ xs) x e = cc

-- what an entry leads to
pub data Behind (trees : ObjectId → Option Items) (room : ℕ) (e : TreeEntry) (items : Items) (above : List Above) (records : List Record) : Type 0 where
  on : is_tree e.mode ≡ false → Left trees room items above records → Behind trees room e items above records
  down : (sub : Items) → is_tree e.mode ≡ true → length above < room → trees e.id ≡ Some sub → Left trees room sub (above ++ record { name = e.name; items = items } ∷ []) records
      → Behind trees room e items above records

module _ {trees : ObjectId → Option Items} {room : ℕ} where
  -- at an entry
  pub at_entry : {e : TreeEntry} {items : Items} {above : List Above} {r : Record} {records : List Record} → Left trees room (Ok e ∷ items) above (r ∷ records)
      → (r ≡ record_in above e) × Behind trees room e items above records
  at_entry (other plain rest) = (refl, on plain rest)
  at_entry (tree sub is few found rest) = (refl, down sub is few found rest)

  -- at bytes that are no entry
  pub at_fault : {why : DecodeError} {items : Items} {above : List Above} {records : List Record} → Left trees room (Err why ∷ items) above records → ⊥
  at_fault h = elim h [ ]

  -- at the end of a tree
  pub at_end : {above : List Above} {r : Record} {records : List Record} → Left trees room [] above (r ∷ records)
      → (outer : List Above) × (u : Above) × (above ≡ outer ++ u ∷ []) × Left trees room u.items outer (r ∷ records)
  at_end (back outer u is rest) = (outer, u, is, rest)

  -- at the end of the root
  pub at_last : {r : Record} {records : List Record} → Left trees room [] [] (r ∷ records) → ⊥
  at_last h = let b = at_end h in not_empty b.0 b.1 (sym b.2)

-- back in the tree above
pub back_in : {trees : ObjectId → Option Items} {room : ℕ} {items : Items} {above : List Above} {r : Record} {records : List Record} (outer : List Above) (u : Above) (new : Standing) → Left trees room items above (r ∷ records) → items ≡ []
    → above ≡ outer ++ u ∷ [] → new ≡ record { items = u.items; above = outer; room = room } → AreLeft trees new (r ∷ records)
back_in {trees} {room} {items} {above} {r} {records} outer u new h none is goes =
    let b = at_end (subst (λ items. Left trees room items above (r ∷ records)) none h) in
    let same = same_from_push b.0 outer b.1 u (sym b.2 ∙ is) in
    subst (λ s. AreLeft trees s (r ∷ records)) (sym goes) (subst (λ outer. Left trees room u.items outer (r ∷ records)) same.0 (subst (λ x. Left trees room x.items b.0 (r ∷ records)) same.1 b.3))

-- at an entry that is no tree
pub left_on : {trees : ObjectId → Option Items} {room : ℕ} {e : TreeEntry} {items : Items} {above : List Above} {records : List Record} → Behind trees room e items above records → is_tree e.mode ≡ false → Left trees room items above records
left_on (on plain rest) plainly = rest
left_on (down sub is few found rest) plainly = absurd (false≢true (sym plainly ∙ is))

-- at a tree
pub record Descends (trees : ObjectId → Option Items) (room : ℕ) (e : TreeEntry) (items : Items) (above : List Above) (records : List Record) : Type 0 where
  pub sub : Items
  pub few : length above < room
  pub found : trees e.id ≡ Some sub
  pub rest : Left trees room sub (above ++ record { name = e.name; items = items } ∷ []) records

pub left_down : {trees : ObjectId → Option Items} {room : ℕ} {e : TreeEntry} {items : Items} {above : List Above} {records : List Record} → Behind trees room e items above records → is_tree e.mode ≡ true → Descends trees room e items above records
left_down (on plain rest) is = absurd (false≢true (sym plain ∙ is))
left_down (down sub truly few found rest) is = record { sub = sub; few = few; found = found; rest = rest }
