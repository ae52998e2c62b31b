-- The order of a walk that shows a tree right behind its entry.
use Rattle.std.specs.Prelude.{◌≡◌, List, [], ◌∷◌, ◌++◌, Bool, true, false}
use Rattle.gix_hash.specs.declared.ObjectId.{ObjectId}
use Rattle.gix_object.specs.TreeItems.{TreeEntry}
use Rattle.gix_tree.specs.Delegate.{Action}
use Rattle.gix_tree.specs.Visits.{Place, Visit, visit, inside, Leaves, Enters, Cycles, Breaks, outcome}

module _ (entries : ObjectId → List TreeEntry) where
  -- The visits of the entries of one tree, and whether the last was answered `Break`: an entry; where the walk goes into the
  -- entry's tree, the visits of that tree; and then the entries behind it.
  pub data IsPreorder : Place → List TreeEntry → List Visit → Bool → Type 0 where
    none : {p : Place} → IsPreorder p [] [] false
    leaves : {p : Place} {e : TreeEntry} {a : Action} {es : List TreeEntry} {vs : List Visit} {broken : Bool} → outcome (visit p e a) ≡ Leaves
        → IsPreorder p es vs broken → IsPreorder p (e ∷ es) (visit p e a ∷ vs) broken
    enters : {p : Place} {e : TreeEntry} {a : Action} {es : List TreeEntry} {ws vs : List Visit} {broken : Bool} → outcome (visit p e a) ≡ Enters
        → IsPreorder (inside p e) (entries e.id) ws false → IsPreorder p es vs broken → IsPreorder p (e ∷ es) (visit p e a ∷ (ws ++ vs)) broken
    broken_inside : {p : Place} {e : TreeEntry} {a : Action} {es : List TreeEntry} {ws : List Visit} → outcome (visit p e a) ≡ Enters
        → IsPreorder (inside p e) (entries e.id) ws true → IsPreorder p (e ∷ es) (visit p e a ∷ ws) true
    breaks : {p : Place} {e : TreeEntry} {a : Action} {es : List TreeEntry} → outcome (visit p e a) ≡ Breaks → IsPreorder p (e ∷ es) (visit p e a ∷ []) true

  -- the visits of the entries of one tree in a walk that may fail: preorder, up to where the walk ends
  pub data IsPreorderBeginning : Place → List TreeEntry → List Visit → Type 0 where
    ended : {p : Place} {es : List TreeEntry} → IsPreorderBeginning p es []
    behind_entry : {p : Place} {e : TreeEntry} {a : Action} {es : List TreeEntry} {vs : List Visit} → outcome (visit p e a) ≡ Leaves
        → IsPreorderBeginning p es vs → IsPreorderBeginning p (e ∷ es) (visit p e a ∷ vs)
    behind_tree : {p : Place} {e : TreeEntry} {a : Action} {es : List TreeEntry} {ws vs : List Visit} → outcome (visit p e a) ≡ Enters
        → IsPreorder (inside p e) (entries e.id) ws false → IsPreorderBeginning p es vs → IsPreorderBeginning p (e ∷ es) (visit p e a ∷ (ws ++ vs))
    in_tree : {p : Place} {e : TreeEntry} {a : Action} {es : List TreeEntry} {ws : List Visit} → outcome (visit p e a) ≡ Enters
        → IsPreorderBeginning (inside p e) (entries e.id) ws → IsPreorderBeginning p (e ∷ es) (visit p e a ∷ ws)
    at_break : {p : Place} {e : TreeEntry} {a : Action} {es : List TreeEntry} → outcome (visit p e a) ≡ Breaks
        → IsPreorderBeginning p (e ∷ es) (visit p e a ∷ [])
    at_cycle : {p : Place} {e : TreeEntry} {a : Action} {es : List TreeEntry} → outcome (visit p e a) ≡ Cycles
        → IsPreorderBeginning p (e ∷ es) (visit p e a ∷ [])
