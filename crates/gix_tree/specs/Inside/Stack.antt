-- The trees that a walk in depth is in, as it holds them.
use Rattle.std.specs.Prelude.{◌≡◌, ◌≢◌, ◌≤◌, length, List, [], ◌∷◌, drop, Some, Result, Ok, Err}
use Rattle.std.specs.FinMap.{get}
use Rattle.gix_hash.specs.declared.ObjectId.{ObjectId}
use Rattle.gix_object.specs.declared.Kind.TheVariants as kind
use Rattle.gix_object.specs.declared.find.existing_iter.Error.{Error as ExistingError}
use Rattle.gix_object.specs.declared.find.existing_iter.Error.TheVariants as existing
use Rattle.gix_hash.specs.Id.{kind_of}
use Rattle.gix_object.specs.Object.{Objects}
use Rattle.gix_object.specs.TreeItems.{tree_items}
use Rattle.gix_tree.specs.declared.depthfirst.Tree.{Tree}
use Rattle.gix_tree.specs.Walk.{LookUpFails}
use Rattle.gix_tree.specs.Visits.{Items}

-- the next entry begins in the tree's bytes or behind them all
abbrev pub IsWithin : Tree → Type 0
IsWithin t = t.next ≤ length t.bytes.items

-- what is still to be read of a tree
abbrev pub items_at : Tree → Items
items_at t = tree_items (kind_of t.oid) (drop t.next t.bytes.items)

-- the ids of trees, the nearest first
abbrev pub ids_down : List Tree → List ObjectId
ids_down [] = []
ids_down (t ∷ trees) = t.oid ∷ ids_down trees

-- a look-up gave the tree, from its first entry on, or failed
abbrev pub FoundTree : Objects → (ObjectId → Type 0) → ObjectId → Result Tree ExistingError → Type 0
FoundTree objects faulty i (Ok t) = (t.oid ≡ i) × (t.next ≡ 0) × (get objects i ≡ Some (record { kind = kind.Tree; bytes = t.bytes.items }))
FoundTree objects faulty i (Err why) = why ≢ existing.Memory → LookUpFails objects faulty i why
