-- Where a walk in depth stands, and what it has before it.
use Rattle.std.specs.Prelude.{◌≡◌, ℕ, ◌<◌, ◌≤◌, List, [], ◌∷◌, ◌++◌, length, map, take, Bool, true, false, Option, Some, None, Ok}
use Rattle.std.specs.List.{flat_map}
use Rattle.gix_hash.specs.declared.ObjectId.{ObjectId}
use Rattle.gix_object.specs.TreeItems.{TreeEntry, is_tree}
use Rattle.gix_object.specs.TreeRefIter.{items_left}
use Rattle.gix_tree.specs.Recorder.{Record}
use Rattle.gix_tree.specs.Visits.{Items}
use Rattle.gix_lines.specs.declared.walk.Upper.{Upper}

-- a tree above: the name of the entry that the walk went into, and the items behind that entry
pub record Above : Type 0 where
  pub name : List ℕ
  pub items : Items

abbrev pub above_of : Upper → Above
above_of u = record { name = u.name.now; items = items_left u.entries }

-- what is left of the tree that the walk is in, the trees above it, the root first, and how many there may be
pub record Standing : Type 0 where
  pub items : Items
  pub above : List Above
  pub room : ℕ

-- the names of the entries that a walk went into, each with a `/` behind it
abbrev pub names_above : List Above → List ℕ
names_above above = flat_map (λ u. u.name ++ 47 ∷ []) above

-- The names of so many of the trees above are in the front of a path. There are no more of them than trees, nor than there is room for.
pub record KeepsNames (above : List Upper) (level joined : ℕ) (path : List ℕ) (end : ℕ) : Type 0 where
  pub within : level ≤ length above
  pub few : joined ≤ level
  pub fits : end ≤ length path
  pub names : take end path ≡ names_above (map above_of (take joined above))

-- an entry of the tree that the walk is in
abbrev pub record_in : List Above → TreeEntry → Record
record_in above e = record { mode = e.mode; path = names_above above ++ e.name; id = e.id }

module _ (trees : ObjectId → Option Items) (room : ℕ) where
  -- the records of the entries that are left, of a tree and of the trees above it
  pub data Left : Items → List Above → List Record → Type 0 where
    ended : Left [] [] []
    back : {above : List Above} {records : List Record} (outer : List Above) (u : Above) → above ≡ outer ++ u ∷ []
        → Left u.items outer records → Left [] above records
    other : {e : TreeEntry} {items : Items} {above : List Above} {records : List Record} → is_tree e.mode ≡ false → Left items above records
        → Left (Ok e ∷ items) above (record_in above e ∷ records)
    tree : {e : TreeEntry} {items : Items} {above : List Above} {records : List Record} (sub : Items) → is_tree e.mode ≡ true
        → length above < room → trees e.id ≡ Some sub → Left sub (above ++ record { name = e.name; items = items } ∷ []) records
        → Left (Ok e ∷ items) above (record_in above e ∷ records)

-- these are the records of the entries that a walk has before it
abbrev pub AreLeft : (ObjectId → Option Items) → Standing → List Record → Type 0
AreLeft trees s records = Left trees s.room s.items s.above records

-- A walk came to an entry: with that entry put back, it has before it what it had. Where there is none, it had no entry before it.
abbrev pub ComesTo : Standing → Option TreeEntry → Standing → Type 0
ComesTo old (Some e) new =
    (trees : ObjectId → Option Items) (r : Record) (records : List Record) → AreLeft trees old (r ∷ records)
    → AreLeft trees (record new { items = Ok e ∷ new.items }) (r ∷ records)
ComesTo old None new = (trees : ObjectId → Option Items) (r : Record) (records : List Record) → AreLeft trees old (r ∷ records) → ⊥

-- A walk went back to the tree above, if there is one.
abbrev pub LeavesTo : Standing → Bool → Standing → Type 0
LeavesTo old true new =
    (outer : List Above) × (u : Above) × (old.above ≡ outer ++ u ∷ []) × (new ≡ record old { items = u.items; above = outer })
LeavesTo old false new = old.above ≡ []
