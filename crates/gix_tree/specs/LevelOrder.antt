-- The order of a walk that shows tree after tree: what each beginning of the list of visits says of the next visit.
use Rattle.std.specs.Prelude.{◌≡◌, List, [], ◌∷◌, ◌++◌, map, length, Some, None, slice_get}
use Rattle.std.specs.List.{flat_map}
use Rattle.gix_hash.specs.declared.ObjectId.{ObjectId}
use Rattle.gix_object.specs.TreeItems.{TreeEntry}
use Rattle.gix_tree.specs.Visits.{Place, Visit, inside, Outcome, Leaves, Enters, Cycles, Breaks, outcome}

-- behind a `Break` no visit follows, and else as is said
abbrev pub UnlessBroken : Outcome → List Visit → Type 0 → Type 0
UnlessBroken Leaves visits rest = rest
UnlessBroken Enters visits rest = rest
UnlessBroken Cycles visits rest = rest
UnlessBroken Breaks visits rest = visits ≡ []

-- behind a visit that ends the walk no visit follows, and else as is said
abbrev pub UnlessEnded : Outcome → List Visit → Type 0 → Type 0
UnlessEnded Leaves visits rest = rest
UnlessEnded Enters visits rest = rest
UnlessEnded Cycles visits rest = visits ≡ []
UnlessEnded Breaks visits rest = visits ≡ []

module _ (entries : ObjectId → List TreeEntry) where
  abbrev pub entries_behind : Place → TreeEntry → Outcome → List (Place × TreeEntry)
  entries_behind p e Leaves = []
  entries_behind p e Enters = map (λ x. (inside p e, x)) (entries e.id)
  entries_behind p e Cycles = []
  entries_behind p e Breaks = []

  -- the entries of the tree that a visit goes into
  abbrev pub entries_of : Visit → List (Place × TreeEntry)
  entries_of v = entries_behind v.place v.entry (outcome v)

  -- the entries of the root, and then the entries of each tree that these visits go into
  abbrev pub entries_by : Place → List TreeEntry → List Visit → List (Place × TreeEntry)
  entries_by p root visits = map (λ x. (p, x)) root ++ flat_map entries_of visits

  -- What may follow these visits: the next of these entries, behind as many as were visited, and an end where there is
  -- none.
  abbrev pub FollowsInLevels : Place → List TreeEntry → List Visit → List Visit → Type 0
  FollowsInLevels p root done [] = slice_get (entries_by p root done) (length done) ≡ None
  FollowsInLevels p root done (v ∷ visits) =
      (slice_get (entries_by p root done) (length done) ≡ Some (v.place, v.entry))
      × UnlessBroken (outcome v) visits (FollowsInLevels p root (done ++ v ∷ []) visits)

  -- the visits of a walk that shows tree after tree, the root's entries first
  abbrev pub IsLevelOrder : Place → List TreeEntry → List Visit → Type 0
  IsLevelOrder p root visits = FollowsInLevels p root [] visits

  -- what may follow these visits in a walk that may fail: level order, up to where the walk ends
  abbrev pub BeginsInLevels : Place → List TreeEntry → List Visit → List Visit → Type 0
  BeginsInLevels p root done [] = Unit {0}
  BeginsInLevels p root done (v ∷ visits) =
      (slice_get (entries_by p root done) (length done) ≡ Some (v.place, v.entry))
      × UnlessEnded (outcome v) visits (BeginsInLevels p root (done ++ v ∷ []) visits)

  -- the visits are a beginning of such a walk's visits
  abbrev pub IsLevelBeginning : Place → List TreeEntry → List Visit → Type 0
  IsLevelBeginning p root visits = BeginsInLevels p root [] visits
