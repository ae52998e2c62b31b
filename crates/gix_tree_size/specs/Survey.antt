-- What a survey of a tree says.
use Rattle.std.specs.Prelude.{◌≡◌, ℕ, ◌-◌, ◌^◌, min, max, ◌==◌, List, [], ◌∷◌, ◌++◌, length, Bool, false, not, Option, Some, None, Ok, Err}
use Rattle.std.specs.List.{list_any}
use Rattle.gix_hash.specs.declared.ObjectId.{ObjectId}
use Rattle.gix_object.specs.Object.{Objects}
use Rattle.gix_tree.specs.declared.breadthfirst.Error.{Error}
use Rattle.gix_tree.specs.Paths.{HaveNames, IsName}
use Rattle.gix_tree.specs.Tracked.{Tracked, Tracks, fresh_recorder}
use Rattle.gix_tree.specs.Visits.{Visit}
use Rattle.gix_tree.specs.Walk.{DepthFirst}
use Rattle.gix_tree_size.specs.declared.Survey.{Survey}

-- whether a name isn't empty and holds no `/`
abbrev pub is_name : List ℕ → Bool
is_name [] = false
is_name (b ∷ name) = not (list_any (λ c. c == 47) (b ∷ name))

-- the first of these visits whose entry's name is no name is in the tree of this id
abbrev pub IsMisnamed : List Visit → ObjectId → Type 0
IsMisnamed visits i =
    (before after : List Visit) × (v : Visit) × (above : List ObjectId) × (visits ≡ before ++ v ∷ after) × HaveNames before
    × (IsName v.entry.name → ⊥) × (v.place.ids ≡ i ∷ above)

-- the tree of the first of these visits whose entry's name is no name, or none where each name is one
abbrev pub IsFirstMisnamed : List Visit → Option ObjectId → Type 0
IsFirstMisnamed visits None = HaveNames visits
IsFirstMisnamed visits (Some i) = IsMisnamed visits i

-- a number, or the greatest of 64 bits where it is above
abbrev pub capped : ℕ → ℕ
capped n = min n (2 ^ 64 - 1)

-- how many trees the entry of a visit is in at most
abbrev pub deepest : List Visit → ℕ
deepest [] = 0
deepest (v ∷ visits) = max (length v.place.ids) (deepest visits)

module _ (objects : Objects) (faulty : ObjectId → Type 0) (root : ObjectId) where
  -- A survey says this of the walk in depth of a recorder, which goes into each tree and ends well.
  pub record IsSurvey (s : Survey) : Type 0 where
    pub recorder : Tracked
    pub walk : DepthFirst objects faulty Tracks root fresh_recorder recorder (Ok tt)
    pub entries : s.entries ≡ capped (length walk.visits)
    pub depth : s.depth ≡ capped (deepest walk.visits)
    pub misnamed : IsFirstMisnamed walk.visits s.misnamed

  -- the walk in depth of a recorder fails so
  abbrev pub FailsSo : Error → Type 0
  FailsSo e = (recorder : Tracked) × DepthFirst objects faulty Tracks root fresh_recorder recorder (Err e)
