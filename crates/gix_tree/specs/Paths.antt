-- The place of a visit in the unfolded tree.
use Rattle.std.specs.Prelude.{◌≢◌, ℕ, List, [], ◌∷◌, ◌++◌}
use Rattle.std.specs.List.{AllByRecursion}
use Rattle.gix_hash.specs.declared.ObjectId.{ObjectId}
use Rattle.gix_tree.specs.Visits.{Place, Visit}

-- a name that isn't empty and holds no `/`
abbrev pub IsName : List ℕ → Type 0
IsName [] = ⊥
IsName (b ∷ name) = AllByRecursion (λ c. c ≢ 47) (b ∷ name)

-- names, joined by `/`
abbrev pub joined : List (List ℕ) → List ℕ
joined [] = []
joined (name ∷ []) = name
joined (name ∷ next ∷ names) = name ++ 47 ∷ joined (next ∷ names)

-- the path of a visit: the names from the root down to its entry, joined by `/`
abbrev pub path_of : Visit → List ℕ
path_of v = joined (v.place.names ++ v.entry.name ∷ [])

-- where a walk from a tree of an unknown id begins
abbrev pub unknown_root : Place
unknown_root = record { names = []; ids = [] }

-- where a walk from a tree of a known id begins
abbrev pub known_root : ObjectId → Place
known_root i = record { names = []; ids = i ∷ [] }

-- each visit is of an entry with such a name
abbrev pub HaveNames : List Visit → Type 0
HaveNames visits = AllByRecursion (λ v. IsName v.entry.name) visits
