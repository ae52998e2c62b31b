-- Why the walks of trees end: a bound on the steps that are left.
use Rattle.std.specs.Prelude.{ℕ, zero, suc, ◌+◌, ◌*◌, ◌<◌, List, [], ◌∷◌, length, max, Option, if◌then◌else◌}
use Rattle.std.specs.FinMap.{keys}
use Rattle.gix_hash.specs.declared.ObjectId.{ObjectId}
use Rattle.gix_hash.specs.Id.{is_among}
use Rattle.gix_object.specs.Object.{Objects}
use Rattle.gix_object.specs.TreeItems.{TreeEntry}
use Rattle.gix_tree.specs.Delegate.{Action}
use Rattle.gix_tree.specs.Visits.{Items, Place, visit, Task, Turn, Show, Fault}
use Rattle.gix_tree.specs.Script.{items_or_none, tasks_of, Visited}
use Rattle.gix_tree.specs.Walk.{trees_of}

-- how many stored ids no tree above has
abbrev pub room : List ObjectId → List ObjectId → ℕ
room [] ids = 0
room (i ∷ stored) ids = (if is_among i ids then 0 else 1) + room stored ids

-- the most that is read of a stored tree
abbrev pub widest : (ObjectId → Option Items) → List ObjectId → ℕ
widest trees [] = 0
widest trees (i ∷ stored) = max (length (items_or_none (trees i))) (widest trees stored)

-- a bound on the steps that an entry leads to, by the width of trees and by the room that its place has
abbrev pub steps_of : ℕ → ℕ → ℕ
steps_of width zero = 2
steps_of width (suc room) = 2 + width * steps_of width room

module _ (objects : Objects) where
  abbrev pub entry_work : Place → ℕ
  entry_work p = steps_of (widest (trees_of objects) (keys objects)) (room (keys objects) p.ids)

  -- a bound on the steps that tasks lead to
  abbrev pub work : List Task → ℕ
  work [] = 0
  work (Turn p i ∷ tasks) = 1 + work tasks
  work (Show p e ∷ tasks) = entry_work p + work tasks
  work (Fault why ∷ tasks) = 1 + work tasks

  -- what a visit adds is less work than the visit was
  abbrev pub WorkLessens : Type 0
  WorkLessens = (p : Place) (e : TreeEntry) (a : Action) → work (tasks_of (trees_of objects) (Visited (visit p e a))) < entry_work p
