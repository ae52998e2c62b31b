-- The trees that a walk by levels has met, in the order of their turns.
use Rattle.std.specs.Prelude.{ℕ, zero, suc, ◌≤◌, List, [], ◌∷◌, ◌++◌, Option, Some, None, drop, slice_get}
use Rattle.gix_hash.specs.declared.ObjectId.{ObjectId}
use Rattle.gix_tree.specs.declared.breadthfirst.Tree.{Tree}

-- a tree that waits: its id, and the known ids down to it, its own first
abbrev pub Waiting : Type 0
Waiting = ObjectId × List ObjectId

pub record LevelQueue : Type 0 where
  -- the known ids down to the tree whose turn it is, the nearest first
  pub known : List ObjectId
  pub waiting : List Waiting

abbrev pub empty_queue : LevelQueue
empty_queue = record { known = []; waiting = [] }

-- a tree below the one whose turn it is waits
abbrev pub queued : LevelQueue → ObjectId → LevelQueue
queued q i = record q { waiting = q.waiting ++ (i, i ∷ q.known) ∷ [] }

abbrev pub ids_or_none : Option Waiting → List ObjectId
ids_or_none None = []
ids_or_none (Some w) = w.1

-- the known ids down to the tree that has a turn; the root, whose id isn't known, has turn 0
abbrev pub known_at : List Waiting → ℕ → List ObjectId
known_at met zero = []
known_at met (suc turn) = ids_or_none (slice_get met turn)

-- the trees met, each with the known ids down to it, behind those that were met before
abbrev pub met_behind : List Waiting → List Tree → List Waiting
met_behind met [] = met
met_behind met (t ∷ trees) = met_behind (met ++ (t.oid, t.oid ∷ known_at met t.turn) ∷ []) trees

abbrev pub level_queue : ℕ → List Tree → LevelQueue
level_queue turn trees = record { known = known_at (met_behind [] trees) turn; waiting = drop turn (met_behind [] trees) }

-- each of the trees, of which n were met before the first, was met in an earlier turn than its own
abbrev pub AreAbove : ℕ → List Tree → Type 0
AreAbove n [] = Unit {0}
AreAbove n (t ∷ trees) = (t.turn ≤ n) × AreAbove (suc n) trees
