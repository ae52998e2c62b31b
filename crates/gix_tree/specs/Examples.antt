-- Worked examples of the walks of trees.
use Rattle.std.specs.Prelude.{◌≡◌, ℕ, List, [], ◌∷◌, ◌++◌, map, replicate, Option, Some, None, Ok, refl, true, false, if◌then◌else◌, codes}
use Rattle.std.specs.declared.ops.ControlFlow.TheVariants.{Continue, Break}
use Rattle.gix_hash.specs.declared.ObjectId.{ObjectId}
use Rattle.gix_hash.specs.declared.ObjectId.TheVariants as id
use Rattle.gix_object.specs.declared.find.existing_iter.Error.{Error as ExistingError}
use Rattle.gix_object.specs.declared.find.existing_iter.Error.TheVariants as existing
use Rattle.gix_hash.specs.Id.{is_same}
use Rattle.gix_object.specs.TreeItems.{TreeEntry}
use Rattle.gix_tree.specs.declared.breadthfirst.Error.TheVariants as error
use Rattle.gix_tree.specs.declared.recorder.Location.TheVariants.{Path, FileName}
use Rattle.gix_tree.specs.Delegate.{Action, Call, PushPath, PopPath, PushBack, PopBack, PopFront, VisitTree, VisitNontree}
use Rattle.gix_tree.specs.Visits.{Items, Place, Visit, visit, inside, Whole, Broken, Failed}
use Rattle.gix_tree.specs.Paths.{unknown_root, known_root}
use Rattle.gix_tree.specs.LevelOrder.{IsLevelOrder}
use Rattle.gix_tree.specs.Script.{IsLevelScript, IsDepthScript, entries_at, entries_in}
use Rattle.gix_tree.specs.Script as script
use Rattle.gix_tree.specs.Recorder.{fresh, Recorded, recorded_all}

-- the id of one byte, twenty times
abbrev pub n : ℕ → ObjectId
n d = id.Sha1 (replicate 20 d)

abbrev pub file : List ℕ → ℕ → TreeEntry
file name d = record { mode = 0o100644; name = name; id = n d }

abbrev pub tree : List ℕ → ℕ → TreeEntry
tree name d = record { mode = 0o40000; name = name; id = n d }

-- a root with a file `a`, a tree `d` with a file `x`, and a file `e`
abbrev pub root : Items
root = Ok (file (codes "a") 1) ∷ Ok (tree (codes "d") 13) ∷ Ok (file (codes "e") 3) ∷ []

abbrev pub inner : Items
inner = Ok (file (codes "x") 2) ∷ []

-- a tree whose only entry is itself
abbrev pub itself : Items
itself = Ok (tree (codes "d") 7) ∷ []

-- the root is 10, the inner tree is 13 and the tree under itself is 7
abbrev pub sample : ObjectId → Option Items
sample i = if is_same i (n 10) then Some root else if is_same i (n 13) then Some inner else if is_same i (n 7) then Some itself else None

-- the same without the inner tree
abbrev pub torn : ObjectId → Option Items
torn i = if is_same i (n 10) then Some root else None

abbrev pub NotFound : ObjectId → ExistingError → Type 0
NotFound i why = why ≡ existing.NotFound i

abbrev pub yes : Action
yes = Continue true

abbrev pub skip : Action
skip = Continue false

abbrev pub at_d : Place
at_d = inside unknown_root (tree (codes "d") 13)

abbrev pub calls_at_level : List Call
calls_at_level =
    PushPath (codes "a") ∷ VisitNontree (file (codes "a") 1) yes ∷ PopPath
    ∷ PushPath (codes "d") ∷ VisitTree (tree (codes "d") 13) yes ∷ PopPath ∷ PushBack (codes "d") ∷ PopPath
    ∷ PushPath (codes "e") ∷ VisitNontree (file (codes "e") 3) yes ∷ PopPath ∷ PopFront ∷ []

-- `breadthfirst` over the root
pub levels : IsLevelScript sample NotFound unknown_root root
    (calls_at_level ++ PushPath (codes "x") ∷ VisitNontree (file (codes "x") 2) yes ∷ PopPath ∷ [])
    (visit unknown_root (file (codes "a") 1) yes ∷ visit unknown_root (tree (codes "d") 13) yes ∷ visit unknown_root (file (codes "e") 3) yes
    ∷ visit at_d (file (codes "x") 2) yes ∷ []) Whole
levels = script.leaves refl refl (script.enters refl refl (script.leaves refl refl (script.turn refl refl (script.leaves refl refl (script.whole refl)))))

-- where the tree `d` is skipped
pub levels_skipped : IsLevelScript sample NotFound unknown_root root
    (PushPath (codes "a") ∷ VisitNontree (file (codes "a") 1) yes ∷ PopPath
    ∷ PushPath (codes "d") ∷ VisitTree (tree (codes "d") 13) skip ∷ PopPath
    ∷ PushPath (codes "e") ∷ VisitNontree (file (codes "e") 3) yes ∷ PopPath ∷ [])
    (visit unknown_root (file (codes "a") 1) yes ∷ visit unknown_root (tree (codes "d") 13) skip ∷ visit unknown_root (file (codes "e") 3) yes ∷ []) Whole
levels_skipped = script.leaves refl refl (script.leaves refl refl (script.leaves refl refl (script.whole refl)))

-- where the first visit breaks
pub levels_broken : IsLevelScript sample NotFound unknown_root root (PushPath (codes "a") ∷ VisitNontree (file (codes "a") 1) (Break tt) ∷ [])
    (visit unknown_root (file (codes "a") 1) (Break tt) ∷ []) Broken
levels_broken = script.breaks refl refl

-- where the tree `d` isn't stored
pub levels_torn : IsLevelScript torn NotFound unknown_root root calls_at_level
    (visit unknown_root (file (codes "a") 1) yes ∷ visit unknown_root (tree (codes "d") 13) yes ∷ visit unknown_root (file (codes "e") 3) yes ∷ [])
    (Failed (error.Find (existing.NotFound (n 13))))
levels_torn = script.leaves refl refl (script.enters refl refl (script.leaves refl refl (script.not_found refl refl)))

-- `breadthfirst` over the tree under itself
pub levels_cycle : IsLevelScript sample NotFound unknown_root itself
    (PushPath (codes "d") ∷ VisitTree (tree (codes "d") 7) yes ∷ PopPath ∷ PushBack (codes "d") ∷ PopPath ∷ PopFront ∷ PushPath (codes "d")
    ∷ VisitTree (tree (codes "d") 7) yes ∷ [])
    (visit unknown_root (tree (codes "d") 7) yes ∷ visit (inside unknown_root (tree (codes "d") 7)) (tree (codes "d") 7) yes ∷ []) (Failed (error.Cycle (n 7)))
levels_cycle = script.enters refl refl (script.turn refl refl (script.cycles refl refl))

-- `depthfirst` over the root
pub depth : IsDepthScript sample NotFound (n 10)
    (PopBack ∷ PushPath (codes "a") ∷ VisitNontree (file (codes "a") 1) yes ∷ PopPath
    ∷ PushPath (codes "d") ∷ VisitTree (tree (codes "d") 13) yes ∷ PopPath ∷ PushBack [] ∷ PushBack (codes "d")
    ∷ PopBack ∷ PushPath (codes "x") ∷ VisitNontree (file (codes "x") 2) yes ∷ PopPath
    ∷ PopBack ∷ PushPath (codes "e") ∷ VisitNontree (file (codes "e") 3) yes ∷ PopPath ∷ [])
    (visit (known_root (n 10)) (file (codes "a") 1) yes ∷ visit (known_root (n 10)) (tree (codes "d") 13) yes
    ∷ visit (inside (known_root (n 10)) (tree (codes "d") 13)) (file (codes "x") 2) yes ∷ visit (known_root (n 10)) (file (codes "e") 3) yes ∷ []) Whole
depth = script.found refl (script.leaves refl (script.enters refl refl (script.leaves refl script.whole) (script.leaves refl script.whole)))

-- `depthfirst` over the tree under itself
pub depth_cycle : IsDepthScript sample NotFound (n 7) (PopBack ∷ PushPath (codes "d") ∷ VisitTree (tree (codes "d") 7) yes ∷ PopPath ∷ [])
    (visit (known_root (n 7)) (tree (codes "d") 7) yes ∷ []) (Failed (error.Cycle (n 7)))
depth_cycle = script.found refl (script.cycles refl)

-- `Break` at a tree: `depthfirst` takes the name away again, and at another entry it doesn't
pub depth_broken_at_tree : IsDepthScript sample NotFound (n 7)
    (PopBack ∷ PushPath (codes "d") ∷ VisitTree (tree (codes "d") 7) (Break tt) ∷ PopPath ∷ [])
    (visit (known_root (n 7)) (tree (codes "d") 7) (Break tt) ∷ []) Broken
depth_broken_at_tree = script.found refl (script.breaks refl)

pub depth_broken_at_file : IsDepthScript sample NotFound (n 10) (PopBack ∷ PushPath (codes "a") ∷ VisitNontree (file (codes "a") 1) (Break tt) ∷ [])
    (visit (known_root (n 10)) (file (codes "a") 1) (Break tt) ∷ []) Broken
depth_broken_at_file = script.found refl (script.breaks refl)

-- RECORDERS

abbrev pub calls_by_level : List Call
calls_by_level = calls_at_level ++ PushPath (codes "x") ∷ VisitNontree (file (codes "x") 2) yes ∷ PopPath ∷ []

abbrev pub calls_in_depth : List Call
calls_in_depth =
    PopBack ∷ PushPath (codes "a") ∷ VisitNontree (file (codes "a") 1) yes ∷ PopPath
    ∷ PushPath (codes "d") ∷ VisitTree (tree (codes "d") 13) yes ∷ PopPath ∷ PushBack [] ∷ PushBack (codes "d")
    ∷ PopBack ∷ PushPath (codes "x") ∷ VisitNontree (file (codes "x") 2) yes ∷ PopPath
    ∷ PopBack ∷ PushPath (codes "e") ∷ VisitNontree (file (codes "e") 3) yes ∷ PopPath ∷ []

abbrev pub paths : Recorded → List (List ℕ)
paths r = map (λ x. x.path) r.records

pub level_paths : paths (recorded_all (Some Path) fresh calls_by_level) ≡ codes "a" ∷ codes "d" ∷ codes "e" ∷ codes "d/x" ∷ []
level_paths = refl

pub depth_paths : paths (recorded_all (Some Path) fresh calls_in_depth) ≡ codes "a" ∷ codes "d" ∷ codes "d/x" ∷ codes "e" ∷ []
depth_paths = refl

pub file_names : paths (recorded_all (Some FileName) fresh calls_in_depth) ≡ codes "a" ∷ codes "d" ∷ codes "x" ∷ codes "e" ∷ []
file_names = refl

pub last_name : (recorded_all (Some FileName) fresh calls_in_depth).path ≡ codes "e"
last_name = refl

pub no_paths : paths (recorded_all None fresh calls_in_depth) ≡ [] ∷ [] ∷ [] ∷ [] ∷ []
no_paths = refl

-- a recorder that is used again starts below its last path
pub used_again : paths (recorded_all (Some Path) (recorded_all (Some Path) fresh calls_by_level) calls_by_level)
    ≡ codes "a" ∷ codes "d" ∷ codes "e" ∷ codes "d/x" ∷ codes "d/a" ∷ codes "d/d" ∷ codes "d/e" ∷ codes "d/d/x" ∷ []
used_again = refl

-- TWO TREES OF ONE ID: each is shown

abbrev pub twins : Items
twins = Ok (tree (codes "d") 13) ∷ Ok (tree (codes "e") 13) ∷ []

abbrev pub at_root : TreeEntry → Visit
at_root e = visit unknown_root e yes

abbrev pub below_root : TreeEntry → TreeEntry → Visit
below_root t e = visit (inside unknown_root t) e yes

pub twin_levels : IsLevelScript sample NotFound unknown_root twins
    (PushPath (codes "d") ∷ VisitTree (tree (codes "d") 13) yes ∷ PopPath ∷ PushBack (codes "d") ∷ PopPath
    ∷ PushPath (codes "e") ∷ VisitTree (tree (codes "e") 13) yes ∷ PopPath ∷ PushBack (codes "e") ∷ PopPath
    ∷ PopFront ∷ PushPath (codes "x") ∷ VisitNontree (file (codes "x") 2) yes ∷ PopPath
    ∷ PopFront ∷ PushPath (codes "x") ∷ VisitNontree (file (codes "x") 2) yes ∷ PopPath ∷ [])
    (at_root (tree (codes "d") 13) ∷ at_root (tree (codes "e") 13)
    ∷ below_root (tree (codes "d") 13) (file (codes "x") 2) ∷ below_root (tree (codes "e") 13) (file (codes "x") 2) ∷ []) Whole
twin_levels =
    script.enters refl refl (script.enters refl refl
    (script.turn refl refl (script.leaves refl refl (script.turn refl refl (script.leaves refl refl (script.whole refl))))))

-- the visits of the root's walk are in level order
pub levels_are_in_order : IsLevelOrder (entries_at sample) unknown_root (entries_in root)
    (at_root (file (codes "a") 1) ∷ at_root (tree (codes "d") 13) ∷ at_root (file (codes "e") 3) ∷ below_root (tree (codes "d") 13) (file (codes "x") 2) ∷ [])
levels_are_in_order = (refl, (refl, (refl, (refl, refl))))
