-- What the delegate of a survey holds, and what each call leaves of it.
use Rattle.std.specs.Prelude.{◌≡◌, ◌+◌, max, List, [], ◌∷◌, Bool, true, false, Option, Some, None, is_some, if◌then◌else◌}
use Rattle.std.specs.declared.ops.ControlFlow.TheVariants.{Continue}
use Rattle.std.specs.FinMap as map
use Rattle.gix_hash.specs.declared.ObjectId.{ObjectId}
use Rattle.gix_hash.specs.Id.{id_cmp}
use Rattle.gix_object.specs.TreeItems.{TreeEntry}
use Rattle.gix_tree.specs.Delegate.{Action, Call, PushPath, PopPath, PushBack, PopBack, PopFront, VisitTree, VisitNontree, Refused}
use Rattle.gix_tree_size.specs.declared.Survey.{Survey}
use Rattle.gix_tree_size.specs.declared.surveyor.Level.{Level}
use Rattle.gix_tree_size.specs.declared.surveyor.Size.{Size}
use Rattle.gix_tree_size.specs.Survey.{capped, is_name}

pub record Surveying : Type 0 where
  -- the trees that were entered, with their sizes once the walk has left them
  pub sizes : map.FinMap id_cmp (Option Size)
  -- the tree that the walk is in or enters next
  pub tree : Level
  -- the trees above it, the nearest first
  pub above : List Level
  -- whether it enters the tree next
  pub entering : Bool
  -- the first tree that has a name that is none
  pub misnamed : Option ObjectId

abbrev pub size_of_none : Size
size_of_none = record { entries = 0; depth = 0 }

-- one entry more, which is no tree
abbrev pub size_with : Size → Size
size_with s = record { entries = capped (s.entries + 1); depth = max s.depth 1 }

-- one entry more, which is a tree of this size
abbrev pub size_with_tree : Size → Size → Size
size_with_tree s t = record { entries = capped (capped (s.entries + 1) + t.entries); depth = max s.depth (capped (t.depth + 1)) }

abbrev pub level_of : ObjectId → Size → Level
level_of i s = record { id = i; size = s }

abbrev pub fresh_surveyor : ObjectId → Surveying
fresh_surveyor root =
    record { sizes = map.insert map.empty root None; tree = level_of root size_of_none; above = []; entering = true; misnamed = None }

-- the first tree that has a name that is none, with one name more of this tree
abbrev pub misnamed_by : Bool → Option ObjectId → ObjectId → Option ObjectId
misnamed_by named (Some i) tree = Some i
misnamed_by true None tree = None
misnamed_by false None tree = Some tree

-- the walk is at this entry of its tree
abbrev pub noted : Surveying → TreeEntry → Surveying
noted s e = record s { misnamed = misnamed_by (is_name e.name) s.misnamed s.tree.id }

abbrev pub size_left : Option (Option Size) → Option Size
size_left None = None
size_left (Some size) = size

-- the size of a tree that the walk has left
abbrev pub found : Surveying → ObjectId → Option Size
found s i = size_left (map.get s.sizes i)

abbrev pub with_size : Surveying → Size → Surveying
with_size s size = record s { tree = level_of s.tree.id size }

-- the walk enters the entry's tree next
abbrev pub entered : Surveying → TreeEntry → Surveying
entered s e =
    record s { sizes = map.insert s.sizes e.id None; tree = level_of e.id size_of_none; above = s.tree ∷ s.above; entering = true }

-- at a tree: one that the walk has left has a size, and another is entered
abbrev pub met : Surveying → TreeEntry → Option Size → Action × Surveying
met s e (Some size) = (Continue false, with_size s (size_with_tree s.tree.size size))
met s e None = (Continue true, entered s e)

-- a value in place of what an id has, if it has one
abbrev pub replaced : map.FinMap id_cmp (Option Size) → ObjectId → Size → map.FinMap id_cmp (Option Size)
replaced sizes i size = if is_some (map.get sizes i) then map.insert sizes i (Some size) else sizes

-- the walk leaves its tree for the one above, if there is one
abbrev pub left : Surveying → List Level → Surveying
left s [] = s
left s (upper ∷ above) =
    record s { sizes = replaced s.sizes s.tree.id s.tree.size; tree = level_of upper.id (size_with_tree upper.size s.tree.size); above = above }

-- a tree is entered, or the walk comes back to the tree above
abbrev pub turned : Surveying → Surveying
turned s = if s.entering then record s { entering = false } else left s s.above

-- What one call makes of it. Of a call that was refused nothing is said: the walk ends there
abbrev pub Surveys : Surveying → Call → Surveying → Type 0
Surveys old (PushPath name) new = new ≡ old
Surveys old PopPath new = new ≡ old
Surveys old (PushBack name) new = new ≡ old
Surveys old PopBack new = new ≡ turned old
Surveys old PopFront new = new ≡ old
Surveys old (VisitTree e answer) new = (answer, new) ≡ met (noted old e) e (found old e.id)
Surveys old (VisitNontree e answer) new =
    (answer ≡ Continue true) × (new ≡ let at = noted old e in with_size at (size_with at.tree.size))
Surveys old Refused new = Unit {0}

-- what was seen of the root, where the walk has come to its end
abbrev pub survey_of : Surveying → Survey
survey_of s = record { entries = s.tree.size.entries; depth = s.tree.size.depth; misnamed = s.misnamed }
