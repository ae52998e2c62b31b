-- What the steps of a revision lead to. An object is what its id is the hash of, and what leads on is what its text says.
use Rattle.std.specs.Prelude.{◌≡◌, ◌≢◌, ◌⊎◌, ℕ, ◌+◌, ◌++◌, List, [], ◌∷◌, codes, slice_get, Option, Some, None, Result, Ok, Err, if◌then◌else◌}
use Rattle.std.specs.Str.{bytes_eq}
use Rattle.gix_hash.specs.declared.Kind.{Kind as HashKind}
use Rattle.gix_hash.specs.declared.ObjectId.{ObjectId}
use Rattle.gix_hash.specs.Id.{kind_of}
use Rattle.gix_object.specs.declared.Kind.{Kind}
use Rattle.gix_object.specs.declared.Kind.TheVariants as kind
use Rattle.gix_object.specs.declared.decode.Error.{Error}
use Rattle.gix_object.specs.CommitText.{Commit, IsIdLine, read_commit}
use Rattle.gix_object.specs.TreeItems.{TreeEntry, tree_items}
use Rattle.gix_names.specs.Named.{IsNamed}
use Rattle.gix_revision.specs.declared.parse.Target.{Target}
use Rattle.gix_revision.specs.declared.parse.Target.TheVariants as target
use Rattle.gix_revision.specs.declared.parse.Step.{Step}
use Rattle.gix_revision.specs.declared.parse.Step.TheVariants as step

-- the id of an object of this kind
abbrev pub IsOf : Kind → ObjectId → Type 0
IsOf object i = (bytes : List ℕ) × IsNamed i object bytes

-- what was read of a text is a commit with this tree and these parents
abbrev pub IsRead : Option Commit → ObjectId → List ObjectId → Type 0
IsRead None tree parents = ⊥
IsRead (Some c) tree parents = (c.tree ≡ tree) × (c.parents ≡ parents)

-- the id of a commit with this tree and these parents
abbrev pub HasLinks : ObjectId → ObjectId → List ObjectId → Type 0
HasLinks i tree parents = (bytes : List ℕ) × IsNamed i kind.Commit bytes × IsRead (read_commit (kind_of i) bytes) tree parents

-- a tag's first line is `object `, the id of what it names, and a newline
abbrev pub IsTagOf : HashKind → List ℕ → ObjectId → Type 0
IsTagOf k bytes i = (line : List ℕ) × (rest : List ℕ) × IsIdLine (codes "object ") k i line × (bytes ≡ line ++ rest)

-- what tags, one after the other, lead to: the object itself, or what the next tag names
pub data Untags (i : ObjectId) : ObjectId → Type 0 where
  itself : Untags i i
  by_tag : {j k : ObjectId} (bytes : List ℕ) → Untags i j → IsNamed j kind.Tag bytes → IsTagOf (kind_of j) bytes k → Untags i k

-- the object of this kind that tags lead to
abbrev pub UntagsTo : Kind → ObjectId → ObjectId → Type 0
UntagsTo object i j = Untags i j × IsOf object j

-- the first parent of a commit
abbrev pub IsFirstParent : ObjectId → ObjectId → Type 0
IsFirstParent i j = (tree : ObjectId) × (parents : List ObjectId) × HasLinks i tree parents × (slice_get parents 0 ≡ Some j)

-- the first parent of the first parent of .. a commit, so many times
pub data FirstParents (i : ObjectId) : ℕ → ObjectId → Type 0 where
  none : FirstParents i 0 i
  one_more : {n : ℕ} {j k : ObjectId} → FirstParents i n j → IsFirstParent j k → FirstParents i (n + 1) k

-- what tags, and a commit's tree, are followed to
abbrev pub Peels : Target → ObjectId → ObjectId → Type 0
Peels target.Commit i j = UntagsTo kind.Commit i j
Peels target.Tree i j =
    UntagsTo kind.Tree i j
    ⊎ ((m : ObjectId) × (parents : List ObjectId) × Untags i m × HasLinks m j parents × IsOf kind.Tree j)
Peels target.Tag i j = (i ≡ j) × IsOf kind.Tag j
Peels target.Blob i j = UntagsTo kind.Blob i j
Peels target.Object i j = (i ≡ j) × (object : Kind) × IsOf object j
Peels target.Untagged i j = (object : Kind) × (object ≢ kind.Tag) × UntagsTo object i j

-- `^n`: parent n of the commit that tags lead to; number 0 is the commit itself
abbrev pub IsParent : ℕ → ObjectId → ObjectId → Type 0
IsParent n i j = (m : ObjectId) × (tree : ObjectId) × (parents : List ObjectId) × Untags i m × HasLinks m tree parents × (slice_get (m ∷ parents) n ≡ Some j)

-- `~n`: the first parent, n times, of the commit that tags lead to
abbrev pub IsAncestor : ℕ → ObjectId → ObjectId → Type 0
IsAncestor n i j = (m : ObjectId) × UntagsTo kind.Commit i m × FirstParents m n j

-- the id of the first entry of this name
abbrev pub entry_named : List ℕ → List (Result TreeEntry Error) → Option ObjectId
entry_named name [] = None
entry_named name (Err e ∷ entries) = None
entry_named name (Ok entry ∷ entries) = if bytes_eq entry.name name then Some entry.id else entry_named name entries

-- a name of a path: the entry of a tree that has it
abbrev pub HasEntry : List ℕ → ObjectId → ObjectId → Type 0
HasEntry name i j = (bytes : List ℕ) × IsNamed i kind.Tree bytes × (entry_named name (tree_items (kind_of i) bytes) ≡ Some j)

-- what one step leads to
abbrev pub Takes : Step → ObjectId → ObjectId → Type 0
Takes (step.Parent n) i j = IsParent n i j
Takes (step.Ancestor n) i j = IsAncestor n i j
Takes (step.Peel wanted) i j = Peels wanted i j
Takes (step.Entry name) i j = HasEntry name.now i j

-- what all steps lead to, one after the other
abbrev pub Leads : ObjectId → List Step → ObjectId → Type 0
Leads i [] j = i ≡ j
Leads i (s ∷ steps) j = (m : ObjectId) × Takes s i m × Leads m steps j
