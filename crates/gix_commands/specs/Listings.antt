-- What a run writes of a tree, by its entries and the trees in it.
use Rattle.std.specs.Prelude.{◌≡◌, ◌<◌, ◌≤◌, ℕ, List, [], ◌∷◌, length, true, false, Option, None, Some, Result, Ok, Err, Contains}
use Rattle.std.specs.declared.ops.ControlFlow.TheVariants.{Continue}
use Rattle.std.specs.List.{AllByRecursion}
use Rattle.gix_hash.specs.declared.ObjectId.{ObjectId}
use Rattle.gix_hash.specs.Reach.{Reaches}
use Rattle.gix_object.specs.Object.{Objects}
use Rattle.gix_object.specs.TreeItems.{TreeEntry}
use Rattle.gix_tree.specs.Preorder.{IsPreorder}
use Rattle.gix_tree.specs.Laws.{AreSound, subtrees_of}
use Rattle.gix_tree.specs.Paths.{IsName, known_root}
use Rattle.gix_tree.specs.Script.{entries_at}
use Rattle.gix_tree.specs.Visits.{Visit}
use Rattle.gix_tree.specs.Walk.{LookUpFails, trees_of}
use Rattle.gix_tree_size.specs.Survey.{IsMisnamed, capped}
use Rattle.gix_words.specs.declared.fault.Fault.{Fault}
use Rattle.gix_words.specs.declared.fault.Fault.TheVariants as fault
use Rattle.gix_words.specs.declared.words.EntryLines.{EntryLines}
use Rattle.gix_commands.specs.Files.{most_entries}
use Rattle.gix_commands.specs.Histories.{EndsWell}
use Rattle.gix_records.specs.Records.{Record, AreRecords, stored}
use Rattle.gix_commands.specs.Run.{Runs}
use Rattle.gix_commands.specs.Walked.{never_faulty}
use Rattle.gix_words.specs.Words.{Files, request_of}

-- the entries of a tree and of all trees in it, in preorder, each with its place
pub record Unfolds (objects : Objects) (tree : ObjectId) (visits : List Visit) : Type 0 where
  pub in_order : IsPreorder (entries_at (trees_of objects)) (known_root tree) (entries_at (trees_of objects) tree) visits false
  pub all : AllByRecursion (λ v. v.answer ≡ Continue true) visits

-- the first name that is none, in preorder, is in the tree of this id, and this tree has an entry of such a name
pub record Misnames (objects : Objects) (tree i : ObjectId) : Type 0 where
  pub visits : List Visit
  pub unfolds : Unfolds objects tree visits
  pub first : IsMisnamed visits i
  pub entry : TreeEntry
  pub held : Contains (entries_at (trees_of objects) i) entry
  pub unnamed : IsName entry.name → ⊥

-- A run of `files` that reports a bad name reports the tree of the first.
abbrev pub FilesReportNames : Type 0
FilesReportNames =
    (words : List (List ℕ)) (input : List ℕ) (records : List Record) (shown : EntryLines) (tree i : ObjectId) (old new : Option (List ℕ)) →
    request_of words ≡ Ok (Files shown tree) → AreRecords records input → Runs words (Some input) old (Err (fault.Name i)) new →
    Misnames (stored records) tree i

-- A run of `files` that reports too many entries says how many there are.
abbrev pub FilesReportEntries : Type 0
FilesReportEntries =
    (words : List (List ℕ)) (input : List ℕ) (records : List Record) (shown : EntryLines) (tree : ObjectId) (n : ℕ) (old new : Option (List ℕ)) →
    request_of words ≡ Ok (Files shown tree) → AreRecords records input → Runs words (Some input) old (Err (fault.Entries n)) new →
    (visits : List Visit) × Unfolds (stored records) tree visits × (most_entries < length visits) × (n ≡ capped (length visits)) × (shown.limit ≡ None)

-- in a tree, and the trees that it holds, and so on, each name is a name
abbrev pub AreNamed : Objects → ObjectId → Type 0
AreNamed objects tree =
    (i : ObjectId) → Reaches (subtrees_of (trees_of objects) (LookUpFails objects (never_faulty objects)) (λ e. true)) (tree ∷ []) i
    → AllByRecursion (λ e. IsName e.name) (entries_at (trees_of objects) i)

-- a limit is asked for, or the entries aren't too many
abbrev pub AreListable : Objects → EntryLines → ObjectId → Type 0
AreListable objects shown tree = shown.limit ≡ None → (visits : List Visit) → Unfolds objects tree visits → length visits ≤ most_entries

-- Where each tree in it reads whole, none is under itself, each name is a name, and the entries aren't too many, it ends well.
abbrev pub FilesSucceeds : Type 0
FilesSucceeds =
    (words : List (List ℕ)) (input : List ℕ) (records : List Record) (shown : EntryLines) (tree : ObjectId) (answer : Result (Unit {0}) Fault)
    (old new : Option (List ℕ)) →
    request_of words ≡ Ok (Files shown tree) → AreRecords records input →
    AreSound (trees_of (stored records)) (LookUpFails (stored records) (never_faulty (stored records))) (λ e. true) (tree ∷ []) →
    AreNamed (stored records) tree → AreListable (stored records) shown tree → Runs words (Some input) old answer new → EndsWell answer
