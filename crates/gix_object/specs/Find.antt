-- What look-ups of a store answer.
use Rattle.std.specs.Prelude.{◌≡◌, ◌≢◌, ℕ, List, Option, Some, None, Result, Ok, Err}
use Rattle.std.specs.FinMap.{get}
use Rattle.gix_hash.specs.declared.ObjectId.{ObjectId}
use Rattle.gix_object.specs.declared.Kind.{Kind}
use Rattle.gix_object.specs.declared.Data.{Data}
use Rattle.gix_object.specs.declared.find.Error.{Error}
use Rattle.gix_object.specs.declared.find.Error.TheVariants as fault
use Rattle.gix_object.specs.declared.find.existing_iter.Error.{Error as ExistingError}
use Rattle.gix_object.specs.declared.find.existing_iter.Error.TheVariants as existing
use Rattle.gix_object.specs.declared.Kind.TheVariants as kind
use Rattle.gix_object.specs.declared.commit.CommitRefIter.{CommitRefIter}
use Rattle.gix_object.specs.declared.tree.TreeRefIter.{TreeRefIter}
use Rattle.gix_object.specs.CommitItems.{commit_items}
use Rattle.gix_object.specs.CommitRefIter.{commit_items_left}
use Rattle.gix_hash.specs.Id.{kind_of}
use Rattle.gix_object.specs.TreeItems.{tree_items}
use Rattle.gix_object.specs.TreeRefIter.{bytes_left, id_kind, items_left}
use Rattle.gix_object.specs.Object.{Object, Objects}

-- what a look-up answers and puts into the buffer, where this object or none is there
abbrev pub FindsInto : Option Object → Type 0 → Result (Option Kind) Error → List ℕ → Type 0
FindsInto there faulty (Ok None) held = there ≡ None
FindsInto there faulty (Ok (Some kind)) held = there ≡ Some (record { kind = kind; bytes = held })
FindsInto there faulty (Err fault.Store) held = faulty
FindsInto there faulty (Err fault.Memory) held = Unit {0}

-- an object whose bytes are lent
abbrev pub lent_object : Data → Object
lent_object found = record { kind = found.kind; bytes = found.bytes.now }

-- what a look-up lends
abbrev pub FoundIs : Option Object → Type 0 → Result (Option Data) Error → Type 0
FoundIs there faulty (Ok None) = there ≡ None
FoundIs there faulty (Ok (Some found)) = there ≡ Some (lent_object found)
FoundIs there faulty (Err fault.Store) = faulty
FoundIs there faulty (Err fault.Memory) = Unit {0}

-- why no object of the kind was found, where memory didn't fail
abbrev pub IsExistingFault : Objects → (ObjectId → Type 0) → ObjectId → Kind → ExistingError → Type 0
IsExistingFault objects faulty i expected existing.Store = faulty i
IsExistingFault objects faulty i expected (existing.NotFound oid) = (oid ≡ i) × (get objects i ≡ None)
IsExistingFault objects faulty i expected (existing.ObjectKind oid wanted actual) =
    (oid ≡ i) × (wanted ≡ expected) × (actual ≢ expected) × (bytes : List ℕ) × (get objects i ≡ Some (record { kind = actual; bytes = bytes }))
IsExistingFault objects faulty i expected existing.Memory = ⊥

-- what a look-up of an object of a kind answers and puts into the buffer
abbrev pub FindsKindInto : Objects → (ObjectId → Type 0) → ObjectId → Kind → Result (Unit {0}) ExistingError → List ℕ → Type 0
FindsKindInto objects faulty i expected (Ok done) held = get objects i ≡ Some (record { kind = expected; bytes = held })
FindsKindInto objects faulty i expected (Err e) held = e ≢ existing.Memory → IsExistingFault objects faulty i expected e

-- what a look-up of a commit answers: the items of its bytes, or why not
abbrev pub FindsCommit : Objects → (ObjectId → Type 0) → ObjectId → Result CommitRefIter ExistingError → Type 0
FindsCommit objects faulty i (Ok it) =
    (bytes : List ℕ) × (get objects i ≡ Some (record { kind = kind.Commit; bytes = bytes })) × (commit_items_left it ≡ commit_items (kind_of i) bytes)
FindsCommit objects faulty i (Err e) = e ≢ existing.Memory → IsExistingFault objects faulty i kind.Commit e

-- what a look-up of a tree answers: its bytes, whose entries are still to come, or why not
abbrev pub FindsTree : Objects → (ObjectId → Type 0) → ObjectId → Result TreeRefIter ExistingError → Type 0
FindsTree objects faulty i (Ok it) =
    (get objects i ≡ Some (record { kind = kind.Tree; bytes = bytes_left it })) × (id_kind it ≡ kind_of i)
    × (items_left it ≡ tree_items (kind_of i) (bytes_left it))
FindsTree objects faulty i (Err e) = e ≢ existing.Memory → IsExistingFault objects faulty i kind.Tree e
