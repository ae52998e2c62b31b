-- The laws of a store with rows.
use Rattle.std.specs.Prelude.{◌≡◌, ◌⊎◌, List, Option, Some, None, Contains}
use Rattle.std.specs.FinMap.{get}
use Rattle.std.specs.Option.{option_map, option_or}
use Rattle.gix_hash.specs.declared.ObjectId.{ObjectId}
use Rattle.gix_object.specs.Object.{Object, Objects}
use Rattle.gix_object.specs.CommitText.{Commit}
use Rattle.gix_commitgraph.specs.Rows.{GraphRow, row_of}
use Rattle.gix_commitgraph.specs.Packed.{AreGraphRows}
use Rattle.gix_revwalk.specs.Agreeing.{IsAgreeing}
use Rattle.gix_revwalk.specs.Commits.{commit_at}
use Rattle.gix_revwalk.specs.RowParents.{ids_at}
use Rattle.gix_graph_check.specs.Sound.{AreSound}
use Rattle.gix_graph_store.specs.RowText.{text_at}
use Rattle.gix_graph_store.specs.WithRows.{commit_object, with_rows}

-- the commit that a row says, where none of its places is corrupt
abbrev pub commit_said : List GraphRow → Option GraphRow → Option Commit
commit_said rows None = None
commit_said rows (Some row) = option_map (λ ids. record { tree = row.tree; parents = ids; time = row.time }) (ids_at rows row.parents)

-- what a store with rows has at an id
pub record TellsRow (rows : List GraphRow) (objects : Objects) (i : ObjectId) : Type 0 where
  -- the object that is stored, or else the text that the row writes
  pub exact : get (with_rows rows objects) i ≡ option_or (get objects i) (option_map commit_object (text_at rows i))
  -- so what is stored stays
  pub stored : (object : Object) → get objects i ≡ Some object → get (with_rows rows objects) i ≡ Some object
  -- and what has no row
  pub other : row_of rows i ≡ None → get (with_rows rows objects) i ≡ get objects i
  -- where nothing is stored, there is the commit that the row says
  pub told : get objects i ≡ None → commit_at (with_rows rows objects) i ≡ commit_said rows (row_of rows i)
  -- each sound row says one
  pub whole : AreSound rows → (row : GraphRow) → row_of rows i ≡ Some row
      → (ids : List ObjectId) × (commit_said rows (row_of rows i) ≡ Some (record { tree = row.tree; parents = ids; time = row.time }))
      × (ids_at rows row.parents ≡ Some ids)

abbrev pub RowsTell : Type 0
RowsTell = (rows : List GraphRow) (objects : Objects) (i : ObjectId) → AreGraphRows rows → TellsRow rows objects i

-- what is stored at the id of a row is the commit that the row says
abbrev pub StoredAgree : List GraphRow → Objects → Type 0
StoredAgree rows objects = (row : GraphRow) (object : Object) → Contains rows row → get objects row.id ≡ Some object
    → commit_at objects row.id ≡ commit_said rows (Some row)

-- rows agree with a store that has them, so each law of walks with rows applies
abbrev pub ToldRowsAgree : Type 0
ToldRowsAgree = (rows : List GraphRow) (objects : Objects) → AreGraphRows rows → AreSound rows → StoredAgree rows objects
    → IsAgreeing (with_rows rows objects) rows

-- all objects are from a store
abbrev pub AreFrom : Objects → Objects → Type 0
AreFrom records store = (i : ObjectId) (object : Object) → get records i ≡ Some object → get store i ≡ Some object

-- an id that has a record or a row
abbrev pub IsTold : List GraphRow → Objects → ObjectId → Type 0
IsTold rows records i = ((object : Object) × (get records i ≡ Some object)) ⊎ ((row : GraphRow) × (row_of rows i ≡ Some row))

-- rows that agree with a store, and records from it, tell the commits of that store
abbrev pub ToldIsStored : Type 0
ToldIsStored = (rows : List GraphRow) (records store : Objects) → AreGraphRows rows → AreSound rows → IsAgreeing store rows → AreFrom records store
    → StoredAgree rows records × ((i : ObjectId) → IsTold rows records i → commit_at (with_rows rows records) i ≡ commit_at store i)
