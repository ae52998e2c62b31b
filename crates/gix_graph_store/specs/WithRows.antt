-- What a store has beside which rows tell of commits.
use Rattle.std.specs.Prelude.{ℕ, List, [], ◌∷◌, ◌++◌, Option, Some, None}
use Rattle.std.specs.FinMap.{entries, from_entries}
use Rattle.gix_hash.specs.declared.ObjectId.{ObjectId}
use Rattle.gix_object.specs.declared.Kind.TheVariants as kind
use Rattle.gix_object.specs.Object.{Object, Objects}
use Rattle.gix_commitgraph.specs.Rows.{GraphRow}
use Rattle.gix_commitgraph.specs.Packed.{ids_of_rows}
use Rattle.gix_revwalk.specs.Agreeing.{rows_in}
use Rattle.gix_graph_store.specs.RowText.{text_at}
use Rattle.gix_graph_store.specs.declared.WithRows.{WithRows}

abbrev pub commit_object : List ℕ → Object
commit_object bytes = record { kind = kind.Commit; bytes = bytes }

-- the commit of an id, if it has a text, before other entries
abbrev pub with_text : ObjectId → Option (List ℕ) → List (ObjectId × Object) → List (ObjectId × Object)
with_text i None more = more
with_text i (Some bytes) more = (i, commit_object bytes) ∷ more

-- the commits of these ids, as their rows write them
abbrev pub told_of : List GraphRow → List ObjectId → List (ObjectId × Object)
told_of rows [] = []
told_of rows (i ∷ ids) = with_text i (text_at rows i) (told_of rows ids)

-- the objects, and behind them the commits of all rows: of two of one id the first counts
unfoldable pub with_rows : List GraphRow → Objects → Objects
with_rows rows objects = from_entries (entries objects ++ told_of rows (ids_of_rows rows))

-- what a store with rows has, where this is what its store has
abbrev pub objects_with : {F : Type 0} → (F → Objects) → WithRows F → Objects
objects_with objects s = with_rows (rows_in s.graph) (objects s.store)
