-- How a chain of files is read, step by step.
use Rattle.std.specs.Borrow.{Bor}
use Rattle.std.specs.Prelude.{◌≡◌, ◌≢◌, ℕ, ◌-◌, ◌≤◌, IsTrue, List, ◌++◌, length, map, Option, Some, None, Result, Ok, Err, Vec, vec_items, if◌then◌else◌}
use Rattle.gix_hash.specs.declared.Kind.{Kind}
use Rattle.gix_hash.specs.declared.ObjectId.{ObjectId}
use Rattle.gix_hash.specs.Id.{id_len, id_of}
use Rattle.gix_commitgraph.specs.declared.ParentPlace.{ParentPlace}
use Rattle.gix_commitgraph.specs.declared.Row.{Row}
use Rattle.gix_commitgraph.specs.declared.GraphError.{GraphError}
use Rattle.gix_commitgraph.specs.declared.GraphError.TheVariants as refused
use Rattle.gix_commitgraph.specs.Rows.{GraphRow}
use Rattle.gix_commitgraph.specs.PackedReading.{word_at, words_of, is_above}
use Rattle.gix_commitgraph.specs.Renumbering.{row_seen, rows_seen}
use Rattle.gix_graph_file.specs.declared.error.Error.{Error}
use Rattle.gix_graph_file.specs.declared.error.Error.TheVariants as error
use Rattle.gix_graph_file.specs.declared.chain.Below.{Below}
use Rattle.gix_graph_file.specs.declared.chain.LayerRow.{LayerRow}
use Rattle.gix_graph_file.specs.FileTable.{is_table_from, table_len, chunk_count}
use Rattle.gix_graph_file.specs.FileRows.{Parents, parents_said, row_said}
use Rattle.gix_graph_file.specs.declared.error.ChainError.{ChainError}
use Rattle.gix_graph_file.specs.declared.error.ChainError.TheVariants as chain
use Rattle.gix_graph_file.specs.Chain.{Lower, read_chain}

-- the file's table of chunks is as it should be
pub record HasTable (k : Kind) (file : List ℕ) : Type 0 where
  pub fits : table_len (chunk_count file) ≤ length file - id_len k
  pub table : IsTrue (is_table_from file (length file - id_len k) (chunk_count file) 0 (table_len (chunk_count file)))

-- the layers below, without where they lie in memory
abbrev pub below_seen : Below → Lower
below_seen below = record { kind = below.kind; hashes = below.hashes.items; rows = rows_seen below.rows.items }

-- parents that are read, and then further ones
abbrev pub joined : List ParentPlace → Option Parents → Option Parents
joined read None = None
joined read (Some more) = Some (read ++ more.0, more.1)

-- rows that are read, and then further ones
abbrev pub prepended : List GraphRow → Result (List GraphRow) Error → Result (List GraphRow) Error
prepended read (Ok rows) = Ok (read ++ rows)
prepended read (Err e) = Err e

-- a row, and the words behind its
abbrev pub RowRead : Type 0
RowRead = GraphRow × List ℕ

abbrev pub row_or_fault : ℕ → (List ParentPlace → GraphRow) → Option Parents → Result RowRead Error
row_or_fault r row None = Err (error.Parents r)
row_or_fault r row (Some parents) = Ok (row parents.0, parents.1)

-- the row r of an id, a tree's id and 16 bytes
unfoldable pub row_read : Kind → ℕ → ℕ → ℕ → Option ObjectId → List ℕ → List ℕ → List ℕ → List ℕ → Result RowRead Error
row_read k limit at r before id tree numbers words =
    if is_above before (id_of k id) then row_or_fault r (row_said k id tree numbers) (parents_said limit at (word_at 0 numbers) (word_at 4 numbers) words)
    else Err (error.Order r)

abbrev pub row_of_layer : Kind → (limit at : ℕ) → LayerRow → Result RowRead Error
row_of_layer k limit at given = row_read k limit at given.number given.before given.id.now given.tree.now given.numbers.now (words_of given.edges.now)

-- a row of a layer was read so, unless memory ran out
abbrev pub ReadsLayerRow : Kind → (limit at : ℕ) → LayerRow → Result (Row × Bor (List ℕ)) Error → Type 0
ReadsLayerRow k limit at given (Ok read) = row_of_layer k limit at given ≡ Ok (row_seen read.0, words_of read.1.now)
ReadsLayerRow k limit at given (Err e) = e ≢ error.Memory → row_of_layer k limit at given ≡ Err e

abbrev pub files_seen : List (Bor (List ℕ)) → List (List ℕ)
files_seen layers = map (λ layer. layer.now) layers

-- the bytes of each layer
abbrev pub layers_seen : {Z : Type 0} → List (Vec ℕ Z) → List (List ℕ)
layers_seen layers = map vec_items layers

-- a layer's fault as the chain's
abbrev pub IsAtLayer : ℕ → Error → ChainError → Type 0
IsAtLayer number e (chain.Layer n f) = (n ≡ number) × (f ≡ e) × (e ≢ error.Memory)
IsAtLayer number e (chain.Rows f) = ⊥
IsAtLayer number e chain.Memory = e ≡ error.Memory

-- what is said where no graph has the rows
abbrev pub IsForRows : GraphError → ChainError → Type 0
IsForRows e (chain.Layer n f) = ⊥
IsForRows e (chain.Rows f) = (f ≡ e) × (e ≢ refused.Memory)
IsForRows e chain.Memory = e ≡ refused.Memory

-- the first fault of the layers, or that memory ran out
abbrev pub IsLayerFault : List (List ℕ) → ChainError → Type 0
IsLayerFault files (chain.Layer n e) = read_chain files ≡ Err (chain.Layer n e)
IsLayerFault files (chain.Rows e) = ⊥
IsLayerFault files chain.Memory = Unit {0}
