-- A chain of commit-graph files: each layer has rows that the layers below it lack.
use Rattle.std.specs.Prelude.{◌≡◌, ℕ, ◌+◌, ◌-◌, Bool, true, false, not, List, [], ◌∷◌, ◌++◌, length, drop, Option, Some, None, unwrap_or, Result, Ok, Err, if◌then◌else◌}
use Rattle.std.specs.Str.{bytes_eq}
use Rattle.gix_hash.specs.declared.Kind.{Kind}
use Rattle.gix_hash.specs.declared.Kind.TheVariants as kind
use Rattle.gix_commitgraph.specs.declared.GraphError.{GraphError}
use Rattle.gix_commitgraph.specs.declared.GraphError.TheVariants as refused
use Rattle.gix_hash.specs.Id.{id_len}
use Rattle.gix_commitgraph.specs.Rows.{GraphRow}
use Rattle.gix_commitgraph.specs.PackedReading.{words_of}
use Rattle.gix_commitgraph.specs.Packed.{AreGraphRows}
use Rattle.gix_commitgraph.specs.Renumbering.{HasSameRows, IsAccepted, Refuses}
use Rattle.gix_graph_file.specs.declared.error.Chunk.TheVariants as chunk
use Rattle.gix_graph_file.specs.declared.error.Error.{Error}
use Rattle.gix_graph_file.specs.declared.error.Error.TheVariants as error
use Rattle.gix_graph_file.specs.declared.error.ChainError.{ChainError}
use Rattle.gix_graph_file.specs.declared.error.ChainError.TheVariants as chain
use Rattle.gix_graph_file.specs.FileTable.{◌>>=◌, Parts, chunk_count, chunk_from, name_of, read_layer}
use Rattle.gix_graph_file.specs.FileRows.{rows_from}

-- what the layers below a layer say
pub record Lower : Type 0 where
  -- the kind of their ids, if there are layers below
  pub kind : Option Kind
  -- their trailing hashes, lowest first
  pub hashes : List ℕ
  -- their rows, lowest first
  pub rows : List GraphRow

abbrev pub is_kind : Option Kind → Kind → Bool
is_kind None k = true
is_kind (Some kind.Sha1) kind.Sha1 = true
is_kind (Some kind.Sha1) kind.Sha256 = false
is_kind (Some kind.Sha256) kind.Sha1 = false
is_kind (Some kind.Sha256) kind.Sha256 = true

-- the trailing hash of a file
abbrev pub hash_of : Kind → List ℕ → List ℕ
hash_of k file = drop (length file - id_len k) file

-- the hashes of the layers below, as a file says them
abbrev pub base_of : List ℕ → List ℕ
base_of file = unwrap_or (chunk_from file (name_of chunk.Base) (chunk_count file) 0) []

-- a layer's rows; a parent is named by its place among the rows of the layers below and then of this layer, so many together
abbrev pub layer_rows : ℕ → Parts → Result (List GraphRow) Error
layer_rows limit p = let words = words_of p.edges in rows_from p.kind limit (length words) p.count 0 None p.ids p.commits words

abbrev pub with_rows : Lower → List ℕ → Kind → List GraphRow → Lower
with_rows lower file k rows = record { kind = Some k; hashes = lower.hashes ++ hash_of k file; rows = lower.rows ++ rows }

abbrev pub with_parts : Lower → List ℕ → Parts → Result Lower Error
with_parts lower file p =
    if not (is_kind lower.kind p.kind) then Err error.Kind
    else if not (bytes_eq (base_of file) lower.hashes) then Err error.Base
    else layer_rows (length lower.rows + p.count) p >>= (λ rows. Ok (with_rows lower file p.kind rows))

-- the layer of this number, with the layers below it
unfoldable pub with_layer : ℕ → Lower → List ℕ → Result Lower Error
with_layer number lower file = do
  parts ← read_layer number file
  with_parts lower file parts

abbrev pub layer_then : ℕ → Result Lower Error → (Lower → Result (List GraphRow) ChainError) → Result (List GraphRow) ChainError
layer_then number (Ok lower) more = more lower
layer_then number (Err e) more = Err (chain.Layer number e)

-- the rows of all layers, lowest first, where the layers below the layer of this number say this
unfoldable pub chain_from : ℕ → Lower → List (List ℕ) → Result (List GraphRow) ChainError
chain_from number lower [] = Ok lower.rows
chain_from number lower (file ∷ files) = layer_then number (with_layer number lower file) (λ next. chain_from (number + 1) next files)

abbrev pub nothing : Lower
nothing = record { kind = None; hashes = []; rows = [] }

-- the rows of a chain of files, lowest first, or the first fault
abbrev pub read_chain : List (List ℕ) → Result (List GraphRow) ChainError
read_chain files = chain_from 0 nothing files

-- the graph has the rows of the chain
pub record HasChain (files : List (List ℕ)) (graph : List GraphRow) : Type 0 where
  pub rows : List GraphRow
  pub read : read_chain files ≡ Ok rows
  pub accepted : IsAccepted rows
  pub sound : AreGraphRows graph
  pub same : HasSameRows rows graph

-- why no graph has the rows of layers that are as they should be
abbrev pub IsOfRows : GraphError → Type 0
IsOfRows refused.TooMany = Unit {0}
IsOfRows refused.DuplicateId = Unit {0}
IsOfRows refused.MixedKinds = ⊥
IsOfRows refused.PositionOutOfRange = ⊥
IsOfRows (refused.Packed place) = ⊥
IsOfRows refused.Memory = ⊥

-- what an error says of the chain
abbrev pub RefusesChain : List (List ℕ) → ChainError → Type 0
RefusesChain files (chain.Layer number e) = read_chain files ≡ Err (chain.Layer number e)
RefusesChain files (chain.Rows e) = (rows : List GraphRow) × (read_chain files ≡ Ok rows) × Refuses rows e × IsOfRows e
RefusesChain files chain.Memory = Unit {0}
