-- A whole file as git writes it, and what is read of others.
use Rattle.std.specs.Prelude.{◌≡◌, ℕ, false, pos, List, [], ◌∷◌, ◌++◌, replicate, codes, Some, None, Ok, Err, refl}
use Rattle.std.specs.Int.{w32, to_be_bytes}
use Rattle.std.specs.List.{flat_map}
use Rattle.gix_hash.specs.declared.ObjectId.TheVariants as id
use Rattle.gix_commitgraph.specs.declared.ParentPlace.TheVariants.{At, Fault}
use Rattle.gix_commitgraph.specs.Rows.{GraphRow}
use Rattle.gix_graph_file.specs.declared.error.Error.TheVariants as error
use Rattle.gix_graph_file.specs.declared.error.ChainError.TheVariants as chain
use Rattle.gix_graph_file.specs.FileTable.{long_at, name_at, offset_at, is_table_from, chunk_from, sized_parts, parts_of}
use Rattle.gix_graph_file.specs.FileRows.{parents_said, rows_from, read_file}
use Rattle.gix_graph_file.specs.Trailer.{has_its_hash}
use Rattle.gix_graph_file.specs.Chain.{with_layer, chain_from, read_chain}

-- the id of git's empty tree
abbrev pub tree : List ℕ
tree = 0x4b ∷ 0x82 ∷ 0x5d ∷ 0xc6 ∷ 0x42 ∷ 0xcb ∷ 0x6e ∷ 0xb9 ∷ 0xa0 ∷ 0x60 ∷ 0xe5 ∷ 0x4b ∷ 0xf8 ∷ 0xd6 ∷ 0x92 ∷ 0x88 ∷ 0xfb ∷ 0xee ∷ 0x49 ∷ 0x04 ∷ []

abbrev pub one : List ℕ
one = 0x36 ∷ 0x8b ∷ 0xfb ∷ 0x9a ∷ 0xb5 ∷ 0x62 ∷ 0x55 ∷ 0x7a ∷ 0x0c ∷ 0x83 ∷ 0xbe ∷ 0xe3 ∷ 0x8e ∷ 0x6a ∷ 0x2b ∷ 0x28 ∷ 0xe7 ∷ 0xfa ∷ 0x58 ∷ 0x40 ∷ []

abbrev pub two : List ℕ
two = 0x5c ∷ 0xd7 ∷ 0x5c ∷ 0xef ∷ 0x95 ∷ 0x6f ∷ 0x04 ∷ 0x51 ∷ 0x4c ∷ 0xa3 ∷ 0x58 ∷ 0x3e ∷ 0x40 ∷ 0x15 ∷ 0xbd ∷ 0xd9 ∷ 0xa2 ∷ 0x02 ∷ 0x99 ∷ 0x90 ∷ []

abbrev pub words : List ℕ → List ℕ
words ns = flat_map (to_be_bytes w32) ns

-- an entry of the table of chunks
abbrev pub entry : List ℕ → ℕ → List ℕ
entry name at = name ++ words (0 ∷ at ∷ [])

-- the trailing hash
abbrev pub hash : List ℕ
hash = 0x0b ∷ 0x41 ∷ 0x2b ∷ 0x65 ∷ 0xb2 ∷ 0xde ∷ 0x45 ∷ 0x74 ∷ 0x03 ∷ 0x1c ∷ 0x19 ∷ 0xa8 ∷ 0xef ∷ 0xfd ∷ 0x58 ∷ 0xda ∷ 0x52 ∷ 0x25 ∷ 0x99 ∷ 0x84 ∷ []

-- a file of two commits, of which the second has the first as its parent
abbrev pub file : List ℕ
file =
    codes "CGPH" ++ (1 ∷ 1 ∷ 4 ∷ 0 ∷ []) ++ entry (codes "OIDF") 0x44 ++ entry (codes "OIDL") 0x444 ++ entry (codes "CDAT") 0x46c
    ++ entry (codes "GDA2") 0x4b4 ++ entry (replicate 4 0) 0x4bc
    ++ words (replicate 0x36 0 ++ replicate 0x26 1 ++ replicate 0xa4 2)
    ++ one ++ two
    ++ tree ++ words (0x70000000 ∷ 0x70000000 ∷ 4 ∷ 1000000000 ∷ [])
    ++ tree ++ words (0 ∷ 0x70000000 ∷ 8 ∷ 1000000001 ∷ [])
    ++ replicate 8 0
    ++ hash

abbrev pub first : GraphRow
first = record { id = id.Sha1 one; tree = id.Sha1 tree; parents = []; generation = 1; time = pos 1000000000 }

abbrev pub second : GraphRow
second = record { id = id.Sha1 two; tree = id.Sha1 tree; parents = At 0 ∷ []; generation = 2; time = pos 1000000001 }

pub two_commits : read_file file ≡ Ok (first ∷ second ∷ [])
unfolding read_file parts_of sized_parts is_table_from chunk_from name_at offset_at long_at rows_from
two_commits = refl

pub no_bytes : read_file [] ≡ Err error.Header
unfolding read_file
no_bytes = refl

pub no_signature : read_file (replicate 8 0) ≡ Err error.Signature
unfolding read_file
no_signature = refl

pub later_version : read_file (codes "CGPH" ++ (2 ∷ 1 ∷ 0 ∷ 0 ∷ [])) ≡ Err error.Version
unfolding read_file
later_version = refl

pub third_hash : read_file (codes "CGPH" ++ (1 ∷ 3 ∷ 0 ∷ 0 ∷ [])) ≡ Err error.HashVersion
unfolding read_file
third_hash = refl

pub second_layer : read_file (codes "CGPH" ++ (1 ∷ 1 ∷ 0 ∷ 1 ∷ [])) ≡ Err error.Layer
unfolding read_file
second_layer = refl

pub no_table : read_file (codes "CGPH" ++ (1 ∷ 1 ∷ 0 ∷ 0 ∷ [])) ≡ Err error.Truncated
unfolding read_file parts_of
no_table = refl

-- three and five parents, whose lists are one behind the other in EDGE
abbrev pub edges : List ℕ
edges = 7 ∷ 0x80000004 ∷ 3 ∷ 4 ∷ 1 ∷ 0x80000007 ∷ []

pub three_parents : parents_said 9 0 1 0x80000000 edges ≡ Some (At 1 ∷ At 7 ∷ At 4 ∷ [], 3 ∷ 4 ∷ 1 ∷ 0x80000007 ∷ [])
three_parents = refl

pub five_parents : parents_said 9 2 8 0x80000002 (3 ∷ 4 ∷ 1 ∷ 0x80000007 ∷ []) ≡ Some (At 8 ∷ At 3 ∷ At 4 ∷ At 1 ∷ At 7 ∷ [], [])
five_parents = refl

pub no_parents : parents_said 9 0 0x70000000 0x70000000 edges ≡ Some ([], edges)
no_parents = refl

-- a parent among eight rows that is no row
pub row_too_far : parents_said 8 0 3 8 edges ≡ Some (At 3 ∷ Fault ∷ [], edges)
row_too_far = refl

pub second_without_first : parents_said 9 0 0x70000000 1 edges ≡ None
second_without_first = refl

-- a list that begins behind the words of the row before
pub list_out_of_order : parents_said 9 0 1 0x80000001 edges ≡ None
list_out_of_order = refl

pub list_without_end : parents_said 9 0 1 0x80000000 (7 ∷ 4 ∷ []) ≡ None
list_without_end = refl

pub list_of_one : parents_said 9 0 1 0x80000000 (0x80000007 ∷ []) ≡ None
list_of_one = refl

-- ---- a layer of one commit, whose parent is the second commit of the layer below

abbrev pub three : List ℕ
three = 0x11 ∷ replicate 19 0

abbrev pub upper : List ℕ
upper =
    codes "CGPH" ++ (1 ∷ 1 ∷ 4 ∷ 1 ∷ []) ++ entry (codes "OIDF") 0x44 ++ entry (codes "OIDL") 0x444 ++ entry (codes "CDAT") 0x458
    ++ entry (codes "BASE") 0x47c ++ entry (replicate 4 0) 0x490
    ++ words (replicate 0x11 0 ++ replicate 0xef 1)
    ++ three
    ++ tree ++ words (1 ∷ 0x70000000 ∷ 12 ∷ 1000000002 ∷ [])
    ++ hash
    ++ replicate 20 0

abbrev pub third : GraphRow
third = record { id = id.Sha1 three; tree = id.Sha1 tree; parents = At 1 ∷ []; generation = 3; time = pos 1000000002 }

pub two_layers : read_chain (file ∷ upper ∷ []) ≡ Ok (first ∷ second ∷ third ∷ [])
unfolding chain_from with_layer parts_of sized_parts is_table_from chunk_from name_at offset_at long_at rows_from
two_layers = refl

pub upper_alone : read_chain (upper ∷ []) ≡ Err (chain.Layer 0 error.Layer)
unfolding chain_from with_layer
upper_alone = refl

pub layer_twice : read_chain (file ∷ file ∷ []) ≡ Err (chain.Layer 1 error.Layer)
unfolding chain_from with_layer parts_of sized_parts is_table_from chunk_from name_at offset_at long_at rows_from
layer_twice = refl

pub no_layers : read_chain [] ≡ Ok []
unfolding chain_from
no_layers = refl

-- a file that is too short for a head, or whose head says no hash that is known
pub no_hash : has_its_hash [] ≡ false
unfolding has_its_hash
no_hash = refl

pub hash_of_no_kind : has_its_hash (codes "CGPH" ++ (1 ∷ 3 ∷ 0 ∷ 0 ∷ []) ++ hash) ≡ false
unfolding has_its_hash
hash_of_no_kind = refl
