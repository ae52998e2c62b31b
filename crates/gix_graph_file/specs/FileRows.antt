-- Git's commit-graph file: its rows, or the first thing that is not as it should be.
use Rattle.std.specs.Prelude.{ℕ, zero, suc, ◌+◌, ◌-◌, ◌/◌, ◌%◌, ◌^◌, ◌==◌, nat_lt, pos, List, [], ◌∷◌, length, take, drop, Option, Some, None, Result, Ok, Err, if◌then◌else◌}
use Rattle.gix_hash.specs.declared.Kind.{Kind}
use Rattle.gix_hash.specs.declared.ObjectId.{ObjectId}
use Rattle.gix_commitgraph.specs.declared.ParentPlace.{ParentPlace}
use Rattle.gix_commitgraph.specs.declared.ParentPlace.TheVariants.{At, Fault}
use Rattle.gix_hash.specs.Id.{id_len, id_of}
use Rattle.gix_commitgraph.specs.Rows.{GraphRow}
use Rattle.gix_commitgraph.specs.Packed.{flag}
use Rattle.gix_commitgraph.specs.PackedReading.{word_at, words_of, is_above, with_row}
use Rattle.gix_graph_file.specs.declared.error.Error.{Error}
use Rattle.gix_graph_file.specs.declared.error.Error.TheVariants as error
use Rattle.gix_graph_file.specs.FileTable.{◌>>=◌, long_at, Parts, read_parts}

-- the word where there is no parent
abbrev pub no_parent : ℕ
no_parent = 0x70000000

-- a parent among n rows: the row of this number, or none
abbrev pub place_named : ℕ → ℕ → ParentPlace
place_named n word = if nat_lt word n then At word else Fault

-- parents, and the words of EDGE behind theirs
abbrev pub Parents : Type 0
Parents = List ParentPlace × List ℕ

abbrev pub with_parent : ParentPlace → Option Parents → Option Parents
with_parent p None = None
with_parent p (Some more) = Some (p ∷ more.0, more.1)

-- a list of parents, up to the word that has the flag
abbrev pub edge_list : ℕ → List ℕ → Option Parents
edge_list n [] = None
edge_list n (word ∷ words) =
    if nat_lt word flag then with_parent (place_named n word) (edge_list n words)
    else Some (place_named n (word - flag) ∷ [], words)

-- such a list of two parents at least
abbrev pub long_edge_list : ℕ → List ℕ → Option Parents
long_edge_list n [] = None
long_edge_list n (word ∷ words) = if nat_lt word flag then edge_list n (word ∷ words) else None

-- the second and later parents, by the second word, where the words of EDGE from the word k on are left: a list begins at the word k
abbrev pub second_said : ℕ → ℕ → ℕ → List ℕ → Option Parents
second_said n k second words =
    if second == no_parent then Some ([], words)
    else if nat_lt second flag then Some (place_named n second ∷ [], words)
    else if second == flag + k then long_edge_list n words
    else None

-- the parents that two words say
abbrev pub parents_said : ℕ → ℕ → ℕ → ℕ → List ℕ → Option Parents
parents_said n k first second words =
    if first == no_parent then (if second == no_parent then Some ([], words) else None)
    else with_parent (place_named n first) (second_said n k second words)

-- a row of an id, a tree's id, and 16 bytes: two words for the parents, and a number that has the seconds in its low 34 bits and
-- the generation above them
abbrev pub row_said : Kind → List ℕ → List ℕ → List ℕ → List ParentPlace → GraphRow
row_said k id tree numbers parents =
    record { id = id_of k id; tree = id_of k tree; parents = parents; generation = long_at 8 numbers / 2 ^ 34; time = pos (long_at 8 numbers % 2 ^ 34) }

abbrev pub row_then : ℕ → (List ParentPlace → GraphRow) → Option Parents → (List ℕ → Result (List GraphRow) Error) → Result (List GraphRow) Error
row_then r row None more = Err (error.Parents r)
row_then r row (Some parents) more = with_row (row parents.0) (more parents.1)

-- `left` rows from the row r on, of n rows: their ids and data, and the m words of EDGE of which `words` are left
unfoldable pub rows_from : Kind → ℕ → ℕ → ℕ → ℕ → Option ObjectId → List ℕ → List ℕ → List ℕ → Result (List GraphRow) Error
rows_from k n m zero r before ids commits words = if length words == 0 then Ok [] else Err error.Edges
rows_from k n m (suc left) r before ids commits words =
    let id = take (id_len k) ids in
    let tree = take (id_len k) commits in
    let numbers = take 16 (drop (id_len k) commits) in
    if is_above before (id_of k id) then
    row_then r (row_said k id tree numbers) (parents_said n (m - length words) (word_at 0 numbers) (word_at 4 numbers) words)
    (rows_from k n m left (r + 1) (Some (id_of k id)) (drop (id_len k) ids) (drop 16 (drop (id_len k) commits)))
    else Err (error.Order r)

abbrev pub rows_of : Parts → Result (List GraphRow) Error
rows_of p = let words = words_of p.edges in rows_from p.kind p.count (length words) p.count 0 None p.ids p.commits words

unfoldable pub read_file : List ℕ → Result (List GraphRow) Error
read_file file = do
  parts ← read_parts file
  rows_of parts
