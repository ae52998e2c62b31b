-- The packed bytes that say the same rows as the parts of a file.
use Rattle.std.specs.Prelude.{◌≡◌, ℕ, zero, suc, ◌+◌, ◌-◌, ◌*◌, ◌/◌, ◌%◌, ◌^◌, ◌==◌, ◌≤◌, nat_lt, List, [], ◌++◌, length, take, drop, map, Result, if◌then◌else◌}
use Rattle.std.specs.Int.{w32, w64, to_be_bytes}
use Rattle.std.specs.List.{flat_map}
use Rattle.gix_hash.specs.declared.Kind.{Kind}
use Rattle.gix_hash.specs.declared.Kind.TheVariants as kind
use Rattle.gix_commitgraph.specs.declared.GraphError.{GraphError}
use Rattle.gix_commitgraph.specs.declared.GraphError.TheVariants as refused
use Rattle.gix_commitgraph.specs.declared.Place.TheVariants as place
use Rattle.gix_hash.specs.Id.{id_len}
use Rattle.gix_commitgraph.specs.Packed.{fault_word, layout_name, AreBytes, flag}
use Rattle.gix_commitgraph.specs.Packed as packed
use Rattle.gix_commitgraph.specs.PackedReading.{word_at, words_of}
use Rattle.gix_commitgraph.specs.Rows.{GraphRow}
use Rattle.gix_graph_file.specs.declared.error.Error.{Error}
use Rattle.gix_graph_file.specs.declared.error.Error.TheVariants as error
use Rattle.gix_graph_file.specs.declared.table.Layout.{Layout}
use Rattle.gix_graph_file.specs.FileTable.{long_at, Parts, most_rows, most_words}
use Rattle.gix_graph_file.specs.FileRows.{no_parent, rows_of}

-- parts without where they lie in memory
abbrev pub seen : Layout → Parts
seen layout = record { kind = layout.kind; count = layout.rows; ids = layout.ids.now; commits = layout.commits.now; edges = layout.edges.now }

-- parts whose sizes fit, of bytes
pub record IsWhole (p : Parts) : Type 0 where
  pub ids : length p.ids ≡ id_len p.kind * p.count
  pub commits : length p.commits ≡ id_len p.kind * p.count + 16 * p.count
  pub few : p.count ≤ most_rows
  pub whole_words : length p.edges % 4 ≡ 0
  pub few_words : length p.edges / 4 ≤ most_words
  pub bytes : AreBytes p.commits

abbrev pub place_packed : ℕ → ℕ → ℕ
place_packed n word = if nat_lt word n then word else fault_word

abbrev pub first_packed : ℕ → ℕ → ℕ
first_packed n word = if word == no_parent then packed.no_parent else place_packed n word

abbrev pub second_packed : ℕ → ℕ → ℕ
second_packed n word = if nat_lt word flag then first_packed n word else word

abbrev pub edge_packed : ℕ → ℕ → ℕ
edge_packed n word = if nat_lt word flag then place_packed n word else flag + place_packed n (word - flag)

unfoldable pub row_packed : ℕ → List ℕ → List ℕ → List ℕ → List ℕ
row_packed n id tree numbers =
    id ++ (tree ++ (to_be_bytes w32 (first_packed n (word_at 0 numbers))
    ++ (to_be_bytes w32 (second_packed n (word_at 4 numbers))
    ++ (to_be_bytes w32 (long_at 8 numbers / 2 ^ 34) ++ to_be_bytes w64 (long_at 8 numbers % 2 ^ 34)))))

-- `left` rows of n
unfoldable pub rows_packed : Kind → ℕ → ℕ → List ℕ → List ℕ → List ℕ
rows_packed k n zero ids commits = []
rows_packed k n (suc left) ids commits =
    row_packed n (take (id_len k) ids) (take (id_len k) commits) (take 16 (drop (id_len k) commits)) ++ rows_packed k n left (drop (id_len k) ids)
    (drop 16 (drop (id_len k) commits))

-- the kind that the head of so many rows says
abbrev pub kind_packed : Kind → ℕ → Kind
kind_packed k n = if n == 0 then kind.Sha1 else k

abbrev pub head_packed : Kind → ℕ → ℕ → List ℕ
head_packed k n m = layout_name (kind_packed k n) ++ (to_be_bytes w32 n ++ to_be_bytes w32 m)

abbrev pub words_packed : ℕ → List ℕ → List ℕ
words_packed n edges = map (edge_packed n) (words_of edges)

unfoldable pub parts_packed : Parts → List ℕ
parts_packed p =
    layout_name (kind_packed p.kind p.count) ++ (to_be_bytes w32 p.count
    ++ (to_be_bytes w32 (length p.edges / 4) ++ (rows_packed p.kind p.count p.count p.ids p.commits ++ flat_map (to_be_bytes w32)
    (words_packed p.count p.edges))))

-- the fault of a file whose packed rows are refused; only the faults of rows come
abbrev pub fault_of : GraphError → Error
fault_of (refused.Packed (place.Order r)) = error.Order r
fault_of (refused.Packed (place.Parents r)) = error.Parents r
fault_of (refused.Packed place.Overflow) = error.Edges
fault_of e = error.TooMany

-- these bytes, packed from whatever parts, say what the parts say
abbrev pub ReadsAs : List ℕ → Result (List GraphRow) Error → Type 0
ReadsAs packed read = (p : Parts) → IsWhole p → packed ≡ parts_packed p → rows_of p ≡ read
