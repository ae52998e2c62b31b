-- A file that is given up while it is packed: its upper half first, which is then cut off, and then its lower half.
use Rattle.std.specs.Prelude.{◌≡◌, ℕ, ◌+◌, ◌-◌, ◌*◌, ◌/◌, ◌≤◌, max, List, ◌++◌, length, take, drop}
use Rattle.std.specs.Int.{w32, to_be_bytes}
use Rattle.std.specs.List.{flat_map}
use Rattle.gix_hash.specs.Id.{id_len}
use Rattle.gix_commitgraph.specs.Packed.{AreBytes}
use Rattle.gix_graph_file.specs.declared.table.Layout.{Layout}
use Rattle.gix_graph_file.specs.declared.table.Piece.{Piece}
use Rattle.gix_graph_file.specs.declared.halves.LowerHalf.{LowerHalf}
use Rattle.gix_graph_file.specs.FileTable.{Parts}
use Rattle.gix_graph_file.specs.PackedParts.{rows_packed, head_packed, words_packed}

-- the bytes lie at this place of the file
pub record LiesAt (file : List ℕ) (at : ℕ) (bytes : List ℕ) : Type 0 where
  pub within : at + length bytes ≤ length file
  pub same : bytes ≡ take (length bytes) (drop at file)
  pub fits : AreBytes bytes

abbrev pub LiesIn : List ℕ → Piece → Type 0
LiesIn file piece = LiesAt file piece.at piece.bytes.now

-- the layout says where in the file its rows lie
pub record HasOffsets (file : List ℕ) (layout : Layout) : Type 0 where
  pub ids : LiesAt file layout.ids_at layout.ids.now
  pub commits : LiesAt file layout.commits_at layout.commits.now

-- the lower half of the rows
abbrev pub lower_half : Layout → LowerHalf
lower_half layout =
    record { kind = layout.kind; rows = layout.rows; words = length layout.edges.now / 4; count = layout.rows / 2; ids_at = layout.ids_at; commits_at = layout.commits_at }

-- how many bytes its ids have, and what else a file has of it
abbrev pub ids_len : LowerHalf → ℕ
ids_len lower = id_len lower.kind * lower.count

abbrev pub commits_len : LowerHalf → ℕ
commits_len lower = id_len lower.kind * lower.count + 16 * lower.count

-- where the file's bytes of it end
abbrev pub lower_end : LowerHalf → ℕ
lower_end lower = max (lower.ids_at + ids_len lower) (lower.commits_at + commits_len lower)

-- the file has the lower half of the rows
pub record HasLower (file : List ℕ) (lower : LowerHalf) : Type 0 where
  pub ids : lower.ids_at + ids_len lower ≤ length file
  pub commits : lower.commits_at + commits_len lower ≤ length file

-- the bytes of the lower half, packed
abbrev pub lower_packed : LowerHalf → List ℕ → List ℕ
lower_packed lower file = rows_packed lower.kind lower.rows lower.count (drop lower.ids_at file) (drop lower.commits_at file)

-- the upper half, packed, and all words
unfoldable pub upper_packed : Parts → List ℕ
upper_packed p =
    let below = p.count / 2 in
    rows_packed p.kind p.count (p.count - below) (drop (id_len p.kind * below) p.ids) (drop (id_len p.kind * below + 16 * below) p.commits)
    ++ flat_map (to_be_bytes w32) (words_packed p.count p.edges)

-- the packed bytes of the lower half of a file, and then those of its upper half
abbrev pub halves_packed : LowerHalf → List ℕ → List ℕ → List ℕ
halves_packed lower file upper = head_packed lower.kind lower.rows lower.words ++ (lower_packed lower file ++ upper)
