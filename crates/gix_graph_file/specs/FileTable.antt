-- Git's commit-graph file: its head, its table of chunks, and the chunks that say its rows. All numbers are big-endian.
use Rattle.std.specs.Prelude.{ℕ, zero, suc, ◌+◌, ◌-◌, ◌*◌, ◌/◌, ◌%◌, ◌==◌, ◌&&◌, not, nat_lt, nat_le, nat_eq, Bool, false, List, [], length, take, drop, codes, slice_index, Option, Some, None, unwrap_or, Result, Ok, Err, if◌then◌else◌}
use Rattle.std.specs.Int.{w32, w64, from_be_bytes}
use Rattle.std.specs.List.{starts_with}
use Rattle.std.specs.Option.{ok_or}
use Rattle.gix_hash.specs.declared.Kind.{Kind}
use Rattle.gix_hash.specs.declared.Kind.TheVariants as kind
use Rattle.gix_hash.specs.Id.{id_len}
use Rattle.gix_commitgraph.specs.PackedReading.{word_at}
use Rattle.gix_graph_file.specs.declared.error.Chunk.{Chunk}
use Rattle.gix_graph_file.specs.declared.error.Chunk.TheVariants as chunk
use Rattle.gix_graph_file.specs.declared.error.Error.{Error}
use Rattle.gix_graph_file.specs.declared.error.Error.TheVariants as error

-- the first fault, or what follows
infixl 10 ◌>>=◌
abbrev pub ◌>>=◌ : {A B : Type 0} → Result A Error → (A → Result B Error) → Result B Error
(Ok x) >>= more = more x
(Err e) >>= more = Err e

-- the number in the eight bytes at a place
unfoldable pub long_at : ℕ → List ℕ → ℕ
long_at at bytes = from_be_bytes w64 (take 8 (drop at bytes))

-- ---- the head: CGPH, the version, the hash's version, the number of chunks, the number of lower layers

-- the kind of a file that has this number of lower layers
abbrev pub kind_placed : ℕ → ℕ → Kind → Result Kind Error
kind_placed number layers k = if layers == number then Ok k else Err error.Layer

abbrev pub kind_said : ℕ → List ℕ → Result Kind Error
kind_said number file =
    if nat_lt (length file) 8 then Err error.Header
    else if not (starts_with nat_eq file (codes "CGPH")) then Err error.Signature
    else if not (slice_index file 4 == 1) then Err error.Version
    else if slice_index file 5 == 1 then kind_placed number (slice_index file 7) kind.Sha1
    else if slice_index file 5 == 2 then kind_placed number (slice_index file 7) kind.Sha256
    else Err error.HashVersion

abbrev pub chunk_count : List ℕ → ℕ
chunk_count file = slice_index file 6

-- ---- the table: for each chunk its name and where it begins, and one more entry without a name, where the last chunk ends

-- where the table of so many chunks ends
abbrev pub table_len : ℕ → ℕ
table_len count = 20 + 12 * count

unfoldable pub name_at : List ℕ → ℕ → ℕ
name_at file entry = word_at (8 + 12 * entry) file

unfoldable pub offset_at : List ℕ → ℕ → ℕ
offset_at file entry = long_at (12 + 12 * entry) file

-- an entry without a name, where the last chunk ends, which begins at `lower`
abbrev pub is_last : List ℕ → ℕ → ℕ → ℕ → Bool
is_last file end entry lower = name_at file entry == 0 && offset_at file entry == end && nat_le lower end

-- from an entry on, `left` entries have names and begin at `lower` at least and in order, and the next is the last
unfoldable pub is_table_from : List ℕ → ℕ → ℕ → ℕ → ℕ → Bool
is_table_from file end zero entry lower = is_last file end entry lower
is_table_from file end (suc left) entry lower =
    if name_at file entry == 0 then false
    else if nat_lt (offset_at file entry) lower then false
    else is_table_from file end left (entry + 1) (offset_at file entry)

-- the bytes of the first chunk of a name, among `left` chunks from an entry on: up to where the next entry's begin
unfoldable pub chunk_from : List ℕ → ℕ → ℕ → ℕ → Option (List ℕ)
chunk_from file name zero entry = None
chunk_from file name (suc left) entry =
    if name_at file entry == name then Some (take (offset_at file (entry + 1) - offset_at file entry) (drop (offset_at file entry) file))
    else chunk_from file name left (entry + 1)

abbrev pub name_of : Chunk → ℕ
name_of chunk.FanOut = from_be_bytes w32 (codes "OIDF")
name_of chunk.Ids = from_be_bytes w32 (codes "OIDL")
name_of chunk.Data = from_be_bytes w32 (codes "CDAT")
name_of chunk.Edges = from_be_bytes w32 (codes "EDGE")
name_of chunk.Base = from_be_bytes w32 (codes "BASE")

abbrev pub needed : List ℕ → ℕ → Chunk → Result (List ℕ) Error
needed file count c = ok_or (chunk_from file (name_of c) count 0) (error.Missing c)

-- ---- the parts that say the rows

pub record Parts : Type 0 where
  pub kind : Kind
  -- how many rows
  pub count : ℕ
  -- an id for each row
  pub ids : List ℕ
  -- a tree's id and 16 bytes for each row
  pub commits : List ℕ
  -- four bytes for each further parent
  pub edges : List ℕ

-- the most rows: their numbers are below the word for no parent
abbrev pub most_rows : ℕ
most_rows = 0x70000000

abbrev pub most_words : ℕ
most_words = 2147483646

-- the parts, where the sizes of the chunks are as the last count of the fan-out asks
unfoldable pub sized_parts : Kind → List ℕ → List ℕ → List ℕ → List ℕ → Result Parts Error
sized_parts k fan_out ids commits edges =
    if not (length fan_out == 1024) then Err (error.Size chunk.FanOut)
    else let n = word_at 1020 fan_out in
    if nat_lt most_rows n then Err error.TooMany
    else if not (length ids == id_len k * n) then Err (error.Size chunk.Ids)
    else if not (length commits == id_len k * n + 16 * n) then Err (error.Size chunk.Data)
    else if not (length edges % 4 == 0) then Err (error.Size chunk.Edges)
    else if nat_lt most_words (length edges / 4) then Err error.TooMany
    else Ok (record { kind = k; count = n; ids = ids; commits = commits; edges = edges })

-- behind the table and the chunks there is a hash, as long as an id
unfoldable pub parts_of : Kind → List ℕ → Result Parts Error
parts_of k file =
    let count = chunk_count file in
    let end = length file - id_len k in
    if nat_lt end (table_len count) then Err error.Truncated
    else if not (is_table_from file end count 0 (table_len count)) then Err error.Table
    else do
      fan_out ← needed file count chunk.FanOut
      ids ← needed file count chunk.Ids
      commits ← needed file count chunk.Data
      sized_parts k fan_out ids commits (unwrap_or (chunk_from file (name_of chunk.Edges) count 0) [])

-- the parts of a file that has this number of lower layers
abbrev pub read_layer : ℕ → List ℕ → Result Parts Error
read_layer number file = do
  k ← kind_said number file
  parts_of k file

-- the parts of a file that has none
abbrev pub read_parts : List ℕ → Result Parts Error
read_parts file = read_layer 0 file
