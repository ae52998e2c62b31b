-- How packed bytes are tested, step by step.
use Rattle.std.specs.Borrow.{Bor}
use Rattle.std.specs.Prelude.{◌≡◌, ℕ, ◌+◌, ◌*◌, ◌≤◌, true, List, length, drop, Option, Some, None, Result, Ok, Err}
use Rattle.std.specs.List.{AllByRecursion}
use Rattle.std.specs.Option.{option_map}
use Rattle.gix_hash.specs.declared.Kind.{Kind}
use Rattle.gix_hash.specs.declared.ObjectId.{ObjectId}
use Rattle.gix_commitgraph.specs.declared.Place.{Place}
use Rattle.gix_commitgraph.specs.declared.check.Layout.{Layout}
use Rattle.gix_commitgraph.specs.Rows.{GraphRow, row_at}
use Rattle.gix_commitgraph.specs.Renumbering.{AreFew, HasSameRows, IsRowOf}
use Rattle.gix_commitgraph.specs.Parents.{answers_of, answers_of_words}
use Rattle.gix_commitgraph.specs.Packed.{most, AreGraphRows, IsPlaceAmong, spelling, kind_of_rows, overflow_words}
use Rattle.gix_commitgraph.specs.PackedReading.{word_at, words_of, row_len, id_field, tree_field, first_field, second_field, generation_field, time_field, kind_named, may_have, rows_at, read_packed}

-- the id at the front of the row before, if there is one
abbrev pub id_before : Kind → Option (Bor (List ℕ)) → Option ObjectId
id_before k before = option_map (λ row. id_field k row.now) before

-- reading so many rows more
abbrev pub rows_left : Layout → ℕ → ℕ → Option ObjectId → List ℕ → List ℕ → Result (List GraphRow) Place
rows_left layout left r before bytes words = rows_at layout.kind layout.rows layout.words left r before bytes words

-- the head of these bytes says this layout, and their length is as it asks
pub record IsLaidOut (bytes : List ℕ) (layout : Layout) : Type 0 where
  pub name : kind_named bytes ≡ Some layout.kind
  pub rows_is : word_at 4 bytes ≡ layout.rows
  pub words_is : word_at 8 bytes ≡ layout.words
  pub may : may_have layout.kind layout.rows ≡ true
  pub few : layout.rows ≤ most
  pub few_words : layout.words ≤ most
  pub len : length bytes ≡ 12 + row_len layout.kind * layout.rows + 4 * layout.words
  pub read : read_packed bytes ≡ rows_left layout layout.rows 0 None (drop 12 bytes) (words_of (drop (12 + row_len layout.kind * layout.rows) bytes))

abbrev pub faults : {A : Type 0} → Result A Place → Option Place
faults (Ok x) = None
faults (Err p) = Some p

-- what the head of the spelling of rows says
pub record IsHeadOf (layout : Layout) (rows : List GraphRow) : Type 0 where
  pub kind : layout.kind ≡ kind_of_rows rows
  pub count : layout.rows ≡ length rows
  pub words : layout.words ≡ length (overflow_words rows)

-- rows that are not too many and of one kind, and what the head of their packed bytes says
pub record HasLayout (rows : List GraphRow) (layout : Layout) : Type 0 where
  pub few : AreFew rows
  pub kinds : AllByRecursion (IsRowOf layout.kind) rows
  pub head : IsHeadOf layout rows

-- what a graph keeps: the spelling of its rows, and what the head of it says
pub record IsPackedAs (bytes : List ℕ) (layout : Layout) (rows : List GraphRow) : Type 0 where
  pub sound : AreGraphRows rows
  pub spelled : bytes ≡ spelling rows
  pub head : IsHeadOf layout rows

-- the bytes are the packed bytes of a graph that has the same rows
pub record PacksSame (rows : List GraphRow) (layout : Layout) (bytes : List ℕ) : Type 0 where
  pub graph : List GraphRow
  pub kept : IsPackedAs bytes layout graph
  pub same : HasSameRows rows graph

-- a step of reading that found its fault, or after which reading finds the same
abbrev pub StepsOver : {A : Type 0} → Result (List GraphRow) Place → (A → Result (List GraphRow) Place) → Result A Place → Type 0
StepsOver read more (Ok x) = faults read ≡ faults (more x)
StepsOver read more (Err p) = faults read ≡ Some p

-- the bytes begin with the row of this number
pub record BeginsWithRow (rows : List GraphRow) (r : ℕ) (bytes : List ℕ) : Type 0 where
  pub long : row_len (kind_of_rows rows) ≤ length bytes
  pub id : id_field (kind_of_rows rows) bytes ≡ (row_at rows r).id
  pub tree : tree_field (kind_of_rows rows) bytes ≡ (row_at rows r).tree
  pub generation : generation_field (kind_of_rows rows) bytes ≡ (row_at rows r).generation
  pub time : time_field (kind_of_rows rows) bytes ≡ (row_at rows r).time
  pub among : AllByRecursion (IsPlaceAmong (length rows)) (row_at rows r).parents
  pub parents : answers_of_words (first_field (kind_of_rows rows) bytes) (second_field (kind_of_rows rows) bytes)
      (overflow_words rows) ≡ answers_of (row_at rows r).parents
