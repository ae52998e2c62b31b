-- Rows as packed bytes: the one spelling of each list of rows. All numbers are big-endian.
use Rattle.std.specs.Prelude.{◌≡◌, ℕ, ◌+◌, ◌<◌, ◌≤◌, ◌^◌, List, [], ◌∷◌, ◌++◌, length, map, codes, slice_index, FitsSigned}
use Rattle.std.specs.Int.{w32, w64, to_be_bytes, cast_unsigned}
use Rattle.std.specs.List.{flat_map, AllByRecursion}
use Rattle.std.specs.List.Sorted.{IsStrictlySortedBy}
use Rattle.std.proofs.Props.{props}
use Rattle.gix_hash.specs.declared.Kind.{Kind}
use Rattle.gix_hash.specs.declared.Kind.TheVariants as kind
use Rattle.gix_hash.specs.declared.ObjectId.{ObjectId}
use Rattle.gix_commitgraph.specs.declared.ParentPlace.{ParentPlace}
use Rattle.gix_commitgraph.specs.declared.ParentPlace.TheVariants.{At, Fault}
use Rattle.gix_hash.specs.Id.{id_len, id_cmp, kind_of, bytes_of}
use Rattle.gix_commitgraph.specs.Rows.{GraphRow}

-- the most rows, and the most overflow words, that a graph has: so a row's number is below the words FAULT and NONE
abbrev pub most : ℕ
most = 2147483646

-- the word of a place that names no row
abbrev pub fault_word : ℕ
fault_word = 0x7ffffffe

-- the word where there is no parent
abbrev pub no_parent : ℕ
no_parent = 0x7fffffff

-- what is added to the last word of an overflow list, and to the number of its first word
abbrev pub flag : ℕ
flag = 0x80000000

abbrev pub place_word : ParentPlace → ℕ
place_word (At n) = n
place_word Fault = fault_word

-- one word for each place, the last of them flagged
abbrev pub list_words : ParentPlace → List ParentPlace → List ℕ
list_words p [] = (flag + place_word p) ∷ []
list_words p (q ∷ ps) = place_word p ∷ list_words q ps

-- the overflow list of a row: the second and later of three or more parents
abbrev pub overflow_of : List ParentPlace → List ℕ
overflow_of [] = []
overflow_of (p ∷ []) = []
overflow_of (p ∷ q ∷ []) = []
overflow_of (p ∷ q ∷ r ∷ ps) = list_words q (r ∷ ps)

abbrev pub first_word : List ParentPlace → ℕ
first_word [] = no_parent
first_word (p ∷ ps) = place_word p

-- the second parent word of a row whose overflow list, if it has one, begins at the overflow word k
abbrev pub second_word : ℕ → List ParentPlace → ℕ
second_word k [] = no_parent
second_word k (p ∷ []) = no_parent
second_word k (p ∷ q ∷ []) = place_word q
second_word k (p ∷ q ∷ r ∷ ps) = flag + k

-- id, tree, two parent words, generation, and the time as two's complement
unfoldable pub row_bytes : ℕ → GraphRow → List ℕ
row_bytes k row =
    bytes_of row.id ++ (bytes_of row.tree ++ (to_be_bytes w32 (first_word row.parents)
    ++ (to_be_bytes w32 (second_word k row.parents) ++ (to_be_bytes w32 row.generation ++ to_be_bytes w64 (cast_unsigned w64 row.time)))))

-- the rows, each with its overflow list behind the overflow lists of the rows before it
unfoldable pub rows_bytes : ℕ → List GraphRow → List ℕ
rows_bytes k [] = []
rows_bytes k (row ∷ rows) = row_bytes k row ++ rows_bytes (k + length (overflow_of row.parents)) rows

-- the overflow words: the rows' lists in order, without gaps
abbrev pub overflow_words : List GraphRow → List ℕ
overflow_words rows = flat_map (λ row. overflow_of row.parents) rows

abbrev pub layout_name : Kind → List ℕ
layout_name kind.Sha1 = codes "GTR1"
layout_name kind.Sha256 = codes "GTR2"

-- the kind of the ids of rows that are all of one kind
abbrev pub kind_of_rows : List GraphRow → Kind
kind_of_rows [] = kind.Sha1
kind_of_rows (row ∷ rows) = kind_of row.id

-- the layout's name, the number of rows, the number of overflow words, the rows, the overflow words
unfoldable pub spelling : List GraphRow → List ℕ
spelling rows =
    layout_name (kind_of_rows rows) ++ (to_be_bytes w32 (length rows)
    ++ (to_be_bytes w32 (length (overflow_words rows)) ++ (rows_bytes 0 rows ++ flat_map (to_be_bytes w32) (overflow_words rows))))

abbrev pub AreBytes : List ℕ → Type 0
AreBytes bytes = (i : ℕ) → slice_index bytes i < 256

pub record IsIdOf (k : Kind) (i : ObjectId) : Type 0 where
  pub kind : kind_of i ≡ k
  pub len : length (bytes_of i) ≡ id_len k
  pub bytes : AreBytes (bytes_of i)

-- a place among n rows, or a fault
abbrev pub IsPlaceAmong : ℕ → ParentPlace → Type 0
IsPlaceAmong n (At i) = i < n
IsPlaceAmong n Fault = Unit {0}

-- there is one way for a place to be so
pub IsPlaceAmong-prop : (n : ℕ) (place : ParentPlace) → IsProp (IsPlaceAmong n place)
IsPlaceAmong-prop n (At i) = hlevel props
IsPlaceAmong-prop n Fault = hlevel props

-- a row among n rows of this kind, whose numbers are of their types' ranges
pub record IsRowAmong (k : Kind) (n : ℕ) (row : GraphRow) : Type 0 where
  pub id : IsIdOf k row.id
  pub tree : IsIdOf k row.tree
  pub parents : AllByRecursion (IsPlaceAmong n) row.parents
  pub generation : row.generation < 2 ^ 32
  pub time : FitsSigned w64 row.time

abbrev pub ids_of_rows : List GraphRow → List ObjectId
ids_of_rows rows = map (λ row. row.id) rows

-- the rows of a graph: of one kind, in strictly rising order of id, with places among them, and not too many
pub record AreGraphRows (rows : List GraphRow) : Type 0 where
  pub each : AllByRecursion (IsRowAmong (kind_of_rows rows) (length rows)) rows
  pub rising : IsStrictlySortedBy id_cmp (ids_of_rows rows)
  pub few : length rows ≤ most
  pub few_words : length (overflow_words rows) ≤ most
