-- The graph of a list of rows that is handed in: which lists are refused, and that the graph has the same rows by new numbers.
use Rattle.std.specs.Prelude.{◌≡◌, ◌≢◌, ℕ, suc, ◌+◌, ◌^◌, ◌<◌, ◌≤◌, true, false, List, [], ◌∷◌, length, map, slice_index, slice_index_or, slice_get, FitsSigned}
use Rattle.std.specs.Int.{w64}
use Rattle.std.specs.Ordering.{is_lt}
use Rattle.std.specs.Option.{option_map}
use Rattle.std.specs.List.{AllByRecursion, IsDistinct}
use Rattle.gix_hash.specs.declared.Kind.{Kind}
use Rattle.gix_hash.specs.declared.ObjectId.{ObjectId}
use Rattle.gix_commitgraph.specs.declared.ParentPlace.{ParentPlace}
use Rattle.gix_commitgraph.specs.declared.ParentPlace.TheVariants.{At, Fault}
use Rattle.gix_commitgraph.specs.declared.Row.{Row}
use Rattle.gix_commitgraph.specs.declared.GraphError.{GraphError}
use Rattle.gix_commitgraph.specs.declared.GraphError.TheVariants as error
use Rattle.gix_hash.specs.Id.{kind_of, id_cmp, is_same}
use Rattle.gix_commitgraph.specs.Rows.{GraphRow, row_at}
use Rattle.gix_commitgraph.specs.Packed.{most, overflow_words, kind_of_rows, ids_of_rows, IsIdOf, IsPlaceAmong}

-- a row without where it lies in memory
abbrev pub row_seen : Row → GraphRow
row_seen row = record { id = row.id; tree = row.tree; parents = row.parents.items; generation = row.generation; time = row.time }

abbrev pub rows_seen : List Row → List GraphRow
rows_seen rows = map row_seen rows

abbrev pub AreFew : List GraphRow → Type 0
AreFew rows = (length rows ≤ most) × (length (overflow_words rows) ≤ most)

-- all ids and trees are of this kind
abbrev pub AreOfKind : Kind → List GraphRow → Type 0
AreOfKind k rows = AllByRecursion (λ row. (kind_of row.id ≡ k) × (kind_of row.tree ≡ k)) rows

abbrev pub AreOfOneKind : List GraphRow → Type 0
AreOfOneKind rows = AreOfKind (kind_of_rows rows) rows

abbrev pub HaveDistinctIds : List GraphRow → Type 0
HaveDistinctIds rows = IsDistinct is_same (ids_of_rows rows)

-- each place is the place of a row in the list
abbrev pub HavePlacesWithin : List GraphRow → Type 0
HavePlacesWithin rows = AllByRecursion (λ row. AllByRecursion (IsPlaceAmong (length rows)) row.parents) rows

-- rows of which a graph is made
abbrev pub IsAccepted : List GraphRow → Type 0
IsAccepted rows = AreFew rows × AreOfOneKind rows × HaveDistinctIds rows × HavePlacesWithin rows

-- what an error says of the rows: the first test in this order that fails, or that memory ran out
abbrev pub Refuses : List GraphRow → GraphError → Type 0
Refuses rows error.TooMany = ¬ AreFew rows
Refuses rows error.MixedKinds = AreFew rows × ¬ AreOfOneKind rows
Refuses rows error.DuplicateId = AreFew rows × AreOfOneKind rows × ¬ HaveDistinctIds rows
Refuses rows error.PositionOutOfRange = AreFew rows × AreOfOneKind rows × HaveDistinctIds rows × ¬ HavePlacesWithin rows
Refuses rows (error.Packed place) = ⊥
Refuses rows error.Memory = Unit {0}

-- a place, by the new number of the row that it names
abbrev pub moved : (ℕ → ℕ) → ParentPlace → ParentPlace
moved number (At place) = At (number place)
moved number Fault = Fault

abbrev pub renumbered : (ℕ → ℕ) → GraphRow → GraphRow
renumbered number row = record row { parents = map (moved number) row.parents }

-- the row at each place of the list is the graph's row of that place's number, and all names of rows are by these numbers
pub record HasSameRows (rows graph : List GraphRow) : Type 0 where
  pub number : ℕ → ℕ
  pub count : length graph ≡ length rows
  pub same : (place : ℕ) → place < length rows → slice_get graph (number place) ≡ option_map (renumbered number) (slice_get rows place)

-- what is so of a row of this kind, whose numbers are of their types' ranges
pub record IsRowOf (k : Kind) (row : GraphRow) : Type 0 where
  pub id : IsIdOf k row.id
  pub tree : IsIdOf k row.tree

-- an id and the place of its row
abbrev pub Entry : Type 0
Entry = ObjectId × ℕ

-- the entries of rows whose places begin with n
abbrev pub entries_from : ℕ → List GraphRow → List Entry
entries_from n [] = []
entries_from n (row ∷ rows) = (row.id, n) ∷ entries_from (suc n) rows

-- no id is below the one before it
abbrev pub NeverFall : List Entry → Type 0
NeverFall order = (k : ℕ) (d : Entry) → k + 1 < length order → is_lt (id_cmp (slice_index_or order (k + 1) d).0 (slice_index_or order k d).0) ≡ false

-- each id is above the one before it
abbrev pub AlwaysRise : List Entry → Type 0
AlwaysRise order = (k : ℕ) (d : Entry) → k + 1 < length order → is_lt (id_cmp (slice_index_or order k d).0 (slice_index_or order (k + 1) d).0) ≡ true

-- an id is not above the one before it
abbrev pub StopsRising : List Entry → Type 0
StopsRising order = (k : ℕ) × (k + 1 < length order) × ((d : Entry) → is_lt (id_cmp (slice_index_or order k d).0 (slice_index_or order (k + 1) d).0) ≡ false)

-- all places are below a bound, and no two are one
pub record HasPlaces (bound : ℕ) (order : List Entry) : Type 0 where
  pub below : (k : ℕ) (d : Entry) → k < length order → (slice_index_or order k d).1 < bound
  pub apart : (j k : ℕ) (d : Entry) → j < k → k < length order → (slice_index_or order j d).1 ≢ (slice_index_or order k d).1

-- the numbers of the entries, by the entries' places
pub record AreNumbers (order : List Entry) (numbers : List ℕ) : Type 0 where
  pub len : length numbers ≡ length order
  pub number : (k : ℕ) (d : Entry) → k < length order → slice_index numbers (slice_index_or order k d).1 ≡ k
  pub small : (place : ℕ) → slice_index numbers place ≤ most

-- the rows in another order, by these numbers
abbrev pub arranged : List GraphRow → List Entry → List ℕ → List GraphRow
arranged rows order numbers = map (λ entry. renumbered (slice_index numbers) (row_at rows entry.1)) order

-- rows that can be packed in an order, with these numbers
pub record CanArrange (rows : List GraphRow) (order : List Entry) (numbers : List ℕ) : Type 0 where
  pub within : HavePlacesWithin rows
  pub places : HasPlaces (length rows) order
  pub len : length numbers ≡ length rows
  pub small : (place : ℕ) → slice_index numbers place ≤ most
  pub few_words : length (overflow_words (arranged rows order numbers)) ≤ most

-- the numbers of a row's fields are in their types' ranges
abbrev pub IsInRange : GraphRow → Type 0
IsInRange row = (row.generation < 2 ^ 32) × FitsSigned w64 row.time
