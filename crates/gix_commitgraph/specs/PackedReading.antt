-- Packed bytes read from the front: the rows that they spell, or the first place that is not as in a spelling.
use Rattle.std.specs.Prelude.{ℕ, zero, suc, ◌+◌, ◌-◌, ◌*◌, ◌==◌, ◌&&◌, nat_lt, nat_le, nat_eq, Bool, true, ℤ, List, [], ◌∷◌, length, take, drop, codes, Option, Some, None, Result, Ok, Err, if◌then◌else◌}
use Rattle.std.specs.Int.{w32, w64, from_be_bytes, cast_signed}
use Rattle.std.specs.Ordering.{is_lt}
use Rattle.std.specs.List.{starts_with}
use Rattle.gix_hash.specs.declared.Kind.{Kind}
use Rattle.gix_hash.specs.declared.Kind.TheVariants as kind
use Rattle.gix_hash.specs.declared.ObjectId.{ObjectId}
use Rattle.gix_commitgraph.specs.declared.ParentPlace.{ParentPlace}
use Rattle.gix_commitgraph.specs.declared.ParentPlace.TheVariants.{At, Fault}
use Rattle.gix_commitgraph.specs.declared.Place.{Place}
use Rattle.gix_commitgraph.specs.declared.Place.TheVariants as place
use Rattle.gix_commitgraph.specs.declared.GraphError.{GraphError}
use Rattle.gix_commitgraph.specs.declared.GraphError.TheVariants.{Packed}
use Rattle.gix_hash.specs.Id.{id_len, id_cmp, id_of}
use Rattle.gix_commitgraph.specs.Rows.{GraphRow}
use Rattle.gix_commitgraph.specs.Packed.{most, fault_word, no_parent, flag}

-- the number in the four bytes at a place
abbrev pub word_at : ℕ → List ℕ → ℕ
word_at at bytes = from_be_bytes w32 (take 4 (drop at bytes))

-- the bytes of four to a word
abbrev pub words_of : List ℕ → List ℕ
words_of (a ∷ b ∷ c ∷ d ∷ bytes) = from_be_bytes w32 (a ∷ b ∷ c ∷ d ∷ []) ∷ words_of bytes
words_of _ = []

-- how many bytes a row has
abbrev pub row_len : Kind → ℕ
row_len kind.Sha1 = 60
row_len kind.Sha256 = 84

-- a row's fields
abbrev pub id_field : Kind → List ℕ → ObjectId
id_field k bytes = id_of k (take (id_len k) bytes)

abbrev pub tree_field : Kind → List ℕ → ObjectId
tree_field k bytes = id_of k (take (id_len k) (drop (id_len k) bytes))

abbrev pub first_field : Kind → List ℕ → ℕ
first_field k bytes = word_at (2 * id_len k) bytes

abbrev pub second_field : Kind → List ℕ → ℕ
second_field k bytes = word_at (2 * id_len k + 4) bytes

abbrev pub generation_field : Kind → List ℕ → ℕ
generation_field k bytes = word_at (2 * id_len k + 8) bytes

abbrev pub time_field : Kind → List ℕ → ℤ
time_field k bytes = cast_signed w64 (from_be_bytes w64 (take 8 (drop (2 * id_len k + 12) bytes)))

-- the place among n rows that a word says
abbrev pub place_of : ℕ → ℕ → Option ParentPlace
place_of n word = if nat_lt word n then Some (At word) else if word == fault_word then Some Fault else None

-- places, and the overflow words behind them
abbrev pub Places : Type 0
Places = List ParentPlace × List ℕ

abbrev pub with_place : Option ParentPlace → Option Places → Option Places
with_place None more = None
with_place (Some p) None = None
with_place (Some p) (Some more) = Some (p ∷ more.0, more.1)

-- the places of an overflow list, of which the flagged word is the last
abbrev pub list_at : ℕ → List ℕ → Option Places
list_at n [] = None
list_at n (word ∷ words) =
    if nat_lt word flag then with_place (place_of n word) (list_at n words)
    else with_place (place_of n (word - flag)) (Some ([], words))

-- an overflow list, which has two places at least
abbrev pub long_list_at : ℕ → List ℕ → Option Places
long_list_at n [] = None
long_list_at n (word ∷ words) = if nat_lt word flag then list_at n (word ∷ words) else None

-- the places that the second parent word says, where the overflow words from the word k on are left
abbrev pub second_at : ℕ → ℕ → ℕ → List ℕ → Option Places
second_at n k second words =
    if second == no_parent then Some ([], words)
    else if nat_lt second flag then with_place (place_of n second) (Some ([], words))
    else if second == flag + k then long_list_at n words
    else None

abbrev pub parents_at : ℕ → ℕ → ℕ → ℕ → List ℕ → Option Places
parents_at n k first second words =
    if first == no_parent then (if second == no_parent then Some ([], words) else None)
    else with_place (place_of n first) (second_at n k second words)

-- whether an id is above the id before it, if there is one
abbrev pub is_above : Option ObjectId → ObjectId → Bool
is_above None i = true
is_above (Some before) i = is_lt (id_cmp before i)

abbrev pub with_row : {E : Type 0} → GraphRow → Result (List GraphRow) E → Result (List GraphRow) E
with_row row (Ok rows) = Ok (row ∷ rows)
with_row row (Err e) = Err e

abbrev pub row_of_fields : Kind → List ℕ → List ParentPlace → GraphRow
row_of_fields k bytes parents =
    record { id = id_field k bytes; tree = tree_field k bytes; parents = parents; generation = generation_field k bytes; time = time_field k bytes }

-- the row r, and by `more` the rows behind it, where its parents are as they should be
abbrev pub row_then : Kind → ℕ → List ℕ → Option Places → (List ℕ → Result (List GraphRow) Place) → Result (List GraphRow) Place
row_then k r bytes None more = Err (place.Parents r)
row_then k r bytes (Some p) more = with_row (row_of_fields k bytes p.0) (more p.1)

-- `left` rows from the row r on, of n rows: their bytes, and the m overflow words of which `words` are left
unfoldable pub rows_at : Kind → ℕ → ℕ → ℕ → ℕ → Option ObjectId → List ℕ → List ℕ → Result (List GraphRow) Place
rows_at k n m zero r before bytes words = if length words == 0 then Ok [] else Err place.Overflow
rows_at k n m (suc left) r before bytes words =
    if is_above before (id_field k bytes) then
    row_then k r bytes (parents_at n (m - length words) (first_field k bytes) (second_field k bytes) words)
    (rows_at k n m left (r + 1) (Some (id_field k bytes)) (drop (row_len k) bytes))
    else Err (place.Order r)

-- the layout's kind of ids
abbrev pub kind_named : List ℕ → Option Kind
kind_named bytes =
    if starts_with nat_eq bytes (codes "GTR1") then Some kind.Sha1 else if starts_with nat_eq bytes (codes "GTR2") then Some kind.Sha256 else None

-- no rows are written in the first layout alone
abbrev pub may_have : Kind → ℕ → Bool
may_have kind.Sha1 n = true
may_have kind.Sha256 n = nat_lt 0 n

-- whether so many bytes hold n rows and m overflow words
abbrev pub is_sized : Kind → ℕ → ℕ → ℕ → Bool
is_sized k n m len = nat_le n most && nat_le m most && len == 12 + row_len k * n + 4 * m && may_have k n

abbrev pub body_of : Option Kind → List ℕ → Result (List GraphRow) Place
body_of None bytes = Err place.Head
body_of (Some k) bytes =
    let n = word_at 4 bytes in
    let m = word_at 8 bytes in
    if is_sized k n m (length bytes) then rows_at k n m n 0 None (drop 12 bytes) (words_of (drop (12 + row_len k * n) bytes))
    else Err place.Size

unfoldable pub read_packed : List ℕ → Result (List GraphRow) Place
read_packed bytes = if nat_lt (length bytes) 12 then Err place.Head else body_of (kind_named bytes) bytes

-- what `from_packed` answers
abbrev pub opened : Result (List GraphRow) Place → Result (List GraphRow) GraphError
opened (Ok rows) = Ok rows
opened (Err p) = Err (Packed p)

abbrev pub rows_in : Result (List GraphRow) Place → List GraphRow
rows_in (Ok rows) = rows
rows_in (Err p) = []
