-- What tables of ids hold: one table has the ids of 20 bytes, and another those of 32.
use Rattle.std.specs.Prelude.{ℕ, List, [], ◌∷◌}
use Rattle.std.specs.FinSet as set
use Rattle.std.specs.FinMap as map
use Rattle.gix_hash.specs.Id.{id_cmp}
use Rattle.gix_hash.specs.declared.ObjectId.{ObjectId}
use Rattle.gix_hash.specs.declared.ObjectId.TheVariants as id
use Rattle.gix_hash.specs.declared.hashtable.Bytes.{Bytes}

abbrev pub short_id : Bytes 20 → ObjectId
short_id bytes = id.Sha1 bytes.0

abbrev pub long_id : Bytes 32 → ObjectId
long_id bytes = id.Sha256 bytes.0

-- the map with a table's entries besides, each at its key's id
abbrev pub with_all : {N : ℕ} {X : Type 0} → (Bytes N → ObjectId) → List (Bytes N × X) → map.FinMap id_cmp X → map.FinMap id_cmp X
with_all id_of [] m = m
with_all id_of (e ∷ es) m = map.insert (with_all id_of es m) (id_of e.0) e.1

-- the map of the entries of a table of short ids, and of one of long ids
abbrev pub map_of : {X : Type 0} → List (Bytes 20 × X) → List (Bytes 32 × X) → map.FinMap id_cmp X
map_of short long = with_all short_id short (with_all long_id long map.empty)

-- the ids that have a value
abbrev pub ids_with_value : {X : Type 0} → map.FinMap id_cmp X → set.FinSet id_cmp
ids_with_value m = set.from_list (map.keys m)
