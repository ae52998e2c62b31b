-- What a change of one value makes of a map of ids.
use Rattle.std.specs.Prelude.{◌≡◌, Some}
use Rattle.std.specs.FinMap as map
use Rattle.gix_hash.specs.declared.ObjectId.{ObjectId}
use Rattle.gix_hash.specs.Id.{id_cmp}

-- the id has a value, and then one that is made of it
abbrev pub Changes : {T : Type 0} → (T → T → Type 0) → map.FinMap id_cmp T → ObjectId → map.FinMap id_cmp T → Type 0
Changes {T} makes old i new = (value made : T) × (map.get old i ≡ Some value) × makes value made × (new ≡ map.insert old i made)
