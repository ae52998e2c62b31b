-- How a call takes the ids that an iterator yields.
use Rattle.std.specs.Prelude.{List, Option}
use Rattle.std.specs.Iterator.{Drains}
use Rattle.gix_hash.specs.declared.ObjectId.{ObjectId}

-- an iterator of some tips yields ids to its end, and these ids are so
abbrev pub Draws : {T I : Type 0} → (T → I → Type 0) → (I → Option ObjectId → I → Type 0) → T → (List ObjectId → Type 0) → Type 0
Draws {T} {I} becomes gives tips P = (it : I) × (ids : List ObjectId) × becomes tips it × Drains gives it ids × P ids
