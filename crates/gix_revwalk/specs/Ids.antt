-- Lists of ids.
use Rattle.std.specs.Prelude.{List, [], ◌∷◌, Bool, ◌||◌, if◌then◌else◌, Contains, ◌+◌, ℕ, cond, map}
use Rattle.gix_hash.specs.declared.ObjectId.{ObjectId}
use Rattle.gix_hash.specs.Id.{is_same}
use Rattle.gix_revwalk.specs.Pending.{Pending}

abbrev pub AreDistinct : List ObjectId → Type 0
AreDistinct [] = Unit {0}
AreDistinct (i ∷ ids) = (Contains ids i → ⊥) × AreDistinct ids

-- the ids of a list that aren't old, each once
abbrev pub new_ids : (ObjectId → Bool) → List ObjectId → List ObjectId
new_ids old [] = []
new_ids old (i ∷ ids) = if old i then new_ids old ids else i ∷ new_ids (λ j. is_same j i || old j) ids

-- how often an id is in a list
abbrev pub times : ObjectId → List ObjectId → ℕ
times i [] = 0
times i (x ∷ xs) = cond (is_same i x) 1 0 + times i xs

abbrev pub ids_of : List Pending → List ObjectId
ids_of pending = map (λ p. p.id) pending
