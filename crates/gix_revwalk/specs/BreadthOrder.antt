-- The order of a walk that takes what came first. Each commit of the list is defined by the commits before it.
use Rattle.std.specs.Prelude.{◌≡◌, List, ◌++◌, not, Option, Some, find}
use Rattle.std.specs.List.{flat_map}
use Rattle.gix_hash.specs.declared.ObjectId.{ObjectId}
use Rattle.gix_hash.specs.Id.{is_among}

-- the first id of the list that isn't among the given ones
abbrev pub first_new : List ObjectId → List ObjectId → Option ObjectId
first_new ids those = find (λ i. not (is_among i those)) ids

-- the starts, and all that the commits taken name
abbrev pub named_by : (ObjectId → List ObjectId) → List ObjectId → List ObjectId → List ObjectId
named_by next starts taken = starts ++ flat_map next taken

-- what comes next: the first, of the starts and then of what the commits taken name, that isn't among these
abbrev pub IsFirstNew : (ObjectId → List ObjectId) → List ObjectId → List ObjectId → ObjectId → Type 0
IsFirstNew next starts taken i = first_new (named_by next starts taken) taken ≡ Some i
