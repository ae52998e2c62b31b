-- The ids that revisions stand for.
use Rattle.std.specs.Prelude.{◌∷◌, List, [], true, false, flat_map}
use Rattle.gix_hash.specs.declared.ObjectId.{ObjectId}
use Rattle.gix_questions.specs.declared.chosen.Pair.{Pair}
use Rattle.gix_revision.specs.declared.meaning.Chosen.{Chosen}
use Rattle.gix_revision.specs.declared.meaning.Chosen.TheVariants as chosen
use Rattle.gix_revision.specs.declared.meaning.Resolved.{Resolved}

-- those to begin with: what is reached from one that isn't excluded, and from both of a pair
abbrev pub tips_in : Chosen → List ObjectId
tips_in (chosen.One i false) = i ∷ []
tips_in (chosen.One i true) = []
tips_in (chosen.Symmetric one other) = one ∷ other ∷ []

-- those that are excluded
abbrev pub hidden_in : Chosen → List ObjectId
hidden_in (chosen.One i false) = []
hidden_in (chosen.One i true) = i ∷ []
hidden_in (chosen.Symmetric one other) = []

-- the pairs of which what both reach is excluded
abbrev pub pairs_in : Chosen → List Pair
pairs_in (chosen.One i hidden) = []
pairs_in (chosen.Symmetric one other) = record { one = one; other = other } ∷ []

abbrev pub tips_of : List Resolved → List ObjectId
tips_of = flat_map (λ r. tips_in r.chosen)

abbrev pub excluded_of : List Resolved → List ObjectId
excluded_of = flat_map (λ r. hidden_in r.chosen)

abbrev pub pairs_of : List Resolved → List Pair
pairs_of = flat_map (λ r. pairs_in r.chosen)
