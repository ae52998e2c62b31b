-- Lists in which each member comes in its turn, where a relation says what comes next behind those taken.
use Rattle.std.specs.Prelude.{◌≡◌, List, ◌∷◌, ◌++◌}

-- each comes next behind those before it
abbrev pub IsBeginningBy : {X : Type 0} → (List X → X → Type 0) → List X → Type 0
IsBeginningBy {X} Next ids = (taken rest : List X) (i : X) → ids ≡ taken ++ i ∷ rest → Next taken i

-- so it is, and nothing comes next behind all of them
pub record IsListBy {X : Type 0} (Next : List X → X → Type 0) (ids : List X) : Type 0 where
  pub begins : IsBeginningBy Next ids
  pub ends : (i : X) → Next ids i → ⊥
