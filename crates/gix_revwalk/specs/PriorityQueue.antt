-- What clauses say of the pairs of a priority queue.
use Rattle.std.specs.Prelude.{List, map}

-- the keys, one for each pair
abbrev pub keys : {K T : Type 0} → List (K × T) → List K
keys pairs = map (λ p. p.0) pairs

-- the values, one for each pair
abbrev pub values : {K T : Type 0} → List (K × T) → List T
values pairs = map (λ p. p.1) pairs
