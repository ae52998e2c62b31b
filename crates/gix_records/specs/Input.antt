-- What was read of the bytes that a reader has.
use Rattle.std.specs.Prelude.{◌≡◌, ℕ, List, ◌++◌, Option, Some, None, ⊤}
use Rattle.std.specs.Io.KnownBytes.{Consumes}

-- the bytes that a reader has are these, where they are known
abbrev pub Tells : Option (List ℕ) → List ℕ → Type 0
Tells None input = ⊤
Tells (Some bytes) input = input ≡ bytes

-- bytes went from the front of what a reader has to the end of a list
abbrev pub Moves : Option (List ℕ) → Option (List ℕ) → List ℕ → List ℕ → Type 0
Moves has left old new = (bytes : List ℕ) × Consumes has left bytes × (new ≡ old ++ bytes)
