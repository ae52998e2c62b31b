-- Bytes that wait before they are written.
use Rattle.std.specs.Prelude.{◌≡◌, ◌⊎◌, ℕ, List, ◌++◌, Option, Result, Ok, Err}
use Rattle.std.specs.Io.KnownBytes.{Appends}
use Rattle.gix_lines.specs.declared.Error.{Error}
use Rattle.gix_lines.specs.declared.Error.TheVariants as fault

-- the writer's bytes, followed by the buffered ones, grew by these bytes
abbrev pub Grows : Option (List ℕ) → List ℕ → Option (List ℕ) → List ℕ → List ℕ → Type 0
Grows old waiting new waits bytes = (written : List ℕ) × Appends old new written × (waiting ++ bytes ≡ written ++ waits)

-- a beginning of these bytes was written
abbrev pub WritesBeginning : Option (List ℕ) → Option (List ℕ) → List ℕ → Type 0
WritesBeginning old new bytes = (some more : List ℕ) × (bytes ≡ some ++ more) × Appends old new some

-- the writer failed behind a beginning of these bytes
abbrev pub IsCut : Option (List ℕ) → Option (List ℕ) → List ℕ → Error → Type 0
IsCut old new bytes e = (e ≡ fault.Write) × WritesBeginning old new bytes

-- all bytes were written, or memory ran out and none was, or the writer failed
abbrev pub WritesLines : Option (List ℕ) → List ℕ → Result (Unit {0}) Error → Option (List ℕ) → Type 0
WritesLines old bytes (Ok done) new = Appends old new bytes
WritesLines old bytes (Err e) new = ((e ≡ fault.Memory) × (new ≡ old)) ⊎ IsCut old new bytes e

-- these bytes were put behind those that wait, or the writer failed
pub data Puts (old : Option (List ℕ)) (waiting bytes : List ℕ) : Result (Unit {0}) Error → Option (List ℕ) → List ℕ → Type 0 where
  put : {new : Option (List ℕ)} {waits : List ℕ} → Grows old waiting new waits bytes → Puts old waiting bytes (Ok tt) new waits
  broken_off : {e : Error} {new : Option (List ℕ)} {waits : List ℕ} → IsCut old new (waiting ++ bytes) e
      → Puts old waiting bytes (Err e) new waits
