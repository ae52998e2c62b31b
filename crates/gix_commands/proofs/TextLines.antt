-- Lines of parents behind which no further one is read, and the time of a signature.
use Rattle.std.specs.Prelude.{◌≡◌, ◌≢◌, ℕ, ◌^◌, nat_lt, nat_le, ℤ, pos, neg_ℤ, List, [], ◌∷◌, ◌++◌, take, replicate, if◌then◌else◌, All, codes}
use Rattle.gix_hash.specs.declared.ObjectId.{ObjectId}
use Rattle.gix_statement.specs.WholeStatement.{Counts, Spells}

-- ids in a text have as many digits as its own id. It is a line for each of these parents, in order and with repeats, and a rest without one in front.
abbrev pub AreParentLines : ℕ → List ObjectId → List ℕ → List ℕ → Type 0
AreParentLines width [] text rest = (text ≡ rest) × ((p : ObjectId) (id more : List ℕ) → Spells width id p → rest ≢ codes "parent " ++ id ++ 10 ∷ more)
AreParentLines width (p ∷ ps) text rest =
    (id more : List ℕ) × Spells width id p × AreParentLines width ps more rest × (text ≡ codes "parent " ++ id ++ 10 ∷ more)

-- the seconds behind its last `>` and spaces; 0 where there are none, or more than 64 bits hold
pub data IsTime (signature : List ℕ) : ℤ → Type 0 where
  unsigned : All (λ b. b ≢ 62) signature → IsTime signature (pos 0)
  positive : (before text : List ℕ) (spaces n : ℕ) → signature ≡ before ++ 62 ∷ (replicate spaces 32 ++ text) → All (λ b. b ≢ 62) text → Counts text n
      → take 1 text ≢ 32 ∷ [] → take 1 text ≢ 45 ∷ [] → IsTime signature (if nat_lt n (2 ^ 63) then pos n else pos 0)
  negative : (before text : List ℕ) (spaces n : ℕ) → signature ≡ before ++ 62 ∷ (replicate spaces 32 ++ 45 ∷ text) → All (λ b. b ≢ 62) text → Counts text n
      → IsTime signature (if nat_le n (2 ^ 63) then neg_ℤ (pos n) else pos 0)
