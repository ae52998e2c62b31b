-- What batches one behind another are: the list.
use Rattle.std.specs.Prelude.{◌≡◌, ℕ, ◌+◌, List, ◌++◌, length, Some, Contains}
use Rattle.gix_statement.specs.WholeStatement.{AreFed, Clash, Objects}
use Rattle.gix_batches.specs.declared.commit.Ending.{Ending}
use Rattle.gix_batches.specs.declared.commit.Ending.TheVariants.{Ended, More, Small, Failed}
use Rattle.gix_batches.specs.Batches.{IsPart}
use Rattle.gix_batches.specs.Slices.{Told}

-- there was no room for more
abbrev pub HasMore : Ending → Type 0
HasMore Ended = ⊥
HasMore More = Unit {0}
HasMore (Small n) = Unit {0}
HasMore (Failed e) = ⊥

-- of whatever is given so, no two texts at hand have one id
abbrev pub NoneClash : (Objects → Type 0) → Type 0
NoneClash AreGiven = (objects others : Objects) → AreGiven objects → AreGiven others → Clash objects others → ⊥

-- These commits are those of batches from the one number `skip` on, each from where the one before it broke off since there was no room, and
-- so the last ended.
pub data AreInRow (words : List (List ℕ)) (AreGiven : Objects → Type 0) : ℕ → List Told → Ending → Type 0 where
  last : {skip : ℕ} {told : List Told} {ending : Ending} → IsPart words AreGiven skip told ending → AreInRow words AreGiven skip told ending
  before : {skip : ℕ} {told rest : List Told} {full ending : Ending} → IsPart words AreGiven skip told full → HasMore full
      → AreInRow words AreGiven (skip + length told) rest ending → AreInRow words AreGiven skip (told ++ rest) ending

-- batches one behind another are as one batch
abbrev pub IsOneBatch : (Objects → Type 0) → Type 0
IsOneBatch AreGiven = (words : List (List ℕ)) (skip : ℕ) (told : List Told) (ending : Ending) → AreInRow words AreGiven skip told ending
    → IsPart words AreGiven skip told ending

-- From one place there is one list: what is told in one batch is a beginning of what is told in another that has ended, and all of it if
-- the first has ended too.
abbrev pub IsOneList : (Objects → Type 0) → Type 0
IsOneList AreGiven = (words : List (List ℕ)) (skip : ℕ) (told others : List Told) (ending : Ending) → IsPart words AreGiven skip told ending
    → IsPart words AreGiven skip others Ended → ((more : List Told) × (others ≡ told ++ more)) × (ending ≡ Ended → told ≡ others)

-- So it is over the same records, and over whatever objects each call had if no two texts among them have one id.
abbrev pub EachIs : ((Objects → Type 0) → Type 0) → Type 0
EachIs IsSo = ((records : List ℕ) → IsSo (AreFed (Some records))) × ((each : List Objects) → NoneClash (Contains each) → IsSo (Contains each))
