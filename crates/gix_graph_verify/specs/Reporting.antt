-- What a report says.
use Rattle.std.specs.Prelude.{◌≡◌, ◌⊎◌, ◌<◌, ◌≤◌, ℕ, true, false, nat_lt, List, [], ◌∷◌, ◌++◌, length, take, All, Contains, Some, slice_get, MatchBool}
use Rattle.gix_commitgraph.specs.Rows.{GraphRow, row_at}
use Rattle.gix_graph_file.specs.Chain.{HasChain}
use Rattle.gix_graph_file.specs.Trailer.{has_its_hash}
use Rattle.gix_graph_verify.specs.Differences.{IsDifference, IsRight}
use Rattle.gix_graph_verify.specs.declared.difference.Difference.{Difference}
use Rattle.gix_graph_verify.specs.declared.difference.Difference.TheVariants.{Hash}

-- how many differences are named at the most
abbrev pub most : ℕ
most = 100

-- a difference is added behind the others, where there are fewer than 100
abbrev pub Adds : List Difference → Difference → List Difference → Type 0
Adds old d new = MatchBool (nat_lt (length old) most) (new ≡ old ++ d ∷ []) (new ≡ old)

-- differences are added, all of them of this sort
pub record Tells (IsSort : Difference → Type 0) (old new : List Difference) : Type 0 where
  pub more : List Difference
  pub added : new ≡ old ++ more
  pub sort : All IsSort more
  pub few : length old ≤ most → length new ≤ most

-- nothing is wrong, or a difference of this sort is named, or 100 others are
abbrev pub IsTold : List Difference → Type 0 → (Difference → Type 0) → Type 0
IsTold told right IsSort = right ⊎ (((d : Difference) × Contains told d × IsSort d) ⊎ (most ≤ length told))

-- the file of a number doesn't end with its hash
abbrev pub IsOfFile : List (List ℕ) → Difference → Type 0
IsOfFile files d = (n : ℕ) × (file : List ℕ) × (d ≡ Hash n) × (slice_get files n ≡ Some file) × (has_its_hash file ≡ false)

-- of the first files, so many
abbrev pub AllFilesTold : List (List ℕ) → ℕ → List Difference → Type 0
AllFilesTold files count told =
    (n : ℕ) (file : List ℕ) → n < count → slice_get files n ≡ Some file → IsTold told (has_its_hash file ≡ true) (λ d. d ≡ Hash n)

-- what is wrong with a row
abbrev pub IsOfRow : List GraphRow → Difference → Type 0
IsOfRow rows d = (n : ℕ) × (n < length rows) × IsDifference rows (row_at rows n) d

-- of the first rows, so many
abbrev pub AllRowsTold : List GraphRow → List GraphRow → ℕ → List Difference → Type 0
AllRowsTold rows lower count told = (n : ℕ) → n < count → IsTold told (IsRight rows lower (row_at rows n)) (IsDifference rows (row_at rows n))

pub record IsReport (files : List (List ℕ)) (passed : ℕ) (count : ℕ) (told : List Difference) : Type 0 where
  pub rows : List GraphRow
  pub chain : HasChain files rows
  pub counted : count ≡ length rows
  -- the rows of the files that have passed
  pub lower : List GraphRow
  pub below : HasChain (take passed files) lower
  -- at most 100 are named
  pub few : length told ≤ most
  -- each that is named is wrong
  pub named : All (λ d. IsOfFile files d ⊎ IsOfRow rows d) told
  -- each that is wrong is named, up to 100
  pub hashes : AllFilesTold files (length files) told
  pub each : AllRowsTold rows lower (length rows) told
