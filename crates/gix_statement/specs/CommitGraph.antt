-- The rows of a commit-graph, in the files that Git writes: the layers of a chain, lowest first, or one file. Numbers are big-endian.
use Rattle.std.specs.Prelude.{◌≡◌, ◌≢◌, ◌⊎◌, ℕ, suc, ◌+◌, ◌-◌, ◌*◌, ◌%◌, ◌^◌, ◌<◌, ◌≤◌, pos, List, [], ◌∷◌, ◌++◌, length, take, drop, map}
use Rattle.std.specs.Prelude.{slice_get, Some, All, flat_map, codes}
use Rattle.std.specs.Option.{option_map}
use Rattle.gix_statement.specs.WholeStatement.{Row, bytes_in, digits_in}

abbrev pub number_from : ℕ → List ℕ → ℕ
number_from n [] = n
number_from n (b ∷ bytes) = number_from (256 * n + b) bytes

abbrev pub bytes_at : (place count : ℕ) → List ℕ → List ℕ
bytes_at place count text = take count (drop place text)

abbrev pub number_at : (place count : ℕ) → List ℕ → ℕ
number_at place count text = number_from 0 (bytes_at place count text)

-- FILE: `CGPH`, the version 1, 1 or 2 for SHA-1 or SHA-256, how many chunks, how many layers below; of each chunk four letters and where it
-- begins, and once more where the last one ends; the chunks; a hash. Of chunks of one name the first counts.
abbrev pub IsChunk : List ℕ → List ℕ → List ℕ → Type 0
IsChunk file letters bytes = (k : ℕ) × (k < number_at 6 1 file) × (bytes_at (8 + 12 * k) 4 file ≡ letters)
    × ((j : ℕ) → j < k → bytes_at (8 + 12 * j) 4 file ≢ letters)
    × (bytes ≡ bytes_at (number_at (12 + 12 * k) 8 file) (number_at (24 + 12 * k) 8 file - number_at (12 + 12 * k) 8 file) file)

abbrev pub no_parent : ℕ
no_parent = 0x70000000

abbrev pub flag : ℕ
flag = 0x80000000

-- PARENTS are numbers of rows, of all layers up to this one, lowest first. Two words say none, one, two, or one and a list of further ones.
pub data AreFurther (edges : List ℕ) : ℕ → List ℕ → Type 0 where  -- the words from this one on, up to one with the flag
  last : (k : ℕ) → flag ≤ number_at (4 * k) 4 edges → AreFurther edges k ((number_at (4 * k) 4 edges - flag) ∷ [])
  next : (k : ℕ) {numbers : List ℕ} → number_at (4 * k) 4 edges < flag → AreFurther edges (suc k) numbers
      → AreFurther edges k (number_at (4 * k) 4 edges ∷ numbers)

pub data AreParents (edges : List ℕ) (one other : ℕ) : List ℕ → Type 0 where
  none : one ≡ no_parent → other ≡ no_parent → AreParents edges one other []
  single : one ≢ no_parent → other ≡ no_parent → AreParents edges one other (one ∷ [])
  pair : one ≢ no_parent → other ≢ no_parent → other < flag → AreParents edges one other (one ∷ other ∷ [])
  many : {numbers : List ℕ} → one ≢ no_parent → flag ≤ other → AreFurther edges (other - flag) numbers
      → AreParents edges one other (one ∷ numbers)

-- ROW: the id in one chunk; in another the tree's id, the two words, and 8 bytes, whose low 34 bits are the seconds.
abbrev pub IsRow : (width : ℕ) → (ids data_of edges : List ℕ) → (all : List Row) → ℕ → Row → Type 0
IsRow width ids data_of edges all k r = let at = (width + 16) * k in (numbers : List ℕ)
    × (digits_in r.id ≡ 2 * width) × (bytes_in r.id ≡ bytes_at (width * k) width ids)
    × (digits_in r.tree ≡ 2 * width) × (bytes_in r.tree ≡ bytes_at at width data_of)
    × AreParents edges (number_at (at + width) 4 data_of) (number_at (at + width + 4) 4 data_of) numbers
    × (map Some r.parents ≡ map (λ n. option_map (λ parent. parent.id) (slice_get all n)) numbers)
    × (r.time ≡ pos (number_at (at + width + 8) 8 data_of % 2 ^ 34))

-- LAYER: as many rows as ids, above the rows of the files below, whose kind it has and whose hashes, their last bytes, it names
abbrev pub IsLayer : (lower : List (List ℕ)) → List ℕ → (below rows : List Row) → Type 0
IsLayer lower file below rows = (width : ℕ) × (ids data_of edges : List ℕ) × (bytes_at 0 5 file ≡ codes "CGPH" ++ 1 ∷ [])
    × (((number_at 5 1 file ≡ 1) × (width ≡ 20)) ⊎ ((number_at 5 1 file ≡ 2) × (width ≡ 32)))
    × (number_at 7 1 file ≡ length lower) × All (λ other. number_at 5 1 other ≡ number_at 5 1 file) lower
    × ((lower ≡ []) ⊎ IsChunk file (codes "BASE") (flat_map (λ other. drop (length other - width) other) lower))
    × IsChunk file (codes "OIDL") ids × IsChunk file (codes "CDAT") data_of × (IsChunk file (codes "EDGE") edges ⊎ (edges ≡ []))
    × (length ids ≡ width * length rows) × (length data_of ≡ (width + 16) * length rows)
    × ((k : ℕ) (r : Row) → slice_get rows k ≡ Some r → IsRow width ids data_of edges (below ++ rows) k r)

abbrev pub AreLayers : (lower files : List (List ℕ)) → (below rows : List Row) → Type 0  -- the files have these rows, above lower ones
AreLayers lower [] below rows = rows ≡ below
AreLayers lower (file ∷ files) below rows =
    (more : List Row) × IsLayer lower file below more × AreLayers (lower ++ file ∷ []) files (below ++ more) rows
