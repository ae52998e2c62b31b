-- What a run promises of the files of a commit-graph that it read by pages: they are git's by their heads, and each names those below it.
-- It is said of all files that have these pages, whether or not a graph has them.
use Rattle.std.specs.Prelude.{◌≡◌, ◌⊎◌, ℕ, ◌+◌, ◌*◌, List, [], ◌∷◌, ◌++◌, length, take, flat_map, slice_get, Option, Some, All, codes}
use Rattle.gix_statement.specs.CommitGraph.{IsChunk, bytes_at, number_at}
use Rattle.gix_graph_pages.specs.GraphPages.{IsFileOf, width_of}

-- A file ends with its hash. The table of chunks says last where this begins: there the last chunk ends. It is as long as an id.
abbrev pub end_of_chunks : (file : List ℕ) → ℕ
end_of_chunks file = number_at (12 + 12 * number_at 6 1 file) 8 file

abbrev pub own_hash : (file : List ℕ) → List ℕ
own_hash file = bytes_at (end_of_chunks file) (width_of file) file

-- A file names those below it, lowest first: it begins with `CGPH`, the version 1, and 1 or 2 for SHA-1 or SHA-256, as these do. Its byte 7 is
-- how many they are. Their hashes are its chunk BASE, which it need not have if there are none.
pub record NamesBelow (lower : List (List ℕ)) (file : List ℕ) : Type 0 where
  pub begins : bytes_at 0 5 file ≡ codes "CGPH" ++ 1 ∷ []
  pub kind : (number_at 5 1 file ≡ 1) ⊎ (number_at 5 1 file ≡ 2)
  pub kinds : All (λ other. number_at 5 1 other ≡ number_at 5 1 file) lower
  pub number : number_at 7 1 file ≡ length lower
  pub base : (lower ≡ []) ⊎ IsChunk file (codes "BASE") (flat_map own_hash lower)

-- files, lowest first, that have these pages
pub record HaveAll (pages : List (List (Option (List ℕ)))) (files : List (List ℕ)) : Type 0 where
  pub count : length files ≡ length pages
  pub has : (k : ℕ) (file : List ℕ) → slice_get files k ≡ Some file → IsFileOf pages k file

-- each of the files that have these pages names those below it
abbrev pub AreNamedBelow : (pages : List (List (Option (List ℕ)))) → Type 0
AreNamedBelow pages = (files : List (List ℕ)) → HaveAll pages files
    → (k : ℕ) (file : List ℕ) → slice_get files k ≡ Some file → NamesBelow (take k files) file
