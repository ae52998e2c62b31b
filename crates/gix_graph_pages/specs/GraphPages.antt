-- What a run promises that read a part of the files of a commit-graph, by pages: its lines are right of each graph whose files have these
-- pages, if its rows are in order and sound, and contradict no object that was read. The page CommitGraph says which rows a file has.
use Rattle.std.specs.Prelude.{◌≡◌, ℕ, ◌+◌, ◌*◌, ◌/◌, ◌^◌, ◌<◌, ◌==◌, if◌then◌else◌, List, [], ◌∷◌, length, take, map, flat_map, slice_get}
use Rattle.std.specs.Prelude.{Option, Some, All, AllPairs, Contains, codes}
use Rattle.std.specs.declared.cmp.Ordering.TheVariants.{Less}
use Rattle.gix_hash.specs.declared.ObjectId.{ObjectId}
use Rattle.gix_statement.specs.WholeStatement.{Agree, AreNamed, InEach, Objects, Row, Serves, by_bytes}
use Rattle.gix_statement.specs.CommitGraph.{IsChunk, IsLayer, bytes_at, number_at}

-- PAGES: for each 4096 bytes of the file, what it has from there on, as far as that was read. Pages may lap over.
abbrev pub HavePages : (file : List ℕ) → List (Option (List ℕ)) → Type 0
HavePages file pages = (k : ℕ) (bytes : List ℕ) → slice_get pages k ≡ Some (Some bytes) → bytes_at (4096 * k) (length bytes) file ≡ bytes

-- the file of this number has the pages of this number
abbrev pub IsFileOf : (pages : List (List (Option (List ℕ)))) → ℕ → (file : List ℕ) → Type 0
IsFileOf pages number file = (own : List (Option (List ℕ))) → slice_get pages number ≡ Some own → HavePages file own

-- how many bytes an id has
abbrev pub width_of : (file : List ℕ) → ℕ
width_of file = if number_at 5 1 file == 1 then 20 else 32

-- LAYERS: the files of a chain, lowest first, or one file, and the rows of each.
pub record Layer : Type 0 where
  pub file : List ℕ
  pub rows : List Row

abbrev pub all_rows : List Layer → List Row
all_rows layers = flat_map (λ layer. layer.rows) layers

-- In a layer ids rise. The generation of a row is in the upper 30 bits of the 8 bytes that have its time.
pub record IsSoundLayer (lower : List Layer) (layer : Layer) (generation : ObjectId → ℕ) : Type 0 where
  pub has : IsLayer (map (λ l. l.file) lower) layer.file (all_rows lower) layer.rows
  pub rising : AllPairs (λ r s. by_bytes r.id s.id ≡ Less) layer.rows
  pub said : (data_of : List ℕ) (k : ℕ) (r : Row) → IsChunk layer.file (codes "CDAT") data_of → slice_get layer.rows k ≡ Some r
      → generation r.id ≡ number_at ((width_of layer.file + 16) * k + (width_of layer.file + 8)) 8 data_of / 2 ^ 34

-- Layers, each above those before it. So by `AreLayers` of CommitGraph their files have all of their rows. The generation of a row is above
-- those of its parents.
pub record AreSoundLayers (layers : List Layer) (generation : ObjectId → ℕ) : Type 0 where
  pub each : (k : ℕ) (layer : Layer) → slice_get layers k ≡ Some layer → IsSoundLayer (take k layers) layer generation
  pub falling : (r : Row) → Contains (all_rows layers) r → All (λ p. generation p < generation r.id) r.parents

-- layers whose files have these pages
pub record HaveFiles (pages : List (List (Option (List ℕ)))) (layers : List Layer) : Type 0 where
  pub count : length layers ≡ length pages
  pub has : (k : ℕ) (layer : Layer) → slice_get layers k ≡ Some layer → IsFileOf pages k layer.file

-- THE STATEMENT: of lines that were written over these objects of a repository and over these pages. If no such graph has these pages, nothing
-- is promised: so NamedBelow says what the files are in any case, and a law of gix_checked_graph that then such a graph has them.
abbrev pub AnswersOver : Objects → (words : List (List ℕ)) → (pages : List (List (Option (List ℕ)))) → (lines : List ℕ) → Type 0
AnswersOver objects words pages lines = AreNamed objects
    × ((layers : List Layer) (generation : ObjectId → ℕ) → HaveFiles pages layers → AreSoundLayers layers generation
    → Agree objects (all_rows layers)
    → InEach objects (all_rows layers) (λ parents time. Serves objects (all_rows layers) parents time (Some []) (Some lines) words))
