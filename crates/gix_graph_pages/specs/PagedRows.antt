-- What the bytes of pages say of the rows of their files.
use Rattle.std.specs.Prelude.{◌≡◌, ◌≢◌, ◌⊎◌, ℕ, ◌+◌, ◌*◌, ◌≤◌, ◌<◌, codes, List, [], ◌∷◌, ◌++◌, length, take, map, slice_get, Option, Some, None, IfSome, Ok, Err, All, Contains}
use Rattle.std.specs.Option.{option_map}
use Rattle.gix_hash.specs.declared.Kind.{Kind}
use Rattle.gix_hash.specs.declared.Kind.TheVariants as kind
use Rattle.gix_hash.specs.declared.ObjectId.{ObjectId}
use Rattle.gix_hash.specs.Id.{id_len}
use Rattle.gix_commitgraph.specs.Parents.{Answer}
use Rattle.gix_commitgraph.specs.Rows.{GraphRow, row_at, row_of}
use Rattle.gix_commitgraph.specs.declared.Position.{Position}
use Rattle.gix_graph_check.specs.HeadsReach.{ids_of_places}
use Rattle.gix_statement.specs.WholeStatement.{Row}
use Rattle.gix_statement.specs.CommitGraph.{AreFurther, AreParents, IsChunk, bytes_at, number_at}
use Rattle.gix_graph_pages.specs.GraphPages.{AreSoundLayers, HaveFiles, IsFileOf, Layer, all_rows, width_of}
use Rattle.gix_graph_pages.specs.NamedBelow.{end_of_chunks}
use Rattle.gix_graph_pages.specs.declared.layout.Chunk.{Chunk}
use Rattle.gix_graph_pages.specs.declared.layout.Layout.{Layout}
use Rattle.gix_graph_pages.specs.declared.rows.FileRow.{FileRow}

abbrev pub Pages : Type 0
Pages = List (List (Option (List ℕ)))

-- layers in order and sound, whose files have these pages
pub record ArePaged (pages : Pages) (layers : List Layer) (generation : ObjectId → ℕ) : Type 0 where
  pub files : HaveFiles pages layers
  pub sound : AreSoundLayers layers generation

-- so it is of each such graph
abbrev pub InEachGraph : Pages → ((layers : List Layer) → (generation : ObjectId → ℕ) → Type 0) → Type 0
InEachGraph pages IsSo = (layers : List Layer) (generation : ObjectId → ℕ) → ArePaged pages layers generation → IsSo layers generation

-- so it is of the layer of this number of each
abbrev pub InEachLayer : Pages → (number : ℕ) → ((layers : List Layer) → (layer : Layer) → (generation : ObjectId → ℕ) → Type 0) → Type 0
InEachLayer pages number IsSo = InEachGraph pages (λ layers generation. (layer : Layer) → slice_get layers number ≡ Some layer → IsSo layers layer generation)

-- a layout has what the head of its file says: the kind of the ids, and where ids, rows and further parents are
pub record SaysLayout (pages : Pages) (layout : Layout) : Type 0 where
  pub width : InEachLayer pages layout.layer (λ layers layer generation. width_of layer.file ≡ id_len layout.kind)
  pub ids : InEachLayer pages layout.layer (λ layers layer generation. (bytes : List ℕ) → IsChunk layer.file (codes "OIDL") bytes
      → bytes ≡ bytes_at layout.ids (id_len layout.kind * layout.rows) layer.file)
  pub said : InEachLayer pages layout.layer (λ layers layer generation. (bytes : List ℕ) → IsChunk layer.file (codes "CDAT") bytes
      → bytes ≡ bytes_at layout.data ((id_len layout.kind + 16) * layout.rows) layer.file)
  pub further : IfSome layout.edges (λ chunk. InEachLayer pages layout.layer (λ layers layer generation. (bytes : List ℕ)
      → IsChunk layer.file (codes "EDGE") bytes → bytes ≡ bytes_at chunk.from chunk.len layer.file))

-- how the head of a file says the kind of its ids
abbrev pub version : Kind → ℕ
version kind.Sha1 = 1
version kind.Sha256 = 2

-- a file begins as a layout says, and has its chunk BASE there
pub record BeginsAs (layout : Layout) (file : List ℕ) : Type 0 where
  pub begins : bytes_at 0 5 file ≡ codes "CGPH" ++ 1 ∷ []
  pub kind : number_at 5 1 file ≡ version layout.kind
  pub number : number_at 7 1 file ≡ layout.layer
  pub base : IfSome layout.below (λ chunk. IsChunk file (codes "BASE") (bytes_at chunk.from chunk.len file))

-- so does each file that has these pages
abbrev pub HasHead : Pages → Layout → Type 0
HasHead pages layout = (file : List ℕ) → IsFileOf pages layout.layer file → BeginsAs layout file

-- a chunk has so many hashes; if there is no chunk, there are none
abbrev pub NamesSoMany : Option Chunk → (width count : ℕ) → Type 0
NamesSoMany None width count = count ≡ 0
NamesSoMany (Some chunk) width count = chunk.len ≡ width * count

-- where the chunk BASE has the hash of this number
abbrev pub IsPlaceOfHash : Layout → (lower place : ℕ) → Type 0
IsPlaceOfHash layout lower place = (chunk : Chunk) × (layout.below ≡ Some chunk) × (place ≡ chunk.from + id_len layout.kind * lower)

-- there the file of a layout has the hash with which the file of another one ends, and both have ids of one kind
pub record NamesHash (pages : Pages) (layout lower : Layout) : Type 0 where
  pub kinds : lower.kind ≡ layout.kind
  pub place : ℕ
  pub at : IsPlaceOfHash layout lower.layer place
  pub named : List ℕ
  pub long : length named ≡ id_len layout.kind
  pub here : (file : List ℕ) → IsFileOf pages layout.layer file → bytes_at place (id_len layout.kind) file ≡ named
  pub own : (file : List ℕ) → IsFileOf pages lower.layer file → bytes_at (end_of_chunks file) (id_len layout.kind) file ≡ named

-- it has those of each of these
abbrev pub NamesEach : Pages → Layout → List Layout → Type 0
NamesEach pages layout below = (k : ℕ) (lower : Layout) → slice_get below k ≡ Some lower → NamesHash pages layout lower

-- where the rows of a layer are, in its file and among the rows of all layers
pub record IsLayoutOf (pages : Pages) (layout : Layout) : Type 0 where
  pub there : layout.layer < length pages
  pub head : SaysLayout pages layout
  pub start : InEachGraph pages (λ layers generation. length (all_rows (take layout.layer layers)) ≡ layout.start)
  pub count : InEachLayer pages layout.layer (λ layers layer generation. length layer.rows ≡ layout.rows)

-- those of all layers, lowest first
pub record AreLayouts (pages : Pages) (layouts : List Layout) : Type 0 where
  pub count : length layouts ≡ length pages
  pub each : (k : ℕ) (layout : Layout) → slice_get layouts k ≡ Some layout → (layout.layer ≡ k) × IsLayoutOf pages layout

-- this row of a graph has this id
abbrev pub HasId : Pages → ℕ → ObjectId → Type 0
HasId pages number i = InEachGraph pages (λ layers generation. (r : Row) × (slice_get (all_rows layers) number ≡ Some r) × (r.id ≡ i))

-- this row, which is in the file of a layout, has this id
abbrev pub HasIdIn : Pages → Layout → ℕ → ObjectId → Type 0
HasIdIn pages layout number i = InEachLayer pages layout.layer (λ layers layer generation.
    (own : ℕ) × (layout.start + own ≡ number) × ((r : Row) × (slice_get layer.rows own ≡ Some r) × (r.id ≡ i)))

-- these bytes are those that say further parents in a file, which may have none
abbrev pub AreEdges : (file edges : List ℕ) → Type 0
AreEdges file edges = IsChunk file (codes "EDGE") edges ⊎ (edges ≡ [])

-- the word of this number of those that say further parents
abbrev pub IsEdge : (file : List ℕ) → (number word : ℕ) → Type 0
IsEdge file number word = (edges : List ℕ) → IsChunk file (codes "EDGE") edges → number_at (4 * number) 4 edges ≡ word

-- these ids are those of the rows that have these numbers
abbrev pub AreIdsOf : List Row → (numbers : List ℕ) → List ObjectId → Type 0
AreIdsOf rows numbers ids = map Some ids ≡ map (λ n. option_map (λ parent. parent.id) (slice_get rows n)) numbers

-- this row of a graph, which is in this file, says this
pub record SaysRow (file : List ℕ) (rows : List Row) (generation : ObjectId → ℕ) (number : ℕ) (read : FileRow) : Type 0 where
  pub row : Row
  pub there : slice_get rows number ≡ Some row
  pub id : row.id ≡ read.id
  pub tree : row.tree ≡ read.tree
  pub time : row.time ≡ read.time
  pub level : generation row.id ≡ read.generation
  pub edges : List ℕ
  pub chunk : AreEdges file edges
  pub numbers : List ℕ
  pub parents : AreParents edges read.first read.second numbers
  pub ids : AreIdsOf rows numbers row.parents

-- a place of a row of a graph: the row there has the id that the row of this number in the files has
pub record IsPlaceOf (pages : Pages) (graph : List GraphRow) (number : ℕ) (place : Option Answer) : Type 0 where
  pub position : Position
  pub is : place ≡ Some (Ok position)
  pub id : HasId pages number (row_at graph position.0).id

-- these ids are the parents of each row of a file that has these two words
abbrev pub AreParentIds : (file : List ℕ) → List Row → (one other : ℕ) → List ObjectId → Type 0
AreParentIds file rows one other ids = (edges numbers : List ℕ) → AreEdges file edges → AreParents edges one other numbers → AreIdsOf rows numbers ids

-- these ids are the further parents that a file's words say from one word on
abbrev pub AreFurtherIds : (file : List ℕ) → List Row → (from : ℕ) → List ObjectId → Type 0
AreFurtherIds file rows from ids = (edges numbers : List ℕ) → AreEdges file edges → AreFurther edges from numbers → AreIdsOf rows numbers ids

-- the ids at places of a graph that are given one by one; at a corrupt one there is none
abbrev pub ids_of_answers : List GraphRow → List Answer → List ObjectId
ids_of_answers graph [] = []
ids_of_answers graph (Ok position ∷ answers) = (row_at graph position.0).id ∷ ids_of_answers graph answers
ids_of_answers graph (Err fault ∷ answers) = ids_of_answers graph answers

-- A row of a graph says what a row of the files says. Below a generation it has no parents.
pub record IsRowOfFile (least : ℕ) (graph : List GraphRow) (rows : List Row) (generation : ObjectId → ℕ) (row : GraphRow) : Type 0 where
  pub said : Row
  pub there : Contains rows said
  pub id : said.id ≡ row.id
  pub tree : said.tree ≡ row.tree
  pub time : said.time ≡ row.time
  pub level : generation said.id ≡ row.generation
  pub parents : ((least ≤ row.generation) × (ids_of_places graph row.parents ≡ said.parents)) ⊎ ((row.generation < least) × (row.parents ≡ []))

-- all rows of a graph are such rows
abbrev pub ArePart : Pages → (graph : List GraphRow) → (least : ℕ) → Type 0
ArePart pages graph least = InEachGraph pages (λ layers generation. (row : GraphRow) → Contains graph row → IsRowOfFile least graph (all_rows layers) generation row)

-- no row has this id
abbrev pub HasNoRow : Pages → ObjectId → Type 0
HasNoRow pages i = InEachGraph pages (λ layers generation. All (λ r. r.id ≢ i) (all_rows layers))

-- the commit has a row in the graph, which isn't below the generation, or no row at all
abbrev pub IsAbove : Pages → (graph : List GraphRow) → (least : ℕ) → ObjectId → Type 0
IsAbove pages graph least i = ((row : GraphRow) × (row_of graph i ≡ Some row) × (least ≤ row.generation)) ⊎ HasNoRow pages i
