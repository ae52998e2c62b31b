-- What two searches over the texts have seen and done.
use Rattle.std.specs.Prelude.{◌≡◌, ◌≤◌, ◌+◌, ℕ, List, [], ◌∷◌, Bool, true, not, ◌&&◌, cond, Contains}
use Rattle.std.specs.FinMap as map_of
use Rattle.gix_hash.specs.declared.ObjectId.{ObjectId}
use Rattle.gix_hash.specs.Id.{id_cmp, is_among}
use Rattle.gix_object.specs.Object.{Objects}
use Rattle.gix_commitgraph.specs.Rows.{GraphRow}
use Rattle.gix_revwalk.specs.declared.Parents.{Parents}
use Rattle.gix_frontier.specs.declared.Side.{Side}
use Rattle.gix_frontier.specs.declared.Side.TheVariants.{Tips, Ends}
use Rattle.gix_frontier.specs.Inside.Known.{Known}
use Rattle.gix_frontier.specs.Inside.Waiting.{Waiting}
use Rattle.gix_frontier.specs.declared.Frontier.{Frontier}
use Rattle.gix_topo.specs.Depth.{known_generation}
use Rattle.gix_topo.specs.Inside.Exploring.{side_mode}
use Rattle.gix_frontier.specs.Inside.Frontier.{is_seen, is_done, known_of, reached, waiting, IsSearch}
use Rattle.gix_revwalk.specs.Commits.{by_mode}
use Rattle.gix_hash.specs.Reach.{Reaches}
pub use Rattle.gix_revwalk.specs.Texts.{text_next, next_in}
use Rattle.gix_revwalk.specs.Ids.{times}

-- the parents of a commit that a side goes to
abbrev pub next_by : Objects → Parents → Side → ObjectId → List ObjectId
next_by objects parents side i = by_mode (side_mode side parents) (text_next objects i)

abbrev pub starts_by : List ObjectId → List ObjectId → Side → List ObjectId
starts_by tips ends Tips = tips
starts_by tips ends Ends = ends

-- both searches have come to this point, and each id waits under its generation
pub record IsSearched (objects : Objects) (rows : List GraphRow) (parents : Parents) (tips ends : List ObjectId) (queue : List (ℕ × Waiting)) (known : map_of.FinMap id_cmp Known) : Type 0 where
  pub search : (side : Side) → IsSearch (next_by objects parents side) (starts_by tips ends side) (reached known side) (waiting queue side)
  pub keyed : (entry : ℕ × Waiting) → Contains queue entry → entry.0 ≡ known_generation rows entry.1.id

-- how many of these name an id
abbrev pub naming : (ObjectId → List ObjectId) → ObjectId → List ObjectId → ℕ
naming walked p [] = 0
naming walked p (d ∷ ds) = cond (is_among p (walked d)) 1 0 + naming walked p ds

-- For each id the number of those that name it, are done and aren't taken.
pub record IsTally (walked : ObjectId → List ObjectId) (done taken : ObjectId → Bool) (children : ObjectId → ℕ) : Type 0 where
  pub open_to : List ObjectId
  pub each : (i : ObjectId) → times i open_to ≡ cond (done i && not (taken i)) 1 0
  pub counts : (p : ObjectId) → children p ≡ naming walked p open_to
  pub taken_done : (i : ObjectId) → taken i ≡ true → done i ≡ true

-- the searches and the counts have come to this point
pub record IsCounted (objects : Objects) (rows : List GraphRow) (parents : Parents) (tips ends : List ObjectId) (taken : ObjectId → Bool) (f : Frontier) : Type 0 where
  pub searched : IsSearched objects rows parents tips ends f.queue f.known
  pub tally : IsTally (next_by objects parents Tips) (λ i. is_done (reached f.known Tips i)) taken (λ p. (known_of f.known p).indegree)

-- a side has seen what it starts from
abbrev pub IsBegun : List ObjectId → List ObjectId → Side → Frontier → Type 0
IsBegun tips ends side f = (i : ObjectId) → Contains (starts_by tips ends side) i → is_seen (reached f.known side i) ≡ true

-- all that a side reaches, and that isn't below the depth, is done
abbrev pub IsExplored : Objects → List GraphRow → Parents → List ObjectId → List ObjectId → ℕ → Side → Frontier → Type 0
IsExplored objects rows parents tips ends depth side f = (i : ObjectId) → Reaches (next_by objects parents side) (starts_by tips ends side) i → depth ≤ known_generation rows i → is_done (reached f.known side i) ≡ true
