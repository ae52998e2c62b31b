-- Lists of commits, by what commits reach alone.
use Rattle.std.specs.Prelude.{◌↔◌, ℕ, List, filter, Bool, false, not, Contains, Option, flat_map}
use Rattle.gix_hash.specs.declared.ObjectId.{ObjectId}
use Rattle.gix_hash.specs.Reach.{Reaches, Tells}
use Rattle.gix_object.specs.Object.{Objects}
use Rattle.gix_revwalk.specs.Commits.{by_mode, parents_of, time_of}
use Rattle.gix_revwalk.specs.Ids.{AreDistinct, new_ids}
use Rattle.gix_revwalk.specs.ListsByTurn.{IsListBy}
use Rattle.gix_revwalk.specs.TimeOrder.{IsNextOne}
use Rattle.gix_revwalk.specs.Texts.{text_next}
use Rattle.gix_revwalk.specs.declared.CommitTimeOrder.{CommitTimeOrder}
use Rattle.gix_revwalk.specs.declared.Parents.{Parents}
use Rattle.gix_revwalk.specs.declared.Parents.TheVariants as mode
use Rattle.gix_simple.specs.Walk.{time_order, cutoff, is_older}
use Rattle.gix_simple.specs.declared.Sorting.{Sorting}
use Rattle.gix_topo.specs.Laws.{IsNextBy}
use Rattle.gix_topo.specs.WalkSet.{IsInWalk, IsAcyclicIn}
use Rattle.gix_topo.specs.declared.Sorting.{Sorting as TopoSorting}
use Rattle.gix_commands.specs.Walked.{line_of}

-- the tips reach the commit through these parents, and the hidden tips don't
abbrev pub IsShownBy : (ObjectId → List ObjectId) → List ObjectId → List ObjectId → ObjectId → Type 0
IsShownBy next tips hidden i = Reaches next tips i × (Reaches next hidden i → ⊥)

-- the tips reach the commit, and the hidden tips don't
abbrev pub IsShown : Objects → List ObjectId → List ObjectId → ObjectId → Type 0
IsShown objects = IsShownBy (parents_of objects)

-- of these parents of a commit the ones that a walk follows: by the mode, and none whose committer's time is below the cutoff
abbrev pub followed : Objects → (ObjectId → List ObjectId) → Parents → Sorting → ObjectId → List ObjectId
followed objects next parents by c = filter (λ i. not (is_older (time_of objects i) (cutoff parents by))) (by_mode parents (next c))

-- the tips without those below the cutoff
abbrev pub kept_tips : Objects → Sorting → List ObjectId → List ObjectId
kept_tips objects by tips = filter (λ i. not (is_older (time_of objects i) (cutoff mode.All by))) tips

-- in breadth order or in one by time, from these starts through what is followed, without what the hidden tips reach through parents
abbrev pub IsListedBy : Objects → (next follow : ObjectId → List ObjectId) → Option CommitTimeOrder → (from hidden ids : List ObjectId) → Type 0
IsListedBy objects next follow order from hidden ids =
    (hides : ObjectId → Bool) × Tells hides (Reaches next hidden)
    × IsListBy (IsNextOne order (time_of objects) (λ c. filter (λ i. not (hides i)) (follow c)) (filter (λ i. not (hides i)) (new_ids (λ i. false) from))) ids

-- each commit that the starts reach through what is followed, and the hidden tips don't reach through parents, is there once, and no other, in
-- order
pub record ListsBy (objects : Objects) (next follow : ObjectId → List ObjectId) (order : Option CommitTimeOrder) (from hidden ids : List ObjectId)
    : Type 0 where
  pub once : AreDistinct ids
  pub exact : (i : ObjectId) → Contains ids i ↔ IsInWalk follow next from hidden i
  pub in_order : IsListedBy objects next follow order from hidden ids

-- such a list by these parents, as the mode, the sorting and the tips choose what is followed and where a walk starts
abbrev pub IsSimpleBy : Objects → (ObjectId → List ObjectId) → Parents → Sorting → List ObjectId → List ObjectId → List ObjectId → Type 0
IsSimpleBy objects next parents by tips =
    ListsBy objects next (followed objects next parents by) (time_order parents by) (kept_tips objects by tips)

-- ids, one a line
abbrev pub lines_of_ids : List ObjectId → List ℕ
lines_of_ids ids = flat_map line_of ids

-- what a topological walk follows, by texts
abbrev pub followed_down : Objects → Parents → ObjectId → List ObjectId
followed_down objects m i = by_mode m (text_next objects i)

-- No id is there twice, and each is one that the tips reach through what is walked, and the ends don't through any parents. All of these are
-- there, where none of them is its own ancestor. They are in the order that was asked for.
pub record ListsDown (objects : Objects) (next walked : ObjectId → List ObjectId) (by : TopoSorting) (tips ends ids : List ObjectId) : Type 0 where
  pub once : AreDistinct ids
  pub shown : (i : ObjectId) → Contains ids i → IsInWalk walked next tips ends i
  pub all : IsAcyclicIn walked (IsInWalk walked next tips ends) → (i : ObjectId) → IsInWalk walked next tips ends i → Contains ids i
  pub in_order : IsListBy (IsNextBy by (time_of objects) walked (IsInWalk walked next tips ends) tips) ids
