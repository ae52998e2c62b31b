-- What holds along the answers that are drawn from a simple walk, and of two walks that were built alike.
use Rattle.std.specs.Prelude.{◌≡◌, ◌≢◌, ◌⊎◌, ◌↔◌, ℕ, List, [], ◌∷◌, ◌++◌, Bool, false, None, Some, Result, Ok, Err, Contains, All}
use Rattle.std.specs.Option.{option_map}
use Rattle.std.specs.List.{AllZip}
use Rattle.std.specs.FinMap as map_of
use Rattle.gix_hash.specs.declared.ObjectId.{ObjectId}
use Rattle.gix_hash.specs.Id.{kind_of}
use Rattle.gix_object.specs.declared.Kind.TheVariants as object
use Rattle.gix_object.specs.declared.find.existing_iter.Error.TheVariants as existing
use Rattle.gix_object.specs.CommitItems.{commit_items}
use Rattle.gix_object.specs.Find.{IsExistingFault}
use Rattle.gix_object.specs.Object.{Objects}
use Rattle.gix_commitgraph.specs.Rows.{GraphRow, row_of}
use Rattle.gix_revwalk.specs.declared.Parents.{Parents}
use Rattle.gix_revwalk.specs.declared.Info.{Info}
use Rattle.gix_simple.specs.declared.Sorting.{Sorting}
use Rattle.gix_simple.specs.declared.Sorting.TheVariants as sorting
use Rattle.gix_simple.specs.declared.Error.{Error}
use Rattle.gix_simple.specs.declared.Error.TheVariants as error
use Rattle.gix_revwalk.specs.Agreeing.{IsAgreeing, IsCorrupt}
use Rattle.gix_revwalk.specs.Commits.{parents_of, by_mode}
use Rattle.gix_hash.specs.Reach.{Reaches}
use Rattle.gix_simple.specs.Walk.{SimpleWalk, IsMade, time_order}
use Rattle.gix_revwalk.specs.Ids.{ids_of, AreDistinct}
use Rattle.gix_simple.specs.Building.{IsSortedByTime}
use Rattle.gix_paint.specs.Painting.{DropsBy}
use Rattle.gix_simple.specs.Laws.{IsGiven}
use Rattle.gix_revwalk.specs.Asking.{AsksAll}
use Rattle.gix_revwalk.specs.Texts.{scanned, text_next}

-- a predicate was asked about different ids, each of them among these, and went from one state to another
pub record AsksOnce {P : Type 0} (answers : P → ObjectId → Bool → P → Type 0) (among : List ObjectId) (first last : P) : Type 0 where
  pub ids : List ObjectId
  pub run : AsksAll answers first ids last
  pub distinct : AreDistinct ids
  pub named : (i : ObjectId) → Contains ids i → Contains among i

-- a commit has the generation of its row, and none without a row
abbrev pub IsTold : List GraphRow → Result Info Error → Type 0
IsTold rows (Ok info) = info.generation ≡ option_map (λ row. row.generation) (row_of rows info.id)
IsTold rows (Err e) = Unit {0}

-- a commit has no generation
abbrev pub IsUntold : Result Info Error → Type 0
IsUntold (Ok info) = info.generation ≡ None
IsUntold (Err e) = Unit {0}

-- the fault is one of this commit: it can't be found, its text is broken, or the store failed at it, or at a parent that its text names
abbrev pub IsFaultOf : Objects → (ObjectId → Type 0) → Parents → ObjectId → Error → Type 0
IsFaultOf objects faulty parents i (error.Find e) =
    IsExistingFault objects faulty i object.Commit e ⊎ ((e ≡ existing.Store) × (p : ObjectId) × Contains (by_mode parents (text_next objects i)) p × faulty p)
IsFaultOf objects faulty parents i (error.ObjectDecode e) =
    (bytes : List ℕ) × (map_of.get objects i ≡ Some (record { kind = object.Commit; bytes = bytes }))
    × ((scanned parents (commit_items (kind_of i) bytes)).1 ≡ Some e)
IsFaultOf objects faulty parents i (error.HiddenGraph e) = ⊥
IsFaultOf objects faulty parents i error.Memory = ⊥

-- the answer is this commit, or a fault of it
abbrev pub IsAbout : Objects → (ObjectId → Type 0) → Parents → ObjectId → Result Info Error → Type 0
IsAbout objects faulty parents i (Ok info) = info.id ≡ i
IsAbout objects faulty parents i (Err e) = IsFaultOf objects faulty parents i e

-- The commit that was taken, which this answer is or whose fault it is, has a corrupt row. Pending commits reach it by the parents that are
-- walked, as the texts of commits name them, also where a text breaks off behind its parents.
pub record HasCorruptRow {F P : Type 0} (objects : F → Objects) (faulty : F → ObjectId → Type 0) (walk : SimpleWalk F P) (answer : Result Info Error)
    : Type 0 where
  pub row : GraphRow
  pub present : row_of walk.rows row.id ≡ Some row
  pub corrupt : IsCorrupt row
  pub reached : Reaches (λ i. by_mode walk.parents (text_next (objects walk.store) i)) (ids_of walk.pending) row.id
  pub about : IsAbout (objects walk.store) (faulty walk.store) walk.parents row.id answer

-- painting, which is part of the first step, drops the rows for a corrupt one
abbrev pub PaintingDrops : {F P : Type 0} → (F → Objects) → SimpleWalk F P → Type 0
PaintingDrops objects walk =
    (walk.begun ≡ false) × (walk.hidden_tips ≢ []) × DropsBy (parents_of (objects walk.store)) walk.rows (ids_of walk.pending) walk.hidden_tips

-- The answers have the generations of the rows, up to where a corrupt row drops these, and none from there on. The first of these is
-- the commit of that row or a fault of it, or it is the first of all and painting dropped the rows.
pub record TellsGenerations {F P : Type 0} (objects : F → Objects) (faulty : F → ObjectId → Type 0) (walk : SimpleWalk F P)
    (list : List (Result Info Error)) : Type 0 where
  pub before : List (Result Info Error)
  pub behind : List (Result Info Error)
  pub parts : list ≡ before ++ behind
  pub told : All (IsTold walk.rows) before
  pub untold : All IsUntold behind
  pub dropped : (answer : Result Info Error) (rest : List (Result Info Error)) → behind ≡ answer ∷ rest → IsAgreeing (objects walk.store) walk.rows
      → HasCorruptRow objects faulty walk answer ⊎ ((before ≡ []) × PaintingDrops objects walk)

-- two walks of one store, over the same parents, in the same order, from the same pending commits
pub record AreAlike {F P : Type 0} (walk other : SimpleWalk F P) : Type 0 where
  pub same_store : other.store ≡ walk.store
  pub same_parents : other.parents ≡ walk.parents
  pub same_sorting : other.sorting ≡ walk.sorting
  pub same_pending : ids_of other.pending ≡ ids_of walk.pending

-- two walks that were built of the same tips by the same calls; rows and hidden tips may differ
pub data AreBuiltAlike {F P : Type 0} (objects : F → Objects) (faulty : F → ObjectId → Type 0) (answers : P → ObjectId → Bool → P → Type 0)
    (store : F) (predicate : P) (tips : List ObjectId) : SimpleWalk F P → SimpleWalk F P → Type 0 where
  made : {a b : SimpleWalk F P} → IsMade objects faulty answers store predicate tips a → IsMade objects faulty answers store predicate tips b
      → AreBuiltAlike objects faulty answers store predicate tips a b
  breadth_first : {a b : SimpleWalk F P} → AreBuiltAlike objects faulty answers store predicate tips a b
      → AreBuiltAlike objects faulty answers store predicate tips (record a { sorting = sorting.BreadthFirst }) (record b { sorting = sorting.BreadthFirst })
  by_time : {a b c d : SimpleWalk F P} {by : Sorting} → AreBuiltAlike objects faulty answers store predicate tips a b → IsSortedByTime objects a by c
      → IsSortedByTime objects b by d → AreBuiltAlike objects faulty answers store predicate tips c d
  walks : {a b : SimpleWalk F P} {parents : Parents} → AreBuiltAlike objects faulty answers store predicate tips a b
      → AreBuiltAlike objects faulty answers store predicate tips (record a { parents = parents }) (record b { parents = parents })
  hides : {a b : SimpleWalk F P} {ids those : List ObjectId} → AreBuiltAlike objects faulty answers store predicate tips a b
      → AreBuiltAlike objects faulty answers store predicate tips (record a { hidden_tips = ids }) (record b { hidden_tips = those })
  reads : {a b : SimpleWalk F P} {rows those : List GraphRow} → AreBuiltAlike objects faulty answers store predicate tips a b
      → AreBuiltAlike objects faulty answers store predicate tips (record a { rows = rows }) (record b { rows = those })

-- the answers of two walks are the same commits, in the same order
pub record GiveTheSame {F P : Type 0} (objects : F → Objects) (walk other : SimpleWalk F P) (list those_given : List (Result Info Error)) : Type 0 where
  pub ids : List ObjectId
  pub given : AllZip (IsGiven (objects walk.store) walk.rows walk.parents (time_order walk.parents walk.sorting)) list ids
  pub given_there : AllZip (IsGiven (objects other.store) other.rows other.parents (time_order other.parents other.sorting)) those_given ids

-- the answers of a walk are exactly the commits of another walk that its hidden tips don't reach
pub record GivesUnhidden {F P : Type 0} (objects : F → Objects) (walk other : SimpleWalk F P) (list longer : List (Result Info Error)) : Type 0 where
  pub ids : List ObjectId
  pub more : List ObjectId
  pub given : AllZip (IsGiven (objects walk.store) walk.rows walk.parents (time_order walk.parents walk.sorting)) list ids
  pub given_there : AllZip (IsGiven (objects other.store) other.rows other.parents (time_order other.parents other.sorting)) longer more
  pub unhidden : (i : ObjectId) → Contains ids i ↔ (Contains more i × (Reaches (parents_of (objects walk.store)) walk.hidden_tips i → ⊥))
