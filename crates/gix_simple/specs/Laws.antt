-- What a simple walk gives, over the definitions alone: the words of its laws.
use Rattle.std.specs.Prelude.{◌≡◌, ◌≢◌, ◌⊎◌, ◌↔◌, ℕ, ℤ, List, [], ◌++◌, filter, Bool, true, false, not, ◌&&◌, ◌+◌, map, length, Option, Some, None, Result, Ok, Err, Contains, All}
use Rattle.std.specs.List.{AllZip, flat_map}
use Rattle.std.specs.Iterator.{Drains, Yields}
use Rattle.std.specs.FinMap as map_of
use Rattle.std.specs.FinSet as set
use Rattle.gix_hash.specs.declared.ObjectId.{ObjectId}
use Rattle.gix_hash.specs.Id.{kind_of}
use Rattle.gix_object.specs.declared.Kind.TheVariants as object
use Rattle.gix_object.specs.CommitItems.{commit_items}
use Rattle.gix_object.specs.declared.find.existing_iter.Error.TheVariants as existing
use Rattle.gix_object.specs.Object.{Objects}
use Rattle.gix_commitgraph.specs.Rows.{GraphRow}
use Rattle.gix_revwalk.specs.declared.Parents.{Parents}
use Rattle.gix_revwalk.specs.declared.Parents.TheVariants as mode
use Rattle.gix_simple.specs.declared.Sorting.TheVariants as sorting
use Rattle.gix_revwalk.specs.declared.Info.{Info}
use Rattle.gix_revwalk.specs.declared.CommitTimeOrder.{CommitTimeOrder}
use Rattle.gix_simple.specs.declared.Error.{Error}
use Rattle.gix_simple.specs.declared.Error.TheVariants as error
use Rattle.gix_paint.specs.declared.Hidden.TheVariants as hidden_by
use Rattle.gix_revwalk.specs.Agreeing.{IsAgreeing}
use Rattle.gix_revwalk.specs.ListsByTurn.{IsBeginningBy, IsListBy}
use Rattle.gix_revwalk.specs.BreadthOrder.{IsFirstNew}
use Rattle.gix_revwalk.specs.TimeOrder.{IsNextOne}
use Rattle.gix_hash.specs.Reach.{Reaches, Tells}
use Rattle.gix_revwalk.specs.Commits.{ReadsWhole, by_mode, walked_parents, parents_of, time_of}
use Rattle.gix_revwalk.specs.Pending.{Pending}
use Rattle.gix_simple.specs.Walk.{SimpleWalk, time_order, cutoff, is_older, time_if, Next}
use Rattle.gix_revwalk.specs.Infos.{given_ids, IsInfo, IsRowGeneration}
use Rattle.gix_revwalk.specs.Ids.{ids_of, AreDistinct, new_ids}
use Rattle.gix_revwalk.specs.Texts.{scanned, text_next, text_parents}
use Rattle.gix_revwalk.specs.Asking.{AnswersBy}

-- a walk as it is before its first step
pub record IsFresh {F P : Type 0} (objects : F → Objects) (walk : SimpleWalk F P) (accepts : ObjectId → Bool) : Type 0 where
  pub distinct : AreDistinct (ids_of walk.pending)
  pub pending_seen : (i : ObjectId) → Contains (ids_of walk.pending) i → set.contains walk.seen i ≡ true
  pub seen : (i : ObjectId) → set.contains walk.seen i ≡ true → Contains (ids_of walk.pending) i ⊎ (accepts i ≡ false)
  pub remembered : (i : ObjectId) → set.contains walk.remembered i ≡ true → accepts i ≡ true
  pub shown : (i : ObjectId) → set.contains walk.hidden i ≡ false
  pub unbegun : walk.begun ≡ false
  -- where an order by time is in force, each pending commit has its own time
  pub timed : (order : CommitTimeOrder) → time_order walk.parents walk.sorting ≡ Some order → (p : Pending) → Contains walk.pending p
      → p.time ≡ time_of (objects walk.store) p.id

-- neither memory nor the store failed
abbrev pub IsNoRefusal : Result Info Error → Type 0
IsNoRefusal answer =
    (answer ≢ Err error.Memory) × (answer ≢ Err (error.Find existing.Store)) × (answer ≢ Err (error.HiddenGraph (hidden_by.Find existing.Store)))

-- accepted, not hidden, and not older than the cutoff
abbrev pub is_kept : Objects → (ObjectId → Bool) → (ObjectId → Bool) → Option ℤ → ObjectId → Bool
is_kept objects accepts hidden limit i = (accepts i && not (hidden i)) && not (is_older (time_of objects i) limit)

-- of the parents that a commit names, those that are walked, and kept
abbrev pub kept_of : Objects → (ObjectId → List ObjectId) → Parents → (ObjectId → Bool) → (ObjectId → Bool) → Option ℤ → ObjectId → List ObjectId
kept_of objects named parents accepts hidden limit c = filter (is_kept objects accepts hidden limit) (by_mode parents (named c))

-- the parents that are walked, and kept
abbrev pub kept_parents : Objects → Parents → (ObjectId → Bool) → (ObjectId → Bool) → Option ℤ → ObjectId → List ObjectId
kept_parents objects = kept_of objects (parents_of objects)

-- what a walk names next
abbrev pub next_of : {F P : Type 0} → (F → Objects) → SimpleWalk F P → (ObjectId → Bool) → (ObjectId → Bool) → ObjectId → List ObjectId
next_of objects walk accepts hidden = kept_parents (objects walk.store) walk.parents accepts hidden (cutoff walk.parents walk.sorting)

-- the tips that aren't hidden
abbrev pub starts_of : {F P : Type 0} → SimpleWalk F P → (ObjectId → Bool) → List ObjectId
starts_of walk hidden = filter (λ i. not (hidden i)) (ids_of walk.pending)

-- the id is stored as a commit, and no fault is in its text up to the parents that are walked
pub record ReadsParents (objects : Objects) (parents : Parents) (i : ObjectId) : Type 0 where
  pub bytes : List ℕ
  pub stored : map_of.get objects i ≡ Some (record { kind = object.Commit; bytes = bytes })
  pub unbroken : (scanned parents (commit_items (kind_of i) bytes)).1 ≡ None

-- what comes next in a walk: in its order, of what is kept
abbrev pub IsNextKept : {F P : Type 0} → (F → Objects) → SimpleWalk F P → (accepts hidden : ObjectId → Bool) → List ObjectId → ObjectId
    → Type 0
IsNextKept objects walk accepts hidden =
    IsNextOne (time_order walk.parents walk.sorting) (time_of (objects walk.store)) (next_of objects walk accepts hidden)
    (starts_of walk hidden)

-- the answer is this commit, with the parents that it names
pub record IsCommitInfo (objects : Objects) (named : ObjectId → List ObjectId) (rows : List GraphRow) (parents : Parents)
    (order : Option CommitTimeOrder) (info : Info) (i : ObjectId) : Type 0 where
  pub generation : Option ℕ
  pub by_row : IsRowGeneration rows i generation
  pub info_is : IsInfo info i (by_mode parents (named i)) generation (time_if order (time_of objects i))
  pub read : ReadsParents objects parents i

abbrev pub IsGivenBy : Objects → (ObjectId → List ObjectId) → List GraphRow → Parents → Option CommitTimeOrder → Result Info Error → ObjectId → Type 0
IsGivenBy objects named rows parents order (Ok info) i = IsCommitInfo objects named rows parents order info i
IsGivenBy objects named rows parents order (Err e) i = ⊥

abbrev pub IsGiven : Objects → List GraphRow → Parents → Option CommitTimeOrder → Result Info Error → ObjectId → Type 0
IsGiven objects = IsGivenBy objects (parents_of objects)

-- what a walk meets reads whole: with hidden tips, all that tips and hidden tips reach
pub record MeetsWhole {F P : Type 0} (objects : F → Objects) (faulty : F → ObjectId → Type 0) (walk : SimpleWalk F P)
    (accepts hidden : ObjectId → Bool) : Type 0 where
  pub given : (i : ObjectId) → Reaches (next_of objects walk accepts hidden) (starts_of walk hidden) i → ReadsWhole (objects walk.store) i
  pub painted : walk.pending ≢ [] → walk.hidden_tips ≢ [] → (i : ObjectId)
      → Reaches (parents_of (objects walk.store)) (ids_of walk.pending ++ walk.hidden_tips) i → ReadsWhole (objects walk.store) i

-- the answers are these commits in order
pub record GivesInOrder {F P : Type 0} (objects : F → Objects) (walk : SimpleWalk F P) (accepts hidden : ObjectId → Bool)
    (answers : List (Result Info Error)) : Type 0 where
  pub ids : List ObjectId
  pub given : AllZip (IsGiven (objects walk.store) walk.rows walk.parents (time_order walk.parents walk.sorting)) answers ids
  pub in_order : IsListBy (IsNextKept objects walk accepts hidden) ids

-- a walk drawn to its end, and what is known of its history
pub record IsWholeRun {F P : Type 0} (objects : F → Objects) (faulty : F → ObjectId → Type 0) (answers : P → ObjectId → Bool → P → Type 0)
    (walk : SimpleWalk F P) (accepts hidden : ObjectId → Bool) (list : List (Result Info Error)) : Type 0 where
  pub by_test : AnswersBy answers walk.predicate accepts
  pub fresh : IsFresh objects walk accepts
  pub tells : Tells hidden (Reaches (parents_of (objects walk.store)) walk.hidden_tips)
  pub meets : MeetsWhole objects faulty walk accepts hidden
  pub agreeing : IsAgreeing (objects walk.store) walk.rows
  pub unrefused : All IsNoRefusal list
  pub drawn : Drains (Next objects faulty answers) walk list

-- the answers are these commits, the beginning of a list in order
pub record GivesBeginning {F P : Type 0} (objects : F → Objects) (walk : SimpleWalk F P)
    (accepts hidden : ObjectId → Bool) (answers : List (Result Info Error)) : Type 0 where
  pub ids : List ObjectId
  pub given : AllZip (IsGiven (objects walk.store) walk.rows walk.parents (time_order walk.parents walk.sorting)) answers ids
  pub begins : IsBeginningBy (IsNextKept objects walk accepts hidden) ids

-- a walk drawn as far as one likes, what is left of it, and what is known of its history
pub record IsBegunRun {F P : Type 0} (objects : F → Objects) (faulty : F → ObjectId → Type 0) (answers : P → ObjectId → Bool → P → Type 0)
    (walk : SimpleWalk F P) (accepts hidden : ObjectId → Bool) (list : List (Result Info Error)) (left : SimpleWalk F P) : Type 0 where
  pub by_test : AnswersBy answers walk.predicate accepts
  pub fresh : IsFresh objects walk accepts
  pub tells : Tells hidden (Reaches (parents_of (objects walk.store)) walk.hidden_tips)
  pub meets : MeetsWhole objects faulty walk accepts hidden
  pub agreeing : IsAgreeing (objects walk.store) walk.rows
  pub unrefused : All IsNoRefusal list
  pub drawn : Yields (Next objects faulty answers) walk list left

-- a walk that was just made of some tips: the accepted ones are pending, each at its first place
pub record IsNewWalk {F P : Type 0} (objects : F → Objects) (answers : P → ObjectId → Bool → P → Type 0) (store : F) (accepts : ObjectId → Bool)
    (tips : List ObjectId) (walk : SimpleWalk F P) : Type 0 where
  pub pending : ids_of walk.pending ≡ new_ids (λ i. false) (filter accepts tips)
  pub fresh : IsFresh objects walk accepts
  pub by_test : AnswersBy answers walk.predicate accepts
  pub same_store : walk.store ≡ store
  pub all_parents : walk.parents ≡ mode.All
  pub breadth_first : walk.sorting ≡ sorting.BreadthFirst
  pub rowless : walk.rows ≡ []
  pub open_to : walk.hidden_tips ≡ []

-- the ids that the rows and the texts of stored commits name, of these the parents that are walked
abbrev pub named_in : {F P : Type 0} → (F → Objects) → SimpleWalk F P → List ObjectId
named_in objects walk =
    map (λ row. row.id) walk.rows ++ flat_map (λ entry. by_mode walk.parents (text_parents entry.0 entry.1)) (map_of.entries (objects walk.store))

-- how many answers a walk can still give
abbrev pub answers_left : {F P : Type 0} → (F → Objects) → SimpleWalk F P → ℕ
answers_left objects walk = length (new_ids (set.contains walk.seen) (named_in objects walk)) + length walk.pending

-- the parents that are walked, and accepted
abbrev pub accepted_parents : Objects → Parents → (ObjectId → Bool) → ObjectId → List ObjectId
accepted_parents objects parents accepts c = filter accepts (walked_parents objects parents c)

-- of the parents that a commit names, those that are walked, accepted, and not older than the cutoff
abbrev pub recent_of : Objects → (ObjectId → List ObjectId) → Parents → (ObjectId → Bool) → Option ℤ → ObjectId → List ObjectId
recent_of objects named parents accepts limit c = filter (λ i. accepts i && not (is_older (time_of objects i) limit)) (by_mode parents (named c))

-- the parents that are walked, accepted, and not older than the cutoff
abbrev pub recent_parents : Objects → Parents → (ObjectId → Bool) → Option ℤ → ObjectId → List ObjectId
recent_parents objects = recent_of objects (parents_of objects)

-- the answer is this commit, read from the store
abbrev pub IsPlain : Objects → Parents → Option CommitTimeOrder → Result Info Error → ObjectId → Type 0
IsPlain objects parents order (Ok info) i = IsInfo info i (walked_parents objects parents i) None (time_if order (time_of objects i))
IsPlain objects parents order (Err e) i = ⊥

-- a walk without hidden tips and rows, drawn to its end, and what is known of its history
pub record IsPlainRun {F P : Type 0} (objects : F → Objects) (faulty : F → ObjectId → Type 0) (answers : P → ObjectId → Bool → P → Type 0)
    (walk : SimpleWalk F P) (accepts : ObjectId → Bool) (next : ObjectId → List ObjectId) (list : List (Result Info Error)) : Type 0 where
  pub by_test : AnswersBy answers walk.predicate accepts
  pub fresh : IsFresh objects walk accepts
  pub open_to : walk.hidden_tips ≡ []
  pub rowless : walk.rows ≡ []
  pub whole : (i : ObjectId) → Reaches next (ids_of walk.pending) i → ReadsWhole (objects walk.store) i
  pub unrefused : All IsNoRefusal list
  pub drawn : Drains (Next objects faulty answers) walk list

-- the answers are commits read from the store, in breadth order, each once, and exactly the commits that the starts reach
pub record GivesBreadthFirst (objects : Objects) (next : ObjectId → List ObjectId) (starts : List ObjectId) (answers : List (Result Info Error)) : Type 0 where
  pub ids : List ObjectId
  pub given : AllZip (IsPlain objects mode.All None) answers ids
  pub in_order : IsListBy (IsFirstNew next starts) ids
  pub once : AreDistinct ids
  pub reached : (i : ObjectId) → Contains ids i ↔ Reaches next starts i

-- the answers are commits and no faults: exactly the commits that the tips reach and the hidden tips don't, each once
pub record GivesDifference (objects : Objects) (tips hidden_tips : List ObjectId) (answers : List (Result Info Error)) : Type 0 where
  pub commits : (e : Error) → Contains answers (Err e) → ⊥
  pub once : AreDistinct (given_ids answers)
  pub exact : (i : ObjectId) → Contains (given_ids answers) i ↔ (Reaches (parents_of objects) tips i × (Reaches (parents_of objects) hidden_tips i → ⊥))

-- a walk without hidden tips, drawn to its end, none of whose answers is a fault
pub record IsFaultlessRun {F P : Type 0} (objects : F → Objects) (faulty : F → ObjectId → Type 0) (answers : P → ObjectId → Bool → P → Type 0)
    (walk : SimpleWalk F P) (accepts : ObjectId → Bool) (list : List (Result Info Error)) : Type 0 where
  pub by_test : AnswersBy answers walk.predicate accepts
  pub fresh : IsFresh objects walk accepts
  pub open_to : walk.hidden_tips ≡ []
  pub agreeing : IsAgreeing (objects walk.store) walk.rows
  pub commits : (e : Error) → Contains list (Err e) → ⊥
  pub drawn : Drains (Next objects faulty answers) walk list

-- what a walk without hidden tips names next: of the parents that texts name, also where a text breaks off behind them
abbrev pub next_by_text : {F P : Type 0} → (F → Objects) → SimpleWalk F P → (ObjectId → Bool) → ObjectId → List ObjectId
next_by_text objects walk accepts =
    recent_of (objects walk.store) (text_next (objects walk.store)) walk.parents accepts (cutoff walk.parents walk.sorting)

-- what comes next in a walk without hidden tips, by the parents that texts name
abbrev pub IsNextByText : {F P : Type 0} → (F → Objects) → SimpleWalk F P → (ObjectId → Bool) → List ObjectId → ObjectId → Type 0
IsNextByText objects walk accepts =
    IsNextOne (time_order walk.parents walk.sorting) (time_of (objects walk.store)) (next_by_text objects walk accepts)
    (ids_of walk.pending)

-- the answers are commits with the parents that their texts name, in order by these, each once, and exactly the ids that are reached by these
pub record GivesTextOrder {F P : Type 0} (objects : F → Objects) (walk : SimpleWalk F P) (accepts : ObjectId → Bool)
    (answers : List (Result Info Error)) : Type 0 where
  pub ids : List ObjectId
  pub given : AllZip (IsGivenBy (objects walk.store) (text_next (objects walk.store)) walk.rows walk.parents (time_order walk.parents walk.sorting))
      answers ids
  pub in_order : IsListBy (IsNextByText objects walk accepts) ids
  pub once : AreDistinct ids
  pub reached : (i : ObjectId) → Contains ids i ↔ Reaches (next_by_text objects walk accepts) (ids_of walk.pending) i

-- the answers are commits with the parents that their texts name, the beginning of a list in order by these, each once, and only ids that are
-- reached by these
pub record BeginsTextOrder {F P : Type 0} (objects : F → Objects) (walk : SimpleWalk F P) (accepts : ObjectId → Bool)
    (answers : List (Result Info Error)) : Type 0 where
  pub ids : List ObjectId
  pub given : AllZip (IsGivenBy (objects walk.store) (text_next (objects walk.store)) walk.rows walk.parents (time_order walk.parents walk.sorting))
      answers ids
  pub begins : IsBeginningBy (IsNextByText objects walk accepts) ids
  pub once : AreDistinct ids
  pub reached : (i : ObjectId) → Contains ids i → Reaches (next_by_text objects walk accepts) (ids_of walk.pending) i
