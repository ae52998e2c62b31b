-- What a simple walk holds, and what one step of it may do.
use Rattle.std.specs.Prelude.{◌≡◌, ◌≢◌, ◌⊎◌, ℕ, ℤ, pos, int_lt, List, [], ◌∷◌, ◌++◌, filter, Bool, true, false, not, Option, Some, None, Result, Ok, Err, Contains}
use Rattle.std.specs.FinMap as map_of
use Rattle.std.specs.FinSet as set
use Rattle.gix_hash.specs.declared.Kind.{Kind}
use Rattle.gix_hash.specs.declared.Kind.TheVariants as id_kind
use Rattle.gix_hash.specs.declared.ObjectId.{ObjectId}
use Rattle.gix_object.specs.declared.Kind.TheVariants as object
use Rattle.gix_object.specs.declared.decode.Error.{Error as DecodeError}
use Rattle.gix_object.specs.declared.find.existing_iter.Error.{Error as ExistingError}
use Rattle.gix_object.specs.declared.find.existing_iter.Error.TheVariants as existing
use Rattle.gix_hash.specs.Id.{id_cmp, kind_of}
use Rattle.gix_object.specs.Object.{Objects}
use Rattle.gix_object.specs.Find.{IsExistingFault}
use Rattle.gix_object.specs.CommitItems.{commit_items}
use Rattle.gix_commitgraph.specs.Rows.{GraphRow, row_of}
use Rattle.gix_revwalk.specs.declared.Parents.{Parents}
use Rattle.gix_revwalk.specs.declared.Parents.TheVariants as mode
use Rattle.gix_revwalk.specs.declared.Info.{Info}
use Rattle.gix_revwalk.specs.declared.CommitTimeOrder.{CommitTimeOrder}
use Rattle.gix_simple.specs.declared.Sorting.{Sorting}
use Rattle.gix_simple.specs.declared.Sorting.TheVariants as sorting
use Rattle.gix_revwalk.specs.Pending.{Pending}
use Rattle.gix_simple.specs.declared.step.Stop.{Stop}
use Rattle.gix_simple.specs.declared.step.Stop.TheVariants as stop
use Rattle.gix_simple.specs.declared.Error.{Error}
use Rattle.gix_simple.specs.declared.Error.TheVariants as error
use Rattle.gix_paint.specs.declared.Hidden.{Hidden}
use Rattle.gix_revwalk.specs.Commits.{by_mode, time_of}
use Rattle.gix_paint.specs.Painting.{Paints, IsHiddenFault}
use Rattle.gix_revwalk.specs.TimeOrder.{IsNoWorse}
use Rattle.gix_revwalk.specs.Ids.{ids_of}
use Rattle.gix_revwalk.specs.Texts.{scanned}
use Rattle.gix_revwalk.specs.RowParents.{ids_at, IsUnrowed, kept_rows}
use Rattle.gix_revwalk.specs.Infos.{IsInfo}

-- what a simple walk holds
pub record SimpleWalk (F P : Type 0) : Type 0 where
  pub store : F
  pub predicate : P
  pub rows : List GraphRow
  pub parents : Parents
  pub sorting : Sorting
  pub pending : List Pending
  pub seen : set.FinSet id_cmp
  -- accepted tips that a cutoff took out and no parent list has named since
  pub remembered : set.FinSet id_cmp
  -- whether `next` was called
  pub begun : Bool
  -- to be hidden by the first step, and of no meaning behind it
  pub hidden_tips : List ObjectId
  pub hidden : set.FinSet id_cmp
  -- the text of the commit last given
  pub text : List ℕ
  -- the commit last taken, given or not
  pub current : Option ObjectId

-- a walk before its tips: over all parents, breadth first, without rows and hidden tips
abbrev pub bare : {F P : Type 0} → F → P → SimpleWalk F P
bare store predicate = record {
  store = store;
  predicate = predicate;
  rows = [];
  parents = mode.All;
  sorting = sorting.BreadthFirst;
  pending = [];
  seen = set.empty;
  remembered = set.empty;
  begun = false;
  hidden_tips = [];
  hidden = set.empty;
  text = [];
  current = None;
}

-- the kind by which the text of the current commit is read
abbrev pub kind_at : Option ObjectId → Kind
kind_at None = id_kind.Sha1
kind_at (Some id) = kind_of id

-- the order by time that is in force, and its cutoff
abbrev pub time_order : Parents → Sorting → Option CommitTimeOrder
time_order mode.First sorting = None
time_order mode.All sorting.BreadthFirst = None
time_order mode.All (sorting.ByCommitTime order) = Some order
time_order mode.All (sorting.ByCommitTimeCutoff order seconds) = Some order

abbrev pub cutoff : Parents → Sorting → Option ℤ
cutoff mode.First sorting = None
cutoff mode.All sorting.BreadthFirst = None
cutoff mode.All (sorting.ByCommitTime order) = None
cutoff mode.All (sorting.ByCommitTimeCutoff order seconds) = Some seconds

abbrev pub is_older : ℤ → Option ℤ → Bool
is_older time None = false
is_older time (Some seconds) = int_lt time seconds

-- where a parent's time is read from: the rows, if the child was read by its row, or else the store
abbrev pub row_time : Option GraphRow → ℤ
row_time None = pos 0
row_time (Some row) = row.time

-- how the treatment of parents ended
pub data Treated : Type 0 where
  GoesOn : Treated
  StoreFails : Treated
  NoMemory : Treated

abbrev pub how_ended : Result (Unit {0}) Stop → Treated
how_ended (Ok done) = GoesOn
how_ended (Err stop.Store) = StoreFails
how_ended (Err stop.Memory) = NoMemory

-- what is left of a walk after a fault in the place of a commit: no text, and where memory ran out no pending commit
abbrev pub failed : {F P : Type 0} → ObjectId → Error → SimpleWalk F P → SimpleWalk F P
failed id error.Memory walk = record walk { text = []; current = Some id; pending = [] }
failed id (error.Find e) walk = record walk { text = []; current = Some id }
failed id (error.ObjectDecode e) walk = record walk { text = []; current = Some id }
failed id (error.HiddenGraph e) walk = record walk { text = []; current = Some id }

-- of the pending commits the first of best time, and the others in their order
pub record TakesBest (order : CommitTimeOrder) (pending : List Pending) (taken : Pending) (others : List Pending) : Type 0 where
  pub before : List Pending
  pub behind : List Pending
  pub place : pending ≡ before ++ taken ∷ behind
  pub left : others ≡ before ++ behind
  pub best : (other : Pending) → Contains pending other → IsNoWorse order taken.time other.time
  pub first : (other : Pending) → Contains before other → IsNoWorse order other.time taken.time → ⊥

abbrev pub unrowed : {F P : Type 0} → SimpleWalk F P → ObjectId → SimpleWalk F P
unrowed walk i = record walk { rows = kept_rows walk.rows (row_of walk.rows i) }

-- a time is given where an order by time is in force
abbrev pub time_if : Option CommitTimeOrder → ℤ → Option ℤ
time_if None time = None
time_if (Some order) time = Some time

-- the time that is given with a commit
abbrev pub given_time : {F P : Type 0} → SimpleWalk F P → Pending → Option ℤ
given_time walk taken = time_if (time_order walk.parents walk.sorting) taken.time

module _ {F P : Type 0} (objects : F → Objects) (faulty : F → ObjectId → Type 0) (answers : P → ObjectId → Bool → P → Type 0) where
  -- the predicate is asked, or its yes is remembered
  pub data Asks (old : SimpleWalk F P) (i : ObjectId) : Bool → P → Type 0 where
    remembers : set.contains old.remembered i ≡ true → Asks old i true old.predicate
    asks : {answer : Bool} {predicate : P} → set.contains old.remembered i ≡ false → answers old.predicate i answer predicate → Asks old i answer predicate

  -- the time by which a parent would be taken, or the store's refusal to say it
  pub data ReadsTime (old : SimpleWalk F P) (by_row : Bool) (i : ObjectId) : Result ℤ Treated → Type 0 where
    unasked : time_order old.parents old.sorting ≡ None → ReadsTime old by_row i (Ok (pos 0))
    from_row : {order : CommitTimeOrder} → time_order old.parents old.sorting ≡ Some order → by_row ≡ true
        → ReadsTime old by_row i (Ok (row_time (row_of old.rows i)))
    from_store : {order : CommitTimeOrder} → time_order old.parents old.sorting ≡ Some order → by_row ≡ false
        → ReadsTime old by_row i (Ok (time_of (objects old.store) i))
    store_fails : {order : CommitTimeOrder} → time_order old.parents old.sorting ≡ Some order → by_row ≡ false → faulty old.store i
        → ReadsTime old by_row i (Err StoreFails)

  -- an accepted parent becomes pending, unless it is older than the cutoff
  pub data Enqueues (limit : Option ℤ) (old : List Pending) (i : ObjectId) (time : ℤ) : List Pending → Type 0 where
    dropped : is_older time limit ≡ true → Enqueues limit old i time old
    enqueued : {new : List Pending} → is_older time limit ≡ false → new ≡ old ++ record { id = i; time = time } ∷ [] → Enqueues limit old i time new

  -- what is seen of a walk after a parent was asked about
  abbrev pub asked : SimpleWalk F P → ObjectId → P → List Pending → SimpleWalk F P
  asked old i predicate pending =
      record old { predicate = predicate; pending = pending; seen = set.insert old.seen i; remembered = set.remove old.remembered i }

  -- an id that isn't hidden and wasn't seen
  pub record IsNew (old : SimpleWalk F P) (i : ObjectId) : Type 0 where
    pub open_to : set.contains old.hidden i ≡ false
    pub unseen : set.contains old.seen i ≡ false

  -- one parent of a commit is treated
  pub data Treats (old : SimpleWalk F P) (by_row : Bool) (i : ObjectId) : Treated → SimpleWalk F P → Type 0 where
    hidden : set.contains old.hidden i ≡ true → Treats old by_row i GoesOn old
    known : set.contains old.seen i ≡ true → Treats old by_row i GoesOn old
    refused : {predicate : P} → IsNew old i → Asks old i false predicate → Treats old by_row i GoesOn (asked old i predicate old.pending)
    accepted : {predicate : P} {time : ℤ} {pending : List Pending} → IsNew old i → Asks old i true predicate → ReadsTime old by_row i (Ok time)
        → Enqueues (cutoff old.parents old.sorting) old.pending i time pending
        → Treats old by_row i GoesOn (asked old i predicate pending)
    store_fails : {predicate : P} → IsNew old i → Asks old i true predicate → ReadsTime old by_row i (Err StoreFails)
        → Treats old by_row i StoreFails (asked old i predicate old.pending)
    no_memory : Treats old by_row i NoMemory old
    no_memory_after : {answer : Bool} {predicate : P} {pending : List Pending} → IsNew old i → Asks old i answer predicate
        → (pending ≡ old.pending) ⊎ (pending ≡ []) → Treats old by_row i NoMemory (asked old i predicate pending)

  -- the parents of a commit are treated in order, up to the first that fails
  pub data TreatsAll (by_row : Bool) : SimpleWalk F P → List ObjectId → Treated → SimpleWalk F P → Type 0 where
    none : {old : SimpleWalk F P} → TreatsAll by_row old [] GoesOn old
    more : {old mid new : SimpleWalk F P} {i : ObjectId} {ids : List ObjectId} {how : Treated} → Treats old by_row i GoesOn mid
        → TreatsAll by_row mid ids how new → TreatsAll by_row old (i ∷ ids) how new
    stops : {old new : SimpleWalk F P} {i : ObjectId} {ids : List ObjectId} {how : Treated} → how ≢ GoesOn → Treats old by_row i how new
        → TreatsAll by_row old (i ∷ ids) how new

  -- what making a walk of some tips gives: each is treated as if a parent named it
  abbrev pub IsMade : F → P → List ObjectId → SimpleWalk F P → Type 0
  IsMade store predicate tips walk = TreatsAll false (bare store predicate) tips GoesOn walk

  -- the answer after the parents were treated: the commit, the fault that ended its reading, or what failed
  pub data Concludes (id : ObjectId) (parents : List ObjectId) (generation : Option ℕ) (time : Option ℤ) (text : List ℕ) (fault : Option DecodeError)
      (walk : SimpleWalk F P) : Treated → Result Info Error → SimpleWalk F P → Type 0 where
    given : {info : Info} → fault ≡ None → IsInfo info id parents generation time
        → Concludes id parents generation time text fault walk GoesOn (Ok info) (record walk { text = text; current = Some id })
    broken : {e : DecodeError} → fault ≡ Some e → Concludes id parents generation time text fault walk GoesOn (Err (error.ObjectDecode e))
        (record walk { text = []; current = Some id })
    store_fails : Concludes id parents generation time text fault walk StoreFails (Err (error.Find existing.Store))
        (record walk { text = []; current = Some id })
    no_memory : Concludes id parents generation time text fault walk NoMemory (Err error.Memory) (record walk { text = []; current = Some id; pending = [] })

  -- the commit of a pending id is read and given, or else a fault in its place
  pub data Takes (old : SimpleWalk F P) (taken : Pending) : Result Info Error → SimpleWalk F P → Type 0 where
    by_row : {row : GraphRow} {ids : List ObjectId} {how : Treated} {answer : Result Info Error} {walk new : SimpleWalk F P}
        → row_of old.rows taken.id ≡ Some row → ids_at old.rows row.parents ≡ Some ids → TreatsAll true old (by_mode old.parents ids) how walk
        → Concludes taken.id (by_mode old.parents ids) (Some row.generation) (given_time old taken) [] None walk how answer new → Takes old taken answer new
    by_store : {bytes : List ℕ} {how : Treated} {answer : Result Info Error} {walk new : SimpleWalk F P} → IsUnrowed old.rows taken.id
        → map_of.get (objects old.store) taken.id ≡ Some (record { kind = object.Commit; bytes = bytes })
        → TreatsAll false (unrowed old taken.id) (scanned old.parents (commit_items (kind_of taken.id) bytes)).0 how walk
        → Concludes taken.id (scanned old.parents (commit_items (kind_of taken.id) bytes)).0 None (given_time old taken) bytes
        (scanned old.parents (commit_items (kind_of taken.id) bytes)).1 walk how answer new
        → Takes old taken answer new
    not_found : {e : ExistingError} → IsUnrowed old.rows taken.id → IsExistingFault (objects old.store) (faulty old.store) taken.id object.Commit e
        → Takes old taken (Err (error.Find e)) (record (unrowed old taken.id) { text = []; current = Some taken.id })
    no_memory : {rows : List GraphRow} → (rows ≡ old.rows) ⊎ (rows ≡ kept_rows old.rows (row_of old.rows taken.id))
        → Takes old taken (Err error.Memory) (record old { rows = rows; text = []; current = Some taken.id; pending = [] })

  -- the pending commit whose turn it is, and the others
  pub data Chooses (old : SimpleWalk F P) (taken : Pending) (others : List Pending) : Type 0 where
    first : time_order old.parents old.sorting ≡ None → old.pending ≡ taken ∷ others → Chooses old taken others
    best : {order : CommitTimeOrder} → time_order old.parents old.sorting ≡ Some order → TakesBest order old.pending taken others → Chooses old taken others

  -- one step of a walk whose hidden tips are painted
  pub data Steps (old : SimpleWalk F P) : Option (Result Info Error) → SimpleWalk F P → Type 0 where
    ended : old.pending ≡ [] → Steps old None old
    no_memory : old.pending ≢ [] → Steps old (Some (Err error.Memory)) (record old { text = []; pending = [] })
    took : {taken : Pending} {others : List Pending} {answer : Result Info Error} {new : SimpleWalk F P} → Chooses old taken others
        → Takes (record old { pending = others }) taken answer new → Steps old (Some answer) new

  -- what painting leaves of a walk
  abbrev pub painted : SimpleWalk F P → set.FinSet id_cmp → List GraphRow → SimpleWalk F P
  painted old marks rows = record old { rows = rows; hidden_tips = []; hidden = marks; pending = filter (λ p. not (set.contains marks p.id)) old.pending }

  -- the first call of `next` paints
  pub data FirstStep (old : SimpleWalk F P) : Option (Result Info Error) → SimpleWalk F P → Type 0 where
    unhidden : {answer : Option (Result Info Error)} {new : SimpleWalk F P} → (old.pending ≡ []) ⊎ (old.hidden_tips ≡ [])
        → Steps (record old { hidden_tips = [] }) answer new → FirstStep old answer new
    paints : {marks : set.FinSet id_cmp} {rows : List GraphRow} {answer : Option (Result Info Error)} {new : SimpleWalk F P} → old.pending ≢ []
        → old.hidden_tips ≢ [] → Paints (objects old.store) old.rows (ids_of old.pending) old.hidden_tips marks rows
        → Steps (painted old marks rows) answer new → FirstStep old answer new
    faulty_history : {why : Hidden} {rows : List GraphRow} → old.pending ≢ [] → old.hidden_tips ≢ [] → (rows ≡ old.rows) ⊎ (rows ≡ [])
        → IsHiddenFault (objects old.store) (faulty old.store) old.rows (ids_of old.pending) old.hidden_tips why
        → FirstStep old (Some (Err (error.HiddenGraph why))) (record old { rows = rows; hidden_tips = []; pending = []; text = [] })
    no_memory : {rows : List GraphRow} → old.pending ≢ [] → old.hidden_tips ≢ [] → (rows ≡ old.rows) ⊎ (rows ≡ [])
        → FirstStep old (Some (Err error.Memory)) (record old { rows = rows; hidden_tips = []; pending = []; text = [] })

  -- one call of `next`: only the first one looks at hidden tips
  pub data Next (old : SimpleWalk F P) : Option (Result Info Error) → SimpleWalk F P → Type 0 where
    initial : {answer : Option (Result Info Error)} {new : SimpleWalk F P} → old.begun ≡ false → FirstStep (record old { begun = true }) answer new
        → Next old answer new
    later : {answer : Option (Result Info Error)} {new : SimpleWalk F P} → old.begun ≡ true → Steps old answer new → Next old answer new
