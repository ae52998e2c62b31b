-- What the parts of one step of a simple walk do.
use Rattle.std.specs.Prelude.{◌≡◌, ◌≢◌, ◌⊎◌, ℤ, if◌then◌else◌, List, [], Bool, true, false, Result, Ok, Err}
use Rattle.std.specs.FinSet as set
use Rattle.gix_hash.specs.declared.ObjectId.{ObjectId}
use Rattle.gix_object.specs.Object.{Objects}
use Rattle.gix_commitgraph.specs.Rows.{GraphRow}
pub use Rattle.gix_revwalk.specs.Agreeing.{rows_of}
use Rattle.gix_simple.specs.declared.step.Stop.{Stop}
use Rattle.gix_simple.specs.declared.step.Stop.TheVariants as stop
use Rattle.gix_simple.specs.declared.step.Times.{Times}
use Rattle.gix_simple.specs.declared.step.Times.TheVariants as times
use Rattle.gix_simple.specs.declared.Error.{Error}
use Rattle.gix_simple.specs.declared.Error.TheVariants as error
use Rattle.gix_paint.specs.declared.Hidden.{Hidden}
use Rattle.gix_paint.specs.declared.Painting.{Painting}
use Rattle.gix_hash.specs.Id.{id_cmp}
use Rattle.gix_paint.specs.Painting.{Paints, IsHiddenFault}
use Rattle.gix_simple.specs.Walk.{SimpleWalk, StoreFails, IsNew, ReadsTime, painted}
use Rattle.gix_revwalk.specs.Ids.{ids_of}
use Rattle.gix_revwalk.specs.Pending.{Pending}

abbrev pub in_rows : Times → Bool
in_rows times.InRows = true
in_rows times.InStore = false

module _ {F P : Type 0} (objects : F → Objects) (faulty : F → ObjectId → Type 0) (answers : P → ObjectId → Bool → P → Type 0) where
  -- an id is named: a new one is seen from now on
  abbrev pub Meets : {E : Type 0} → SimpleWalk F P → ObjectId → Result Bool E → SimpleWalk F P → Type 0
  Meets old i (Ok true) new = IsNew objects faulty answers old i × (new ≡ record old { seen = set.insert old.seen i })
  Meets old i (Ok false) new = ((set.contains old.hidden i ≡ true) ⊎ (set.contains old.seen i ≡ true)) × (new ≡ old)
  Meets old i (Err e) new = new ≡ old

  -- the time by which a parent would be taken
  abbrev pub TimeIs : SimpleWalk F P → Bool → ObjectId → Result ℤ Stop → Type 0
  TimeIs old by_row i (Ok time) = ReadsTime objects faulty answers old by_row i (Ok time)
  TimeIs old by_row i (Err stop.Store) = ReadsTime objects faulty answers old by_row i (Err StoreFails)
  TimeIs old by_row i (Err stop.Memory) = Unit {0}

-- what is left where painting marked what is hidden
abbrev pub concealed : {F P : Type 0} → SimpleWalk F P → (shown : List Pending) → Painting → SimpleWalk F P
concealed walk shown painting =
    record walk { pending = shown; hidden = painting.hidden; hidden_tips = []; rows = if painting.rows_in_use then walk.rows else [] }

-- what is left where painting failed
abbrev pub unpainted : {F P : Type 0} → SimpleWalk F P → SimpleWalk F P
unpainted walk = record walk { hidden_tips = []; pending = []; text = [] }

-- the first step hides what hidden tips reach
pub data Hides {F P : Type 0} (objects : F → Objects) (faulty : F → ObjectId → Type 0) (answers : P → ObjectId → Bool → P → Type 0) (old : SimpleWalk F P) : Result (Unit {0}) Error → SimpleWalk F P → Type 0 where
  nothing : (old.pending ≡ []) ⊎ (old.hidden_tips ≡ []) → Hides objects faulty answers old (Ok tt) (record old { hidden_tips = [] })
  paints : {marks : set.FinSet id_cmp} {rows : List GraphRow} → old.pending ≢ [] → old.hidden_tips ≢ [] → Paints (objects old.store) old.rows (ids_of old.pending) old.hidden_tips marks rows → Hides objects faulty answers old (Ok tt) (painted objects faulty answers old marks rows)
  faulty_history : {why : Hidden} → old.pending ≢ [] → old.hidden_tips ≢ [] → IsHiddenFault (objects old.store) (faulty old.store) old.rows (ids_of old.pending) old.hidden_tips why → Hides objects faulty answers old (Err (error.HiddenGraph why)) (unpainted old)
  no_memory : old.pending ≢ [] → old.hidden_tips ≢ [] → Hides objects faulty answers old (Err error.Memory) (unpainted old)
