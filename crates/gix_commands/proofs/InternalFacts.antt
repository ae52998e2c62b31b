-- A store that is held in memory doesn't fail.
use Rattle.std.proofs.Common.{◌≢◌, ℕ, ℤ, List, Bool, Option, Some, None, Result, Ok, Err, sym, ap, ◌∙◌}
use Rattle.gix_commands.proofs.Common.{ObjectId, IsExistingFault, Objects, GraphRow, Info, Pending, Treated, StoreFails, NoMemory, ReadsTime, unasked, from_row, from_store, store_fails, Treats, hidden, known, accepted, no_memory_after}
use Rattle.gix_commands.proofs.Common.{TreatsAll, none, more, stops, Concludes, broken, Takes, by_row, by_store, Steps, took, FirstStep, unhidden, paints, faulty_history, initial, later, fault_of_find, fault_of_walk, fault_of_search, IsAgreeing}
use Rattle.gix_commands.proofs.Common.{FailsAtStart, objects_of, never_faulty, accepts_all}
use Rattle.gix_object.specs.declared.Kind.{Kind}
use Rattle.gix_object.specs.declared.Kind.TheVariants as object
use Rattle.gix_object.specs.declared.decode.Error.{Error as DecodeError}
use Rattle.gix_object.specs.declared.find.existing_iter.Error.{Error as ExistingError}
use Rattle.gix_object.specs.declared.find.existing_iter.Error.TheVariants as existing
use Rattle.gix_contained.specs.declared.Error.{Error as SearchError}
use Rattle.gix_contained.specs.Contained.{error_of, FailsBy}
use Rattle.gix_merge_base.specs.Bases as base
use Rattle.gix_simple.specs.declared.Error.{Error}
use Rattle.gix_simple.specs.declared.Error.TheVariants as error
use Rattle.gix_paint.specs.declared.Hidden.{Hidden}
use Rattle.gix_paint.specs.declared.Hidden.TheVariants as hidden_by
use Rattle.gix_simple.specs.declared.Sorting.{Sorting}
use Rattle.gix_simple.specs.Walk.{GoesOn, refused, no_memory, given, not_found, ended}
use Rattle.gix_paint.specs.Painting.{IsFaultAt, IsHiddenFault}
use Rattle.gix_simple.specs.Building.{IsTipFault}
use Rattle.gix_words.specs.declared.fault.Fault.TheVariants as fault
use Rattle.gix_commands.specs.Walked.{Walk, Answers}

-- an answer that reports no failing store
abbrev pub IsSound : Option (Result Info Error) → Type 0
IsSound None = Unit {0}
IsSound (Some (Ok info)) = Unit {0}
IsSound (Some (Err e)) = fault_of_walk e ≢ fault.Internal

abbrev IsRead : Result ℤ Treated → Type 0
IsRead (Ok time) = Unit {0}
IsRead (Err how) = ⊥

abbrev Goes : Treated → Type 0
Goes GoesOn = Unit {0}
Goes StoreFails = ⊥
Goes NoMemory = Unit {0}

pub find_sound : (objects : Objects) (i : ObjectId) (k : Kind) (e : ExistingError) → IsExistingFault objects (never_faulty objects) i k e → fault_of_find e ≢ fault.Internal
find_sound objects i k existing.Store h = absurd h
find_sound objects i k (existing.NotFound oid) h = λ e. cc
find_sound objects i k (existing.ObjectKind oid wanted actual) h = λ e. cc
find_sound objects i k existing.Memory h = absurd h

read_sound : {old : Walk} {told : Bool} {i : ObjectId} {r : Result ℤ Treated} → ReadsTime objects_of never_faulty accepts_all old told i r → IsRead r
read_sound (unasked n) = tt
read_sound (from_row o b) = tt
read_sound (from_store o b) = tt
read_sound (store_fails o b f) = f

treats_sound : {old : Walk} {told : Bool} {i : ObjectId} {how : Treated} {new : Walk} → Treats objects_of never_faulty accepts_all old told i how new → Goes how
treats_sound (hidden h) = tt
treats_sound (known h) = tt
treats_sound (refused n a) = tt
treats_sound (accepted n a r q) = tt
treats_sound (store_fails n a r) = read_sound r
treats_sound no_memory = tt
treats_sound (no_memory_after n a p) = tt

all_sound : {told : Bool} {old : Walk} {ids : List ObjectId} {how : Treated} {new : Walk} → TreatsAll objects_of never_faulty accepts_all told old ids how new → Goes how
all_sound none = tt
all_sound (more t h) = all_sound h
all_sound (stops n t) = treats_sound t

concludes_sound : {id : ObjectId} {parents : List ObjectId} {generation : Option ℕ} {time : Option ℤ} {text : List ℕ} {read : Option DecodeError} {walk : Walk} {how : Treated} {answer : Result Info Error} {new : Walk}
    → Concludes objects_of never_faulty accepts_all id parents generation time text read walk how answer new → Goes how → IsSound (Some answer)
concludes_sound (given f i) h = tt
concludes_sound (broken f) h = λ e. cc
concludes_sound store_fails h = absurd h
concludes_sound no_memory h = λ e. cc

takes_sound : {old : Walk} {taken : Pending} {answer : Result Info Error} {new : Walk} → Takes objects_of never_faulty accepts_all old taken answer new → IsSound (Some answer)
takes_sound (by_row r i t c) = concludes_sound c (all_sound t)
takes_sound (by_store u g t c) = concludes_sound c (all_sound t)
takes_sound {old} {taken} (not_found {e = e} u f) = find_sound old.store taken.id object.Commit e f
takes_sound (no_memory r) = λ e. cc

steps_sound : {old : Walk} {answer : Option (Result Info Error)} {new : Walk} → Steps objects_of never_faulty accepts_all old answer new → IsSound answer
steps_sound (ended e) = tt
steps_sound (no_memory p) = λ e. cc
steps_sound (took c t) = takes_sound t

history_sound : (objects : Objects) (rows : List GraphRow) (tips hidden_tips : List ObjectId) (why : Hidden) → IsHiddenFault objects (never_faulty objects) rows tips hidden_tips why → fault_of_walk (error.HiddenGraph why) ≢ fault.Internal
history_sound objects rows tips hidden_tips (hidden_by.Find e) h = find_sound objects h.id object.Commit e h.fault
history_sound objects rows tips hidden_tips (hidden_by.ObjectDecode e) h = λ e. cc

fault_sound : (objects : Objects) (i : ObjectId) (why : Hidden) → IsFaultAt objects (never_faulty objects) i why → fault_of_search (error_of why) ≢ fault.Internal
fault_sound objects i (hidden_by.Find existing.Memory) h = absurd h
fault_sound objects i (hidden_by.Find e) h = find_sound objects i object.Commit e h
fault_sound objects i (hidden_by.ObjectDecode e) h = λ s. cc

-- nor does a call that asks which ids are contained
pub contained_sound : (objects : Objects) (rows : List GraphRow) (tips ids : List ObjectId) (e : SearchError) → FailsBy objects (never_faulty objects) rows tips ids e → fault_of_search e ≢ fault.Internal
contained_sound objects rows tips ids e (why, f, is) same = fault_sound objects f.id why f.fault (sym (ap fault_of_search is) ∙ same)

-- nor does a call that asks for common ancestors
pub bases_sound : (objects : Objects) (rows : List GraphRow) → IsAgreeing objects rows → (one : ObjectId) (others : List ObjectId) (e : SearchError) → base.FailsBy objects (never_faulty objects) rows one others e → fault_of_search e ≢ fault.Internal
bases_sound objects rows agreeing one others e fails same = let f = fails agreeing in fault_sound objects f.id f.why f.fault (sym (ap fault_of_search f.is) ∙ same)

first_sound : {old : Walk} {answer : Option (Result Info Error)} {new : Walk} → FirstStep objects_of never_faulty accepts_all old answer new → IsSound answer
first_sound (unhidden h s) = steps_sound s
first_sound (paints p t m s) = steps_sound s
first_sound {old} (faulty_history {why = why} p t r f) = history_sound old.store old.rows _ _ why f
first_sound (no_memory p t r) = λ e. cc

-- no answer of a walk reports a failing store
pub next_sound : {old : Walk} {answer : Option (Result Info Error)} {new : Walk} → Answers old answer new → IsSound answer
next_sound (initial b s) = first_sound s
next_sound (later b s) = steps_sound s

tip_sound : (objects : Objects) (i : ObjectId) (e : Error) → IsTipFault objects (never_faulty objects) i e → fault_of_walk e ≢ fault.Internal
tip_sound objects i (error.Find e) h = find_sound objects i object.Commit e h
tip_sound objects i (error.ObjectDecode e) h = λ e. cc
tip_sound objects i (error.HiddenGraph e) h = absurd h
tip_sound objects i error.Memory h = λ e. cc

-- nor does the start of one
pub start_sound : {objects : Objects} {by : Sorting} {tips : List ObjectId} {e : Error} → FailsAtStart objects by tips e → fault_of_walk e ≢ fault.Internal
start_sound {e = e} f = tip_sound f.made.store f.fails.tip.id e f.fails.fault
