-- A topological walk over records ends by no internal fault: its store doesn't fail, and with rows that agree, or agreeing, nothing that it
-- counted is missing.
use Rattle.std.proofs.Common.{◌≢◌, List, [], ◌∷◌, Option, Some, None, Result, Ok, Err, sym, subst}
use Rattle.gix_commands.proofs.Common.{Yields, YieldsThen, ObjectId, Objects, GraphRow, Info, Parents, IsAgreeing, TopoPlan, IsFault, fault_of_topo_walk, plan_from, IsBuiltFrom, objects_of, never_faulty}
use Rattle.gix_object.specs.declared.Kind.TheVariants as object
use Rattle.gix_topo.specs.declared.Error.{Error}
use Rattle.gix_topo.specs.declared.Error.TheVariants as error
use Rattle.gix_topo.specs.declared.Sorting.{Sorting}
use Rattle.gix_topo.specs.Walk.{ended, given, refused, failed}
use Rattle.gix_words.specs.declared.fault.Fault.TheVariants as fault
use Rattle.gix_commands.specs.TopoWalked.{Walk, Answers}
use Rattle.gix_commands.proofs.InternalFacts.{find_sound}

-- an answer that reports no failing store and nothing that is missing
abbrev IsSound : Option (Result Info Error) → Type 0
IsSound None = Unit {0}
IsSound (Some (Ok info)) = Unit {0}
IsSound (Some (Err e)) = fault_of_topo_walk e ≢ fault.Internal

fault_sound : (plan : TopoPlan Objects) (BecomesReady : ObjectId → Type 0) (e : Error) → IsAgreeing plan.store plan.rows → IsFault objects_of never_faulty plan BecomesReady e → fault_of_topo_walk e ≢ fault.Internal
fault_sound plan ready error.MissingIndegreeUnexpected agreeing h = absurd (h agreeing)
fault_sound plan ready error.MissingStateUnexpected agreeing h = absurd h
fault_sound plan ready (error.ObjectDecode e) agreeing h = λ e. cc
fault_sound plan ready (error.Find e) agreeing h = find_sound plan.store h.0 object.Commit e h.1
fault_sound plan ready error.Memory agreeing h = λ e. cc

next_sound : {old new : Walk} {answer : Option (Result Info Error)} → IsAgreeing old.plan.store old.plan.rows → Answers old answer new → IsSound answer
next_sound agreeing (ended e) = tt
next_sound agreeing (given t a i) = tt
next_sound agreeing (refused t a h) = next_sound agreeing h
next_sound {old} agreeing (failed c others {e = e} h f late) = fault_sound old.plan _ e agreeing f

-- rows and store stay
next_agreeing : {old new : Walk} {answer : Option (Result Info Error)} → IsAgreeing old.plan.store old.plan.rows → Answers old answer new → IsAgreeing new.plan.store new.plan.rows
next_agreeing agreeing (ended e) = agreeing
next_agreeing agreeing (given t a i) = agreeing
next_agreeing agreeing (refused t a h) = next_agreeing agreeing h
next_agreeing agreeing (failed c others h f late) = agreeing

yields_agreeing : (walk new : Walk) (list : List (Result Info Error)) → IsAgreeing walk.plan.store walk.plan.rows → Yields Answers walk list new → IsAgreeing new.plan.store new.plan.rows
yields_agreeing walk new [] agreeing h = subst (λ (w : Walk). IsAgreeing w.plan.store w.plan.rows) h agreeing
yields_agreeing walk new (answer ∷ list) agreeing h = yields_agreeing h.0 new list (next_agreeing agreeing h.1) h.2

-- no answer of a walk does so
pub drawn_sound : (walk new : Walk) (list : List (Result Info Error)) (e : Error) → IsAgreeing walk.plan.store walk.plan.rows → YieldsThen Answers walk list (Some (Err e)) new → fault_of_topo_walk e ≢ fault.Internal
drawn_sound walk new list e agreeing h = next_sound (yields_agreeing walk h.0 list agreeing h.1) h.2

pub built_agreeing : {objects : Objects} {rows : List GraphRow} {m : Parents} {by : Sorting} {tips ends : List ObjectId} {walk : Walk} → IsBuiltFrom objects rows m by tips ends (Ok walk) → IsAgreeing objects rows → IsAgreeing walk.plan.store walk.plan.rows
built_agreeing built agreeing = subst (λ (plan : TopoPlan Objects). IsAgreeing plan.store plan.rows) (sym built.0.plan) agreeing

-- nor does the start of one
pub build_sound : (objects : Objects) (rows : List GraphRow) → IsAgreeing objects rows → (m : Parents) (by : Sorting) (tips ends : List ObjectId) (e : Error) → IsBuiltFrom objects rows m by tips ends (Err e) → fault_of_topo_walk e ≢ fault.Internal
build_sound objects rows agreeing m by tips ends e h = fault_sound (plan_from objects rows m by tips ends) _ e agreeing h.1
