-- What a run over a store may answer.
use Rattle.std.proofs.Common.{◌≡◌, ◌≢◌, ℕ, List, Option, Result, Err, sym, subst, ◌∙◌}
use Rattle.gix_commands.proofs.Common.{Objects, GraphRow, Fault, fault_of_disagreement, never_faulty, Request}
use Rattle.gix_graph_check.specs.Sound.{AreSound}
use Rattle.gix_graph_check.specs.declared.Disagreement.{Disagreement}
use Rattle.gix_graph_check.specs.declared.Disagreement.TheVariants as disagreement
use Rattle.gix_graph_store.specs.StoredRows.{StoredDisagrees}
use Rattle.gix_words.specs.declared.fault.Fault.TheVariants as fault
use Rattle.gix_commands.specs.StoredRuns.{FailsToAgree, RunsStored, unsound, disagrees, no_memory, not_agreed}
use Rattle.gix_commands.proofs.RunFacts.{err_same}

-- what is stored isn't as the rows say
pub of_disagreement : (rows : List GraphRow) (objects : Objects) (why : Disagreement) → AreSound rows → StoredDisagrees objects (never_faulty objects) rows why → FailsToAgree rows objects (fault_of_disagreement why)
of_disagreement rows objects (disagreement.Row i) sound d = disagrees i sound d
of_disagreement rows objects (disagreement.Store i) sound d = absurd d.disagrees.1
of_disagreement rows objects disagreement.Memory sound d = no_memory

fails_known : {rows : List GraphRow} {objects : Objects} {e : Fault} → FailsToAgree rows objects e → e ≢ fault.Internal
fails_known (unsound i u) = λ e. cc
fails_known (disagrees i s d) = λ e. cc
fails_known no_memory = λ e. cc

-- the rows can't be used
pub stored_unagreed : (request : Request) (objects : Objects) (rows : List GraphRow) (old : Option (List ℕ)) (result : Result (Unit {0}) Fault) (e : Fault) → result ≡ Err e → FailsToAgree rows objects e → RunsStored request objects rows old result old
stored_unagreed request objects rows old result e same h = subst (λ (r : Result (Unit {0}) Fault). RunsStored request objects rows old r old) (sym same) (not_agreed h)

pub unagreed_sound : {rows : List GraphRow} {objects : Objects} (result : Result (Unit {0}) Fault) (e : Fault) → result ≡ Err e → FailsToAgree rows objects e → result ≢ Err fault.Internal
unagreed_sound result e same h = λ internal. fails_known h (err_same (sym same ∙ internal))
