-- No fault of words, of records or of a walk is a writer's.
use Rattle.std.proofs.Common.{◌≡◌, ◌≢◌, ℕ, List, [], Option, Some, None, Result, Err, refl, sym, ap, subst, ◌∙◌}
use Rattle.gix_hash.specs.declared.ObjectId.{ObjectId}
use Rattle.gix_object.specs.Object.{Objects}
use Rattle.gix_object.specs.declared.find.existing_iter.Error.{Error as ExistingError}
use Rattle.gix_object.specs.declared.find.existing_iter.Error.TheVariants as existing
use Rattle.gix_paint.specs.declared.Hidden.TheVariants as hidden_by
use Rattle.gix_records.specs.Records.{IsRecordFault, bad, no_memory}
use Rattle.gix_records.specs.declared.Error.{Error as RecordsError}
use Rattle.gix_revwalk.specs.declared.Info.{Info}
use Rattle.gix_simple.specs.declared.Error.{Error}
use Rattle.gix_simple.specs.declared.Error.TheVariants as error
use Rattle.gix_simple.specs.declared.Sorting.{Sorting}
use Rattle.gix_topo.specs.declared.Error.{Error as TopoError}
use Rattle.gix_topo.specs.declared.Error.TheVariants as topo_error
use Rattle.gix_topo.specs.declared.Sorting.{Sorting as TopoSorting}
use Rattle.gix_words.specs.Faults.{fault_of_find, fault_of_records, fault_of_topo_walk, fault_of_walk}
use Rattle.gix_words.specs.Words.{request_of}
use Rattle.gix_words.specs.declared.fault.Fault.{Fault}
use Rattle.gix_words.specs.declared.fault.Fault.TheVariants as fault
use Rattle.gix_commands.specs.Checked.{Checks}
use Rattle.gix_commands.specs.TopoWalked as topo
use Rattle.gix_commands.specs.Walked.{Answers, Any, Ends, EndsBy, IsStartFault, IsWalkFault, Walk, before, cut_short, enough, failed, finished, unstored}
use Rattle.gix_commands.proofs.CheckedWalks.{IsChecked, from_by, lacking, well}
use Rattle.gix_revwalk.specs.declared.Parents.{Parents}
use Rattle.gix_commands.proofs.LostParents.{lost_so}
use Rattle.gix_commands.proofs.MemoryFaults.{failed_so}
use Rattle.gix_commands.proofs.SameWords.{OfWords, request_words}
use Rattle.gix_batches.specs.Draws.{ids_given}
use Rattle.gix_batches.specs.Walks.{IsItself}

find_unwritten : (e : ExistingError) → fault_of_find e ≢ fault.Write
find_unwritten existing.Store = λ e. cc
find_unwritten other = λ e. cc

walk_unwritten : (e : Error) → fault_of_walk e ≢ fault.Write
walk_unwritten (error.Find e) = find_unwritten e
walk_unwritten (error.HiddenGraph (hidden_by.Find e)) = find_unwritten e
walk_unwritten other = λ e. cc

topo_unwritten : (e : TopoError) → fault_of_topo_walk e ≢ fault.Write
topo_unwritten (topo_error.Find e) = find_unwritten e
topo_unwritten other = λ e. cc

module _ {W E : Type 0} (Steps : W → Option (Result Info E) → W → Type 0) (Tells : E → Fault → Type 0) (tells : (e : E) (f : Fault) → Tells e f → f ≢ fault.Write) (walk : W) (infos : List Info) where
  ends_unwritten : {answer : Result (Unit {0}) Fault} → Ends Steps Tells Any walk infos answer → answer ≢ Err fault.Write
  ends_unwritten (finished new h) = λ e. cc
  ends_unwritten (failed e f new h is) = λ same. tells e f is (let g : f ≡ fault.Write = cc in g)
  ends_unwritten (cut_short info new h) = λ e. cc
  ends_unwritten (unstored info new h none) = λ e. cc

  by_unwritten : (limit : Option ℕ) (answer : Result (Unit {0}) Fault) → EndsBy Steps Tells Any ids_given limit walk infos answer → answer ≢ Err fault.Write
  by_unwritten None answer ends = ends_unwritten ends
  by_unwritten (Some n) _ (enough at h e) = λ e. cc
  by_unwritten (Some n) answer (before ends less) = ends_unwritten ends

-- breadth first
pub simple_by : (limit : Option ℕ) (walk : Walk) (infos : List Info) (e : Fault) → EndsBy Answers IsWalkFault Any ids_given limit walk infos (Err e) → e ≢ fault.Write
simple_by limit walk infos e ends = λ same. by_unwritten Answers IsWalkFault (λ e f is same. walk_unwritten e (sym is ∙ same)) walk infos limit (Err e) ends (ap (λ x. Err x) same)

-- by time
checked_unwritten : (objects : Objects) (walk : Walk) (limit : Option ℕ) (infos : List Info) (answer : Result (Unit {0}) Fault) → IsChecked objects [] Any ids_given walk limit infos answer → answer ≢ Err fault.Write
checked_unwritten objects walk limit infos answer (well ends whole) = by_unwritten Answers IsWalkFault (λ e f is same. walk_unwritten e (sym is ∙ same)) walk infos limit answer ends
checked_unwritten objects walk limit infos _ (lacking {why = why} at h more l) =
    failed_so (λ (r : Result (Unit {0}) Fault). r ≢ Err fault.Write) (λ e. cc) (Err why) why refl
    (λ other same. lost_so (λ f. f ≢ fault.Write) (λ i e. cc) (λ i e. cc) (λ e. cc) objects [] l.last.parent_ids.items why (l.lacks other) (let g : why ≡ fault.Write = cc in g))

pub checked_by : (objects : Objects) (walk : Walk) (limit : Option ℕ) (infos : List Info) (e : Fault) → EndsBy Checks IsItself Any ids_given limit (record { walk = walk; objects = objects; rows = []; lost = None }) infos (Err e) → e ≢ fault.Write
checked_by objects walk limit infos e ends = λ same. checked_unwritten objects walk limit infos (Err e) (from_by objects [] Any ids_given walk limit infos (Err e) ends) (ap (λ x. Err x) same)

-- topological
pub topo_by : (limit : Option ℕ) (walk : topo.Walk) (infos : List Info) (e : Fault) → EndsBy topo.Answers topo.IsWalkFault Any ids_given limit walk infos (Err e) → e ≢ fault.Write
topo_by limit walk infos e ends = λ same. by_unwritten topo.Answers topo.IsWalkFault (λ e f is same. topo_unwritten e (sym is ∙ same)) walk infos limit (Err e) ends (ap (λ x. Err x) same)

-- a walk that can't start
module _ (e : Fault) where
  start_of : (e ≢ fault.Memory → e ≢ fault.Write) → e ≢ fault.Write
  start_of h = λ same. failed_so (λ (r : Result (Unit {0}) Fault). r ≢ Err fault.Write) (λ m. cc) (Err e) e refl (λ other again. h other (let g : e ≡ fault.Write = cc in g)) (ap (λ x. Err x) same)

  pub start_unwritten : (objects : Objects) (by : Sorting) (tips : List ObjectId) → IsStartFault objects by tips e → e ≢ fault.Write
  start_unwritten objects by tips h = start_of (λ other same. walk_unwritten (h other).0 (sym (h other).2 ∙ same))

  pub build_unwritten : (objects : Objects) (m : Parents) (by : TopoSorting) (tips ends : List ObjectId) → topo.IsStartFault objects [] m by tips ends e → e ≢ fault.Write
  build_unwritten objects m by tips ends h = start_of (λ other same. topo_unwritten (h other).0 (sym (h other).2 ∙ same))

-- words and records
pub words_unwritten : (words : List (List ℕ)) (e : Fault) → (e ≢ fault.Memory → request_of words ≡ Err e) → e ≢ fault.Write
words_unwritten words e h = λ is. subst OfWords (h (λ memory. cc) ∙ ap (λ x. Err x) is) (request_words words)

pub records_unwritten : {text : List ℕ} {e : RecordsError} → IsRecordFault text e → fault_of_records e ≢ fault.Write
records_unwritten (bad b) = λ e. cc
records_unwritten (no_memory front r rest behind begins is) = λ e. cc
