-- A fault is out of memory, or another.
use Rattle.std.proofs.Common.{◌≡◌, ◌≢◌, Result, Err, sym, subst}
use Rattle.gix_commands.proofs.Common.{Fault}
use Rattle.gix_words.specs.declared.fault.Fault.TheVariants as fault

module _ (P : Result (Unit {0}) Fault → Type 0) (memory : P (Err fault.Memory)) where
  of_fault : (e : Fault) → (e ≢ fault.Memory → P (Err e)) → P (Err e)
  of_fault fault.Memory h = memory
  of_fault e h = h (λ is. cc)

  -- what holds of out of memory, and of the fault where it is another, holds of an answer with that fault
  pub failed_so : (answer : Result (Unit {0}) Fault) (e : Fault) → answer ≡ Err e → (e ≢ fault.Memory → P (Err e)) → P answer
  failed_so answer e same h = subst P (sym same) (of_fault e h)
