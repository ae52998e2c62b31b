-- A run for which memory runs out before it begins.
use Rattle.std.proofs.Common.{ℕ, List, []}
use Rattle.gix_words.specs.declared.fault.Fault.TheVariants as fault
use Rattle.gix_commands.specs.Run.{without_memory}
use Rattle.gix_memory_commands.specs.Answers.{FailsOver}

pub fails_for_memory : {words records : List ℕ} → FailsOver words records fault.Memory
fails_for_memory = record { lines = []; runs = without_memory; given = λ same. cc; written = λ same. cc; sound = λ same. cc }
