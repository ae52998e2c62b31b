use Rattle.std.proofs.Common.{[], refl}
use Rattle.gix_words.specs.declared.fault.Fault.TheVariants as fault
use Rattle.gix_batches.specs.declared.commit.Ending.TheVariants.{Failed}
use Rattle.gix_batches.specs.Batches.{gives_none}
use Rattle.gix_batches.specs.Failing.{runs}
use Rattle.gix_commands.specs.Run.{without_memory}
use Rattle.gix_memory_commands.proofs.commits.commits_over_bytes.Goals as goal

pub returns-in-Err-clause-answers : goal.returns-in-Err-clause-answers
returns-in-Err-clause-answers c = record {
  batch = record { commits = 0; parents = 0; ending = Failed fault.Memory };
  promises = gives_none fault.Memory refl refl refl;
  fails = runs [] without_memory (λ e. cc) (λ e. cc) (λ e. cc);
  is = c.of_fault.ensures;
}

pub returns-in-Err-clause-whole : goal.returns-in-Err-clause-whole
returns-in-Err-clause-whole c = record {
  batch = record { commits = 0; parents = 0; ending = Failed fault.Memory };
  promises = gives_none fault.Memory refl refl refl;
  is = c.of_fault.ensures;
}
