use Rattle.gix_memory_commands.specs.FolderAnswers.{failed, given}
use Rattle.gix_memory_commands.specs.declared.trouble.Trouble.TheVariants as trouble
use Rattle.gix_memory_commands.proofs.folder.commits_over_folder.Goals as goal

pub returns-in-Ok : goal.returns-in-Ok
returns-in-Ok c = record { whole = given (record { batch = c.in-Ok.batch; promises = c.in-Ok.ensures.gives; is = c.of_batch.ensures }) }

pub returns-in-Err-check_none : goal.returns-in-Err-check_none
returns-in-Err-check_none c = record {
  whole = failed (trouble.Command _) c.of_fault.ensures c.in-Err-Command-Usage.ensures.commits_stay c.in-Err-Command-Usage.ensures.parents_stay;
}

pub returns-in-Err : goal.returns-in-Err
returns-in-Err c = record { whole = failed _ c.of_trouble.ensures c.in-Err.ensures.commits_stay c.in-Err.ensures.parents_stay }
