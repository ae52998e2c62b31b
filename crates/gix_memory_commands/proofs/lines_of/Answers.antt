use Rattle.std.proofs.Common.{Err, IfErr, ◌∙◌, ap, sym, subst}
use Rattle.std.proofs.lemmas.Result.{err_from_is_err_and}
use Rattle.gix_memory_commands.specs.Answers.{FailsOver}
use Rattle.gix_memory_commands.proofs.WithoutMemory.{fails_for_memory}
use Rattle.gix_memory_commands.proofs.lines_of.Goals as goal

pub returns-in_err-words-clause-err : goal.returns-in_err-words-clause-err
returns-in_err-words-clause-err c =
    let p = err_from_is_err_and c.from_residual.result c.from_residual.ensures.1 in
    subst (λ answer. IfErr answer (λ e. FailsOver c.args.words.now c.args.records.now e)) (sym (p.1 ∙ ap (λ f. Err f) p.2)) fails_for_memory

-- a writer in memory fails only where memory runs out
pub returns-in-Err-Write-clause-err : goal.returns-in-Err-Write-clause-err
returns-in-Err-Write-clause-err c = fails_for_memory
