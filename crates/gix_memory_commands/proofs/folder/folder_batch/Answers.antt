use Rattle.std.proofs.Common.{List, ℕ, ap, subst, map, string_bytes, ◌∙◌}
use Rattle.gix_statement.specs.WholeStatement.{AreNamed}
use Rattle.gix_batches.specs.Batches.{Promises}
use Rattle.gix_memory_commands.proofs.folder.folder_batch.Goals as goal

pub returns-clause-gives : goal.returns-clause-gives
returns-clause-gives c =
    subst (λ (words : List (List ℕ)). Promises words AreNamed c.args.skip c.args.commits.now c.batch.new.commits c.args.parents.now c.batch.new.parents c.in_ok-given.given)
    (ap (map string_bytes) c.deref.ensures.value ∙ c.in_ok-words.ensures)
    (c.in_ok-given.ensures.named (map string_bytes c.deref.result.now) c.in_ok-command.ensures)
