use Rattle.std.proofs.Common.{◌≡◌, List, [], ℕ, Result, Ok, Some, refl, ap, subst, map, string_bytes, ◌∙◌}
use Rattle.gix_commands.proofs.Promised.{promises_more}
use Rattle.gix_statement.specs.WholeStatement.{AreNamed, Objects, Promises, Row}
use Rattle.gix_words.specs.declared.fault.Fault.{Fault}
use Rattle.gix_words.specs.declared.fault.Fault.TheVariants as fault
use Rattle.gix_memory_commands.proofs.folder.folder_lines.Goals as goal

pub returns-in-Ok : goal.returns-in-Ok
returns-in-Ok c =
    let promised : (words : List (List ℕ)) (ended : Result (Unit {0}) Fault) → Type 0 = λ words ended. Promises fault.Write words (λ (objects : Objects) (rows : List Row). AreNamed objects × (rows ≡ [])) (Some []) ended (Some c.in_ok-answered.answered.lines.items) in
    subst (λ words. promised words (Ok tt)) (ap (map string_bytes) c.deref.ensures.value ∙ c.in_ok-words.ensures)
    (subst (promised (map string_bytes c.deref.result.now)) c.in-Ok.is
    (promises_more (λ objects rows given. (given.0, given.2)) (map string_bytes c.deref.result.now) (Some []) c.in_ok-answered.answered.ended
    (Some c.in_ok-answered.answered.lines.items) (c.in_ok-answered.ensures.named (map string_bytes c.deref.result.now) c.in_ok-command.ensures refl)))
