use Rattle.std.proofs.Common.{◌≤◌, refl, ap, subst, ◌∙◌}
use Rattle.gix_memory_commands.proofs.WholeAnswers.{room_stays, trouble_numbered}
use Rattle.gix_memory_commands.proofs.folder.resolve_in_folder.Goals as goal

pub returns-in-Ok : goal.returns-in-Ok
returns-in-Ok c =
    let lines = c.as_slice.result.now in (
      λ number. (lines, tt, c.put_lines.ensures.answer, c.put_lines.ensures.room),
      λ other. c.put_lines.ensures.room ∙ room_stays lines c.args.room.now (λ none. other (ap (λ answer. answer.number) c.put_lines.ensures.answer ∙ none)),
    )

pub returns-in-Err : goal.returns-in-Err
returns-in-Err c = ((λ number. absurd (trouble_numbered c.in-Err.trouble (subst (λ answer. answer.number ≤ 1) c.of_trouble.ensures number))), λ other. refl)
