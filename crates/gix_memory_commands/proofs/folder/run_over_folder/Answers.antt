use Rattle.std.proofs.Common.{◌≤◌, inl, inr, refl, sym, ap, subst, ◌∙◌}
use Rattle.gix_memory_commands.specs.Nothing.{LinesOfNone}
use Rattle.gix_memory_commands.specs.Room.{PromisesNamed}
use Rattle.gix_memory_commands.proofs.WholeAnswers.{numbered, room_stays, trouble_numbered}
use Rattle.gix_memory_commands.proofs.folder.run_over_folder.Goals as goal

pub returns-in-Ok : goal.returns-in-Ok
returns-in-Ok c =
    let lines = c.as_slice.result.now in
    record {
      whole = (
        λ number. (lines, inl (subst (PromisesNamed c.args.words.now) (sym c.as_slice.ensures.value) c.in-Ok.ensures), c.put_lines.ensures.answer, c.put_lines.ensures.room),
        λ other. c.put_lines.ensures.room ∙ room_stays lines c.args.room.now (λ none. other (ap (λ answer. answer.number) c.put_lines.ensures.answer ∙ none)),
      );
    }

pub returns-in-Err : goal.returns-in-Err
returns-in-Err c = record { whole = ((λ number. absurd (trouble_numbered _ (subst (λ answer. answer.number ≤ 1) c.of_trouble.ensures number))), λ other. refl) }

pub returns-in-Err-lines_of_none : goal.returns-in-Err-lines_of_none
returns-in-Err-lines_of_none c = record { whole = ((λ number. absurd (numbered _ (subst (λ answer. answer.number ≤ 1) c.of_fault.ensures number))), λ other. refl) }
