use Rattle.std.proofs.Common.{◌≤◌, Ok, refl, sym, ap, subst, ◌∙◌}
use Rattle.gix_memory_commands.specs.Answers.{Answers, RunsOver, ran, failed}
use Rattle.gix_memory_commands.specs.Room.{answer_to, PromisesOver}
use Rattle.gix_memory_commands.proofs.WholeAnswers.{numbered, room_stays}
use Rattle.gix_memory_commands.proofs.run_over_bytes.Goals as goal

pub returns-in-Ok-clause-answers : goal.returns-in-Ok-clause-answers
returns-in-Ok-clause-answers c =
    let lines = c.as_slice.result.now in
    let runs = subst (RunsOver c.args.words.now c.args.records.now (Ok tt)) (sym c.as_slice.ensures.value) c.in-Ok.ensures.ok in
    let told = Answers c.args.words.now c.args.records.now c.args.room.now in
    subst (λ answer. told answer c.put_lines.new.room) (sym c.put_lines.ensures.answer)
    (subst (told (answer_to lines c.args.room.now)) (sym c.put_lines.ensures.room) (ran lines runs))

pub returns-in-Ok-clause-whole : goal.returns-in-Ok-clause-whole
returns-in-Ok-clause-whole c =
    let lines = c.as_slice.result.now in (
      λ number. (lines, subst (PromisesOver c.args.words.now c.args.records.now) (sym c.as_slice.ensures.value) c.in-Ok.ensures.whole, c.put_lines.ensures.answer, c.put_lines.ensures.room),
      λ other. c.put_lines.ensures.room ∙ room_stays lines c.args.room.now (λ none. other (ap (λ answer. answer.number) c.put_lines.ensures.answer ∙ none)),
    )

pub returns-in-Err-clause-answers : goal.returns-in-Err-clause-answers
returns-in-Err-clause-answers c =
    subst (λ answer. Answers c.args.words.now c.args.records.now c.args.room.now answer c.args.room.now) (sym c.of_fault.ensures) (failed c.in-Err.fault c.in-Err.ensures.err)

pub returns-in-Err-clause-whole : goal.returns-in-Err-clause-whole
returns-in-Err-clause-whole c =
    ((λ number. absurd (numbered c.in-Err.fault (subst (λ answer. answer.number ≤ 1) c.of_fault.ensures number))), λ other. refl)
