use Rattle.std.proofs.Common.{◌≡◌, ℕ, subst, ap, List, Option, Some, Ok, false}
use Rattle.gix_commands.specs.Pages.{AreRows, page_objects}
use Rattle.gix_commands.specs.Readable.{readable}
use Rattle.gix_commands.specs.StoredRuns.{RunsStored}
use Rattle.gix_graph_pages.specs.PagedRows.{IsAbove}
use Rattle.gix_graph_store.specs.WithRows.{with_rows}
use Rattle.gix_object.specs.Object.{Objects}
use Rattle.gix_statement.specs.WholeStatement as page
use Rattle.gix_words.specs.Words.{request_of_command}
use Rattle.gix_words.specs.declared.fault.Fault.TheVariants as fault
use Rattle.gix_paged_commands.proofs.PagedAnswers.{answers_over}
use Rattle.gix_paged_commands.specs.Decided.{DecidesRequest}
use Rattle.gix_paged_commands.proofs.run.run_paged.Goals as goal

pub returns-then-branch-clause-whole : goal.returns-then-branch-clause-whole
returns-then-branch-clause-whole g c = λ words asked.
    let graph = c.args.rows.now.graph in
    let request = request_of_command c.args.command.now in
    let nothing = ap (λ (xs : List ℕ). Some xs) c.new-lines.ensures.items in
    answers_over words request asked c.args.objects.now c.args.pages.now graph c.args.rows.now.least _ c.is_part.ensures.rows (c.is_part.ensures.part c.if-not-is_part.false)
    (subst (λ (old : Option (List ℕ)). RunsStored request c.args.objects.now graph old (Ok tt) (Some c.answer.new.writer.items)) nothing c.in_ok-answer.ensures.runs)
    (subst (λ (old : Option (List ℕ)). page.Promises fault.Write words (λ (given : page.Objects) (rows : List page.Row). page.AreNamed given × (given ≡ page_objects c.args.objects.now) × AreRows graph rows) old (Ok tt) (Some c.answer.new.writer.items)) nothing (c.in_ok-answer.ensures.over words asked))
    (subst (λ (stored : Objects). DecidesRequest (IsAbove c.args.pages.now graph c.args.rows.now.least) (readable false (with_rows graph stored)) graph request) c.store.ensures.exact (c.in_ok-is_decided.ensures c.if-branch.true))
