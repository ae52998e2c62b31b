use Rattle.std.proofs.Common.{◌≡◌, Ok, Err, IfOk, IfErr, [], Some, refl, ap, subst, ◌∙◌}
use Rattle.std.proofs.lemmas.Result.{err_from_is_err_and}
use Rattle.gix_object.specs.Object.{Objects}
use Rattle.gix_graph_store.specs.WithRows.{with_rows}
use Rattle.gix_statement.specs.WholeStatement as page
use Rattle.gix_statement.proofs.LinesOnce.{named_spelled}
use Rattle.gix_words.specs.Words.{Commits, request_of_command}
use Rattle.gix_commands.specs.Pages.{page_objects}
use Rattle.gix_commands.specs.Readable.{readable, reads_all_lines}
use Rattle.gix_commands.specs.Chosen.{HasObject}
use Rattle.gix_commands.specs.Run.{Serves}
use Rattle.gix_commands.proofs.NamedOnes.{are_named}
use Rattle.gix_batches.specs.Failing.{FailsOver, all_lines_to}
use Rattle.gix_batches.specs.Walks.{FillsBy}
use Rattle.gix_batches.proofs.FilledWalks.{if_err}
use Rattle.gix_batches.proofs.Promised.{fails_over_list, filled_fails, filled_promised, served_over, unstarted_fails}
use Rattle.gix_batches.proofs.try_named.Goals as goal

pub returns-in_err-listing-clause-fails : goal.returns-in_err-listing-clause-fails
returns-in_err-listing-clause-fails c =
    let p = err_from_is_err_and c.from_residual.result c.from_residual.ensures.1 in
    λ words asked. if_err (FailsOver (request_of_command c.args.command.now) c.args.objects.now) _ _ (p.1 ∙ ap (λ f. Err f) p.2) (fails_over_list _ c.args.objects.now c.in_err-listing.ensures.err)

-- these objects, by the page
abbrev IsOf : Objects → page.Objects → Type 0
IsOf o given = page.AreNamed given × (given ≡ page_objects o)

pub returns-clause-whole : goal.returns-clause-whole
returns-clause-whole c = λ words asked.
    let o = c.args.objects.now in
    let request = request_of_command c.args.command.now in
    let l = c.in_ok-listing.listing in
    let is = c.in_ok-listing.ensures.ok in
    let given : IsOf o (page_objects o) = (are_named o c.store.ensures.named, refl) in
    let spelled = named_spelled (page_objects o) given.0 in
    let ok = subst (λ (x : Objects). IfOk c.batch_of.result (λ batch. FillsBy (readable (reads_all_lines (Commits l.order (all_lines_to l.limit) l.ends.tips.items l.ends.hidden.items)) (with_rows [] x)) l.limit l.ends.tips.items l.ends.hidden.items c.args.skip c.args.commits.now c.batch_of.new.commits c.args.parents.now c.batch_of.new.parents batch l.order)) c.store.ensures.exact c.batch_of.ensures.ok in
    filled_promised words o (IsOf o) given spelled (FailsOver request o) l.limit l.ends.tips.items l.ends.hidden.items l.order (asked ∙ ap (λ r. Ok r) is)
    (served_over words o (IsOf o) given spelled request l.order l.limit l.ends.tips.items l.ends.hidden.items is) c.args.skip c.args.commits.now c.batch_of.new.commits c.args.parents.now c.batch_of.new.parents c.batch_of.result ok

pub returns-clause-ending : goal.returns-clause-ending
returns-clause-ending c = λ words asked.
    let o = c.args.objects.now in
    let request = request_of_command c.args.command.now in
    let l = c.in_ok-listing.listing in
    let is = c.in_ok-listing.ensures.ok in
    let given : IsOf o (page_objects o) = (are_named o c.store.ensures.named, refl) in
    let spelled = named_spelled (page_objects o) given.0 in
    let ok = subst (λ (x : Objects). IfOk c.batch_of.result (λ batch. FillsBy (readable (reads_all_lines (Commits l.order (all_lines_to l.limit) l.ends.tips.items l.ends.hidden.items)) (with_rows [] x)) l.limit l.ends.tips.items l.ends.hidden.items c.args.skip c.args.commits.now c.batch_of.new.commits c.args.parents.now c.batch_of.new.parents batch l.order)) c.store.ensures.exact c.batch_of.ensures.ok in
    filled_fails words o (IsOf o) given spelled (FailsOver request o) l.limit l.ends.tips.items l.ends.hidden.items l.order (asked ∙ ap (λ r. Ok r) is)
    (served_over words o (IsOf o) given spelled request l.order l.limit l.ends.tips.items l.ends.hidden.items is) c.args.skip c.args.commits.now c.batch_of.new.commits c.args.parents.now c.batch_of.new.parents c.batch_of.result ok

pub returns-clause-fails : goal.returns-clause-fails
returns-clause-fails c = λ words asked.
    let o = c.args.objects.now in
    let request = request_of_command c.args.command.now in
    let l = c.in_ok-listing.listing in
    let is = c.in_ok-listing.ensures.ok in
    let given : IsOf o (page_objects o) = (are_named o c.store.ensures.named, refl) in
    let spelled = named_spelled (page_objects o) given.0 in
    let err = subst (λ (x : Objects). IfErr c.batch_of.result (λ e. Serves (HasObject x []) (readable (reads_all_lines (Commits l.order (all_lines_to l.limit) l.ends.tips.items l.ends.hidden.items)) (with_rows [] x)) [] (Some []) (Commits l.order (all_lines_to l.limit) l.ends.tips.items l.ends.hidden.items) (Err e) (Some []))) c.store.ensures.exact c.batch_of.ensures.err in
    unstarted_fails words o (IsOf o) given spelled (FailsOver request o) l.limit l.ends.tips.items l.ends.hidden.items l.order (asked ∙ ap (λ r. Ok r) is)
    (served_over words o (IsOf o) given spelled request l.order l.limit l.ends.tips.items l.ends.hidden.items is) c.batch_of.result err c.batch_of.ensures.unwritten
