use Rattle.std.proofs.Common.{◌≢◌, [], Err, refl, sym, subst, ap, ◌∙◌}
use Rattle.std.proofs.lemmas.Result.{err_from_is_err_and}
use Rattle.gix_graph_store.specs.WithRows.{with_rows}
use Rattle.gix_words.specs.Words.{Commits}
use Rattle.gix_words.specs.declared.fault.Fault.TheVariants as fault
use Rattle.gix_words.specs.declared.words.Order.{Order}
use Rattle.gix_commands.specs.Checked.{CheckedWalk, Checks}
use Rattle.gix_commands.specs.Readable.{readable, reads_all_lines}
use Rattle.gix_commands.proofs.RunFacts.{serves_no_topo, serves_no_walk}
use Rattle.gix_batches.specs.Failing.{all_lines_to}
use Rattle.gix_batches.specs.Draws.{Fills}
use Rattle.gix_batches.specs.Walks.{FillsBy, IsItself, down, timed}
use Rattle.gix_batches.proofs.FilledWalks.{breadth_by, if_err, unstarted}
use Rattle.gix_batches.proofs.Unwritten.{build_unwritten, start_unwritten}
use Rattle.gix_batches.proofs.batch_of.Goals as goal

pub returns-in_err-walk-in-Simple-clause-err : goal.returns-in_err-walk-in-Simple-clause-err
returns-in_err-walk-in-Simple-clause-err c =
    let p = err_from_is_err_and c.from_residual.result c.from_residual.ensures.1 in
    unstarted _ _ _ _ _ _ _ _ _ c.in-Simple.is (p.1 ∙ ap (λ f. Err f) p.2) (serves_no_walk _ _ _ _ _ _ _ _ _ (Err _) _ refl c.in_err-walk-in-Simple.ensures.err)

pub returns-in-BreadthFirst-clause-ok : goal.returns-in-BreadthFirst-clause-ok
returns-in-BreadthFirst-clause-ok c =
    subst (λ (o : Order). FillsBy (readable (reads_all_lines (Commits o (all_lines_to c.args.listing.limit) c.args.listing.ends.tips.items c.args.listing.ends.hidden.items)) (with_rows [] c.args.store.now)) c.args.listing.limit c.args.listing.ends.tips.items c.args.listing.ends.hidden.items c.args.skip c.args.commits.now c.fill_from.new.commits c.args.parents.now c.fill_from.new.parents c.fill_from.result o) (sym c.in-Simple.is)
    (breadth_by _ _ _ _ _ _ _ _ _ _ _ _ c.in-BreadthFirst.is _ c.in_ok-walk-in-Simple.ensures.ok c.fill_from.ensures)

pub returns-in_default-clause-ok : goal.returns-in_default-clause-ok
returns-in_default-clause-ok c =
    subst (λ (o : Order). FillsBy (readable (reads_all_lines (Commits o (all_lines_to c.args.listing.limit) c.args.listing.ends.tips.items c.args.listing.ends.hidden.items)) (with_rows [] c.args.store.now)) c.args.listing.limit c.args.listing.ends.tips.items c.args.listing.ends.hidden.items c.args.skip c.args.commits.now c.fill_from-in-Simple.new.commits c.args.parents.now c.fill_from-in-Simple.new.parents c.fill_from-in-Simple.result o) (sym c.in-Simple.is)
    (timed _ c.in_default.not-BreadthFirst c.in_ok-walk-in-Simple.ensures.ok
    (subst (λ (w : CheckedWalk). Fills Checks IsItself c.args.listing.limit c.args.skip w c.args.commits.now c.fill_from-in-Simple.new.commits c.args.parents.now c.fill_from-in-Simple.new.parents c.fill_from-in-Simple.result) c.new-checked.ensures c.fill_from-in-Simple.ensures))

pub returns-in_err-walk-in-Topo-clause-err : goal.returns-in_err-walk-in-Topo-clause-err
returns-in_err-walk-in-Topo-clause-err c =
    let p = err_from_is_err_and c.from_residual-in_err-walk-in-Topo.result c.from_residual-in_err-walk-in-Topo.ensures.1 in
    unstarted _ _ _ _ _ _ _ _ _ c.in-Topo.is (p.1 ∙ ap (λ f. Err f) p.2) (serves_no_topo _ _ _ _ _ _ _ _ _ (Err _) _ refl c.in_err-walk-in-Topo.ensures.err)

pub returns-in_ok-walk-in-Topo-clause-ok : goal.returns-in_ok-walk-in-Topo-clause-ok
returns-in_ok-walk-in-Topo-clause-ok c =
    subst (λ (o : Order). FillsBy (readable (reads_all_lines (Commits o (all_lines_to c.args.listing.limit) c.args.listing.ends.tips.items c.args.listing.ends.hidden.items)) (with_rows [] c.args.store.now)) c.args.listing.limit c.args.listing.ends.tips.items c.args.listing.ends.hidden.items c.args.skip c.args.commits.now c.fill_from-in-Topo.new.commits c.args.parents.now c.fill_from-in-Topo.new.parents c.fill_from-in-Topo.result o) (sym c.in-Topo.is)
    (down _ c.in_ok-walk-in-Topo.ensures.ok c.fill_from-in-Topo.ensures)

pub returns-in_err-walk-in-Simple-clause-unwritten : goal.returns-in_err-walk-in-Simple-clause-unwritten
returns-in_err-walk-in-Simple-clause-unwritten c =
    let p = err_from_is_err_and c.from_residual.result c.from_residual.ensures.1 in
    if_err (λ f. f ≢ fault.Write) _ _ (p.1 ∙ ap (λ f. Err f) p.2) (start_unwritten _ _ _ _ c.in_err-walk-in-Simple.ensures.err)

pub returns-in_err-walk-in-Topo-clause-unwritten : goal.returns-in_err-walk-in-Topo-clause-unwritten
returns-in_err-walk-in-Topo-clause-unwritten c =
    let p = err_from_is_err_and c.from_residual-in_err-walk-in-Topo.result c.from_residual-in_err-walk-in-Topo.ensures.1 in
    if_err (λ f. f ≢ fault.Write) _ _ (p.1 ∙ ap (λ f. Err f) p.2) (build_unwritten _ _ _ _ _ _ c.in_err-walk-in-Topo.ensures.err)
