use Rattle.std.proofs.Common.{Err, sym, ◌∙◌, ap, subst}
use Rattle.gix_commands.proofs.Common.{err_from_is_err_and, rows_in, Commits, Order}
use Rattle.gix_commands.specs.Run.{ServesOver}
use Rattle.gix_commands.proofs.RunFacts.{serves_checked, serves_walk, serves_no_walk, serves_topo, serves_no_topo}
use Rattle.gix_commands.proofs.serve_commits.Goals as goal

pub returns-in_err-walk-in-Simple : goal.returns-in_err-walk-in-Simple
returns-in_err-walk-in-Simple g c =
    let p = err_from_is_err_and c.from_residual.result c.from_residual.ensures.1 in
    let old = g.W.Write.contents c.args.writer.now in
    subst (λ (o : Order). ServesOver c.args.store.now (rows_in c.args.graph) old (Commits o c.args.listing.shown c.args.listing.ends.tips.items c.args.listing.ends.hidden.items) c.from_residual.result old) (sym c.in-Simple.is)
    (serves_no_walk _ _ _ _ _ _ _ _ _ _ _ (p.1 ∙ ap (λ f. Err f) p.2) c.in_err-walk-in-Simple.ensures.err)

pub returns-in-BreadthFirst : goal.returns-in-BreadthFirst
returns-in-BreadthFirst g c =
    subst (λ (o : Order). ServesOver c.args.store.now (rows_in c.args.graph) (g.W.Write.contents c.args.writer.now) (Commits o c.args.listing.shown c.args.listing.ends.tips.items c.args.listing.ends.hidden.items) c.write_commits.result (g.W.Write.contents c.write_commits.new.writer)) (sym c.in-Simple.is)
    (serves_walk _ _ _ _ _ _ _ _ _ _ _ _ c.new-chooser.ensures c.in-BreadthFirst.is c.in_ok-walk-in-Simple.ensures.ok _ c.write_commits.ensures)

pub new-checked-requires : goal.new-checked-requires
new-checked-requires g c = ap (λ w. w.rows) c.in_ok-walk-in-Simple.ensures.ok.hides

pub returns-in_default : goal.returns-in_default
returns-in_default g c =
    subst (λ (o : Order). ServesOver c.args.store.now (rows_in c.args.graph) (g.W.Write.contents c.args.writer.now) (Commits o c.args.listing.shown c.args.listing.ends.tips.items c.args.listing.ends.hidden.items) c.write_commits-in-Simple.result (g.W.Write.contents c.write_commits-in-Simple.new.writer)) (sym c.in-Simple.is)
    (serves_checked _ _ _ _ _ _ _ _ _ _ _ _ _ c.new-chooser.ensures c.new-checked.ensures c.in_default.not-BreadthFirst c.in_ok-walk-in-Simple.ensures.ok _ c.write_commits-in-Simple.ensures)

pub returns-in_err-walk-in-Topo : goal.returns-in_err-walk-in-Topo
returns-in_err-walk-in-Topo g c =
    let p = err_from_is_err_and c.from_residual-in_err-walk-in-Topo.result c.from_residual-in_err-walk-in-Topo.ensures.1 in
    let old = g.W.Write.contents c.args.writer.now in
    subst (λ (o : Order). ServesOver c.args.store.now (rows_in c.args.graph) old (Commits o c.args.listing.shown c.args.listing.ends.tips.items c.args.listing.ends.hidden.items) c.from_residual-in_err-walk-in-Topo.result old) (sym c.in-Topo.is)
    (serves_no_topo _ _ _ _ _ _ _ _ _ _ _ (p.1 ∙ ap (λ f. Err f) p.2) c.in_err-walk-in-Topo.ensures.err)

pub returns-in_ok-walk-in-Topo : goal.returns-in_ok-walk-in-Topo
returns-in_ok-walk-in-Topo g c =
    subst (λ (o : Order). ServesOver c.args.store.now (rows_in c.args.graph) (g.W.Write.contents c.args.writer.now) (Commits o c.args.listing.shown c.args.listing.ends.tips.items c.args.listing.ends.hidden.items) c.write_commits-in-Topo.result (g.W.Write.contents c.write_commits-in-Topo.new.writer)) (sym c.in-Topo.is)
    (serves_topo _ _ _ _ _ _ _ _ _ _ _ _ c.new-chooser-in-Topo.ensures c.in_ok-walk-in-Topo.ensures.ok _ c.write_commits-in-Topo.ensures)
