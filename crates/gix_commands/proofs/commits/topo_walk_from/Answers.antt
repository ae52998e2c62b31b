use Rattle.std.proofs.Common.{List, Ok, ◌∙◌}
use Rattle.gix_commands.proofs.Common.{err_from_is_err_and, ObjectId}
use Rattle.gix_merge_base.proofs.Starting.{drained}
use Rattle.gix_commands.proofs.StartFacts.{chosen, fresh_over, built_from, build_failed}
use Rattle.gix_commands.proofs.commits.topo_walk_from.Goals as goal

pub returns-in_err-walk-clause-err : goal.returns-in_err-walk-clause-err
returns-in_err-walk-clause-err c =
    let p = err_from_is_err_and c.from_residual-in_err-walk.result c.from_residual-in_err-walk.ensures.1 in
    let t = c.in_ok-from_tips.ensures in
    let e = c.in_ok-builder.ensures in
    let tips : List ObjectId = c.args.ends.tips.items in
    let ends : List ObjectId = c.args.ends.hidden.items in
    build_failed _ _ _ _ tips ends c.with_commit_graph.result
    (chosen _ _ c.args.parents c.args.sorting tips ends t.1 e.1 _ _ _ _ _ _ _ (fresh_over _ _ _ c.over.ensures c.new.ensures) t.4 (drained tips t.1 t.0 t.2.0 (t.2.1 ∙ c.args.ends.tips.ok.0) t.3) e.4 (drained ends e.1 e.0 e.2.0 (e.2.1 ∙ c.args.ends.hidden.ok.0) e.3) c.parents.ensures c.sorting-ordered.ensures c.with_commit_graph.ensures c.in_ok-rows.ensures)
    _ _ _ p.1 p.2 c.in_err-walk.ensures

pub returns-clause-ok : goal.returns-clause-ok
returns-clause-ok c =
    let t = c.in_ok-from_tips.ensures in
    let e = c.in_ok-builder.ensures in
    let tips : List ObjectId = c.args.ends.tips.items in
    let ends : List ObjectId = c.args.ends.hidden.items in
    built_from _ _ c.args.parents c.args.sorting tips ends c.with_commit_graph.result
    (chosen _ _ c.args.parents c.args.sorting tips ends t.1 e.1 _ _ _ _ _ _ _ (fresh_over _ _ _ c.over.ensures c.new.ensures) t.4 (drained tips t.1 t.0 t.2.0 (t.2.1 ∙ c.args.ends.tips.ok.0) t.3) e.4 (drained ends e.1 e.0 e.2.0 (e.2.1 ∙ c.args.ends.hidden.ok.0) e.3) c.parents.ensures c.sorting-ordered.ensures c.with_commit_graph.ensures c.in_ok-rows.ensures)
    (Ok c.in_ok-walk.walk) c.in_ok-walk.ensures
