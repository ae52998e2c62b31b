use Rattle.std.proofs.Common.{List, ◌∙◌}
use Rattle.gix_commands.proofs.Common.{err_from_is_err_and, ObjectId}
use Rattle.gix_commands.specs.Walked.{Walk}
use Rattle.gix_merge_base.proofs.Starting.{drained}
use Rattle.gix_commands.proofs.StartFacts.{held, made_of, is_sorted, start_failed}
use Rattle.gix_commands.proofs.commits.walk_from.Goals as goal

pub returns-in_err-sorted-clause-err : goal.returns-in_err-sorted-clause-err
returns-in_err-sorted-clause-err c =
    let p = err_from_is_err_and c.from_residual-in_err-sorted.result c.from_residual-in_err-sorted.ensures.1 in
    let made = c.in_ok-made.ensures in
    let tips : List ObjectId = c.args.ends.tips.items in
    let same = drained tips made.1 made.0 made.2.0 (made.2.1 ∙ c.args.ends.tips.ok.0) made.3 in
    start_failed _ _ _ c.in_ok-made.made (made_of _ _ _ _ _ c.over.ensures same made.4) _ _ _ p.1 p.2 c.in_err-sorted.ensures.breadth_first c.in_err-sorted.ensures.err

pub returns-clause-ok : goal.returns-clause-ok
returns-clause-ok c =
    let made = c.in_ok-made.ensures in
    let tips : List ObjectId = c.args.ends.tips.items in
    let hides = c.in_ok-walk.ensures.ok in
    let hidden : List ObjectId = c.args.ends.hidden.items in
    let sorted : Walk = c.in_ok-sorted.sorted in
    record {
      made = c.in_ok-made.made;
      sorted = sorted;
      makes = made_of _ _ _ _ _ c.over.ensures (drained tips made.1 made.0 made.2.0 (made.2.1 ∙ c.args.ends.tips.ok.0) made.3) made.4;
      sorts = is_sorted _ _ _ c.in_ok-sorted.ensures.breadth_first c.in_ok-sorted.ensures.ok;
      hides = held sorted c.in_ok-walk.walk c.parents.result c.commit_graph.result _ _ hidden _ _ hides.4 (drained hidden hides.1 hides.0 hides.2.0 (hides.2.1 ∙ c.args.ends.hidden.ok.0) hides.3) c.parents.ensures c.commit_graph.ensures c.in_ok-rows.ensures;
    }
