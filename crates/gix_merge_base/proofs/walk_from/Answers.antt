use Rattle.std.proofs.Common.{List, ◌∙◌}
use Rattle.gix_hash.specs.declared.ObjectId.{ObjectId}
use Rattle.gix_merge_base.proofs.Starting.{drained, started}
use Rattle.gix_merge_base.proofs.walk_from.Goals as goal

pub returns-in-Ok-clause-ok : goal.returns-in-Ok-clause-ok
returns-in-Ok-clause-ok g c =
    let m = c.in_ok-made.ensures in
    let tips : List ObjectId = c.in_ok-tips.tips.items in
    let h = c.in-Ok.ensures.ok in
    let hidden : List ObjectId = c.in_ok-hidden.hidden.items in
    started _ _ _ _ _ _ _ _ _ _ _ _ _ _ _ _ m.4 (drained tips m.1 m.0 m.2.0 (m.2.1 ∙ c.in_ok-tips.tips.ok.0) m.3) c.in_ok-tips.ensures.items h.4 (drained hidden h.1 h.0 h.2.0 (h.2.1 ∙ c.in_ok-hidden.hidden.ok.0) h.3) c.in_ok-hidden.ensures.items c.commit_graph.ensures c.in_ok-rows.ensures
