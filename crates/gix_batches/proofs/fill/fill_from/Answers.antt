use Rattle.std.proofs.Common.{subst, Err}
use Rattle.gix_batches.specs.Draws.{Passes}
use Rattle.gix_batches.proofs.Drawn.{filled_behind, none_filled}
use Rattle.gix_batches.proofs.fill.fill_from.Goals as goal

pub returns-in-Err : goal.returns-in-Err
returns-in-Err g c =
    none_filled g.I.Iterator.next_gives g.E.Into.converts c.args.limit c.args.skip c.args.walk c.args.commits.now c.args.commits.now c.args.parents.now c.args.parents.now c.in-Err.ending c.pass.new.walk (subst (λ n. Passes g.I.Iterator.next_gives g.E.Into.converts n c.args.walk (Err c.in-Err.ending) c.pass.new.walk) c.least_of.ensures c.in-Err.ensures.passes)

pub returns : goal.returns
returns g c = filled_behind g.I.Iterator.next_gives g.E.Into.converts c.args.limit c.args.skip c.args.walk _ _ _ _ c.left_of.result c.left_of.ensures c.pass.new.walk c.least_of.result c.least_of.ensures c.in_default.ensures.passes c.fill.result c.fill.ensures
