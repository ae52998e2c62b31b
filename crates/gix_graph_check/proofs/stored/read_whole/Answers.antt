use Rattle.gix_object.specs.CommitRefIter.{commit_items_left}
use Rattle.gix_graph_check.proofs.WholeCommits.{begins}
use Rattle.gix_graph_check.proofs.stored.read_whole.Goals as goal

pub loop-item-init : goal.loop-item-init
loop-item-init c = begins (commit_items_left c.args.items) c.in-Ok.tree c.new-parent_ids.result.items (commit_items_left c.tree_id.new.self) c.in-Ok.ensures.value c.new-parent_ids.ensures.items c.in-Ok.ensures.taken
