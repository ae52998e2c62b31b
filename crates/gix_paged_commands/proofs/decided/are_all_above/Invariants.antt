use Rattle.std.proofs.Common.{ℕ, ◌<◌, get_or}
use Rattle.gix_graph_pages.specs.PagedRows.{IsAbove}
use Rattle.gix_hash.specs.declared.ObjectId.{ObjectId}
use Rattle.gix_paged_commands.proofs.decided.are_all_above.Given as goal

abbrev pub invariant-loop-id : goal.invariant-loop-id
invariant-loop-id g l = (k : ℕ) → k < l.id-index → (d : ObjectId) → IsAbove l.fn.line.pages.now l.fn.line.graph.now l.fn.line.least (get_or l.fn.ids k d)
