use Rattle.std.proofs.Common.{◌<◌, ℕ, get_or}
use Rattle.gix_graph_pages.specs.PagedRows.{NamesHash}
use Rattle.gix_graph_pages.specs.declared.layout.Layout.{Layout}
use Rattle.gix_graph_pages.proofs.layout.names_each.Given as goal

-- the hashes of the files up to here are named
abbrev pub invariant-loop-lower : goal.invariant-loop-lower
invariant-loop-lower g l = (k : ℕ) → k < l.lower-index → (d : Layout) → NamesHash l.pages l.layout (get_or l.below k d)
