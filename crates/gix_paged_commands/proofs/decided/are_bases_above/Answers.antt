use Rattle.std.proofs.Common.{subst}
use Rattle.gix_object.specs.Object.{Objects}
use Rattle.gix_merge_base.specs.Bases.{FindsBases}
use Rattle.gix_graph_pages.specs.PagedRows.{IsAbove}
use Rattle.gix_paged_commands.specs.Decided.{AreAllAbove}
use Rattle.gix_paged_commands.proofs.decided.are_bases_above.Goals as goal

pub returns : goal.returns
returns g c t = (
  c.in_ok-bases.bases.items,
  subst (λ (objects : Objects). FindsBases objects c.args.line.now.graph.now c.args.one c.args.others.now c.in_ok-bases.bases.items) c.over-objects.ensures c.in_ok-bases.ensures.ok,
  subst (AreAllAbove (IsAbove c.args.line.now.pages.now c.args.line.now.graph.now c.args.line.now.least)) c.as_slice.ensures.value (c.are_all_above.ensures t),
)
