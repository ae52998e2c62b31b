use Rattle.std.proofs.Common.{true, ap, ◌∙◌}
use Rattle.gix_frontier.specs.Inside.Known.{Known, known_by}
use Rattle.gix_frontier.proofs.OneMoreMark.{marked_was_ready}
use Rattle.gix_frontier.proofs.Known.with_was_ready.Goals as goal

pub returns : goal.returns
returns c =
    ap (λ m. known_by m c.self.inside.indegree) (c.union.ensures tt) ∙ marked_was_ready c.self.inside.marks.0 c.self.inside.indegree ∙ ap (λ (k : Known). record k { was_ready = true }) c.self.view_is
