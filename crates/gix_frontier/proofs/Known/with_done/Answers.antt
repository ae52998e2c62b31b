use Rattle.std.proofs.Common.{ap, ◌∙◌, bit_or}
use Rattle.gix_frontier.specs.Inside.Known.{known_by}
use Rattle.gix_frontier.specs.Inside.Frontier.{with_progress}
use Rattle.gix_frontier.specs.declared.Progress.TheVariants as progress
use Rattle.gix_frontier.proofs.OneMoreMark.{marked_done}
use Rattle.gix_frontier.proofs.Known.with_done.Goals as goal

pub returns : goal.returns
returns c =
    ap (λ m. known_by m c.self.inside.indegree) (c.union.ensures tt ∙ ap (bit_or c.self.inside.marks.0) c.done.ensures)
    ∙ marked_done c.self.inside.marks.0 c.self.inside.indegree c.args.side
    ∙ ap (with_progress c.args.side progress.Done) c.self.view_is
