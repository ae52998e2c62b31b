use Rattle.std.proofs.Common.{ap, ◌∙◌, bit_or}
use Rattle.gix_frontier.specs.Inside.Known.{known_by}
use Rattle.gix_frontier.specs.Inside.Frontier.{is_seen, progress_of, with_progress}
use Rattle.gix_frontier.specs.declared.Progress.TheVariants as progress
use Rattle.gix_frontier.proofs.OneMoreMark.{marked_met}
use Rattle.gix_frontier.proofs.Known.with_met.Goals as goal

pub returns : goal.returns
returns c =
    ap (λ m. known_by m c.self.inside.indegree) (c.union.ensures tt ∙ ap (bit_or c.self.inside.marks.0) c.met.ensures)
    ∙ marked_met c.self.inside.marks.0 c.self.inside.indegree c.args.side (ap (λ k. is_seen (progress_of c.args.side k)) c.self.view_is ∙ c.requires)
    ∙ ap (with_progress c.args.side progress.Queued) c.self.view_is
