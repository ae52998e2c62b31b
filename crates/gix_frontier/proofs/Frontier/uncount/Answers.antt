use Rattle.std.proofs.Common.{ap, ◌∙◌, rules}
use Rattle.gix_frontier.specs.Inside.Frontier.{known_of}
use Rattle.gix_frontier.proofs.TableChanges.{known_put}
use Rattle.gix_frontier.proofs.Frontier.uncount.Goals as goal

pub returns-clause-known : goal.returns-clause-known
returns-clause-known c =
    let changes = c.in_ok-change.ensures.some in
    let put = ap (λ those. known_of those c.args.id.now) changes.4 ∙ known_put c.args.self.now.known c.args.id.now changes.1 in
    search rules
