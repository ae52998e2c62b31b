use Rattle.std.proofs.Common.{◌≡◌, ◌∷◌, true, false, IsPermutation, ap, subst, ◌∙◌, rules}
use Rattle.gix_frontier.specs.Inside.Frontier.{is_seen, known_of}
use Rattle.gix_frontier.specs.Inside.Waiting.{waiting_by}
use Rattle.gix_frontier.specs.declared.Side.TheVariants.{Tips}
use Rattle.gix_frontier.proofs.TableChanges.{again_seen, again_unseen, counts_seen, counts_unseen}
use Rattle.gix_frontier.proofs.Frontier.count.Goals as goal
use Rattle.std.specs.FinMap as map

pub returns-in_ok-insert : goal.returns-in_ok-insert
returns-in_ok-insert c =
    let new : is_seen (known_of c.args.self.now.known c.args.id).tips ≡ false = search rules in
    counts_unseen _ _ _ _ new
    (subst (λ queue. IsPermutation ((c.args.generation, waiting_by c.args.id Tips) ∷ queue) c.insert.new.self) c.count_known.ensures.queue c.in_ok-insert.ensures.ok)
    (c.in_ok-count_known.ensures.known ∙ ap (map.insert c.args.self.now.known c.args.id) (again_unseen _ new))

pub returns-else-branch : goal.returns-else-branch
returns-else-branch c =
    let met : is_seen (known_of c.args.self.now.known c.args.id).tips ≡ true = search rules in
    let known = c.in_ok-count_known.ensures.known ∙ ap (map.insert c.args.self.now.known c.args.id) (again_seen _ met) in
    counts_seen _ _ _ _ met (λ j. record { queue = c.count_known.ensures.queue j; known = known j })
