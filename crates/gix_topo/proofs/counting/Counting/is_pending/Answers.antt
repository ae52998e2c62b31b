use Rattle.std.proofs.Common.{inr, subst}
use Rattle.gix_topo.proofs.Common.{IsRested}
use Rattle.gix_topo.proofs.Counts.Rest.{all_below}
use Rattle.gix_topo.proofs.counting.Counting.is_pending.Goals as goal

pub returns-else-not-self-clause-rested : goal.returns-else-not-self-clause-rested
returns-else-not-self-clause-rested g c = λ e. subst (λ x. IsRested x.reader.in_use x.depth x.frontier.queue) c.self.view_is (inr (c.if-not-self.false, λ entry m. all_below _ _ _ e c.in-Some.ensures.greatest entry m))
