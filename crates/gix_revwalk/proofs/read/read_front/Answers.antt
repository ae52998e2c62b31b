use Rattle.std.proofs.Common.{◌≡◌, Err, IfSome, ap, sym, subst, ◌∙◌}
use Rattle.gix_revwalk.proofs.Common.{commit_items_left, first_committer, signature_shown}
use Rattle.gix_revwalk.proofs.read.read_front.Goals as goal
use Rattle.gix_revwalk.proofs.read.read_front.Goals.{in-None, in-Some}

pub returns-clause-committer : goal.returns-clause-committer
returns-clause-committer c = elim c.match-fault.branch [
  | in-None w ↦ ap signature_shown w.committer-is ∙ w.committer-committer.ensures ∙ c.in_ok-fault.ensures.left w.in-None.is
  | in-Some w ↦ ap signature_shown w.committer-is ∙ sym (subst (λ fault. IfSome fault (λ e. first_committer (commit_items_left c.args.items) ≡ Err e)) w.in-Some.is c.in_ok-fault.ensures.fault)
]
