use Rattle.std.proofs.Common.{[], refl, rules}
use Rattle.gix_contained.proofs.Meeting.{fails_as}
use Rattle.gix_contained.proofs.Meeting.{met_before, met_new}
use Rattle.gix_contained.proofs.search.Search.meet.Goals as goal
use Rattle.gix_hash.proofs.Ids.Membership.{Contains-here}

pub returns-then-not-branch-clause-ok : goal.returns-then-not-branch-clause-ok
returns-then-not-branch-clause-ok g c = met_before g.F.Find.objects c.args.id c.args.self.now _ refl refl refl c.in_ok-insert.ensures.ok (search rules) refl

pub returns-in_err-key-clause-fault : goal.returns-in_err-key-clause-fault
returns-in_err-key-clause-fault g c =
    fails_as _ c.from_residual-in_err-key.result c.from_residual-in_err-key.ensures.1 (λ n. let f = c.in_err-key.ensures.fault n in (c.args.id, Contains-here c.args.id [], f.0, f.1))

pub returns-clause-ok : goal.returns-clause-ok
returns-clause-ok g c =
    met_new g.F.Find.objects c.args.id c.args.self.now _ c.in_ok-key.ensures.objects c.in_ok-key.ensures.graph c.in_ok-key.ensures.in_use c.in_ok-insert.ensures.ok (search rules) _ c.in_ok-key.ensures.known c.in_ok-insert-2.ensures.ok
