use Rattle.std.proofs.Common.{subst, SFits, rules, w64}
use Rattle.std.proofs.lemmas.Int.{to_z-of_z}
use Rattle.gix_simple.proofs.Common.{HasTime}
use Rattle.gix_revwalk.proofs.CommitterTime.{SaysTime, says_time}
use Rattle.gix_simple.proofs.Simple.tip_time.Goals as goal

pub returns-clause-ok : goal.returns-clause-ok
returns-clause-ok g c =
    let objects = g.F.Find.objects c.self.inside.source.objects in
    let fits : SFits w64 c.in_ok-branch.field-0 = search rules in
    simp to_z-of_z (subst (λ w. HasTime (g.F.Find.objects w.store) c.args.id.now c.in_ok-branch.field-0) c.self.view_is
    (subst (SaysTime objects c.args.id.now) c.in_ok-branch.was (says_time objects c.args.id.now c.in_ok-time.field-0 c.in_ok-time.ensures.reads)))
