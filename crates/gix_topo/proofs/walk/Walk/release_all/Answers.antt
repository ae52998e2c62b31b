use Rattle.std.proofs.Common.{[], ◌++◌, sym, subst, ◌∙◌, arith}
use Rattle.gix_topo.proofs.Common.{ReleasesAll, IsFaultAmong, err_from}
use Rattle.gix_topo.specs.Inside.Releasing.{none, more, here, later}
use Rattle.gix_topo.proofs.Counts.MeetsParents.{no_items}
use Rattle.gix_topo.proofs.walk.Walk.release_all.Goals as goal

pub returns-in_err-release-clause-fault : goal.returns-in_err-release-clause-fault
returns-in_err-release-clause-fault g c =
    err_from _ c.from_residual.result c.in_err-release.field-0.0 c.from_residual.ensures.1 (c.loop-id.invariant.fault _ (subst (λ ids. IsFaultAmong g.F.Find.objects g.F.Find.faulty c.loop-id.self ids c.in_err-release.field-0.0) (sym c.in-Some.ensures.cases.0) (here c.in_err-release.ensures.fault)))

pub loop-id-preserved : goal.loop-id-preserved
loop-id-preserved g c = record {
  releases = λ new others r. c.loop-id.invariant.releases new (c.in_ok-release.ensures.releases.0 ++ others) (subst (λ ids. ReleasesAll g.F.Find.objects g.F.Find.faulty c.loop-id.self ids (c.in_ok-release.ensures.releases.0 ++ others) new) (sym c.in-Some.ensures.cases.0) (more c.in_ok-release.ensures.releases.1 r));
  fault = λ e f. c.loop-id.invariant.fault e (subst (λ ids. IsFaultAmong g.F.Find.objects g.F.Find.faulty c.loop-id.self ids e) (sym c.in-Some.ensures.cases.0) (later c.in_ok-release.ensures.releases.1 f));
  same = c.release.ensures.same ∙ c.loop-id.invariant.same;
}

pub returns-clause-releases : goal.returns-clause-releases
returns-clause-releases g c =
    c.loop-id.invariant.releases _ [] (subst (λ ids. ReleasesAll g.F.Find.objects g.F.Find.faulty c.loop-id.self ids [] c.loop-id.self) (sym (no_items c.loop-id.ids.now (omega (arith, c.in_default.ensures.cases)))) none)
