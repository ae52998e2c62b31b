use Rattle.std.proofs.Common.{ap, ◌∙◌}
use Rattle.std.specs.FinSet as set
use Rattle.std.specs.Borrow.{Bor}
use Rattle.std.proofs.lemmas.Result.{err_from_is_err_and}
use Rattle.gix_revwalk.specs.Agreeing.{rows_in}
use Rattle.gix_revwalk.specs.Ids.{new_ids}
use Rattle.gix_revwalk.specs.Asking.{accepts_all}
use Rattle.gix_merge_base.proofs.Starting.{met_first, failed_first}
use Rattle.gix_merge_base.proofs.Whole.{fails_first}
use Rattle.gix_merge_base.proofs.first_common.Goals as goal

pub returns-in_err-only-clause-err : goal.returns-in_err-only-clause-err
returns-in_err-only-clause-err g c =
    let p = err_from_is_err_and c.from_residual-in_err-only.result c.from_residual-in_err-only.ensures.1 in
    fails_first (g.F.Find.objects c.args.objects.now) (g.F.Find.faulty c.args.objects.now) (rows_in c.args.graph) c.args.one c.args.others.now _ _ _ p.1 p.2
    (λ ne. failed_first (λ (f : Bor _). g.F.Find.objects f.now) (λ (f : Bor _). g.F.Find.faulty f.now) accepts_all c.args.objects (record {}) (λ mid last i answer b h. h.0) (rows_in c.args.graph) c.args.one c.args.others.now _ c.in_ok-walk.ensures.ok _ (c.in_err-only.ensures.err ne) ne)

pub returns-clause-ok : goal.returns-clause-ok
returns-clause-ok g c =
    met_first (λ (f : Bor _). g.F.Find.objects f.now) (λ (f : Bor _). g.F.Find.faulty f.now) accepts_all c.args.objects (record {}) (λ mid last i answer b h. h.0) (rows_in c.args.graph) c.args.one c.args.others.now _ c.in_ok-walk.ensures.ok _ _ _ c.in_ok-only.ensures.ok (c.in_ok-common.ensures ∙ ap (new_ids (set.contains c.in_ok-only.field-0.only)) c.deref.ensures.value)
