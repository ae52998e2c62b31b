use Rattle.std.specs.Borrow.{Bor}
use Rattle.std.proofs.lemmas.Result.{err_from_is_err_and}
use Rattle.gix_revwalk.specs.Asking.{accepts_all}
use Rattle.gix_merge_base.proofs.Starting.{failed_first}
use Rattle.gix_merge_base.proofs.Whole.{fails_first}
use Rattle.gix_revwalk.specs.Agreeing.{rows_in}
use Rattle.gix_containing.proofs.Reaching.{marks_only}
use Rattle.gix_containing.proofs.marked.Goals as goal

pub returns-in_err-children-clause-err : goal.returns-in_err-children-clause-err
returns-in_err-children-clause-err g c =
    let p = err_from_is_err_and c.from_residual-in_err-children.result c.from_residual-in_err-children.ensures.1 in
    fails_first (g.F.Find.objects c.args.objects.now) (g.F.Find.faulty c.args.objects.now) (rows_in c.args.graph) c.args.target c.args.tips.now _ _ _ p.1 p.2
    (λ ne. failed_first (λ (f : Bor _). g.F.Find.objects f.now) (λ (f : Bor _). g.F.Find.faulty f.now) accepts_all c.args.objects (record {}) (λ mid last i answer b h. h.0) (rows_in c.args.graph) c.args.target c.args.tips.now _ c.in_ok-walk.ensures.ok _ (c.in_err-children.ensures.err ne) ne)

pub returns-clause-ok : goal.returns-clause-ok
returns-clause-ok g c =
    marks_only (λ (f : Bor _). g.F.Find.objects f.now) (λ (f : Bor _). g.F.Find.faulty f.now) accepts_all c.args.objects (record {}) (λ mid last i answer b h. h.0) (rows_in c.args.graph) c.args.target c.args.tips.now _ c.in_ok-walk.ensures.ok _ _ c.in_ok-children.ensures.ok c.in_ok-marks.ensures
