use Rattle.std.proofs.Common.{[], ◌∷◌}
use Rattle.std.specs.Borrow.{Bor}
use Rattle.std.proofs.lemmas.Result.{IfErr-weaker, IfOk-weaker}
use Rattle.gix_ahead.proofs.Drawn.{numbers}
use Rattle.gix_merge_base.proofs.Starting.{failed_first}
use Rattle.gix_revwalk.specs.Agreeing.{rows_in}
use Rattle.gix_revwalk.specs.Asking.{accepts_all}
use Rattle.gix_ahead.proofs.walks.number_reached.Goals as goal

pub returns-clause-ok : goal.returns-clause-ok
returns-clause-ok g c = IfOk-weaker c.number_drawn.result _ _
    (λ n d. numbers (λ (f : Bor _). g.F.Find.objects f.now) (λ (f : Bor _). g.F.Find.faulty f.now) accepts_all c.args.objects (record {}) (λ mid last i answer b h. h.0) (rows_in c.args.graph) c.args.hidden c.args.tip _ c.in_ok-walk.ensures.ok n d)
    c.number_drawn.ensures.ok

pub returns-clause-err : goal.returns-clause-err
returns-clause-err g c = IfErr-weaker c.number_drawn.result _ _
    (λ e f ne. failed_first (λ (f : Bor _). g.F.Find.objects f.now) (λ (f : Bor _). g.F.Find.faulty f.now) accepts_all c.args.objects (record {}) (λ mid last i answer b h. h.0) (rows_in c.args.graph) c.args.hidden (c.args.tip ∷ []) _ c.in_ok-walk.ensures.ok e (f ne) ne)
    c.number_drawn.ensures.err
