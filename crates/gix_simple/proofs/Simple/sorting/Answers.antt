use Rattle.std.proofs.Common.{◌∙◌, ap}
use Rattle.gix_simple.proofs.TipsByTime.{sorted_so}
use Rattle.gix_simple.proofs.Simple.sorting.Goals as goal

pub returns-clause-ok : goal.returns-clause-ok
returns-clause-ok g c = λ other. sorted_so g.F.Find.objects g.F.Find.faulty c.args.self c.args.sorting _ _ c.in_ok-tips.tips.items (λ j. record (c.self.view_is j) { sorting = c.args.sorting; pending = c.take_list.ensures.left j }) (c.in_ok-tips.ensures.list ∙ ap (λ w. w.pending) c.self.view_is)
    c.cutoff_of.result c.cutoff_of.ensures c.in_ok-sort_tips.ensures.ok
