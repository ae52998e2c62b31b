use Rattle.std.proofs.Common.{ap, ◌∙◌}
use Rattle.gix_simple.proofs.Common.{by_mode}
use Rattle.gix_simple.proofs.TakesCommit.{takes_by_row}
use Rattle.gix_simple.proofs.Simple.take_by_row.Goals as goal

pub returns-clause-takes : goal.returns-clause-takes
returns-clause-takes g c = takes_by_row g.F.Find.objects g.F.Find.faulty g.P.Predicate.answers c.args.self.now c.args.taken c.args.row c.walked-parent_ids.result.items _ c.requires.sound (c.walked-parent_ids.ensures ∙ ap (λ w. by_mode w.parents c.args.row.parent_ids.items) c.self.view_is) (λ j. record (c.self.view_is j) { text = c.clear.ensures.items j }) c.as_slice.result.now c.as_slice.ensures _ _ c.treat_all-treated.ensures.treats _ _ c.conclude.ensures.concludes
