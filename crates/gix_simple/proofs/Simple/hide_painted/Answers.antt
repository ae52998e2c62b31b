use Rattle.std.proofs.Common.{sym, ◌∙◌, [], if◌then◌else◌}
use Rattle.gix_simple.proofs.FirstStep.{hides_nothing, hides_no_memory, hides_fault, hides_painted}
use Rattle.gix_simple.proofs.Simple.hide_painted.Goals as goal

pub returns-then-has_nothing_to_hide-clause-hides : goal.returns-then-has_nothing_to_hide-clause-hides
returns-then-has_nothing_to_hide-clause-hides g c = hides_nothing g.F.Find.objects g.F.Find.faulty g.P.Predicate.answers c.args.self.now _ c.self.view_is _ c.clear.ensures.items (sym c.has_nothing_to_hide.ensures ∙ c.if-has_nothing_to_hide.true)

pub returns-in-Err-clause-hides : goal.returns-in-Err-clause-hides
returns-in-Err-clause-hides g c = hides_no_memory g.F.Find.objects g.F.Find.faulty g.P.Predicate.answers c.args.self.now (sym c.has_nothing_to_hide.ensures ∙ c.if-has_nothing_to_hide.false) c.take_tips.new.self c.in-Err.ensures.left _ _ c.give_up.ensures.same c.give_up.ensures.left

pub returns-in-Err-painted-clause-hides : goal.returns-in-Err-painted-clause-hides
returns-in-Err-painted-clause-hides g c = hides_fault g.F.Find.objects g.F.Find.faulty g.P.Predicate.answers c.args.self.now (sym c.has_nothing_to_hide.ensures ∙ c.if-has_nothing_to_hide.false) c.take_tips.new.self c.in-Ok.ensures.left _ c.in-Ok.ensures.tips c.in-Err-painted.why c.in-Err-painted.ensures.fault _ _ _ c.from.ensures c.give_up-in-Err-painted.ensures.same c.give_up-in-Err-painted.ensures.left

pub returns-in-Ok-visible-clause-hides : goal.returns-in-Ok-visible-clause-hides
returns-in-Ok-visible-clause-hides g c = hides_painted g.F.Find.objects g.F.Find.faulty g.P.Predicate.answers c.args.self.now (sym c.has_nothing_to_hide.ensures ∙ c.if-has_nothing_to_hide.false) c.take_tips.new.self c.in-Ok.ensures.left _ c.in-Ok.ensures.tips c.in-Ok-painted.painting.hidden c.in-Ok-painted.painting.rows_in_use c.in-Ok-painted.ensures.ok _ (c.conceal.ensures ∙ (λ j. record c.take_tips.new.self { pending = c.in-Ok-visible.ensures j; hidden = c.in-Ok-painted.painting.hidden; hidden_tips = []; rows = if c.in-Ok-painted.painting.rows_in_use then c.take_tips.new.self.rows else [] }))

pub returns-in-Err-visible-clause-hides : goal.returns-in-Err-visible-clause-hides
returns-in-Err-visible-clause-hides g c = hides_no_memory g.F.Find.objects g.F.Find.faulty g.P.Predicate.answers c.args.self.now (sym c.has_nothing_to_hide.ensures ∙ c.if-has_nothing_to_hide.false) c.take_tips.new.self c.in-Ok.ensures.left _ _ c.give_up-in-Err-visible.ensures.same c.give_up-in-Err-visible.ensures.left
