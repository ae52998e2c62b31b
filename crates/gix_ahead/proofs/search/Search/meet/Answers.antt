use Rattle.std.proofs.Common.{refl, sym, ap, ◌∙◌}
use Rattle.std.specs.FinMap as map_of
use Rattle.gix_ahead.specs.Inside.Search.{covers, united}
use Rattle.gix_ahead.proofs.Meeting.{met_before, met_new}
use Rattle.gix_ahead.proofs.search.Search.meet.Goals as goal

pub returns-then-covers-clause-ok : goal.returns-then-covers-clause-ok
returns-then-covers-clause-ok g c = met_before g.F.Find.objects c.args.by c.args.id c.args.self.now _ refl (ap (λ r. covers r c.args.by) (sym c.reached_by-old.ensures) ∙ sym c.covers.ensures ∙ c.if-covers.true) refl refl

pub returns-clause-ok : goal.returns-clause-ok
returns-clause-ok g c =
    met_new g.F.Find.objects c.args.by c.args.id c.args.self.now _ c.in_ok-time.ensures.objects (ap (λ r. covers r c.args.by) (sym c.reached_by-old.ensures) ∙ sym c.covers.ensures ∙ c.if-covers.false)
    (c.in_ok-insert.ensures.ok ∙ ap (map_of.insert c.args.self.now.marks c.args.id) (c.united.ensures ∙ ap (λ r. united r c.args.by) c.reached_by-old.ensures)) _ c.in_ok-time.ensures.read c.in_ok-insert-2.ensures.ok
