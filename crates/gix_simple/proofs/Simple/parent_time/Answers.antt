use Rattle.std.proofs.Common.{sym, ap, subst, ◌∙◌, Ok, SFits, rules, w64}
use Rattle.std.proofs.lemmas.Int.{to_z-of_z}
use Rattle.gix_simple.proofs.Common.{in_rows, ReadsTime, unasked, from_row}
use Rattle.gix_simple.proofs.TreatsId.{stored_time}
use Rattle.gix_simple.proofs.Simple.parent_time.Goals as goal

pub returns-in-None-clause-time : goal.returns-in-None-clause-time
returns-in-None-clause-time g c = unasked (sym c.time_order.ensures ∙ c.in-None.is)

pub returns-in-InRows-clause-time : goal.returns-in-InRows-clause-time
returns-in-InRows-clause-time g c =
    let fits : SFits w64 c.row_time.result = search rules in
    simp to_z-of_z (subst (λ t. ReadsTime g.F.Find.objects g.F.Find.faulty g.P.Predicate.answers c.args.self.now (in_rows c.args.times) c.args.id.now (Ok t)) (sym c.row_time.ensures) (from_row (sym c.time_order.ensures ∙ c.in-Some.is) (ap in_rows c.in-InRows.is)))

pub returns-in-InStore-clause-time : goal.returns-in-InStore-clause-time
returns-in-InStore-clause-time g c = stored_time g.F.Find.objects g.F.Find.faulty g.P.Predicate.answers (in_rows c.args.times) c.args.id.now c.args.self.now c.in-Some.field-0 (sym c.time_order.ensures ∙ c.in-Some.is) (ap in_rows c.in-InStore.is) _ c.stored_time.ensures.ok c.stored_time.ensures.err
