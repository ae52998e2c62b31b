use Rattle.std.proofs.Common.{List, subst, sym, ◌∙◌}
use Rattle.std.proofs.lemmas.List.{nil_from_length}
use Rattle.gix_hash.specs.declared.ObjectId.{ObjectId}
use Rattle.gix_containing.specs.Inside.Steps.{MarksNew}
use Rattle.gix_containing.proofs.Climbing.{climbs_first, climbs_on, climbs_less, climbed}
use Rattle.gix_containing.proofs.children.descendants.Goals as goal

pub loop-next-init : goal.loop-next-init
loop-next-init c = climbs_first c.args.children.now c.args.id _ _ _ _ c.new-marks.ensures c.new-waiting.ensures.items c.in_ok-mark_all.ensures

pub loop-next-preserved : goal.loop-next-preserved
loop-next-preserved c =
    climbs_on c.args.children.now c.args.id c.loop-next.marks _ c.loop-next.waiting.items c.pop.new.self.items c.mark_all-in-Some.new.waiting.items c.in-Some.next c.in-Some.ensures.items
    (subst (λ (xs : List ObjectId). MarksNew xs c.loop-next.marks c.pop.new.self.items c.mark_all-in-Some.new.marks c.mark_all-in-Some.new.waiting.items) c.children_at.ensures c.in_ok-mark_all-2.ensures) c.loop-next.invariant

pub loop-next-smaller : goal.loop-next-smaller
loop-next-smaller c =
    climbs_less c.args.children.now c.args.id c.loop-next.marks _ c.loop-next.waiting.items c.pop.new.self.items c.mark_all-in-Some.new.waiting.items c.in-Some.next c.in-Some.ensures.items
    (subst (λ (xs : List ObjectId). MarksNew xs c.loop-next.marks c.pop.new.self.items c.mark_all-in-Some.new.marks c.mark_all-in-Some.new.waiting.items) c.children_at.ensures c.in_ok-mark_all-2.ensures)

pub returns : goal.returns
returns c = climbed c.args.children.now c.args.id c.loop-next.marks c.loop-next.waiting.items (nil_from_length c.loop-next.waiting.items (sym c.loop-next.waiting.ok.0 ∙ c.in_default.ensures.cases.0)) c.loop-next.invariant
