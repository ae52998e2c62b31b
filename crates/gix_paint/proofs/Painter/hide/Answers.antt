use Rattle.std.proofs.Common.{◌==◌, refl, sym, ap, ◌∙◌, arith, bit_and}
use Rattle.gix_paint.proofs.Common.{contains, contains-remove, id_total, IfOk-weaker}
use Rattle.gix_paint.specs.declared.Side.TheVariants as side
use Rattle.gix_paint.proofs.Meets.{meets_again, meets_new}
use Rattle.gix_paint.proofs.OneMoreMark.{hidden_by, marked_new}
use Rattle.gix_paint.proofs.Painter.hide.Goals as goal

pub returns-then-contains : goal.returns-then-contains
returns-then-contains g c =
    meets_again side.Hidden c.args.id c.args.self.now c.add_mark.new.marks c.in_ok-add_mark.ensures.ok
    (hidden_by _ ∙ ap (λ n. bit_and n 2 == 2) (sym c.in_ok-add_mark.ensures.old) ∙ sym (c.contains.ensures tt) ∙ c.if-contains.true)

pub returns : goal.returns
returns g c =
    let unknown = hidden_by _ ∙ ap (λ n. bit_and n 2 == 2) (sym c.in_ok-add_mark.ensures.old) ∙ sym (c.contains.ensures tt) ∙ c.if-contains.false in
    IfOk-weaker c.insert.result _ _ (λ x queue. meets_new side.Hidden c.args.id c.args.self.now _ c.generation-generation.result refl (marked_new side.Hidden c.args.id c.args.self.now.marks c.add_mark.new.marks c.in_ok-add_mark.ensures.ok unknown) queue unknown c.generation-generation.ensures
    (λ j. let left = ap (λ s. contains s j) c.remove.ensures.set ∙ contains-remove id_total c.args.self.now.frontier c.args.id j in grind arith)) c.insert.ensures
