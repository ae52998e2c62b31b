use Rattle.std.proofs.Common.{◌≡◌, ◌==◌, [], ◌∷◌, true, false, not, cond, ◌||◌, IsPermutation, sym, ap, subst, ◌∙◌, arith}
use Rattle.std.specs.FinSet.{FinSet}
use Rattle.gix_paint.specs.declared.Side.TheVariants as side
use Rattle.gix_paint.proofs.Common.{contains, contains-insert, id_total, IfOk-weaker, is_same, is_told, same_is, id_cmp, mark_of, Meets, ObjectId, QueueEntry}
use Rattle.gix_paint.proofs.Meets.{meets_again, meets_new}
use Rattle.gix_paint.proofs.OneMoreMark.{marked_new, shown_by}
use Rattle.gix_paint.proofs.Painter.show.Goals as goal
use Rattle.gix_paint.proofs.Painter.show.Goals.{in-Told+in_ok-insert, in_default}

pub returns-then-not-is_empty : goal.returns-then-not-is_empty
returns-then-not-is_empty g c =
    meets_again side.Visible c.args.id c.args.self.now c.add_mark.new.marks c.in_ok-add_mark.ensures.ok
    (shown_by _ ∙ ap (λ n. not (n == 0)) (sym c.in_ok-add_mark.ensures.old) ∙ ap not (sym (c.is_empty.ensures tt) ∙ c.if-not-is_empty.true))

pub returns : goal.returns
returns g c =
    IfOk-weaker c.insert-2.result _ _ (λ x queue. elim c.match-generation.branch [
      | in-Told+in_ok-insert w ↦
          met w.insert.new.self w.self-is queue (λ j.
          let told : is_told c.generation-generation.result ≡ true = ap is_told w.in-Told.is in
          let now = ap (λ s. contains s j) w.in_ok-insert.ensures.ok ∙ contains-insert id_total c.args.self.now.frontier c.args.id j in
          grind arith)
      | in_default w ↦
          met c.args.self.now.frontier w.self-is queue (λ j.
          let told : is_told c.generation-generation.result ≡ false = ap is_told w.in_default.is in
          let same : is_same j c.args.id ≡ true → contains c.args.self.now.frontier j ≡ contains c.args.self.now.frontier c.args.id = λ s. ap (contains c.args.self.now.frontier) (same_is j c.args.id s) in
          grind arith)
    ]) c.insert-2.ensures
  where
    entry : QueueEntry
    entry = (c.generation-generation.result, record { id = c.args.id; side = side.Visible })

    met : (frontier : FinSet id_cmp) → c.match-generation.self ≡ record c.args.self.now { marks = c.add_mark.new.marks; frontier = frontier } → IsPermutation (entry ∷ c.match-generation.self.queue) c.insert-2.new.self
        → ((j : ObjectId) → contains frontier j ≡ cond (is_same j c.args.id) (is_told c.generation-generation.result || contains c.args.self.now.frontier c.args.id) (contains c.args.self.now.frontier j))
        → Meets {F = g.row.F.Denot} side.Visible (c.args.id ∷ []) c.args.self.now (record c.match-generation.self { queue = c.insert-2.new.self })
    met frontier is queue holds =
        let unknown = shown_by _ ∙ ap (λ n. not (n == 0)) (sym c.in_ok-add_mark.ensures.old) ∙ ap not (sym (c.is_empty.ensures tt) ∙ c.if-not-is_empty.false) in
        meets_new side.Visible c.args.id c.args.self.now _ c.generation-generation.result (ap (λ p. p.source) is)
        (λ j. ap (λ p. mark_of p j) is ∙ marked_new side.Visible c.args.id c.args.self.now.marks c.add_mark.new.marks c.in_ok-add_mark.ensures.ok unknown j)
        (subst (λ q. IsPermutation (entry ∷ q) c.insert-2.new.self) (ap (λ p. p.queue) is) queue) unknown c.generation-generation.ensures (λ j. ap (λ p. contains p.frontier j) is ∙ holds j)
