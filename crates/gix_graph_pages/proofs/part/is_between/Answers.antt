use Rattle.std.proofs.Common.{◌≡◌, ◌-◌, ◌<◌, ℕ, Some, slice_get, subst, inl, inr, arith}
use Rattle.gix_statement.specs.WholeStatement.{Row}
use Rattle.gix_graph_pages.proofs.IdsBetween.{At, less_is, none_there}
use Rattle.gix_graph_pages.proofs.part.is_between.Goals as goal
use Rattle.gix_graph_pages.proofs.part.is_between.Goals.{then-place-layout-2+in-Some, else-place-layout-2}

pub returns-in-Some-id_in : goal.returns-in-Some-id_in
returns-in-Some-id_in g c t layers generation read layer there =
    let layout = c.args.layout.now in
    let place = c.args.place - layout.start in
    let behind = c.in-Some-id_in.ensures c.requires.head layers generation read layer there in
    let own : behind.0 ≡ place = omega (arith, behind.1, c.if-place-layout.false) in
    none_there layer.rows (read.sound.each layout.layer layer there).rising c.args.id.now place
    (elim c.if-place-layout-2.branch [
      | then-place-layout-2+in-Some w ↦ (
          let before = w.in-Some.ensures c.requires.head layers generation read layer there in
          let one_less : before.0 ≡ place - 1 = omega (arith, before.1, w.if-place-layout-2.true) in
          let some : 0 < place = omega (arith, w.if-place-layout-2.true) in
          inr (w.in-Some.before, some, subst (λ n. At layer.rows n w.in-Some.before) one_less before.2, less_is w.in-Some.before c.args.id.now _ w.is_before.ensures w.if-is_before.true))
      | else-place-layout-2 w ↦ inl (omega (arith, w.if-place-layout-2.false, c.if-place-layout.false))
    ])
    (inr (c.in-Some-id_in.behind, subst (λ n. At layer.rows n c.in-Some-id_in.behind) own behind.2, less_is c.args.id.now c.in-Some-id_in.behind _ c.is_before-in-Some-id_in.ensures t))

pub returns-else-place-layout-3 : goal.returns-else-place-layout-3
returns-else-place-layout-3 g c t layers generation read layer there =
    let layout = c.args.layout.now in
    let place = c.args.place - layout.start in
    none_there layer.rows (read.sound.each layout.layer layer there).rising c.args.id.now place
    (elim c.if-place-layout-2.branch [
      | then-place-layout-2+in-Some w ↦ (
          let before = w.in-Some.ensures c.requires.head layers generation read layer there in
          let one_less : before.0 ≡ place - 1 = omega (arith, before.1, w.if-place-layout-2.true) in
          let some : 0 < place = omega (arith, w.if-place-layout-2.true) in
          inr (w.in-Some.before, some, subst (λ n. At layer.rows n w.in-Some.before) one_less before.2, less_is w.in-Some.before c.args.id.now _ w.is_before.ensures w.if-is_before.true))
      | else-place-layout-2 w ↦ inl (omega (arith, w.if-place-layout-2.false, c.if-place-layout.false))
    ])
    (inl (omega (arith, c.if-place-layout-3.false, c.requires.count layers generation read layer there)))
