use Rattle.std.proofs.Common.{◌≡◌, ◌<◌, ◌+◌, length, slice_get, take, sym, ap, subst, ◌∙◌, arith, ⊎_elim}
use Rattle.std.proofs.lemmas.List.{length_push}
use Rattle.std.proofs.lemmas.Option.{slice_get_within}
use Rattle.gix_statement.proofs.HaveHistory.{below}
use Rattle.gix_graph_pages.specs.GraphPages.{all_rows}
use Rattle.gix_graph_pages.specs.NamedBelow.{NamesBelow}
use Rattle.gix_graph_pages.specs.PagedRows.{HasHead, IsLayoutOf, NamesEach}
use Rattle.gix_graph_pages.proofs.BelowNamed.{more_of, names_below}
use Rattle.gix_graph_pages.proofs.ReadRows.{layer_there, layouts_more, rows_more}
use Rattle.gix_graph_pages.proofs.layout.layouts_of.Goals as goal

pub loop-layer-preserved : goal.loop-layer-preserved
loop-layer-preserved g c =
    let old = c.loop-layer in
    let layout = c.in-Some.layout in
    let pages = c.args.pages.now in
    let said = c.in-Some.ensures.says in
    let is : IsLayoutOf pages layout = record {
      there = omega (arith, said.0, c.loop-layer-test.true, c.count-layer-end.ensures);
      head = said.2;
      start = λ layers generation read. ap (λ n. length (all_rows (take n layers))) said.0 ∙ old.invariant.start layers generation read ∙ sym said.1;
      count = c.has_all.ensures said.2 c.if-not-has_all.false;
    } in
    record {
      count = ap length c.in_ok-push.ensures.items ∙ length_push old.layouts.items layout ∙ ap (λ n. n + 1) old.invariant.count;
      start = λ layers generation read.
          let there = layer_there pages layout is layers generation read in
          ap (λ n. length (all_rows (take (n + 1) layers))) (sym said.0) ∙ rows_more layers layout.layer there.0 there.1
          ∙ (λ i. is.start layers generation read i + is.count layers generation read there.0 there.1 i) ∙ ap (λ n. n + layout.rows) said.1 ∙ sym c.in-Some-checked_add.ensures.1;
      each = λ k l at. layouts_more pages old.layouts.items old.layer old.invariant.count old.invariant.each layout said.0 is k l (ap (λ items. slice_get items k) (sym c.in_ok-push.ensures.items) ∙ at);
      heads = λ k l at. more_of (λ k l. HasHead pages l) old.layouts.items layout old.invariant.heads c.in-Some.ensures.head k l (ap (λ items. slice_get items k) (sym c.in_ok-push.ensures.items) ∙ at);
      named = λ files have k file few there. ⊎_elim
          (λ less. old.invariant.named files have k file less there)
          (λ most.
          let last : k ≡ old.layer = omega (arith, few, most) in
          subst (λ n. NamesBelow (take n files) file) (sym last)
          (names_below pages old.layouts.items layout old.layer old.invariant.count said.0 (λ j lower at. (old.invariant.each j lower at).0) old.invariant.heads c.in-Some.ensures.head
          (c.names_all.ensures c.if-not-names_all.false) (subst (NamesEach pages layout) c.as_slice.ensures.value (c.names_each.ensures c.if-not-names_each.false))
          files have file (ap (slice_get files) (sym last) ∙ there)))
          (below k old.layer);
    }

pub returns : goal.returns
returns g c =
    let all : c.loop-layer.layer ≡ length c.args.pages.now = omega (arith, c.loop-layer-test.false, c.loop-layer.auto.layer-end, c.count-layer-end.ensures) in
    record {
      layouts = record { count = c.loop-layer.invariant.count ∙ all; each = c.loop-layer.invariant.each };
      named = λ files have k file at. c.loop-layer.invariant.named files have k file (omega (arith, all, have.count, slice_get_within files k file at)) at;
    }
