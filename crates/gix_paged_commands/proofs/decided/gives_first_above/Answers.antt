use Rattle.std.proofs.Common.{[], ◌∷◌, ◌++◌, arith, subst}
use Rattle.gix_merge_base.proofs.Gathering.{drawn_one}
use Rattle.gix_graph_pages.specs.PagedRows.{IsAbove}
use Rattle.gix_paged_commands.specs.Decided.{AreAllAbove}
use Rattle.gix_paged_commands.proofs.Drawing.{one_longer, one_more}
use Rattle.gix_paged_commands.proofs.decided.gives_first_above.Goals as goal

pub loop-answer-preserved : goal.loop-answer-preserved
loop-answer-preserved g c =
    let Above = IsAbove c.args.line.now.pages.now c.args.line.now.graph.now c.args.line.now.least in
    record {
      infos = c.loop-answer.invariant.infos ++ c.in-Ok.info ∷ [];
      drawn = drawn_one g.I.Iterator.next_gives _ _ _ _ _ _ c.loop-answer.invariant.drawn c.in-Some.ensures.steps c.in-Ok.is;
      number = one_longer c.loop-answer.invariant.infos c.in-Ok.info _ c.loop-answer.invariant.number;
      few = omega (arith, c.if-number-count.false);
      above = one_more (λ info. AreAllAbove Above info.parent_ids.items) c.loop-answer.invariant.infos c.in-Ok.info c.loop-answer.invariant.above
          (subst (AreAllAbove Above) c.as_slice.ensures (c.are_all_above.ensures c.if-not-are_all_above.false));
    }
