use Rattle.std.proofs.Common.{[], ◌∷◌, ◌++◌, refl}
use Rattle.gix_merge_base.proofs.Gathering.{drawn_one}
use Rattle.gix_commands.specs.Walked.{finished}
use Rattle.gix_graph_pages.specs.PagedRows.{IsAbove}
use Rattle.gix_paged_commands.proofs.Drawing.{one_more}
use Rattle.gix_paged_commands.proofs.decided.gives_above.Goals as goal

pub loop-answer-preserved-else-not-is_one_above : goal.loop-answer-preserved-else-not-is_one_above
loop-answer-preserved-else-not-is_one_above g c = record {
  infos = c.loop-answer.invariant.infos ++ c.in-Ok.info ∷ [];
  drawn = drawn_one g.I.Iterator.next_gives _ _ _ _ _ _ c.loop-answer.invariant.drawn c.in-Some.ensures.steps c.in-Ok.is;
  above = one_more (λ info. IsAbove c.args.line.now.pages.now c.args.line.now.graph.now c.args.line.now.least info.id) c.loop-answer.invariant.infos c.in-Ok.info c.loop-answer.invariant.above (c.if-not-is_one_above.ensures refl);
}

pub loop-answer-preserved : goal.loop-answer-preserved
loop-answer-preserved g c = record {
  infos = c.loop-answer.invariant.infos ++ c.in-Ok.info ∷ [];
  drawn = drawn_one g.I.Iterator.next_gives _ _ _ _ _ _ c.loop-answer.invariant.drawn c.in-Some.ensures.steps c.in-Ok.is;
  above = one_more (λ info. IsAbove c.args.line.now.pages.now c.args.line.now.graph.now c.args.line.now.least info.id) c.loop-answer.invariant.infos c.in-Ok.info c.loop-answer.invariant.above (c.if-not-is_one_above.ensures refl);
}

pub returns : goal.returns
returns g c = (c.loop-answer.invariant.infos, finished _ (_, c.loop-answer.invariant.drawn, c.in-None.ensures.steps), c.loop-answer.invariant.above)
