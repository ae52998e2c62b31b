use Rattle.std.proofs.Common.{◌<◌, ◌∷◌, [], ◌++◌, length, arith, subst}
use Rattle.gix_batches.specs.declared.commit.Ending.TheVariants.{Ended, Small, Failed}
use Rattle.gix_batches.specs.Draws.{ended, failed}
use Rattle.gix_commands.specs.Walked.{finished}
use Rattle.gix_batches.proofs.Drawn.{below_limit, below_room, by_limit, commit_put, drawn_one, fault_came, fills, fills_most, ids_put, more_used, one_longer, too_many}
use Rattle.gix_batches.proofs.fill.fill.Goals as goal

pub returns-in_default : goal.returns-in_default
returns-in_default g c =
    let i = c.loop-at.invariant in
    let asks = below_limit c.args.limit (length c.args.commits.now) i.infos c.loop-at.at i.number (subst (λ n. c.loop-at.at < n) c.most_of-most.ensures c.loop-at-test.true) in
    fills g.I.Iterator.next_gives g.E.Into.converts c.args.limit c.args.walk i.infos _ _ _ _ c.loop-at.at c.loop-at.used i.number i.used i.commits (i.parents) Ended c.so_far.result
    (ended (by_limit g.I.Iterator.next_gives g.E.Into.converts c.args.limit c.args.walk i.infos asks (finished _ (_, i.drawn, c.in_default.ensures.steps)))) tt c.so_far.ensures

pub returns-in-Err : goal.returns-in-Err
returns-in-Err g c =
    let i = c.loop-at.invariant in
    let asks = below_limit c.args.limit (length c.args.commits.now) i.infos c.loop-at.at i.number (subst (λ n. c.loop-at.at < n) c.most_of-most.ensures c.loop-at-test.true) in
    fills g.I.Iterator.next_gives g.E.Into.converts c.args.limit c.args.walk i.infos _ _ _ _ c.loop-at.at c.loop-at.used i.number i.used i.commits (i.parents) (Failed c.into.result) c.so_far-in-Err.result
    (failed c.into.result (by_limit g.I.Iterator.next_gives g.E.Into.converts c.args.limit c.args.walk i.infos asks (fault_came g.I.Iterator.next_gives g.E.Into.converts _ _ _ _ _ _ _ i.drawn c.in-Some.ensures.steps c.in-Err.is c.into.ensures))) tt c.so_far-in-Err.ensures

pub returns-then-parents-used : goal.returns-then-parents-used
returns-then-parents-used g c =
    let i = c.loop-at.invariant in
    let less = subst (λ n. c.loop-at.at < n) c.most_of-most.ensures c.loop-at-test.true in
    let asks = below_limit c.args.limit (length c.args.commits.now) i.infos c.loop-at.at i.number less in
    let fits = below_room c.args.limit (length c.args.commits.now) c.loop-at.at less in
    fills g.I.Iterator.next_gives g.E.Into.converts c.args.limit c.args.walk i.infos _ _ _ _ c.loop-at.at c.loop-at.used i.number i.used i.commits i.parents (Small (length c.as_slice-ids.result.now)) c.so_far-then-parents-used.result
    (too_many g.I.Iterator.next_gives g.E.Into.converts c.args.limit c.args.walk _ _ i.infos _ c.in-Ok.info c.as_slice-ids.result.now i.drawn c.in-Some.ensures.steps c.in-Ok.is asks c.as_slice-ids.ensures)
    (fits, omega (arith, c.if-parents-used.true, c.loop-at.auto.parents, i.within)) c.so_far-then-parents-used.ensures

pub loop-at-preserved-else-parents-used : goal.loop-at-preserved-else-parents-used
loop-at-preserved-else-parents-used g c =
    let i = c.loop-at.invariant in
    let less = subst (λ n. c.loop-at.at < n) c.most_of-most.ensures c.loop-at-test.true in
    record {
      infos = i.infos ++ c.in-Ok.info ∷ [];
      drawn = drawn_one g.I.Iterator.next_gives g.E.Into.converts _ _ _ _ _ _ i.drawn c.in-Some.ensures.steps c.in-Ok.is;
      number = one_longer i.infos c.in-Ok.info c.loop-at.used i.used c.loop-at.at i.number;
      used = more_used i.infos c.in-Ok.info c.loop-at.used i.used _ c.as_slice-ids.ensures;
      within = omega (arith, c.if-parents-used.false, c.loop-at.auto.parents, i.within);
      below = omega (arith, less);
      can = c.in-Some.ensures.goes.keeps;
      commits = commit_put i.infos c.in-Ok.info c.loop-at.used i.used _ _ c.loop-at.at c.of.result i.number c.of.ensures i.commits (below_room c.args.limit (length c.args.commits.now) c.loop-at.at less);
      parents = ids_put i.infos c.in-Ok.info c.loop-at.used i.used _ _ _ _ c.as_slice-ids.ensures i.parents c.put_ids.ensures;
    }

pub loop-at-preserved : goal.loop-at-preserved
loop-at-preserved g c =
    let i = c.loop-at.invariant in
    let less = subst (λ n. c.loop-at.at < n) c.most_of-most.ensures c.loop-at-test.true in
    record {
      infos = i.infos ++ c.in-Ok.info ∷ [];
      drawn = drawn_one g.I.Iterator.next_gives g.E.Into.converts _ _ _ _ _ _ i.drawn c.in-Some.ensures.steps c.in-Ok.is;
      number = one_longer i.infos c.in-Ok.info c.loop-at.used i.used c.loop-at.at i.number;
      used = more_used i.infos c.in-Ok.info c.loop-at.used i.used _ c.as_slice-ids.ensures;
      within = omega (arith, c.if-parents-used.false, c.loop-at.auto.parents, i.within);
      below = omega (arith, less);
      can = c.in-Some.ensures.goes.keeps;
      commits = commit_put i.infos c.in-Ok.info c.loop-at.used i.used _ _ c.loop-at.at c.of.result i.number c.of.ensures i.commits (below_room c.args.limit (length c.args.commits.now) c.loop-at.at less);
      parents = ids_put i.infos c.in-Ok.info c.loop-at.used i.used _ _ _ _ c.as_slice-ids.ensures i.parents c.put_ids.ensures;
    }

pub returns : goal.returns
returns g c =
    let i = c.loop-at.invariant in
    fills_most g.I.Iterator.next_gives g.E.Into.converts c.args.limit c.args.walk i.infos _ _ _ _ c.loop-at.at c.loop-at.used i.number i.used i.commits i.parents c.loop-at.walk i.drawn
    (omega (arith, i.below, c.loop-at-test.false, c.most_of-most.ensures)) c.ending_at.result c.so_far-2.result c.ending_at.ensures c.so_far-2.ensures
