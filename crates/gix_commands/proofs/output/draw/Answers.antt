use Rattle.std.proofs.Common.{◌∙◌, ap, refl, subst, Err, [], ◌++◌, ◌∷◌}
use Rattle.gix_commands.proofs.Common.{ObjectId, err_from_is_err_and}
use Rattle.gix_commands.specs.Chosen.{HasTextIn, line_in}
use Rattle.gix_commands.specs.Output.{held_in}
use Rattle.gix_commands.specs.declared.output.Sink.{Sink}
use Rattle.gix_commands.proofs.ChosenFacts.{at_first, have_more, have_none, joined, lacks_at, lines_at, moves, none_kept, takes_kept, takes_left, text_at}
use Rattle.gix_merge_base.proofs.Gathering.{drawn_one}
use Rattle.gix_commands.proofs.OutputFacts.{adds_all, adds_cut, adds_enough, adds_failed, adds_none, same_form, stops_at_end, stops_enough, takes_nothing}
use Rattle.gix_commands.proofs.output.draw.Goals as goal
use Rattle.gix_commands.proofs.output.draw.Goals.{then-branch+in_ok-take, else-branch}

-- nothing was drawn
pub draws-init : goal.draws-init
draws-init g c = record {
  infos = [];
  drawn = refl;
  can = c.requires.can;
  finite = c.requires.finite;
  form = refl;
  have = have_none _;
  at = at_first c.args.chooser.now c.requires.fresh;
  takes = takes_nothing _ _ _ _ _ (none_kept c.args.chooser.now);
}

pub returns-in_default-clause-adds : goal.returns-in_default-clause-adds
returns-in_default-clause-adds g c = adds_all g.I.Iterator.next_gives g.E.Into.converts _ _ _ _ _ _ _ _ _ _ c.draws.invariant.infos c.draws.invariant.have _ _ _ c.draws.invariant.at.left c.draws-test.ensures c.draws.invariant.drawn c.in_default.ensures.steps c.draws.invariant.takes

pub returns-in-Err-clause-adds : goal.returns-in-Err-clause-adds
returns-in-Err-clause-adds g c = adds_failed g.I.Iterator.next_gives g.E.Into.converts _ _ _ _ _ _ _ _ _ _ c.draws.invariant.infos c.draws.invariant.have _ _ _ _ _ _ c.draws.invariant.at.left c.draws-test.ensures c.draws.invariant.drawn c.in-Some.ensures.steps c.in-Err.is c.into.ensures c.draws.invariant.takes

-- memory ran out for the look at a commit
pub returns-in_err-takes-clause-adds : goal.returns-in_err-takes-clause-adds
returns-in_err-takes-clause-adds g c =
    let p = err_from_is_err_and c.from_residual.result c.from_residual.ensures.1 in
    adds_none g.I.Iterator.next_gives g.E.Into.converts _ _ _ _ _ _ _ _ _ _ c.draws.invariant.infos c.draws.invariant.have _ _ _ _ _ _ _ c.draws.invariant.at.left c.draws-test.ensures c.draws.invariant.drawn c.in-Some.ensures.steps c.in-Ok.is c.draws.invariant.takes (p.1 ∙ ap (λ f. Err f) p.2) (lacks_at c.args.chooser.now c.draws.invariant.infos _ c.draws.invariant.at _ _ c.in_err-takes.ensures.err)

pub returns-in_err-take-clause-adds : goal.returns-in_err-take-clause-adds
returns-in_err-take-clause-adds g c =
    let p = err_from_is_err_and c.from_residual-in_err-take.result c.from_residual-in_err-take.ensures.1 in
    adds_cut g.I.Iterator.next_gives g.E.Into.converts _ _ _ _ _ _ _ _ _ _ c.draws.invariant.infos c.draws.invariant.have _ _ _ _ _ _ _ _ _ c.draws.invariant.at.left c.draws-test.ensures c.draws.invariant.drawn c.in-Some.ensures.steps c.in-Ok.is c.draws.invariant.takes (p.1 ∙ ap (λ f. Err f) p.2)
    (same_form _ _ c.draws.invariant.form _ _ _ _ _ c.in_err-take.ensures.err)

pub returns-in_default-clause-within : goal.returns-in_default-clause-within
returns-in_default-clause-within g c = stops_at_end g.I.Iterator.next_gives g.E.Into.converts (HasTextIn c.args.chooser.now) _ _ (line_in c.args.chooser.now.objects c.args.chooser.now.shown) c.args.sink.now.form _ (g.W.Write.contents c.args.writer.now) (held_in c.args.sink.now) _ _ c.draws.invariant.infos _ c.draws.invariant.at.left c.draws-test.ensures c.draws.invariant.drawn c.in_default.ensures.steps

-- the lines are the same all along
pub returns-in_default-clause-lines : goal.returns-in_default-clause-lines
returns-in_default-clause-lines g c = lines_at c.args.chooser.now _ _ c.draws.invariant.at

pub returns-clause-lines : goal.returns-clause-lines
returns-clause-lines g c = lines_at c.args.chooser.now _ _ c.draws.invariant.at

pub returns-clause-adds : goal.returns-clause-adds
returns-clause-adds g c = adds_enough g.I.Iterator.next_gives g.E.Into.converts _ _ _ _ _ _ _ _ _ c.draws.invariant.infos c.draws.invariant.have _ _ _ c.draws.invariant.at.left c.draws-test.ensures c.draws.invariant.drawn c.draws.invariant.takes

pub returns-clause-within : goal.returns-clause-within
returns-clause-within g c = stops_enough g.I.Iterator.next_gives g.E.Into.converts (HasTextIn c.args.chooser.now) _ _ (line_in c.args.chooser.now.objects c.args.chooser.now.shown) c.args.sink.now.form _ (g.W.Write.contents c.args.writer.now) (held_in c.args.sink.now) _ c.draws.invariant.infos _ c.draws.invariant.at.left c.draws-test.ensures c.draws.invariant.drawn

-- one more commit was drawn
pub draws-preserved-after-branch : goal.draws-preserved-after-branch
draws-preserved-after-branch g c =
    let i = c.draws.invariant in
    let m = moves c.args.chooser.now i.infos c.in-Ok.info c.draws.chooser c.takes.new.self c.in_ok-takes.field-0 i.at c.draws-test.ensures c.in_ok-takes.ensures.ok in
    record {
      infos = i.infos ++ c.in-Ok.info ∷ [];
      drawn = drawn_one g.I.Iterator.next_gives _ _ _ _ _ _ i.drawn c.in-Some.ensures.steps c.in-Ok.is;
      can = c.in-Some.ensures.goes.keeps;
      finite = (c.in-Some.ensures.goes.on i.finite).1;
      form = elim c.if-branch.branch [
        | then-branch+in_ok-take w ↦ ap (λ (s : Sink). s.form) w.sink-is ∙ w.take.ensures.form ∙ i.form
        | else-branch w ↦ ap (λ (s : Sink). s.form) w.sink-is ∙ i.form
      ];
      have = have_more _ i.infos c.in-Ok.info i.have (subst (λ (Has : ObjectId → Type 0). Has c.in-Ok.info.id) (text_at c.args.chooser.now i.infos _ i.at) c.in_ok-takes.ensures.text);
      at = m.0;
      takes = elim c.if-branch.branch [
        | then-branch+in_ok-take w ↦ joined g.W.Write.contents held_in _ _ _ _ _ _ _ _ _ w.writer-is w.sink-is (takes_kept c.args.chooser.now i.infos c.in-Ok.info _ m.1 w.if-branch.true _ _ (lines_at c.args.chooser.now _ c.takes.new.self m.0) _ _ i.form _ _ _ _ _ _ i.takes w.in_ok-take.ensures.ok)
        | else-branch w ↦ joined g.W.Write.contents held_in _ _ _ _ _ _ _ _ _ w.writer-is w.sink-is (takes_left c.args.chooser.now i.infos c.in-Ok.info _ m.1 w.if-branch.false _ _ _ _ _ _ i.takes)
      ];
    }

pub draws-preserved : goal.draws-preserved
draws-preserved g c =
    let i = c.draws.invariant in
    let m = moves c.args.chooser.now i.infos c.in-Ok.info c.draws.chooser c.takes.new.self c.in_ok-takes.field-0 i.at c.draws-test.ensures c.in_ok-takes.ensures.ok in
    record {
      infos = i.infos ++ c.in-Ok.info ∷ [];
      drawn = drawn_one g.I.Iterator.next_gives _ _ _ _ _ _ i.drawn c.in-Some.ensures.steps c.in-Ok.is;
      can = c.in-Some.ensures.goes.keeps;
      finite = (c.in-Some.ensures.goes.on i.finite).1;
      form = elim c.if-branch.branch [
        | then-branch+in_ok-take w ↦ ap (λ (s : Sink). s.form) w.sink-is ∙ w.take.ensures.form ∙ i.form
        | else-branch w ↦ ap (λ (s : Sink). s.form) w.sink-is ∙ i.form
      ];
      have = have_more _ i.infos c.in-Ok.info i.have (subst (λ (Has : ObjectId → Type 0). Has c.in-Ok.info.id) (text_at c.args.chooser.now i.infos _ i.at) c.in_ok-takes.ensures.text);
      at = m.0;
      takes = elim c.if-branch.branch [
        | then-branch+in_ok-take w ↦ joined g.W.Write.contents held_in _ _ _ _ _ _ _ _ _ w.writer-is w.sink-is (takes_kept c.args.chooser.now i.infos c.in-Ok.info _ m.1 w.if-branch.true _ _ (lines_at c.args.chooser.now _ c.takes.new.self m.0) _ _ i.form _ _ _ _ _ _ i.takes w.in_ok-take.ensures.ok)
        | else-branch w ↦ joined g.W.Write.contents held_in _ _ _ _ _ _ _ _ _ w.writer-is w.sink-is (takes_left c.args.chooser.now i.infos c.in-Ok.info _ m.1 w.if-branch.false _ _ _ _ _ _ i.takes)
      ];
    }
