use Rattle.std.proofs.Common.{◌≡◌, ◌∙◌, Result, Err, OnOk, ap, refl, subst, sym}
use Rattle.gix_commands.proofs.Common.{Fault, err_from_is_err_and}
use Rattle.gix_commands.specs.Chosen.{line_in}
use Rattle.gix_commands.proofs.WrittenForms.{by_lines, from_drawn, lines_cut, lines_out, none_held, number_failed, number_out, reverse_failed, reverse_out}
use Rattle.gix_commands.proofs.output.write_commits.Goals as goal

pub returns-in_err-write_out-in-Lines : goal.returns-in_err-write_out-in-Lines
returns-in_err-write_out-in-Lines g c =
    let p = err_from_is_err_and c.from_residual.result c.from_residual.ensures.1 in
    let drawn = from_drawn g.I.Iterator.next_gives g.E.Into.converts _ _ _ _ _ _ _ _ _ _ _ _ c.draw-drawn.ensures.adds c.form-form.ensures (none_held _ _ c.new.ensures.items c.new-2.ensures.items) in
    lines_cut g.I.Iterator.next_gives g.E.Into.converts _ _ _ _ _ _ _ (sym c.form-form.ensures ∙ c.in-Lines.is) _ drawn c.in_err-write_out-in-Lines.ensures.fault (p.1 ∙ ap (λ f. Err f) p.2)

pub returns-in-Lines : goal.returns-in-Lines
returns-in-Lines g c =
    let drawn = from_drawn g.I.Iterator.next_gives g.E.Into.converts _ _ _ _ _ _ _ _ _ _ _ _ c.draw-drawn.ensures.adds c.form-form.ensures (none_held _ _ c.new.ensures.items c.new-2.ensures.items) in
    lines_out g.I.Iterator.next_gives g.E.Into.converts _ _ _ _ _ _ _ (sym c.form-form.ensures ∙ c.in-Lines.is) c.draw-drawn.result drawn c.in_ok-write_out-in-Lines.ensures.ok

pub returns-in_err-drawn-in-Count : goal.returns-in_err-drawn-in-Count
returns-in_err-drawn-in-Count g c =
    let p = err_from_is_err_and c.from_residual-in_err-drawn-in-Count.result c.from_residual-in_err-drawn-in-Count.ensures.1 in
    let drawn = from_drawn g.I.Iterator.next_gives g.E.Into.converts _ _ _ _ _ _ _ _ _ _ _ _ c.draw-drawn.ensures.adds c.form-form.ensures (none_held _ _ c.new.ensures.items c.new-2.ensures.items) in
    number_failed g.I.Iterator.next_gives g.E.Into.converts _ _ _ _ _ _ _ (sym c.form-form.ensures ∙ c.in-Count.is) _ drawn c.in_err-drawn-in-Count.was (p.1 ∙ ap (λ f. Err f) p.2)

pub returns-in-Count : goal.returns-in-Count
returns-in-Count g c =
    let drawn = from_drawn g.I.Iterator.next_gives g.E.Into.converts _ _ _ _ _ _ _ _ _ _ _ _ c.draw-drawn.ensures.adds c.form-form.ensures (none_held _ _ c.new.ensures.items c.new-2.ensures.items) in
    number_out g.I.Iterator.next_gives g.E.Into.converts _ _ _ _ _ _ _ (sym c.form-form.ensures ∙ c.in-Count.is) c.draw-drawn.result c.in_ok-drawn-in-Count.was drawn c.draw-drawn.new.sink.number refl c.write_number.result c.write_number.ensures

pub returns-in_err-drawn-in-Reverse : goal.returns-in_err-drawn-in-Reverse
returns-in_err-drawn-in-Reverse g c =
    let p = err_from_is_err_and c.from_residual-in_err-drawn-in-Reverse.result c.from_residual-in_err-drawn-in-Reverse.ensures.1 in
    let drawn = from_drawn g.I.Iterator.next_gives g.E.Into.converts _ _ _ _ _ _ _ _ _ _ _ _ c.draw-drawn.ensures.adds c.form-form.ensures (none_held _ _ c.new.ensures.items c.new-2.ensures.items) in
    reverse_failed g.I.Iterator.next_gives g.E.Into.converts _ _ _ _ _ _ _ (sym c.form-form.ensures ∙ c.in-Reverse.is) _ drawn c.in_err-drawn-in-Reverse.was (p.1 ∙ ap (λ f. Err f) p.2)

pub returns : goal.returns
returns g c =
    let drawn = from_drawn g.I.Iterator.next_gives g.E.Into.converts _ _ _ _ _ _ _ _ _ _ _ _ c.draw-drawn.ensures.adds c.form-form.ensures (none_held _ _ c.new.ensures.items c.new-2.ensures.items) in
    reverse_out g.I.Iterator.next_gives g.E.Into.converts _ _ _ _ _ _ _ (sym c.form-form.ensures ∙ c.in-Reverse.is) c.draw-drawn.result c.in_ok-drawn-in-Reverse.was drawn c.draw-drawn.new.sink.ids.items refl c.write_reversed.result (by_lines _ _ (subst (λ (r : Result (Unit {0}) Fault). OnOk r (line_in c.draw-drawn.new.chooser.objects c.draw-drawn.new.chooser.shown ≡ line_in c.args.chooser.objects c.args.chooser.shown)) c.in_ok-drawn-in-Reverse.was c.draw-drawn.ensures.lines) _ _ _ _ c.write_reversed.ensures)
