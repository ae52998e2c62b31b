use Rattle.std.proofs.Common.{◌++◌, ◌∷◌, [], Err, ap, subst, ◌∙◌}
use Rattle.std.proofs.lemmas.Result.{err_from_is_err_and}
use Rattle.gix_hash.specs.Id.{hex_of}
use Rattle.gix_object.specs.TreeRefIter.{entry_of}
use Rattle.gix_lines.specs.Inside.{names_above}
use Rattle.gix_lines.specs.Output.{Puts}
use Rattle.gix_lines.proofs.Names.{line_put}
use Rattle.gix_lines.proofs.Putting.{puts_less, puts_more}
use Rattle.gix_lines.proofs.lines.put_line.Goals as goal

pub returns-in_err-put_mode : goal.returns-in_err-put_mode
returns-in_err-put_mode g c =
    let p = err_from_is_err_and c.from_residual.result c.from_residual.ensures.1 in
    let e = entry_of c.args.entry.now in
    line_put c.args.ending c.args.walk.now.above e (puts_less ((hex_of e.id ++ 32 ∷ []) ++ (names_above c.args.walk.now.above ++ (e.name ++ c.args.ending ∷ []))) c.in_err-put_mode.was (p.1 ∙ ap (λ f. Err f) p.2) c.put_mode.ensures)

pub returns-in_err-put_id : goal.returns-in_err-put_id
returns-in_err-put_id g c =
    let p = err_from_is_err_and c.from_residual-in_err-put_id.result c.from_residual-in_err-put_id.ensures.1 in
    let e = entry_of c.args.entry.now in
    line_put c.args.ending c.args.walk.now.above e (puts_more c.in_ok-put_mode.ensures
    (puts_less (names_above c.args.walk.now.above ++ (e.name ++ c.args.ending ∷ [])) c.in_err-put_id.was (p.1 ∙ ap (λ f. Err f) p.2) c.put_id.ensures))

pub returns-in_err-put_names : goal.returns-in_err-put_names
returns-in_err-put_names g c =
    let p = err_from_is_err_and c.from_residual-in_err-put_names.result c.from_residual-in_err-put_names.ensures.1 in
    let e = entry_of c.args.entry.now in
    line_put c.args.ending c.args.walk.now.above e (puts_more c.in_ok-put_mode.ensures
    (puts_more c.in_ok-put_id.ensures (puts_less (e.name ++ c.args.ending ∷ []) c.in_err-put_names.was (p.1 ∙ ap (λ f. Err f) p.2) c.put_names.ensures)))

pub returns : goal.returns
returns g c =
    let e = entry_of c.args.entry.now in
    let name = subst (λ name. Puts (g.W.Write.contents c.put_names.new.writer) c.put_names.new.buffer (name ++ c.args.ending ∷ []) c.put.result (g.W.Write.contents c.put.new.writer) c.put.new.self) c.as_bytes.ensures c.put.ensures in
    line_put c.args.ending c.args.walk.now.above e (puts_more c.in_ok-put_mode.ensures (puts_more c.in_ok-put_id.ensures (puts_more c.in_ok-put_names.ensures name)))
