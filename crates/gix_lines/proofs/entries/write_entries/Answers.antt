use Rattle.std.proofs.Common.{◌≤◌, Err, ap, map, subst, sym, ◌∙◌}
use Rattle.std.proofs.lemmas.List.{length-map}
use Rattle.std.proofs.lemmas.Result.{err_from_is_err_and}
use Rattle.gix_object.specs.TreeRefIter.{items_left}
use Rattle.gix_tree.specs.Recorder.{record_of}
use Rattle.gix_tree.specs.Walk.{trees_of}
use Rattle.gix_lines.proofs.Putting.{begun_only, puts_as, written_behind}
use Rattle.gix_lines.proofs.Scripts.{walk_left}
use Rattle.gix_lines.proofs.entries.write_entries.Goals as goal

pub returns-in_err-put_lines : goal.returns-in_err-put_lines
returns-in_err-put_lines g c = λ calls visits script go many deep.
    let p = err_from_is_err_and c.from_residual.result c.from_residual.ensures.1 in
    let left = walk_left (trees_of c.args.store.now) (λ _ _. ⊥) c.args.depth (items_left c.in-Some.entries) c.in-Ok.walk script go deep c.in-Some.ensures c.in-Ok.ensures in
    let same = p.1 ∙ ap (λ f. Err f) p.2 in
    begun_only c.in-Ok-new.ensures same (puts_as (c.in_err-put_lines.was ∙ sym same) (c.put_lines.ensures (map record_of visits) left (subst (λ n. c.args.number ≤ n) (sym (length-map visits record_of)) many)))

pub returns : goal.returns
returns g c = λ calls visits script go many deep.
    let left = walk_left (trees_of c.args.store.now) (λ _ _. ⊥) c.args.depth (items_left c.in-Some.entries) c.in-Ok.walk script go deep c.in-Some.ensures c.in-Ok.ensures in
    written_behind _ c.in-Ok-new.ensures (c.in_ok-put_lines.ensures (map record_of visits) left (subst (λ n. c.args.number ≤ n) (sym (length-map visits record_of)) many)) c.finish.result c.finish.ensures.ok c.finish.ensures.fault
