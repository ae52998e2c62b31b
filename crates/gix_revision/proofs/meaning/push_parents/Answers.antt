use Rattle.std.proofs.Common.{sym, subst, List}
use Rattle.std.proofs.lemmas.List.{drop_more}
use Rattle.gix_hash.specs.declared.ObjectId.{ObjectId}
use Rattle.gix_revision.specs.Resolves.{AddsAll}
use Rattle.gix_revision.proofs.meaning.push_parents.Goals as goal

pub loop-id-preserved : goal.loop-id-preserved
loop-id-preserved c = λ new rest. c.loop-id.invariant new
    (subst (λ (ids : List ObjectId). AddsAll c.args.are_hidden ids c.loop-id.found.items new) (sym (drop_more c.args.parents.now c.loop-id.id-index _ search)) (c.push_parent.new.found.items, c.in_ok-push_parent.ensures, rest))
