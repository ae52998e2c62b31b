use Rattle.std.proofs.Common.{subst}
use Rattle.std.specs.Result.{result_map_both}
use Rattle.gix_revwalk.specs.Reading.{ReadsParentIds}
use Rattle.gix_paint.proofs.Reading.{front_read}
use Rattle.gix_paint.proofs.source.stored_parents.Goals as goal

pub returns-clause-read : goal.returns-clause-read
returns-clause-read g c =
    front_read (g.F.Find.objects c.args.source.now.objects.now) c.args.id.now c.in_ok-branch.field-0.items
    (subst (λ read. ReadsParentIds (g.F.Find.objects c.args.source.now.objects.now) c.args.id.now (result_map_both (λ ids. ids.items) (λ e. e) read)) c.in_ok-branch.was c.in_ok-find_parents.ensures.reads)
