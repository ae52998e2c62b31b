use Rattle.std.proofs.Common.{sym, ap, ◌∙◌}
use Rattle.gix_object.specs.CommitRefIter.{signature_shown}
use Rattle.gix_revwalk.proofs.read.find_parents.Goals as goal

pub returns-in-Ok-clause-reads : goal.returns-in-Ok-clause-reads
returns-in-Ok-clause-reads g c =
    let front = c.in_ok-parent_ids.ensures.found in
    record { bytes = front.bytes; stored = front.stored; parents = front.parents; committer = (c.in-Ok.field-0.bytes.now, sym front.told ∙ ap signature_shown c.in-Ok.is); fault = tt }
