use Rattle.std.proofs.Common.{List, drop}
use Rattle.gix_revision.specs.declared.meaning.Resolved.{Resolved}
use Rattle.gix_revision.specs.Resolves.{AddsAll}
use Rattle.gix_revision.proofs.meaning.push_parents.Given as goal

-- adding the ids that are left is adding all
abbrev pub invariant-loop-id : goal.invariant-loop-id
invariant-loop-id l = (new : List Resolved) → AddsAll l.fn.are_hidden (drop l.id-index l.parents) l.found.items new → AddsAll l.fn.are_hidden l.parents l.fn.found.items new
