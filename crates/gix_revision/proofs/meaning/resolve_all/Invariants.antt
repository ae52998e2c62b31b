use Rattle.gix_revision.specs.Resolves.{AddsCommits}
use Rattle.gix_revision.proofs.meaning.resolve_all.Given as goal

abbrev pub invariant-loop-named : goal.invariant-loop-named
invariant-loop-named g l = AddsCommits l.fn.are_hidden l.fn.found.items l.found.items

abbrev pub invariant-loop-head : goal.invariant-loop-head
invariant-loop-head g l = AddsCommits l.fn.are_hidden l.fn.found.items l.found.items
