use Rattle.std.proofs.Common.{◌≤◌, length}
use Rattle.gix_refs.proofs.packed.PackedRefsIterator.next.Given as goal

abbrev pub invariant-loop : goal.invariant-loop
invariant-loop l = length l.self.rest.now ≤ length l.initial.self.rest.now
