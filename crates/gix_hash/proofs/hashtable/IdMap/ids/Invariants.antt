use Rattle.std.proofs.Common.{◌≡◌, ◌++◌, map}
use Rattle.gix_hash.specs.Tables.{short_id, long_id}
use Rattle.gix_hash.proofs.hashtable.IdMap.ids.Given as goal

abbrev pub invariant-loop-bytes : goal.invariant-loop-bytes
invariant-loop-bytes g l = l.ids.items ++ map short_id l.bytes-iterator ≡ map short_id l.initial.bytes-iterator

abbrev pub invariant-loop-bytes-2 : goal.invariant-loop-bytes-2
invariant-loop-bytes-2 g l = l.ids.items ++ map long_id l.bytes-iterator ≡ l.initial.ids.items ++ map long_id l.initial.bytes-iterator
