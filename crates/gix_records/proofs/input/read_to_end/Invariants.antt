use Rattle.std.proofs.Common.{◌<◌, [], vec_len}
use Rattle.gix_records.specs.Input.{Moves}
use Rattle.gix_records.proofs.input.read_to_end.Given as goal

-- what was read is kept
abbrev pub invariant-loop : goal.invariant-loop
invariant-loop g l = record {
  moves : Moves (g.R.Read.remaining l.fn.reader) (g.R.Read.remaining l.reader) [] l.input.items;
  room : 0 < vec_len l.chunk;
}
