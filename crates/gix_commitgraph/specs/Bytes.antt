-- The bytes that packed bytes are, with other owners or alone.
use Rattle.std.specs.Prelude.{ℕ, List}
use Rattle.std.specs.Arc.{arc_value}
use Rattle.gix_commitgraph.specs.declared.bytes.Bytes.{Bytes}
use Rattle.gix_commitgraph.specs.declared.bytes.Bytes.TheVariants.{Shared, Own}

abbrev pub packed_bytes : Bytes → List ℕ
packed_bytes (Shared bytes) = (arc_value bytes).items
packed_bytes (Own bytes) = bytes.items
