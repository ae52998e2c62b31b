-- What a store finds at an id.
use Rattle.std.specs.Prelude.{ℕ, List}
use Rattle.gix_hash.specs.declared.ObjectId.{ObjectId}
use Rattle.gix_names.specs.Named.{IsNamed}
use Rattle.gix_graph_verify.specs.declared.objects.Found.{Found}
use Rattle.gix_graph_verify.specs.declared.objects.Found.TheVariants as found

-- what a store finds at an id, and puts into the buffer, is the object of the id
abbrev pub IsFound : ObjectId → Found → List ℕ → Type 0
IsFound i (found.Named kind) bytes = IsNamed i kind bytes
IsFound i found.Misnamed bytes = Unit {0}
IsFound i found.Missing bytes = Unit {0}
