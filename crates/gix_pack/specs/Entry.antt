use Rattle.std.specs.Prelude.{ℕ, ◌<◌}
use Rattle.gix_pack.specs.declared.entry.Base.{Base}
use Rattle.gix_pack.specs.declared.entry.Base.TheVariants.{Whole, Offset, Id}

-- where a base is named by its offset, this is below that of the entry
abbrev pub IsBefore : ℕ → Base → Type 0
IsBefore at (Whole kind) = Unit {0}
IsBefore at (Offset base) = base < at
IsBefore at (Id id) = Unit {0}
