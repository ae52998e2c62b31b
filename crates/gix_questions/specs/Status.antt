-- The status of an answer.
use Rattle.std.specs.Prelude.{◌==◌, ◌-◌, ℕ, nat_lt, if◌then◌else◌}
use Rattle.gix_options.specs.declared.name.Name.{Name}
use Rattle.gix_options.specs.declared.name.Name.TheVariants as name

-- of an answer of so many lines to a question about so many ids: 3 where some are not contained, where none contains the first, or where the
-- one isn't reached
abbrev pub status_of : Name → (ids lines : ℕ) → ℕ
status_of name.Contains ids lines = if nat_lt lines (ids - 1) then 3 else 0
status_of name.Containing ids lines = if lines == 0 then 3 else 0
status_of name.IsAncestor ids lines = if lines == 0 then 3 else 0
status_of other ids lines = 0
