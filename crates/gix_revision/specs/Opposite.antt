-- Revisions behind `--not`.
use Rattle.std.specs.Prelude.{not}
use Rattle.gix_revision.specs.declared.parse.Revision.{Revision}
use Rattle.gix_revision.specs.declared.parse.Revision.TheVariants.{One, Range, Symmetric, Neither, Parents, Without}

-- what is hidden isn't, and what isn't is
abbrev pub opposite : Revision → Revision
opposite (One rev is_hidden) = One rev (not is_hidden)
opposite (Range hidden tip) = Range tip hidden
opposite (Symmetric one other) = Neither one other
opposite (Neither one other) = Symmetric one other
opposite (Parents rev are_hidden) = Parents rev (not are_hidden)
opposite (Without rev parent is_hidden) = Without rev parent (not is_hidden)
