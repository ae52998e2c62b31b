-- The lines that the entries of trees are written as.
use Rattle.std.specs.Prelude.{ℕ, ◌-◌, List, [], ◌∷◌, ◌++◌, length, replicate, false}
use Rattle.std.specs.Fmt.{digits}
use Rattle.gix_hash.specs.Id.{hex_of}
use Rattle.gix_tree.specs.Recorder.{Record}

-- a number in octal digits, with zeros before them up to six
abbrev pub six_octal_digits : ℕ → List ℕ
six_octal_digits n = let shown = digits 8 false n in replicate (6 - length shown) 48 ++ shown

-- an entry's mode, a space, its id, a space, its path and the byte that ends a line
abbrev pub file_line : (ending : ℕ) → Record → List ℕ
file_line ending r = six_octal_digits r.mode ++ 32 ∷ (hex_of r.id ++ 32 ∷ (r.path ++ ending ∷ []))
