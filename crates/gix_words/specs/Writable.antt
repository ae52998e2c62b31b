-- Requests that words ask for.
use Rattle.std.specs.Prelude.{◌≡◌, ◌≢◌, ◌≤◌, ◌⊎◌, ℕ, ℤ, pos, negsuc, [], true, false, IfSome, Some, codes}
use Rattle.std.specs.Str.{IsUtf8}
use Rattle.gix_revwalk.specs.declared.Parents.TheVariants as mode
use Rattle.gix_simple.specs.declared.Sorting.TheVariants as sorting
use Rattle.gix_words.specs.declared.words.Line.{Line}
use Rattle.gix_words.specs.declared.words.Order.{Order}
use Rattle.gix_words.specs.declared.words.Order.TheVariants.{Simple, Topo}
use Rattle.gix_words.specs.declared.words.Shown.{Shown}
use Rattle.gix_words.specs.Formats.{format_bytes, format_of, no_format, packed}
use Rattle.gix_words.specs.Words.{Request, Commits, Files, Ahead, Contained, Containing, Bases}

-- a time of ten digits at most
abbrev pub IsTenDigits : ℤ → Type 0
IsTenDigits (pos n) = n ≤ 9999999999
IsTenDigits (negsuc n) = ⊥

-- another number of nine digits at most
abbrev pub IsNineDigits : ℕ → Type 0
IsNineDigits n = n ≤ 999999999

-- an order that a name and an option choose: by time through all parents alone
abbrev pub IsOrder : Order → Type 0
IsOrder (Simple parents sorting.BreadthFirst) = Unit {0}
IsOrder (Simple parents (sorting.ByCommitTime by)) = parents ≡ mode.All
IsOrder (Simple parents (sorting.ByCommitTimeCutoff by seconds)) = (parents ≡ mode.All) × IsTenDigits seconds
IsOrder (Topo parents by) = Unit {0}

abbrev pub IsEnding : ℕ → Type 0
IsEnding ending = (ending ≡ 10) ⊎ (ending ≡ 0)

-- the id with nothing or the subject behind it, or a format alone, which is read from a text
abbrev pub IsWritableLine : Line → Type 0
IsWritableLine line =
    ((line.id ≡ true) × ((line.format ≡ no_format) ⊎ (line.format ≡ packed (codes " %s"))))
    ⊎ ((line.id ≡ false) × (line.time ≡ false) × (line.parents ≡ false) × IsUtf8 (format_bytes line.format) × (format_of (format_bytes line.format) ≡ Some line.format))

abbrev pub IsWritableShown : Shown → Type 0
IsWritableShown shown = IfSome shown.until IsTenDigits × IsNineDigits shown.skip × IfSome shown.limit IsNineDigits × IsWritableLine shown.line × IsEnding shown.line.ending

abbrev pub IsWritable : Request → Type 0
IsWritable (Commits order shown tips hidden) = IsOrder order × IsWritableShown shown × (tips ≢ [])
IsWritable (Files shown tree) = IfSome shown.limit IsNineDigits × IsEnding shown.ending
IsWritable (Ahead one other) = Unit {0}
IsWritable (Contained tip ids) = ids ≢ []
IsWritable (Containing target tips) = tips ≢ []
IsWritable (Bases one others) = others ≢ []
