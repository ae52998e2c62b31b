-- The entries of a tree and of the trees in it, and the lines that they are written as.
use Rattle.std.specs.Prelude.{ℕ, ◌^◌, min, nat_lt, List, Option, Some, None, Result, Ok, Err, if◌then◌else◌}
use Rattle.std.specs.List.{flat_map}
use Rattle.gix_hash.specs.declared.ObjectId.{ObjectId}
use Rattle.gix_lines.specs.Files.{file_line}
use Rattle.gix_object.specs.Object.{Objects}
use Rattle.gix_tree.specs.declared.breadthfirst.Error.{Error}
use Rattle.gix_tree.specs.Recorder.{Record}
use Rattle.gix_tree.specs.Tracked.{Tracked, Tracks, fresh_recorder}
use Rattle.gix_tree.specs.Walk.{DepthFirst}
use Rattle.gix_statement.specs.WholeStatement.{allowed}
use Rattle.gix_words.specs.declared.fault.Fault.{Fault}
use Rattle.gix_words.specs.declared.fault.Fault.TheVariants as fault
use Rattle.gix_words.specs.declared.words.EntryLines.{EntryLines}
use Rattle.gix_commands.specs.Walked.{never_faulty}

-- a walk in depth over stored objects, whose look-ups don't fail, answers this and leaves a fresh recorder so
abbrev pub RecordsTree : Objects → ObjectId → Tracked → Result (Unit {0}) Error → Type 0
RecordsTree objects tree recorder answer = DepthFirst objects (never_faulty objects) Tracks tree fresh_recorder recorder answer

-- entries up to a limit, one a line
abbrev pub file_lines : EntryLines → List Record → List ℕ
file_lines shown records = flat_map (file_line shown.ending) (allowed shown.limit records)

-- the most entries that are listed where no limit is asked for
abbrev pub most_entries : ℕ
most_entries = 2 ^ 28

-- how many lines a tree of so many entries has up to a limit, or that these are too many
abbrev pub number_of_lines : Option ℕ → ℕ → Result ℕ Fault
number_of_lines (Some limit) entries = Ok (min limit entries)
number_of_lines None entries = if nat_lt most_entries entries then Err (fault.Entries entries) else Ok entries
