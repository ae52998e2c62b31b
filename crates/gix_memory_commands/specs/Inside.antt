-- How it is found that words name no tip: by the command that they are with an id behind them.
use Rattle.std.specs.Prelude.{ℕ, nat_eq, List, [], ◌∷◌, ◌++◌, map, length, Bool, true, false, Option, Some, None, Result, Ok, Err, if◌then◌else◌, codes}
use Rattle.std.specs.Str.Lossy.{utf8_lossy}
use Rattle.gix_words.specs.declared.fault.Fault.{Fault}
use Rattle.gix_words.specs.declared.words.Form.{Form}
use Rattle.gix_words.specs.declared.words.Form.TheVariants as form
use Rattle.gix_words.specs.Words.{Request, Commits, Files, Ahead, Contained, Containing, Bases}
use Rattle.gix_memory_commands.specs.Nothing.{an_id}
use Rattle.gix_memory_commands.specs.WordsOf.{words_of}

abbrev pub with_an_id : List ℕ → List (List ℕ)
with_an_id words = map utf8_lossy (words_of words) ++ an_id ∷ []

-- whether a number is asked for, where there is one id
abbrev pub if_alone : (ids : ℕ) → Bool → Option Bool
if_alone ids counts = if nat_eq ids 1 then Some counts else None

abbrev pub is_number : Form → Bool
is_number form.Lines = false
is_number form.Count = true
is_number form.Reverse = false

-- whether a number is asked for, where a list has one tip, or of one id one other is asked
abbrev pub none_of : Result Request Fault → Option Bool
none_of (Ok (Commits by shown tips hidden)) = if_alone (length tips) (is_number shown.form)
none_of (Ok (Contained tip ids)) = if_alone (length ids) false
none_of (Ok (Containing target tips)) = if_alone (length tips) false
none_of (Ok (Bases one others)) = if_alone (length others) false
none_of (Ok (Files shown tree)) = None
none_of (Ok (Ahead one other)) = None
none_of (Err e) = None

-- the lines of no commit
abbrev pub lines_of_number : Bool → List ℕ
lines_of_number true = codes "0\n"
lines_of_number false = []
