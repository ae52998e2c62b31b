-- What a caller finds in its room: the lines that the page promises, where they fit.
use Rattle.std.specs.Prelude.{◌≡◌, ◌≢◌, ◌≤◌, ◌⊎◌, ℕ, nat_le, List, [], ◌++◌, map, length, drop, replicate, Some, Ok, if◌then◌else◌}
use Rattle.std.specs.Str.Lossy.{utf8_lossy}
use Rattle.gix_statement.specs.WholeStatement.{AreFed, AreNamed, Objects, Promises, Row}
use Rattle.gix_words.specs.declared.fault.Fault.TheVariants as fault
use Rattle.gix_memory_commands.specs.declared.answer.Answer.{Answer}
use Rattle.gix_memory_commands.specs.Nothing.{LinesOfNone}
use Rattle.gix_memory_commands.specs.WordsOf.{words_of}

-- an answer that names nothing
abbrev pub of_length : ℕ → ℕ → Answer
of_length number n = record { number = number; id_length = 0; length = n; place = 0; id = replicate 32 0 }

-- all went well, and so many bytes are in the room
abbrev pub well : ℕ → Answer
well n = of_length 0 n

-- the room was too small for so many bytes
abbrev pub too_small : ℕ → Answer
too_small n = of_length 1 n

-- bytes are at the front of the room where they fit, and the rest of it, or where they don't all of it, is as it was
abbrev pub put_in : List ℕ → List ℕ → List ℕ
put_in bytes room = if nat_le (length bytes) (length room) then bytes ++ drop (length bytes) room else room

-- the answer to a run that ended well with these lines
abbrev pub answer_to : List ℕ → List ℕ → Answer
answer_to lines room = if nat_le (length lines) (length room) then well (length lines) else too_small (length lines)

-- what the page promises of a run over a text of words and such objects that ended well and wrote these lines
abbrev pub PromisesOf : (AreGiven : Objects → Type 0) → (words lines : List ℕ) → Type 0
PromisesOf AreGiven words lines =
    Promises fault.Write (map utf8_lossy (words_of words)) (λ (objects : Objects) (rows : List Row). AreGiven objects × (rows ≡ [])) (Some []) (Ok tt)
    (Some lines)

-- over the bytes of records
abbrev pub PromisesOver : (words records lines : List ℕ) → Type 0
PromisesOver words records = PromisesOf (AreFed (Some records)) words

-- over a repository: some objects, each of whose ids is its hash; that they are those in its files is what the readers do, only tested
abbrev pub PromisesNamed : (words lines : List ℕ) → Type 0
PromisesNamed = PromisesOf AreNamed

-- By the numbers 0 and 1 there are lines of which this is promised: by 0 they are at the front of the room, and by 1 the answer says how many
-- bytes they have. By each number but 0 the room is as it was.
abbrev pub IsWholeOf : (IsPromised : List ℕ → Type 0) (room : List ℕ) → Answer → List ℕ → Type 0
IsWholeOf IsPromised room answer new =
    (answer.number ≤ 1 → (lines : List ℕ) × IsPromised lines × (answer ≡ answer_to lines room) × (new ≡ put_in lines room))
    × (answer.number ≢ 0 → new ≡ room)

abbrev pub IsWhole : (words records room : List ℕ) → Answer → List ℕ → Type 0
IsWhole words records = IsWholeOf (PromisesOver words records)

-- over a repository; or the words name no tip, since each set in them is empty, and so there is no line, or the number 0
abbrev pub IsWholeNamed : (words room : List ℕ) → Answer → List ℕ → Type 0
IsWholeNamed words = IsWholeOf (λ lines. PromisesNamed words lines ⊎ LinesOfNone words lines)
