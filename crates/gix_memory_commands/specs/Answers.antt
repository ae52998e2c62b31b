-- What a call answers, and what it leaves in the room for lines.
use Rattle.std.specs.Prelude.{◌≢◌, ℕ, ◌-◌, nat_eq, List, [], ◌++◌, map, replicate, Some, Result, Ok, Err, if◌then◌else◌, codes}
use Rattle.std.specs.Str.Lossy.{utf8_lossy}
use Rattle.gix_hash.specs.declared.ObjectId.{ObjectId}
use Rattle.gix_hash.specs.Id.{bytes_of, id_len, kind_of}
use Rattle.gix_words.specs.declared.fault.Fault.{Fault}
use Rattle.gix_words.specs.declared.fault.Fault.TheVariants as fault
use Rattle.gix_commands.specs.Run.{Runs}
use Rattle.gix_memory_commands.specs.declared.answer.Answer.{Answer}
use Rattle.gix_memory_commands.specs.Room.{answer_to, of_length, put_in}
use Rattle.gix_memory_commands.specs.WordsOf.{words_of}

-- an answer that names a word or a record, or a room
abbrev pub of_place : ℕ → ℕ → Answer
of_place number place = record { number = number; id_length = 0; length = 0; place = place; id = replicate 32 0 }

-- an id of 20 bytes has twelve zeros behind it
abbrev pub of_id : ℕ → ObjectId → Answer
of_id number i = record { number = number; id_length = id_len (kind_of i); length = 0; place = 0; id = bytes_of i ++ replicate (32 - id_len (kind_of i)) 0 }

-- each fault has a number, and the place or the id that it names
abbrev pub of_fault : Fault → Answer
of_fault fault.Usage = of_length 2 0
of_fault (fault.Id place) = of_place 3 place
of_fault (fault.Record place) = of_place 4 place
of_fault (fault.Missing i) = of_id 5 i
of_fault (fault.WrongKind i) = of_id 6 i
of_fault fault.Broken = of_length 7 0
of_fault (fault.Cycle i) = of_id 8 i
of_fault fault.Memory = of_length 9 0
of_fault fault.Read = of_length 10 0
of_fault fault.Write = of_length 11 0
of_fault fault.Internal = of_length 12 0
of_fault (fault.Graph e) = of_length 13 0
of_fault (fault.Row i) = of_id 14 i
of_fault (fault.Disagrees i) = of_id 15 i
of_fault (fault.Name i) = of_id 16 i
of_fault (fault.Entries n) = of_place 22 n

-- what a run of the commands answers and writes over a text of words and the bytes of records
abbrev pub RunsOver : List ℕ → List ℕ → Result (Unit {0}) Fault → List ℕ → Type 0
RunsOver words records answer lines = Runs (map utf8_lossy (words_of words)) (Some records) (Some []) answer (Some lines)

-- a run fails so. None does for the reader or the writer, or for what never happens
pub record FailsOver (words records : List ℕ) (e : Fault) : Type 0 where
  pub lines : List ℕ
  pub runs : RunsOver words records (Err e) lines
  pub given : e ≢ fault.Read
  pub written : e ≢ fault.Write
  pub sound : e ≢ fault.Internal

-- over a text of words, the bytes of records and the room that a caller has: which answers a call may give, and what the room then holds
pub data Answers (words records room : List ℕ) : Answer → List ℕ → Type 0 where
  ran : (lines : List ℕ) → RunsOver words records (Ok tt) lines → Answers words records room (answer_to lines room) (put_in lines room)
  failed : (e : Fault) → FailsOver words records e → Answers words records room (of_fault e) room

-- the text of an answer of this number
abbrev pub text_of : ℕ → List ℕ
text_of n =
    if nat_eq n 0 then codes "well"
    else if nat_eq n 1 then codes "room too small"
    else if nat_eq n 2 then codes "usage"
    else if nat_eq n 3 then codes "bad id in word"
    else if nat_eq n 4 then codes "bad record"
    else if nat_eq n 5 then codes "missing"
    else if nat_eq n 6 then codes "wrong kind"
    else if nat_eq n 7 then codes "broken object"
    else if nat_eq n 8 then codes "cycle"
    else if nat_eq n 9 then codes "out of memory"
    else if nat_eq n 10 then codes "read failed"
    else if nat_eq n 11 then codes "write failed"
    else if nat_eq n 12 then codes "internal fault"
    else if nat_eq n 13 then codes "bad commit-graph"
    else if nat_eq n 14 then codes "bad row in the commit-graph"
    else if nat_eq n 15 then codes "commit-graph disagrees"
    else if nat_eq n 16 then codes "bad name in tree"
    else if nat_eq n 17 then codes "more commits"
    else if nat_eq n 18 then codes "no repository"
    else if nat_eq n 19 then codes "unknown revision"
    else if nat_eq n 20 then codes "damaged files of objects"
    else if nat_eq n 21 then codes "another object than the id's"
    else if nat_eq n 22 then codes "too many entries"
    else if nat_eq n 23 then codes "no commit yet"
    else if nat_eq n 24 then codes "revision of a form not taken"
    else if nat_eq n 25 then codes "ambiguous revision"
    else if nat_eq n 26 then codes "no upstream"
    else if nat_eq n 27 then codes "no such parent"
    else if nat_eq n 28 then codes "no such entry"
    else if nat_eq n 29 then codes "too many tags"
    else if nat_eq n 30 then codes "broken ref"
    else if nat_eq n 31 then codes "bad config line"
    else if nat_eq n 32 then codes "unknown format of repository"
    else if nat_eq n 33 then codes "unknown extension"
    else if nat_eq n 34 then codes "refs in a reftable"
    else if nat_eq n 35 then codes "bad packed ref"
    else if nat_eq n 36 then codes "bad line of shallow"
    else if nat_eq n 37 then codes "damaged file of repository"
    else codes "unknown fault"
