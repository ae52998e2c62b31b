-- Lines that are buffered before they are written, and commits that are held or counted.
use Rattle.std.specs.Prelude.{◌≡◌, ◌⊎◌, ◌+◌, ℕ, List, [], ◌++◌, length, Option, None, Some, Result, Ok, Err}
use Rattle.std.specs.Io.KnownBytes.{Appends}
use Rattle.std.specs.Iterator.{Yields, YieldsThen}
use Rattle.std.specs.List.{flat_map}
use Rattle.gix_hash.specs.declared.ObjectId.{ObjectId}
use Rattle.gix_lines.specs.Output.{Grows, WritesBeginning}
use Rattle.gix_revwalk.specs.declared.Info.{Info}
use Rattle.gix_words.specs.declared.fault.Fault.{Fault}
use Rattle.gix_words.specs.declared.fault.Fault.TheVariants as fault
use Rattle.gix_words.specs.declared.words.Form.{Form}
use Rattle.gix_words.specs.declared.words.Form.TheVariants as form
use Rattle.gix_commands.specs.declared.output.Sink.{Sink}
use Rattle.gix_commands.specs.Chosen.{Writes}
use Rattle.gix_revwalk.specs.Infos.{given}
use Rattle.gix_commands.specs.Walked.{AsksForMore, EndsBy, Have}

-- a walk was drawn until as many were written as a limit says, and no answer behind that, or to its end
abbrev pub StopsWithin : {W E : Type 0} → (W → Option (Result Info E) → W → Type 0) → (List Info → List ObjectId) → Option ℕ → W → W → Type 0
StopsWithin Steps those limit old new =
    ((infos : List Info) × Yields Steps old (given infos) new × (Some (length (those infos)) ≡ limit))
    ⊎ ((infos : List Info) × YieldsThen Steps old (given infos) None new × AsksForMore limit (length (those infos)))

-- what is held: the lines that are buffered, the ids, or how many there were
pub record Held : Type 0 where
  pub lines : List ℕ
  pub ids : List ObjectId
  pub number : ℕ

abbrev pub held_in : Sink → Held
held_in s = record { lines = s.lines.items; ids = s.ids.items; number = s.number }

abbrev pub nothing_held : Held
nothing_held = record { lines = []; ids = []; number = 0 }

-- these ids were added to what was written and held
abbrev pub Takes : (line : ObjectId → List ℕ) → Form → Option (List ℕ) → Held → List ObjectId → Option (List ℕ) → Held → Type 0
Takes line form.Lines old held ids new holds = Grows old held.lines new holds.lines (flat_map line ids)
Takes line form.Count old held ids new holds = (new ≡ old) × (holds.number ≡ held.number + length ids)
Takes line form.Reverse old held ids new holds = (new ≡ old) × (holds.ids ≡ held.ids ++ ids)

-- the ids that are written of the commits that a walk gave were added
pub record Adds {W E : Type 0} (Steps : W → Option (Result Info E) → W → Type 0) (Tells : E → Fault → Type 0) (Has : ObjectId → Type 0) (those : List Info → List ObjectId)
    (limit : Option ℕ) (line : ObjectId → List ℕ) (by : Form) (walk : W) (old : Option (List ℕ)) (held : Held) (answer : Result (Unit {0}) Fault) (new : Option (List ℕ))
    (holds : Held) : Type 0 where
  pub infos : List Info
  pub ends : EndsBy Steps Tells Has those limit walk infos answer
  pub have : Have Has infos
  pub takes : Takes line by old held (those infos) new holds

-- what is written of the commits that a walk gave was written
pub record WritesAll {W E : Type 0} (Steps : W → Option (Result Info E) → W → Type 0) (Tells : E → Fault → Type 0) (Has : ObjectId → Type 0) (those : List Info → List ObjectId)
    (limit : Option ℕ) (line : ObjectId → List ℕ) (by : Form) (walk : W) (old : Option (List ℕ)) (answer : Result (Unit {0}) Fault) (new : Option (List ℕ)) : Type 0 where
  pub infos : List Info
  pub ends : EndsBy Steps Tells Has those limit walk infos answer
  pub have : Have Has infos
  pub writes : Writes line by answer (those infos) old new

-- the writer failed: a beginning of these bytes was written
abbrev pub BreaksOff : Option (List ℕ) → Option (List ℕ) → List ℕ → Fault → Type 0
BreaksOff old new bytes e = (e ≡ fault.Write) × WritesBeginning old new bytes

-- No line was added to those buffered. Either memory ran out, and what was buffered may be written; or the writer failed, and none is buffered.
abbrev pub AddsNone : Option (List ℕ) → List ℕ → Option (List ℕ) → List ℕ → Fault → Type 0
AddsNone old waiting new waits e =
    (BreaksOff old new waiting e × (waits ≡ [])) ⊎ ((e ≡ fault.Memory) × Grows old waiting new waits [])

-- no id was added
abbrev pub TakesNone : Form → Option (List ℕ) → Held → Option (List ℕ) → Held → Fault → Type 0
TakesNone form.Lines old held new holds e = AddsNone old held.lines new holds.lines e
TakesNone form.Count old held new holds e = (e ≡ fault.Memory) × (new ≡ old) × (holds.number ≡ held.number)
TakesNone form.Reverse old held new holds e = (e ≡ fault.Memory) × (new ≡ old) × (holds.ids ≡ held.ids)

-- The ids that are written of the commits that a walk gave were added. Or the writer failed: no line is buffered, and the lines of a walk that
-- was cut short go on behind what is written.
pub data AddsBegun {W E : Type 0} (Steps : W → Option (Result Info E) → W → Type 0) (Tells : E → Fault → Type 0) (Has : ObjectId → Type 0) (those : List Info → List ObjectId)
    (limit : Option ℕ) (line : ObjectId → List ℕ) (by : Form) (walk : W) (old : Option (List ℕ)) (held : Held) : Result (Unit {0}) Fault → Option (List ℕ) → Held → Type 0 where
  added : {answer : Result (Unit {0}) Fault} {new : Option (List ℕ)} {holds : Held} → Adds Steps Tells Has those limit line by walk old held answer new holds
      → AddsBegun Steps Tells Has those limit line by walk old held answer new holds
  broken_off : {new : Option (List ℕ)} {holds : Held} (more : List ℕ) → by ≡ form.Lines → holds.lines ≡ []
      → Adds Steps Tells Has those limit line by walk old held (Err fault.Memory) new (record holds { lines = more })
      → AddsBegun Steps Tells Has those limit line by walk old held (Err fault.Write) new holds

-- all bytes were written, or memory ran out and none was, or the writer failed
abbrev pub WritesWhole : Option (List ℕ) → List ℕ → Result (Unit {0}) Fault → Option (List ℕ) → Type 0
WritesWhole old bytes (Ok done) new = Appends old new bytes
WritesWhole old bytes (Err e) new = ((e ≡ fault.Memory) × (new ≡ old)) ⊎ BreaksOff old new bytes e

-- what is written of the commits that a walk gave was written, or the writer failed, and a beginning of it was, or memory ran out before
pub data WritesBegun {W E : Type 0} (Steps : W → Option (Result Info E) → W → Type 0) (Tells : E → Fault → Type 0) (Has : ObjectId → Type 0) (those : List Info → List ObjectId)
    (limit : Option ℕ) (line : ObjectId → List ℕ) (by : Form) (walk : W) (old : Option (List ℕ)) : Result (Unit {0}) Fault → Option (List ℕ) → Type 0 where
  written : {answer : Result (Unit {0}) Fault} {new : Option (List ℕ)} → WritesAll Steps Tells Has those limit line by walk old answer new
      → WritesBegun Steps Tells Has those limit line by walk old answer new
  cut : {answer : Result (Unit {0}) Fault} {full new : Option (List ℕ)} (some more : List ℕ) → WritesAll Steps Tells Has those limit line by walk old answer full
      → Appends old new some → Appends new full more → WritesBegun Steps Tells Has those limit line by walk old (Err fault.Write) new
  unwritten : WritesBegun Steps Tells Has those limit line by walk old (Err fault.Memory) old
