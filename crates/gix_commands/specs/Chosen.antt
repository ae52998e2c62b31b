-- Which of the commits that a walk gives are written, and how.
use Rattle.std.specs.Prelude.{◌≡◌, ◌≢◌, ◌-◌, ◌<◌, ◌&&◌, ℕ, ℤ, pos, int_le, nat_lt, nat_le, List, [], ◌∷◌, ◌++◌, length, map, reverse, Bool, true, false, Option, Some, None, Result, Ok, Err, codes}
use Rattle.std.specs.FinMap.{get}
use Rattle.std.specs.Fmt.{digits}
use Rattle.std.specs.Io.KnownBytes.{Appends}
use Rattle.std.specs.List.{flat_map}
use Rattle.gix_commitgraph.specs.Rows.{GraphRow, row_of}
use Rattle.gix_hash.specs.declared.ObjectId.{ObjectId}
use Rattle.gix_object.specs.declared.decode.Error.{Error as DecodeError}
use Rattle.gix_object.specs.Object.{Objects}
use Rattle.gix_revwalk.specs.declared.Info.{Info}
use Rattle.gix_revwalk.specs.declared.read.Header.{Header}
use Rattle.gix_revwalk.specs.Commits.{time_of}
use Rattle.gix_revwalk.specs.Texts.{text_next}
use Rattle.gix_statement.specs.WholeStatement as page
use Rattle.gix_statement.specs.WholeStatement.{chosen, commit_line, says_more}
use Rattle.gix_commands.specs.Pages.{page_objects}
use Rattle.gix_words.specs.declared.fault.Fault.{Fault}
use Rattle.gix_words.specs.declared.words.Form.{Form}
use Rattle.gix_words.specs.declared.words.Form.TheVariants as form
use Rattle.gix_words.specs.declared.words.Line.{Line}
use Rattle.gix_words.specs.declared.words.Merges.{Merges}
use Rattle.gix_words.specs.declared.words.Merges.TheVariants as merges
use Rattle.gix_words.specs.declared.words.Shown.{Shown}
use Rattle.gix_words.specs.Formats.{format_bytes}

abbrev pub kept_until : Option ℤ → ℤ → Bool → Bool
kept_until None time kept = kept
kept_until (Some seconds) time kept = int_le time seconds && kept

abbrev pub kept_of : Merges → ℕ → Bool → Bool
kept_of merges.Any parents kept = kept
kept_of merges.Only parents kept = nat_lt 1 parents && kept
kept_of merges.No parents kept = nat_le parents 1 && kept

-- whether a commit is kept that has so many parents, and this time
abbrev pub is_kept : Shown → ℕ → ℤ → Bool
is_kept shown parents time = kept_until shown.until time (kept_of shown.merges parents true)

abbrev pub page_form : Form → page.Form
page_form form.Lines = page.Lines
page_form form.Count = page.Number
page_form form.Reverse = page.Reversed

abbrev pub page_line : Line → page.Line
page_line has = record { has_id = has.id; has_time = has.time; has_parents = has.parents; format = format_bytes has.format; ending = has.ending }

-- what is written, in the words of the page
abbrev pub page_choice : Shown → page.Choice
page_choice shown = record { keeps = λ parents time. is_kept shown parents time; skip = shown.skip; limit = shown.limit; form = page_form shown.form; line = page_line shown.line }

-- of the commits that a walk gave, those that are kept, without the first of them, by the texts that are stored
abbrev pub kept_in : Objects → Shown → List Info → List ObjectId
kept_in objects shown infos = chosen (text_next objects) (time_of objects) (page_choice shown) (map (λ info. info.id) infos)

-- a commit that has this text
abbrev pub commit_with : List ℕ → page.Object
commit_with text = record { kind = codes "commit"; bytes = text }

-- the line of a commit, by the texts that are stored
abbrev pub line_in : Objects → Shown → ObjectId → List ℕ
line_in objects shown = commit_line (page_objects objects) (text_next objects) (time_of objects) (page_line shown.line)

-- What is written of them: their lines, these with the last first, or their number. Of a list that hasn't ended well only lines are.
abbrev pub Writes : (line : ObjectId → List ℕ) → Form → Result (Unit {0}) Fault → List ObjectId → (old new : Option (List ℕ)) → Type 0
Writes line form.Lines answer ids old new = Appends old new (flat_map line ids)
Writes line form.Count (Ok done) ids old new = Appends old new (digits 10 false (length ids) ++ 10 ∷ [])
Writes line form.Count (Err e) ids old new = new ≡ old
Writes line form.Reverse (Ok done) ids old new = Appends old new (flat_map line (reverse ids))
Writes line form.Reverse (Err e) ids old new = new ≡ old

-- the time of a commit of which none may be read
abbrev pub seconds_or_zero : Result ℤ DecodeError → ℤ
seconds_or_zero (Ok time) = time
seconds_or_zero (Err e) = pos 0

-- what a header says is what the text of the commit says
pub record IsHeaderOf (objects : Objects) (i : ObjectId) (header : Header) : Type 0 where
  pub parents : header.parent_ids.items ≡ text_next objects i
  pub time : seconds_or_zero header.time ≡ time_of objects i

-- a commit that has a row has an object too
abbrev pub HasObject : Objects → List GraphRow → ObjectId → Type 0
HasObject stored rows i = row_of rows i ≢ None → get stored i ≢ None

-- if there is a format each commit is stored, since a row has no text
abbrev pub HasText : (IsStored : ObjectId → Type 0) → Shown → ObjectId → Type 0
HasText IsStored shown i = says_more (format_bytes shown.line.format) ≡ true → IsStored i

-- how many more commits are left out, and how many are written at most
pub record Choosing : Type 0 where
  pub objects : Objects
  pub stored : Objects
  pub rows : List GraphRow
  pub shown : Shown
  pub skip : ℕ
  pub left : Option ℕ

-- what each commit has to have that is chosen or passed over
abbrev pub HasTextIn : Choosing → ObjectId → Type 0
HasTextIn c = HasText (HasObject c.stored c.rows) c.shown

abbrev pub fresh_choosing : Objects → Objects → List GraphRow → Shown → Choosing
fresh_choosing objects stored rows shown =
    record { objects = objects; stored = stored; rows = rows; shown = shown; skip = shown.skip; left = shown.limit }

abbrev pub keeps : Choosing → ObjectId → Bool
keeps c i = is_kept c.shown (length (text_next c.objects i)) (time_of c.objects i)

abbrev pub one_less : Option ℕ → Option ℕ
one_less None = None
one_less (Some n) = Some (n - 1)

-- whether the next commit is written
pub data Passes (old : Choosing) (i : ObjectId) : Bool → Choosing → Type 0 where
  unkept : keeps old i ≡ false → Passes old i false old
  skipped : keeps old i ≡ true → 0 < old.skip → Passes old i false (record old { skip = old.skip - 1 })
  taken : keeps old i ≡ true → old.skip ≡ 0 → Passes old i true (record old { left = one_less old.left })
