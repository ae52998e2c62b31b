-- The words that a command is printed as, as the code adds them.
use Rattle.std.specs.Prelude.{◌≡◌, ◌==◌, ℕ, ℤ, List, [], ◌∷◌, ◌++◌, length, map, Bool, true, false, if◌then◌else◌, Option, Some, None, option_map, codes}
use Rattle.std.specs.Fmt.{decimal, signed_decimal}
use Rattle.std.specs.List.{AllByRecursion}
use Rattle.std.specs.Str.Lossy.{utf8_lossy}
use Rattle.hex.specs.Hex.{IsBytes}
use Rattle.gix_hash.specs.declared.ObjectId.{ObjectId}
use Rattle.gix_hash.specs.Id.{bytes_of, hex_of, id_len, kind_of}
use Rattle.gix_revwalk.specs.declared.CommitTimeOrder.{CommitTimeOrder}
use Rattle.gix_revwalk.specs.declared.CommitTimeOrder.TheVariants as order
use Rattle.gix_revwalk.specs.declared.Parents.{Parents}
use Rattle.gix_revwalk.specs.declared.Parents.TheVariants as mode
use Rattle.gix_simple.specs.declared.Sorting.TheVariants as sorting
use Rattle.gix_statement.specs.WholeStatement.{says_more}
use Rattle.gix_topo.specs.declared.Sorting.TheVariants as topo
use Rattle.gix_words.specs.declared.format.Format.{Format}
use Rattle.gix_words.specs.declared.words.EntryLines.{EntryLines}
use Rattle.gix_words.specs.declared.words.Form.{Form}
use Rattle.gix_words.specs.declared.words.Form.TheVariants as form
use Rattle.gix_words.specs.declared.words.Line.{Line}
use Rattle.gix_words.specs.declared.words.Merges.{Merges}
use Rattle.gix_words.specs.declared.words.Merges.TheVariants as merges
use Rattle.gix_words.specs.declared.words.Order.{Order}
use Rattle.gix_words.specs.declared.words.Order.TheVariants.{Simple, Topo}
use Rattle.gix_words.specs.declared.words.Shown.{Shown}
use Rattle.gix_words.specs.Formats.{format_bytes}
use Rattle.gix_words.specs.Words.{Request, Commits, Files, Ahead, Contained, Containing, Bases}

-- an option, where it is given
abbrev pub where_given : Bool → List ℕ → List (List ℕ)
where_given true option = option ∷ []
where_given false option = []

-- an option and its value, where there is one
abbrev pub valued : List ℕ → Option (List ℕ) → List (List ℕ)
valued option None = []
valued option (Some value) = option ∷ value ∷ []

abbrev pub time_name : CommitTimeOrder → List ℕ
time_name order.NewestFirst = codes "newest"
time_name order.OldestFirst = codes "oldest"

abbrev pub order_name : Order → List ℕ
order_name (Simple parents sorting.BreadthFirst) = codes "breadth"
order_name (Simple parents (sorting.ByCommitTime by)) = time_name by
order_name (Simple parents (sorting.ByCommitTimeCutoff by seconds)) = time_name by
order_name (Topo parents topo.TopoOrder) = codes "topo"
order_name (Topo parents topo.DateOrder) = codes "date"

abbrev pub is_first : Parents → Bool
is_first mode.All = false
is_first mode.First = true

-- whether an order goes through first parents alone
abbrev pub is_first_only : Order → Bool
is_first_only (Simple parents by) = is_first parents
is_first_only (Topo parents by) = is_first parents

abbrev pub cutoff_in : Order → Option ℤ
cutoff_in (Simple parents sorting.BreadthFirst) = None
cutoff_in (Simple parents (sorting.ByCommitTime by)) = None
cutoff_in (Simple parents (sorting.ByCommitTimeCutoff by seconds)) = Some seconds
cutoff_in (Topo parents by) = None

abbrev pub order_words : Order → List (List ℕ)
order_words by = order_name by ∷ (where_given (is_first_only by) (codes "--first-parent") ++ valued (codes "--since") (option_map signed_decimal (cutoff_in by)))

abbrev pub merges_words : Merges → List (List ℕ)
merges_words merges.Any = []
merges_words merges.Only = codes "--merges" ∷ []
merges_words merges.No = codes "--no-merges" ∷ []

abbrev pub skip_words : ℕ → List (List ℕ)
skip_words skip = if skip == 0 then [] else codes "--skip" ∷ decimal skip ∷ []

abbrev pub form_words : Form → List (List ℕ)
form_words form.Lines = []
form_words form.Count = codes "--count" ∷ []
form_words form.Reverse = codes "--reverse" ∷ []

abbrev pub format_words : Format → List (List ℕ)
format_words format = codes "--format" ∷ utf8_lossy (format_bytes format) ∷ []

-- the options of a line that has the id
abbrev pub field_words : Line → List (List ℕ)
field_words line = where_given line.time (codes "--timestamp") ++ (where_given line.parents (codes "--parents") ++ where_given (says_more (format_bytes line.format)) (codes "--oneline"))

abbrev pub line_words : Line → List (List ℕ)
line_words line = (if line.id then field_words line else format_words line.format) ++ where_given (line.ending == 0) (codes "-z")

abbrev pub shown_words : Shown → List (List ℕ)
shown_words shown =
    valued (codes "--until") (option_map signed_decimal shown.until) ++ (merges_words shown.merges ++ (skip_words shown.skip
    ++ (valued (codes "-n") (option_map decimal shown.limit) ++ (form_words shown.form ++ line_words shown.line))))

-- the digits of an id behind a mark, which is nothing or a caret
abbrev pub id_word : (mark : List ℕ) → ObjectId → List ℕ
id_word mark i = mark ++ hex_of i

abbrev pub files_words : EntryLines → ObjectId → List (List ℕ)
files_words shown tree =
    codes "files" ∷ (valued (codes "-n") (option_map decimal shown.limit) ++ (where_given (shown.ending == 0) (codes "-z") ++ id_word [] tree ∷ []))

-- a name, an id, and others
abbrev pub several_words : List ℕ → ObjectId → List ObjectId → List (List ℕ)
several_words name first others = name ∷ id_word [] first ∷ map (id_word []) others

-- the words of a request
abbrev pub printed : Request → List (List ℕ)
printed (Commits order shown tips hidden) = order_words order ++ (shown_words shown ++ (map (id_word []) tips ++ map (id_word (codes "^")) hidden))
printed (Files shown tree) = files_words shown tree
printed (Ahead one other) = several_words (codes "ahead") one (other ∷ [])
printed (Contained tip ids) = several_words (codes "contains") tip ids
printed (Containing target tips) = several_words (codes "containing") target tips
printed (Bases one others) = several_words (codes "merge-base") one others

-- an id has as many bytes as its kind says, and each is below 256
pub record IsId (i : ObjectId) : Type 0 where
  pub long : length (bytes_of i) ≡ id_len (kind_of i)
  pub bytes : IsBytes (bytes_of i)

-- this holds of each id of a request
abbrev pub AreIds : Request → Type 0
AreIds (Commits order shown tips hidden) = AllByRecursion IsId tips × AllByRecursion IsId hidden
AreIds (Files shown tree) = IsId tree
AreIds (Ahead one other) = AllByRecursion IsId (one ∷ other ∷ [])
AreIds (Contained tip ids) = AllByRecursion IsId (tip ∷ ids)
AreIds (Containing target tips) = AllByRecursion IsId (target ∷ tips)
AreIds (Bases one others) = AllByRecursion IsId (one ∷ others)
