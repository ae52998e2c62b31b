-- What the words of a command ask for.
use Rattle.std.specs.Prelude.{◌≡◌, ◌≢◌, ℕ, ℤ, pos, ◌+◌, ◌==◌, nat_lt, nat_le, ◌&&◌, List, [], ◌∷◌, ◌++◌, length, Bool, true, false, ◌||◌, not, if◌then◌else◌, Option, Some, None, Result, Ok, Err, codes}
use Rattle.std.specs.List.{list_all}
use Rattle.std.specs.Option.{option_map}
use Rattle.std.specs.Str.{bytes_eq}
use Rattle.gix_hash.specs.declared.ObjectId.{ObjectId}
use Rattle.gix_hash.specs.declared.HexError.{HexError}
use Rattle.gix_hash.specs.Id.{id_from_hex}
use Rattle.gix_records.specs.Decimal.{digits_behind}
use Rattle.gix_revwalk.specs.declared.CommitTimeOrder.TheVariants as order
use Rattle.gix_revwalk.specs.declared.Parents.TheVariants as mode
use Rattle.gix_simple.specs.declared.Sorting.TheVariants as sorting
use Rattle.gix_topo.specs.declared.Sorting.TheVariants as topo
use Rattle.gix_words.specs.declared.fault.Fault.{Fault}
use Rattle.gix_words.specs.declared.fault.Fault.TheVariants as fault
use Rattle.gix_words.specs.declared.words.Command.{Command}
use Rattle.gix_words.specs.declared.words.Command.TheVariants as command
use Rattle.gix_words.specs.declared.words.Chosen.{Chosen}
use Rattle.gix_words.specs.declared.words.EntryLines.{EntryLines}
use Rattle.gix_words.specs.declared.words.Form.TheVariants as form
use Rattle.gix_words.specs.declared.words.Merges.TheVariants as merges
use Rattle.gix_words.specs.declared.words.Order.{Order}
use Rattle.gix_words.specs.declared.words.SomeIds.{SomeIds}
use Rattle.gix_words.specs.declared.words.Order.TheVariants.{Simple, Topo}
use Rattle.gix_words.specs.declared.words.Shown.{Shown}
use Rattle.gix_words.specs.Formats.{format_of, no_format, packed}

pub data Request : Type 0 where
  -- the commits that the tips reach and the hidden ones don't, in an order, and what is written of them
  Commits : (order : Order) (shown : Shown) (tips hidden : List ObjectId) → Request
  -- the entries of the tree of this id, and of the trees in it, and what is written of them
  Files : (shown : EntryLines) (tree : ObjectId) → Request
  -- how many commits the one reaches and the other doesn't, and the other way round
  Ahead : (one other : ObjectId) → Request
  -- those of the ids that the tip reaches
  Contained : (tip : ObjectId) (ids : List ObjectId) → Request
  -- those of the tips that reach the target
  Containing : (target : ObjectId) (tips : List ObjectId) → Request
  -- the best common ancestors of the one and of any of the others
  Bases : (one : ObjectId) (others : List ObjectId) → Request

abbrev pub request_of_command : Command → Request
request_of_command (command.Commits order shown tips hidden) = Commits order shown tips.items hidden.items
request_of_command (command.Files shown tree) = Files shown tree
request_of_command (command.Ahead one other) = Ahead one other
request_of_command (command.Contained tip ids) = Contained tip ids.items
request_of_command (command.Containing target tips) = Containing target tips.items
request_of_command (command.Bases one others) = Bases one others.items

-- what is written of commits, and ids of tips and of hidden ones
pub record Asked : Type 0 where
  pub shown : Shown
  pub tips : List ObjectId
  pub hidden : List ObjectId

abbrev pub asked_by : Chosen → Asked
asked_by c = record { shown = c.shown; tips = c.tips.items; hidden = c.hidden.items }

-- what a function returned, seen by view, is what it was to be, unless memory ran out
abbrev pub Gives : {X Y : Type 0} → (X → Y) → Result X Fault → Result Y Fault → Type 0
Gives view (Ok x) wanted = wanted ≡ Ok (view x)
Gives view (Err e) wanted = e ≢ fault.Memory → wanted ≡ Err e

-- what a function that takes no memory returned, seen by view, is what it was to be
abbrev pub Tells : {X Y : Type 0} → (X → Y) → Result X Fault → Result Y Fault → Type 0
Tells view (Ok x) wanted = wanted ≡ Ok (view x)
Tells view (Err e) wanted = wanted ≡ Err e

-- whether the word asks for a commit to be hidden
abbrev pub begins_with_caret : List ℕ → Bool
begins_with_caret [] = false
begins_with_caret (b ∷ bs) = b == 94

-- whether the word is an option
abbrev pub begins_with_dash : List ℕ → Bool
begins_with_dash [] = false
begins_with_dash (b ∷ bs) = b == 45

-- neither is an id that a command takes which is no list
abbrev pub begins_with_sign : List ℕ → Bool
begins_with_sign word = begins_with_caret word || begins_with_dash word

abbrev pub without_caret : List ℕ → List ℕ
without_caret [] = []
without_caret (b ∷ bs) = if b == 94 then bs else b ∷ bs

-- ids of tips, and of commits to be hidden
abbrev pub Ids : Type 0
Ids = List ObjectId × List ObjectId

abbrev pub with_id : Bool → ObjectId → Ids → Ids
with_id true i ids = (ids.0, i ∷ ids.1)
with_id false i ids = (i ∷ ids.0, ids.1)

-- the id of a word before the ids of other words, or the number of the word, where it spells no id
abbrev pub with_word : Bool → ℕ → Result ObjectId HexError → Result Ids Fault → Result Ids Fault
with_word hidden n (Err e) others = Err (fault.Id n)
with_word hidden n (Ok i) (Err e) = Err e
with_word hidden n (Ok i) (Ok ids) = Ok (with_id hidden i ids)

-- the ids that words spell, the first of them word n
abbrev pub ids_from : ℕ → List (List ℕ) → Result Ids Fault
ids_from n [] = Ok ([], [])
ids_from n (word ∷ words) = with_word (begins_with_caret word) n (id_from_hex (without_caret word)) (ids_from (n + 1) words)

-- the id that the digits of word n spell was added after other ids, unless memory ran out
abbrev pub AddsId : List ℕ → ℕ → List ObjectId → Result (Unit {0}) Fault → List ObjectId → Type 0
AddsId digits n old (Ok done) new = (i : ObjectId) × (id_from_hex digits ≡ Ok i) × (new ≡ old ++ i ∷ [])
AddsId digits n old (Err e) new = e ≢ fault.Memory → (why : HexError) × (id_from_hex digits ≡ Err why) × (e ≡ fault.Id n)

-- the order of the walk over commits that a command names
abbrev pub order_named : List ℕ → Option Order
order_named name =
    if bytes_eq name (codes "breadth") then Some (Simple mode.All sorting.BreadthFirst)
    else if bytes_eq name (codes "newest") then Some (Simple mode.All (sorting.ByCommitTime order.NewestFirst))
    else if bytes_eq name (codes "oldest") then Some (Simple mode.All (sorting.ByCommitTime order.OldestFirst))
    else if bytes_eq name (codes "topo") then Some (Topo mode.All topo.TopoOrder)
    else if bytes_eq name (codes "date") then Some (Topo mode.All topo.DateOrder)
    else None

-- the order, which has no option, through first parents alone
abbrev pub by_first_parents : Order → Option Order
by_first_parents (Simple parents sorting.BreadthFirst) = Some (Simple mode.First sorting.BreadthFirst)
by_first_parents (Simple parents (sorting.ByCommitTime order)) = None
by_first_parents (Simple parents (sorting.ByCommitTimeCutoff order seconds)) = None
by_first_parents (Topo parents by) = Some (Topo mode.First by)

-- the order, which has no option, without what is older than a time
abbrev pub by_cutoff : ℤ → Order → Option Order
by_cutoff seconds (Simple parents sorting.BreadthFirst) = None
by_cutoff seconds (Simple parents (sorting.ByCommitTime order)) = Some (Simple parents (sorting.ByCommitTimeCutoff order seconds))
by_cutoff seconds (Simple parents (sorting.ByCommitTimeCutoff order time)) = None
by_cutoff seconds (Topo parents by) = None

-- the number that 1 to so many decimal digits spell
abbrev pub number_in : ℕ → List ℕ → Option ℕ
number_in most digits = if nat_lt 0 (length digits) && nat_le (length digits) most then digits_behind 0 digits else None

abbrev pub files_from : EntryLines → ℕ → Result ObjectId HexError → Result Request Fault
files_from shown n (Ok tree) = Ok (Files shown tree)
files_from shown n (Err e) = Err (fault.Id n)

-- all that is listed, one a line
abbrev pub all_lines : Shown
all_lines = record { until = None; merges = merges.Any; skip = 0; limit = None; form = form.Lines; line = record { id = true; time = false; parents = false; format = no_format; ending = 10 } }

abbrev pub chosen_from : Result Ids Fault → Result Asked Fault
chosen_from (Ok ids) = Ok (record { shown = all_lines; tips = ids.0; hidden = ids.1 })
chosen_from (Err e) = Err e

-- one tip at least: this is judged of all words before any is judged as an id, the first of them word n
abbrev pub plain_of : ℕ → List (List ℕ) → Result Asked Fault
plain_of n ids = if list_all begins_with_caret ids then Err fault.Usage else chosen_from (ids_from n ids)

-- what reads words, of which the first is word n
abbrev pub WordReader : Type 0
WordReader = (n : ℕ) → List (List ℕ) → Result Asked Fault

-- what words choose, with one more option
abbrev pub changed_by : (Shown → Shown) → Result Asked Fault → Result Asked Fault
changed_by change (Ok c) = Ok (record c { shown = change c.shown })
changed_by change (Err e) = Err e

-- the words behind this option, where it is the first
abbrev pub behind_option : List ℕ → List (List ℕ) → Option (List (List ℕ))
behind_option name [] = None
behind_option name (word ∷ words) = if bytes_eq word name then Some words else None

abbrev pub either_of : (Shown → Shown) → (next other : WordReader) → ℕ → List (List ℕ) → Option (List (List ℕ)) → Result Asked Fault
either_of change next other n words (Some behind) = changed_by change (next (n + 1) behind)
either_of change next other n words None = other n words

-- maybe this option, and words for the next reader. Without it the words are for another
abbrev pub option_of : List ℕ → (Shown → Shown) → (next other : WordReader) → WordReader
option_of name change next other n words = either_of change next other n words (behind_option name words)

-- what the first word is read as, and the words behind it
abbrev pub first_value : {X : Type 0} → (read : List ℕ → Option X) → List (List ℕ) → Option (X × List (List ℕ))
first_value read [] = None
first_value read (word ∷ words) = option_map (λ x. (x, words)) (read word)

abbrev pub changed_by_value : {X : Type 0} → (X → Shown → Shown) → (next : WordReader) → ℕ → Option (X × List (List ℕ)) → Result Asked Fault
changed_by_value change next n None = Err fault.Usage
changed_by_value change next n (Some found) = changed_by (change found.0) (next (n + 2) found.1)

abbrev pub valued_of : {X : Type 0} → (read : List ℕ → Option X) → (X → Shown → Shown)
    → (next other : WordReader) → ℕ → List (List ℕ) → Option (List (List ℕ)) → Result Asked Fault
valued_of read change next other n words (Some behind) = changed_by_value change next n (first_value read behind)
valued_of read change next other n words None = other n words

-- maybe this option and a word that is read as its value, and words for the next reader. Without it the words are for another
abbrev pub value_option_of : {X : Type 0} → List ℕ → (read : List ℕ → Option X) → (X → Shown → Shown) → (next other : WordReader) → WordReader
value_option_of name read change next other n words = valued_of read change next other n words (behind_option name words)

-- the number of at most so many digits that the first word spells, and the words behind it
abbrev pub first_number : (digits : ℕ) → List (List ℕ) → Option (ℕ × List (List ℕ))
first_number digits = first_value (number_in digits)

-- maybe this option and a number of at most so many digits, and words for the next reader
abbrev pub number_option_of : List ℕ → (digits : ℕ) → (ℕ → Shown → Shown) → (next : WordReader) → WordReader
number_option_of name digits change next = value_option_of name (number_in digits) change next next

-- ids, the first of them word n, and before them maybe options in one order, each at most once: `--until` and a time, `--merges` or
-- `--no-merges`, `--skip` and a number, `-n` and a limit, `--count` or `--reverse`, `--format` and a format or maybe `--timestamp`,
-- `--parents` and `--oneline`, `-z`
unfoldable pub ended_of : WordReader
ended_of = option_of (codes "-z") (λ shown. record shown { line = record shown.line { ending = 0 } }) plain_of plain_of

unfoldable pub titled_of : WordReader
titled_of = option_of (codes "--oneline") (λ shown. record shown { line = record shown.line { format = packed (codes " %s") } }) ended_of ended_of

unfoldable pub named_of : WordReader
named_of = option_of (codes "--parents") (λ shown. record shown { line = record shown.line { parents = true } }) titled_of titled_of

unfoldable pub timed_of : WordReader
timed_of = option_of (codes "--timestamp") (λ shown. record shown { line = record shown.line { time = true } }) named_of named_of

unfoldable pub formatted_of : WordReader
formatted_of =
    value_option_of (codes "--format") format_of (λ format shown. record shown { line = record shown.line { id = false; format = format } })
    ended_of timed_of

unfoldable pub formed_of : WordReader
formed_of =
    option_of (codes "--count") (λ shown. record shown { form = form.Count }) formatted_of
    (option_of (codes "--reverse") (λ shown. record shown { form = form.Reverse }) formatted_of formatted_of)

unfoldable pub limited_of : WordReader
limited_of = number_option_of (codes "-n") 9 (λ limit shown. record shown { limit = Some limit }) formed_of

unfoldable pub skipped_of : WordReader
skipped_of = number_option_of (codes "--skip") 9 (λ skip shown. record shown { skip = skip }) limited_of

unfoldable pub merges_of : WordReader
merges_of =
    option_of (codes "--merges") (λ shown. record shown { merges = merges.Only }) skipped_of
    (option_of (codes "--no-merges") (λ shown. record shown { merges = merges.No }) skipped_of skipped_of)

unfoldable pub until_of : WordReader
until_of = number_option_of (codes "--until") 10 (λ seconds shown. record shown { until = Some (pos seconds) }) merges_of

-- what is chosen of the commits in an order
abbrev pub commits_in : Order → Result Asked Fault → Result Request Fault
commits_in by (Ok c) = Ok (Commits by c.shown c.tips c.hidden)
commits_in by (Err e) = Err e

-- options and ids; the first of these words is word n
abbrev pub listed_of : Order → ℕ → List (List ℕ) → Result Request Fault
listed_of by n words = commits_in by (until_of n words)

-- these words behind an option that the order may not have
abbrev pub chosen_of : Option Order → ℕ → List (List ℕ) → Result Request Fault
chosen_of (Some by) n words = listed_of by n words
chosen_of None n words = Err fault.Usage

abbrev pub recent_of : Order → Option ℕ → List (List ℕ) → Result Request Fault
recent_of by (Some seconds) words = chosen_of (by_cutoff (pos seconds) by) 4 words
recent_of by None words = Err fault.Usage

-- behind `--since`: a time, and these words
abbrev pub since_of : Order → List (List ℕ) → Result Request Fault
since_of by [] = Err fault.Usage
since_of by (seconds ∷ words) = recent_of by (number_in 10 seconds) words

-- behind the name of an order: maybe an option, and these words
abbrev pub in_order_of : Order → List (List ℕ) → Result Request Fault
in_order_of by [] = listed_of by 2 []
in_order_of by (option ∷ words) =
    if bytes_eq option (codes "--first-parent") then chosen_of (by_first_parents by) 3 words
    else if bytes_eq option (codes "--since") then since_of by words
    else listed_of by 2 (option ∷ words)

-- one id, which is word n
abbrev pub file_of : EntryLines → ℕ → List ℕ → Result Request Fault
file_of shown n id = if begins_with_sign id then Err fault.Usage else files_from shown n (id_from_hex id)

-- one id, and maybe `-z` before it; the first of these words is word n
abbrev pub ended_files_of : (limit : Option ℕ) (n : ℕ) → List (List ℕ) → Result Request Fault
ended_files_of limit n [] = Err fault.Usage
ended_files_of limit n (id ∷ []) = file_of (record { limit = limit; ending = 10 }) n id
ended_files_of limit n (option ∷ id ∷ []) =
    if bytes_eq option (codes "-z") then file_of (record { limit = limit; ending = 0 }) (n + 1) id else Err fault.Usage
ended_files_of limit n (option ∷ id ∷ next ∷ ids) = Err fault.Usage

abbrev pub files_by : Option ℕ → List (List ℕ) → Result Request Fault
files_by (Some limit) words = ended_files_of (Some limit) 4 words
files_by None words = Err fault.Usage

-- behind `-n`
abbrev pub limited_files_of : List (List ℕ) → Result Request Fault
limited_files_of [] = Err fault.Usage
limited_files_of (number ∷ words) = files_by (number_in 9 number) words

-- one id, and before it maybe `-n` and a limit, and maybe `-z`
abbrev pub files_of : List (List ℕ) → Result Request Fault
files_of [] = Err fault.Usage
files_of (option ∷ words) = if bytes_eq option (codes "-n") then limited_files_of words else ended_files_of None 2 (option ∷ words)

abbrev pub ahead_from : Result ObjectId HexError → Result ObjectId HexError → Result Request Fault
ahead_from (Ok one) (Ok other) = Ok (Ahead one other)
ahead_from (Ok one) (Err e) = Err (fault.Id 3)
ahead_from (Err e) other = Err (fault.Id 2)

-- two ids
abbrev pub ahead_of : List (List ℕ) → Result Request Fault
ahead_of [] = Err fault.Usage
ahead_of (one ∷ []) = Err fault.Usage
ahead_of (one ∷ other ∷ []) = if begins_with_sign one || begins_with_sign other then Err fault.Usage else ahead_from (id_from_hex one) (id_from_hex other)
ahead_of (one ∷ other ∷ next ∷ ids) = Err fault.Usage

-- whether the word asks for no commit to be hidden, and is no option
abbrev pub is_shown : List ℕ → Bool
is_shown word = not (begins_with_sign word)

-- an id, and ids behind it
abbrev pub Ranked : Type 0
Ranked = ObjectId × List ObjectId

abbrev pub several_in : SomeIds → Ranked
several_in several = (several.first, several.others.items)

abbrev pub several_among : List ObjectId → Result Ranked Fault
several_among [] = Err fault.Usage
several_among (first ∷ others) = Ok (first, others)

abbrev pub several_from : Result Ids Fault → Result Ranked Fault
several_from (Ok ids) = several_among ids.0
several_from (Err e) = Err e

-- two ids at least, none of them to be hidden, and no option: this is judged of all words before any is judged as an id
abbrev pub several_of : List (List ℕ) → Result Ranked Fault
several_of [] = Err fault.Usage
several_of (first ∷ []) = Err fault.Usage
several_of (first ∷ next ∷ ids) = if list_all is_shown (first ∷ next ∷ ids) then several_from (ids_from 2 (first ∷ next ∷ ids)) else Err fault.Usage

-- what is asked of the first id and the others
abbrev pub asked : (ObjectId → List ObjectId → Request) → Result Ranked Fault → Result Request Fault
asked asks (Ok ids) = Ok (asks ids.0 ids.1)
asked asks (Err e) = Err e

-- what words ask for by this name, which may be that of an order
abbrev pub request_named : List ℕ → Option Order → List (List ℕ) → Result Request Fault
request_named name (Some by) ids = in_order_of by ids
request_named name None ids =
    if bytes_eq name (codes "files") then files_of ids
    else if bytes_eq name (codes "ahead") then ahead_of ids
    else if bytes_eq name (codes "contains") then asked Contained (several_of ids)
    else if bytes_eq name (codes "containing") then asked Containing (several_of ids)
    else if bytes_eq name (codes "merge-base") then asked Bases (several_of ids)
    else Err fault.Usage

-- what words ask for, or why they are no command
abbrev pub request_of : List (List ℕ) → Result Request Fault
request_of [] = Err fault.Usage
request_of (name ∷ ids) = request_named name (order_named name) ids
