-- The words of the page that the options of a question are: for each option that is given its word there, and its value, in the page's order.
use Rattle.std.specs.Prelude.{◌≡◌, ◌&&◌, ◌++◌, ◌∷◌, ℕ, ℤ, List, [], Bool, true, false, Option, Some, None, option_map, codes}
use Rattle.std.specs.Fmt.{decimal, signed_decimal}
use Rattle.gix_words.specs.declared.format.Format.{Format}
use Rattle.gix_words.specs.Printed.{format_words, skip_words, valued, where_given}
use Rattle.gix_options.specs.declared.name.Name.{Name}
use Rattle.gix_options.specs.declared.name.Name.TheVariants as name
use Rattle.gix_options.specs.declared.options.Options.{Options}
use Rattle.gix_options.specs.declared.question.Asks.{Asks}
use Rattle.gix_options.specs.declared.question.Asks.TheVariants as asks
use Rattle.gix_options.specs.declared.question.Question.{Question}

-- whether a name is of a list of commits
abbrev pub is_list : Name → Bool
is_list name.Breadth = true
is_list name.Newest = true
is_list name.Oldest = true
is_list name.Topo = true
is_list name.Date = true
is_list other = false

-- options that exclude each other aren't both given
abbrev pub GoTogether : Options → Type 0
GoTogether o = (o.merges && o.no_merges ≡ false) × (o.counts && o.is_reversed ≡ false)

-- first parents and a least time go with some lists alone, and not with each other
abbrev pub GoWith : Name → Options → Type 0
GoWith name.Newest o = o.by_first_parents ≡ true → o.since ≡ None
GoWith name.Oldest o = o.by_first_parents ≡ false
GoWith other o = o.since ≡ None

-- this holds of each question that is asked: its options go together, and with its command
abbrev pub IsFit : Question → Type 0
IsFit q = GoTogether q.options × GoWith q.name q.options

abbrev pub AreFit : Asks → Type 0
AreFit (asks.Question q) = IsFit q
AreFit other = Unit {0}

-- The page's name of a list. The first parents of one tip are in one row, so `newest` is `breadth` where these alone are followed.
abbrev pub list_name : Name → (by_first_parents : Bool) → List ℕ
list_name name.Breadth first = codes "breadth"
list_name name.Newest true = codes "breadth"
list_name name.Newest false = codes "newest"
list_name name.Oldest first = codes "oldest"
list_name name.Topo first = codes "topo"
list_name name.Date first = codes "date"
list_name other first = []

abbrev pub since_options : Option ℤ → List (List ℕ)
since_options since = valued (codes "--since") (option_map signed_decimal since)

-- the name of a list and the options that an order may have
abbrev pub order_options : Name → Options → List (List ℕ)
order_options name o = list_name name o.by_first_parents ∷ (where_given o.by_first_parents (codes "--first-parent") ++ since_options o.since)

abbrev pub merges_options : Options → List (List ℕ)
merges_options o = where_given o.merges (codes "--merges") ++ where_given o.no_merges (codes "--no-merges")

-- what is left out first, where it isn't 0
abbrev pub skip_options : Option ℕ → List (List ℕ)
skip_options None = []
skip_options (Some skip) = skip_words skip

abbrev pub form_options : Options → List (List ℕ)
form_options o = where_given o.counts (codes "--count") ++ where_given o.is_reversed (codes "--reverse")

-- a format, which says all of a line, or what a line has beside the id
abbrev pub line_options : Option Format → Options → List (List ℕ)
line_options (Some format) o = format_words format
line_options None o = where_given o.gives_time (codes "--timestamp") ++ (where_given o.gives_parents (codes "--parents") ++ where_given o.gives_subject (codes "--oneline"))

abbrev pub field_options : Options → List (List ℕ)
field_options o = line_options o.format o

-- what is written of a list
abbrev pub option_words : Options → List (List ℕ)
option_words o = valued (codes "--until") (option_map signed_decimal o.until) ++ (merges_options o ++ (skip_options o.skip
    ++ (valued (codes "-n") (option_map decimal o.limit) ++ (form_options o ++ (field_options o ++ where_given o.ends_in_zero (codes "-z"))))))
