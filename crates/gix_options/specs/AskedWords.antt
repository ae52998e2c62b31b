-- What words ask about: revisions, and sets of them.
use Rattle.std.specs.Prelude.{◌≡◌, ℕ, List, Bool, true, false, Option, Some, None, if◌then◌else◌, codes, string_bytes}
use Rattle.std.specs.Str.{bytes_eq}
use Rattle.gix_options.specs.declared.question.Asked.{Asked}
use Rattle.gix_options.specs.declared.question.Asked.TheVariants as asked
use Rattle.gix_options.specs.declared.question.Refs.{Refs}
use Rattle.gix_options.specs.declared.question.Refs.TheVariants as refs

-- a set of refs, behind an odd number of `--not` or not
abbrev pub asked_refs : (turned : Bool) → Refs → Asked
asked_refs true r = asked.Hidden r
asked_refs false r = asked.Refs r

-- it is the revision of this text, behind an odd number of `--not` or not
abbrev pub IsRevision : (turned : Bool) → List ℕ → Asked → Type 0
IsRevision false word (asked.Word text) = string_bytes text ≡ word
IsRevision true word (asked.Turned text) = string_bytes text ≡ word
IsRevision turned word other = ⊥

-- the set that a word names: of refs, or of the lines of standard input, for which `--not` doesn't count
abbrev pub set_of : List ℕ → (turned : Bool) → Option Asked
set_of word turned =
    if bytes_eq word (codes "--all") then Some (asked_refs turned refs.All)
    else if bytes_eq word (codes "--branches") then Some (asked_refs turned refs.Branches)
    else if bytes_eq word (codes "--tags") then Some (asked_refs turned refs.Tags)
    else if bytes_eq word (codes "--remotes") then Some (asked_refs turned refs.Remotes)
    else if bytes_eq word (codes "--stdin") then Some asked.Lines
    else None
