-- What the options that have a value say: a table. Of a date, and of the name of a file, it is open what they are read as.
use Rattle.std.specs.Prelude.{◌≡◌, ◌==◌, ◌&&◌, ◌||◌, ℕ, ℤ, pos, List, [], ◌∷◌, Bool, false, not, Option, Some, None, IfSome, MatchBool, if◌then◌else◌, codes}
use Rattle.std.specs.Str.{bytes_eq}
use Rattle.gix_options.specs.declared.options.Options.{Options}
use Rattle.gix_words.specs.Formats.{format_of}
use Rattle.gix_words.specs.Words.{number_in}

-- a number below 0 of at most 9 digits
abbrev pub is_negative : List ℕ → Bool
is_negative [] = false
is_negative (b ∷ digits) = b == 45 && is_above_0 (number_in 9 digits) where
  is_above_0 : Option ℕ → Bool
  is_above_0 None = false
  is_above_0 (Some n) = not (n == 0)

abbrev pub limit_in : List ℕ → Option ℕ
limit_in value = if is_negative value then None else number_in 9 value

-- 1 to 10 digits are these seconds
abbrev pub IsSeconds : List ℕ → Option ℤ → Type 0
IsSeconds value time = IfSome (number_in 10 value) (λ n. time ≡ Some (pos n))

abbrev pub is_either : List ℕ → List ℕ → List ℕ → Bool
is_either one other option = bytes_eq option one || bytes_eq option other

-- the option of this name and value makes these options of those
abbrev pub HasValue : (option value : List ℕ) → (old new : Options) → Type 0
HasValue option value old new =
    MatchBool (is_either (codes "-n") (codes "--max-count") option) (new ≡ record old { limit = limit_in value })
    (MatchBool (bytes_eq option (codes "--skip")) (new ≡ record old { skip = number_in 9 value })
    (MatchBool (bytes_eq option (codes "--certificate")) (new ≡ record old { certificate = new.certificate })
    (MatchBool (bytes_eq option (codes "--format")) (new ≡ record old { format = format_of value })
    (MatchBool (is_either (codes "--since") (codes "--after") option) (IsSeconds value new.since × (new ≡ record old { since = new.since }))
    (IsSeconds value new.until × (new ≡ record old { until = new.until }))))))
