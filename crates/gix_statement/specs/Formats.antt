-- What a format writes of a commit: `formatted`, at the end. A text is a list of bytes: 9 is a tab, 10 a newline, 13 a carriage return, 32 a
-- space, 37 `%`, 43 `+`, 45 `-`, 48 to 57 are digits, 58 is `:`, 60 `<`, 62 `>`, 97 `a`, 99 `c`.
use Rattle.std.specs.Prelude.{ℕ, zero, suc, ◌+◌, ◌-◌, ◌*◌, ◌/◌, ◌%◌, ◌==◌, ◌&&◌, ◌||◌, nat_lt, nat_le, nat_eq, ℤ, pos, negsuc, ◌+ℤ◌, ◌-ℤ◌, List, [], ◌∷◌, ◌++◌}
use Rattle.std.specs.Prelude.{length, map, take, drop, replicate, flat_map, sum, find, not, Bool, true, false, if◌then◌else◌, Option, None, Some, is_some, codes}
use Rattle.std.specs.Fmt.{digits, signed_decimal}
use Rattle.std.specs.List.{after_first, before_first, list_all, prefix_len, starts_with}
use Rattle.std.specs.Str.{bytes_eq, str_to_ascii_lowercase}
use Rattle.std.specs.Str.Parse.{digits_value}
use Rattle.hex.specs.Hex.{encode_lower}
use Rattle.gix_hash.specs.declared.ObjectId.{ObjectId}
use Rattle.gix_hash.specs.declared.ObjectId.TheVariants.{Sha1, Sha256}

abbrev pub bytes_in : ObjectId → List ℕ
bytes_in (Sha1 bytes) = bytes
bytes_in (Sha256 bytes) = bytes

abbrev pub digits_in : ObjectId → ℕ
digits_in (Sha1 bytes) = 40
digits_in (Sha256 bytes) = 64

abbrev pub hex : ObjectId → List ℕ
hex i = encode_lower (bytes_in i)

-- SUBJECTS: a newline or a byte 0 ends a line. The message is what comes from the end of the first empty line on, up to a byte 0. The subject
-- is its lines from the first that isn't blank up to a blank one, each without white space at its end, and with a space before each but the first.
abbrev pub ends : ℕ → Bool
ends b = b == 10 || b == 0

abbrev pub message : (at_start : Bool) → List ℕ → List ℕ
message at_start [] = []
message at_start (b ∷ text) = if at_start && ends b then before_first (λ c. c == 0) (b ∷ text) else message (ends b) text

abbrev pub onto : ℕ → List (List ℕ) → List (List ℕ)
onto b [] = []
onto b (line ∷ lines) = (b ∷ line) ∷ lines

abbrev pub lines_in : List ℕ → List (List ℕ)
lines_in [] = [] ∷ []
lines_in (b ∷ text) = if ends b then [] ∷ lines_in text else onto b (lines_in text)

abbrev pub trimmed : List ℕ → List ℕ
trimmed [] = []
trimmed (b ∷ line) = if length (trimmed line) == 0 && (b == 32 || b == 9 || b == 13) then [] else b ∷ trimmed line

abbrev pub subject : List ℕ → List ℕ
subject text = let is_blank = λ (line : List ℕ). length line == 0 in let lines = map trimmed (lines_in (message true text)) in
    drop 1 (flat_map (λ line. 32 ∷ line) (before_first is_blank (drop (prefix_len is_blank lines) lines)))

-- PEOPLE: what is behind a word in the first line that begins with it, of those before the first empty line.
abbrev pub header : (word : List ℕ) → List (List ℕ) → List ℕ
header word [] = []
header word ([] ∷ lines) = []
header word ((b ∷ line) ∷ lines) = if starts_with nat_eq (b ∷ line) word then drop (length word) (b ∷ line) else header word lines

abbrev pub name_in : List ℕ → List ℕ  -- what is before the first `<`, without white space at its end
name_in said = trimmed (before_first (λ b. b == 60) said)

abbrev pub address_in : List ℕ → List ℕ  -- between the first `<` and the next `>`
address_in said = before_first (λ b. b == 62) (after_first (λ b. b == 60) said)

-- DATES: a committer ends with how far the clock was ahead of UTC: a sign, and hours and minutes of two digits each. If not, there is no date.
abbrev pub is_offset : List ℕ → Bool
is_offset [] = false
is_offset (sign ∷ rest) = (sign == 43 || sign == 45) && length rest == 4 && list_all (λ b. nat_le 48 b && nat_le b 57) rest

abbrev pub offset : List ℕ → List ℕ  -- the last five bytes behind the first `>`, of which white space at the end is left out
offset said = let rest = trimmed (after_first (λ b. b == 62) said) in let last = drop (length rest - 5) rest in
    if bytes_eq last (codes "-0000") then codes "+0000" else last

abbrev pub from_1970 : ℤ → ℕ  -- a clock before 1970 is set to its first second
from_1970 (pos n) = n
from_1970 (negsuc n) = 0

abbrev pub clock : ℤ → List ℕ → ℕ  -- the seconds of such a clock since 1970
clock time [] = from_1970 time
clock time (sign ∷ rest) = let seconds = 3600 * digits_value 10 (take 2 rest) + 60 * digits_value 10 (drop 2 rest) in
    from_1970 (if sign == 45 then time -ℤ pos seconds else time +ℤ pos seconds)

abbrev pub padded : (width : ℕ) → ℕ → List ℕ
padded width n = let number = digits 10 false n in replicate (width - length number) 48 ++ number

abbrev pub months : (year : ℕ) → List ℕ  -- how many days each has
months year = 31 ∷ (if year % 4 == 0 && (not (year % 100 == 0) || year % 400 == 0) then 29 else 28) ∷ 31 ∷ 30 ∷ 31 ∷ 30 ∷ 31 ∷ 31 ∷ 30 ∷ 31 ∷ 30 ∷ 31 ∷ []

abbrev pub month_and_day : (month : ℕ) → (months : List ℕ) → (days : ℕ) → List ℕ  -- so many days behind the first of the month
month_and_day month [] days = []
month_and_day month (n ∷ others) days =
    if nat_lt days n then padded 2 month ++ 45 ∷ padded 2 (suc days) else month_and_day (suc month) others (days - n)

abbrev pub date : (years year days : ℕ) → List ℕ  -- so many days behind the first of the year, in one of so many years
date zero year days = []
date (suc years) year days =
    if nat_lt days (sum (months year)) then padded 4 year ++ 45 ∷ month_and_day 1 (months year) days else date years (suc year) (days - sum (months year))

-- as `2005-04-07 15:13:13 -0700`: dates come again after 400 years, which are 146097 days
abbrev pub date_and_time : ℤ → (offset : List ℕ) → List ℕ
date_and_time time offset = let now = clock time offset in let day = now / 86400 in let second = now % 86400 in
    if is_offset offset then date 400 (1970 + 400 * (day / 146097)) (day % 146097) ++ 32 ∷ (padded 2 (second / 3600)
    ++ 58 ∷ (padded 2 (second / 60 % 60) ++ 58 ∷ (padded 2 (second % 60) ++ 32 ∷ offset))) else []

-- FIELDS of a commit: each has a name of two bytes. A letter behind a `%` is one, and behind `%a` or `%c` a letter with this `a` or `c`.
pub record Commit : Type 0 where
  pub id : ObjectId
  pub parents : List ObjectId
  pub time : ℤ
  pub text : List ℕ

abbrev pub fields : List (List ℕ × (Commit → List ℕ))
fields = (codes "%%", λ c. codes "%") ∷ (codes "%n", λ c. 10 ∷ []) ∷ (codes "%H", λ c. hex c.id) ∷ (codes "%h", λ c. take 10 (hex c.id))
    ∷ (codes "%T", λ c. str_to_ascii_lowercase (take (digits_in c.id) (drop 5 c.text))) ∷ (codes "%P", λ c. drop 1 (flat_map (λ p. 32 ∷ hex p) c.parents))
    ∷ (codes "%s", λ c. subject c.text) ∷ (codes "an", λ c. name_in (header (codes "author ") (lines_in c.text)))
    ∷ (codes "ae", λ c. address_in (header (codes "author ") (lines_in c.text))) ∷ (codes "ct", λ c. signed_decimal c.time)
    ∷ (codes "ci", λ c. date_and_time c.time (offset (header (codes "committer ") (lines_in c.text)))) ∷ []

abbrev pub field : (before letter : ℕ) → Option (List ℕ × (Commit → List ℕ))
field before letter = find (λ (f : List ℕ × (Commit → List ℕ)). bytes_eq f.0 (before ∷ letter ∷ [])) fields

abbrev pub said : Option (List ℕ × (Commit → List ℕ)) → Commit → List ℕ
said None c = []
said (Some (name, value)) c = value c

-- FORMATS: fields, and other bytes as they are. Behind the first byte of a field's name the rest has that before it, and else 0.
abbrev pub is_format : (before : ℕ) → List ℕ → Bool
is_format before [] = before == 0
is_format before (b ∷ text) =
    if before == 0 then is_format (if b == 37 then 37 else 0) text
    else if before == 37 && (b == 97 || b == 99) then is_format b text
    else is_some (field before b) && is_format 0 text

abbrev pub formatted : Commit → (before : ℕ) → List ℕ → List ℕ
formatted c before [] = []
formatted c before (b ∷ text) =
    if before == 0 then (if b == 37 then formatted c 37 text else b ∷ formatted c 0 text)
    else if before == 37 && (b == 97 || b == 99) then formatted c b text
    else said (field before b) c ++ formatted c 0 text
