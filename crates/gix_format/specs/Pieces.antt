-- Parts of what a format writes, by names that stay closed.
use Rattle.std.specs.Prelude.{ℕ, ◌+◌, ◌*◌, ◌/◌, ◌%◌, ℤ, List, [], ◌∷◌, ◌++◌, sum, take, drop}
use Rattle.std.specs.Str.Parse.{digits_value}
use Rattle.gix_statement.specs.Formats as formats
use Rattle.gix_statement.specs.Formats.{date, date_and_time, field, month_and_day, months, padded, said, subject}

-- what a field says, by the two bytes of its name
unfoldable pub field_text : formats.Commit → (before letter : ℕ) → List ℕ
field_text c before letter = said (field before letter) c

unfoldable pub subject_text : List ℕ → List ℕ
subject_text text = subject text

-- a number below 100
unfoldable pub two : ℕ → List ℕ
two n = padded 2 n

-- how far a clock is off UTC
unfoldable pub offset_seconds : (offset : List ℕ) → ℕ
offset_seconds [] = 0
offset_seconds (sign ∷ rest) = 3600 * digits_value 10 (take 2 rest) + 60 * digits_value 10 (drop 2 rest)

unfoldable pub year_days : ℕ → ℕ
year_days year = sum (months year)

-- so many days behind the first of this month, which is the first of so long months
unfoldable pub months_text : (month : ℕ) → (months : List ℕ) → (days : ℕ) → List ℕ
months_text month lengths days = month_and_day month lengths days

-- without the year; the first day is 0
unfoldable pub month_text : (year day : ℕ) → List ℕ
month_text year day = months_text 1 (months year) day

-- so many days behind the first of the year, in one of so many years
unfoldable pub dates_text : (years year days : ℕ) → List ℕ
dates_text years year days = date years year days

unfoldable pub day_text : (day : ℕ) → List ℕ  -- days since 1970
day_text day = dates_text 400 (1970 + 400 * (day / 146097)) (day % 146097)

-- between a year and an offset, so many seconds behind the first of the day
unfoldable pub after_year : (month day second : ℕ) → List ℕ
after_year month day second = 45 ∷ (two month ++ 45 ∷ (two day ++ 32 ∷ (two (second / 3600) ++ 58 ∷ (two (second / 60 % 60)
    ++ 58 ∷ (two (second % 60) ++ 32 ∷ [])))))

unfoldable pub date_text : ℤ → (offset : List ℕ) → List ℕ
date_text time offset = date_and_time time offset
