-- A date and a time in three parts: a year, what is behind it, and an offset.
use Rattle.std.proofs.Common.{ℕ, ◌≡◌, ◌/◌, ◌%◌, ℤ, List, [], ◌∷◌, ◌++◌, append_assoc, true, false, ap, sym, ◌∙◌}
use Rattle.std.specs.Fmt.{decimal}
use Rattle.std.proofs.lemmas.Bool.{cond-false, cond-true}
use Rattle.gix_statement.specs.Formats.{clock, is_offset}
use Rattle.gix_format.proofs.Empty.{not_empty}
use Rattle.gix_format.specs.Pieces.{after_year, date_text, dates_text, day_text, month_text, two}

abbrev at_time : (day hour minute second offset : List ℕ) → List ℕ
at_time day hour minute second offset = day ++ 32 ∷ (hour ++ 58 ∷ (minute ++ 58 ∷ (second ++ 32 ∷ offset)))

in_parts : (year month day hour minute second offset : List ℕ) → at_time (year ++ 45 ∷ (month ++ 45 ∷ day)) hour minute second offset
    ≡ year ++ ((45 ∷ (month ++ 45 ∷ (day ++ 32 ∷ (hour ++ 58 ∷ (minute ++ 58 ∷ (second ++ 32 ∷ [])))))) ++ offset)
in_parts year month day hour minute second offset = simp append_assoc

by_clock : (time : ℤ) (offset : List ℕ) → is_offset offset ≡ true → date_text time offset ≡ at_time (day_text (clock time offset / 86400))
    (two (clock time offset % 86400 / 3600)) (two (clock time offset % 86400 / 60 % 60)) (two (clock time offset % 86400 % 60)) offset
unfolding date_text day_text dates_text two
by_clock time offset is = cond-true (is_offset offset) _ _ is

pub date_text-is : (time : ℤ) (offset : List ℕ) (now year left month day : ℕ) → is_offset offset ≡ true → now ≡ clock time offset
    → day_text (now / 86400) ≡ decimal year ++ 45 ∷ month_text year left → month_text year left ≡ two month ++ 45 ∷ two day
    → date_text time offset ≡ decimal year ++ (after_year month day (now % 86400) ++ offset)
unfolding after_year
date_text-is time offset now year left month day form is in_year in_month =
    by_clock time offset form
    ∙ ap (λ n. at_time (day_text (n / 86400)) (two (n % 86400 / 3600)) (two (n % 86400 / 60 % 60)) (two (n % 86400 % 60)) offset) (sym is)
    ∙ ap (λ d. at_time d (two (now % 86400 / 3600)) (two (now % 86400 / 60 % 60)) (two (now % 86400 % 60)) offset)
    (in_year ∙ ap (λ (m : List ℕ). decimal year ++ 45 ∷ m) in_month)
    ∙ in_parts (decimal year) (two month) (two day) _ _ _ offset

pub no_date : (time : ℤ) (offset : List ℕ) → is_offset offset ≡ false → date_text time offset ≡ []
unfolding date_text
no_date time offset is = cond-false (is_offset offset) _ _ is

pub date-not_empty : (year month day second : ℕ) (offset : List ℕ) → decimal year ++ (after_year month day second ++ offset) ≡ [] → ⊥
unfolding after_year
date-not_empty year month day second offset is = not_empty (decimal year) _ 45 is
