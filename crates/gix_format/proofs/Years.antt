-- The year of a day.
use Rattle.std.proofs.Common.{ℕ, zero, suc, ◌≡◌, ◌+◌, ◌-◌, ◌*◌, ◌/◌, ◌%◌, ◌<◌, ◌≤◌, ◌^◌, ◌==◌, ◌&&◌, ◌||◌, List, [], ◌∷◌, ◌++◌, Bool, true, false, cond, sum, refl, ap, sym, subst, ◌∙◌, arith}
use Rattle.std.specs.Prelude.{not, nat_lt}
use Rattle.std.specs.Fmt.{decimal}
use Rattle.std.proofs.lemmas.Bool.{cond-false, cond-true}
use Rattle.gix_statement.specs.Formats.{month_and_day, months}
use Rattle.gix_format.specs.Pieces.{dates_text, day_text, month_text, months_text, year_days}
use Rattle.gix_format.proofs.Digits.{four, ltb-above, ltb-below}

abbrev pub leap : ℕ → Bool
leap year = year % 4 == 0 && (not (year % 100 == 0) || year % 400 == 0)

abbrev pub days_by : Bool → ℕ
days_by true = 366
days_by false = 365

abbrev february : Bool → ℕ
february leap = cond leap 29 28

months_by : (leap : Bool) → sum (31 ∷ february leap ∷ 31 ∷ 30 ∷ 31 ∷ 30 ∷ 31 ∷ 31 ∷ 30 ∷ 31 ∷ 30 ∷ 31 ∷ []) ≡ days_by leap
months_by true = refl
months_by false = refl

year_days-is : (year : ℕ) → year_days year ≡ days_by (leap year)
unfolding year_days
year_days-is year = months_by (leap year)

pub year_days-leap : (year : ℕ) → leap year ≡ true → year_days year ≡ 366
year_days-leap year is = year_days-is year ∙ ap days_by is

pub year_days-other : (year : ℕ) → leap year ≡ false → year_days year ≡ 365
year_days-other year is = year_days-is year ∙ ap days_by is

some_days : (leap : Bool) → 0 < days_by leap
some_days true = omega arith
some_days false = omega arith

pub year_days-some : (year : ℕ) → 0 < year_days year
year_days-some year = subst (λ n. 0 < n) (sym (year_days-is year)) (some_days (leap year))

-- how many days so many years have
pub days_of : (years year : ℕ) → ℕ
days_of zero year = 0
days_of (suc years) year = days_by (leap year) + days_of years (suc year)

leap_again : (year n : ℕ) → leap (year + 400 * n) ≡ leap year
leap_again year n =
    let by_4 : (year + 400 * n) % 4 ≡ year % 4 = omega arith in
    let by_100 : (year + 400 * n) % 100 ≡ year % 100 = omega arith in
    let by_400 : (year + 400 * n) % 400 ≡ year % 400 = omega arith in
    cc

days_again : (years year n : ℕ) → days_of years (year + 400 * n) ≡ days_of years year
unfolding days_of
days_again zero year n = refl
days_again (suc years) year n =
    let rest : days_of years (suc (year + 400 * n)) ≡ days_of years (suc year) =
    ap (days_of years) {x = suc (year + 400 * n)} {y = suc year + 400 * n} (omega arith) ∙ days_again years (suc year) n in
    let here : days_by (leap (year + 400 * n)) ≡ days_by (leap year) = ap days_by (leap_again year n) in
    cc

days_of_400 : days_of 400 1970 ≡ 146097
unfolding days_of
days_of_400 = refl

-- the day is in the years from this one on
pub record IsAhead (day year left : ℕ) : Type 0 where
  pub years : ℕ
  pub same : dates_text years year left ≡ day_text day
  pub within : left < days_of years year
  pub low : 1970 ≤ year
  pub end : year + years ≡ 1970 + 400 * (day / 146097) + 400

pub at_first : (day : ℕ) → IsAhead day (1970 + 400 * (day / 146097)) (day % 146097)
unfolding day_text
at_first day = record {
  years = 400;
  same = refl;
  within = omega (arith, days_again 400 1970 (day / 146097), days_of_400);
  low = omega arith;
  end = refl;
}

text_here : (years year left : ℕ) → left < year_days year → 1000 ≤ year → year < 2 ^ 64
    → dates_text (suc years) year left ≡ decimal year ++ 45 ∷ month_text year left
unfolding dates_text year_days month_text months_text
text_here years year left h low fits =
    cond-true (nat_lt left (sum (months year))) _ _ (ltb-below left (sum (months year)) h)
    ∙ ap (λ (y : List ℕ). y ++ 45 ∷ month_and_day 1 (months year) left) (four year low fits)

text_next : (years year left : ℕ) → year_days year ≤ left → dates_text (suc years) year left ≡ dates_text years (suc year) (left - year_days year)
unfolding dates_text year_days
text_next years year left h = cond-false (nat_lt left (sum (months year))) _ _ (ltb-above left (sum (months year)) h)

pub here : (day year left : ℕ) → IsAhead day year left → left < year_days year → year < 2 ^ 64
    → day_text day ≡ decimal year ++ 45 ∷ month_text year left
unfolding days_of
here day year left is h fits = go is.years is.same is.within
  where
    go : (years : ℕ) → dates_text years year left ≡ day_text day → left < days_of years year → day_text day ≡ decimal year ++ 45 ∷ month_text year left
    go zero same within = absurd (omega arith)
    go (suc years) same within = let low = is.low in sym same ∙ text_here years year left h (omega arith) fits

pub next : (day year left : ℕ) → IsAhead day year left → year_days year ≤ left → IsAhead day (year + 1) (left - year_days year)
unfolding days_of
next day year left is h = subst (λ next. IsAhead day next (left - year_days year)) {x = suc year} {y = year + 1} (omega arith) (go is.years is.same is.within is.end)
  where
    go : (years : ℕ) → dates_text years year left ≡ day_text day → left < days_of years year
        → year + years ≡ 1970 + 400 * (day / 146097) + 400 → IsAhead day (suc year) (left - year_days year)
    go zero same within end = absurd (omega arith)
    go (suc years) same within end = record {
      years = years;
      same = sym (text_next years year left h) ∙ same;
      within = let days = year_days-is year in omega arith;
      low = let low = is.low in omega arith;
      end = omega arith;
    }
