-- The month of a day.
use Rattle.std.proofs.Common.{ℕ, suc, ◌≡◌, ◌+◌, ◌-◌, ◌<◌, ◌≤◌, ◌++◌, List, ◌∷◌, length, drop, drop-cons, get_or, sum, refl, ap, sym, ◌∙◌, arith}
use Rattle.std.specs.Prelude.{nat_lt}
use Rattle.std.proofs.lemmas.Bool.{cond-false, cond-true}
use Rattle.std.proofs.lemmas.List.Sums.{sum_by-drop_more}
use Rattle.gix_statement.specs.Formats.{months}
use Rattle.gix_format.specs.Pieces.{month_text, months_text, two, year_days}
use Rattle.gix_format.proofs.Digits.{ltb-above, ltb-below}

first_here : (month n : ℕ) (lengths : List ℕ) (left : ℕ) → left < n → months_text month (n ∷ lengths) left ≡ two month ++ 45 ∷ two (suc left)
unfolding months_text two
first_here month n lengths left h = cond-true (nat_lt left n) _ _ (ltb-below left n h)

first_next : (month n : ℕ) (lengths : List ℕ) (left : ℕ) → n ≤ left → months_text month (n ∷ lengths) left ≡ months_text (suc month) lengths (left - n)
unfolding months_text
first_next month n lengths left h = cond-false (nat_lt left n) _ _ (ltb-above left n h)

-- a day of the month at this index, and one of a later month
pub here : (month index : ℕ) (lengths : List ℕ) (left : ℕ) → index < length lengths → left < get_or lengths index 0
    → months_text month (drop index lengths) left ≡ two month ++ 45 ∷ two (left + 1)
here month index lengths left at h =
    ap (λ rest. months_text month rest left) (drop-cons lengths index 0 at)
    ∙ first_here month (get_or lengths index 0) (drop (suc index) lengths) left h
    ∙ ap (λ day. two month ++ 45 ∷ two day) {x = suc left} {y = left + 1} (omega arith)

pub next : (month index : ℕ) (lengths : List ℕ) (left : ℕ) → index < length lengths → get_or lengths index 0 ≤ left
    → months_text (month + 1) (drop (index + 1) lengths) (left - get_or lengths index 0) ≡ months_text month (drop index lengths) left
next month index lengths left at h =
    sym (
    ap (λ rest. months_text month rest left) (drop-cons lengths index 0 at)
    ∙ first_next month (get_or lengths index 0) (drop (suc index) lengths) left h
    ∙ ap (λ k. months_text k (drop (suc index) lengths) (left - get_or lengths index 0)) {x = suc month} {y = month + 1} (omega arith)
    ∙ ap (λ k. months_text (month + 1) (drop k lengths) (left - get_or lengths index 0)) {x = suc index} {y = index + 1} (omega arith)
    )

pub sum_next : (index : ℕ) (lengths : List ℕ) → index < length lengths → sum (drop index lengths) ≡ get_or lengths index 0 + sum (drop (index + 1) lengths)
sum_next index lengths at = sum_by-drop_more (λ n. n) lengths index 0 at

pub at_first : (year day : ℕ) → months_text 1 (months year) day ≡ month_text year day
unfolding month_text
at_first year day = refl

pub sum_of_all : (year : ℕ) → sum (months year) ≡ year_days year
unfolding year_days
sum_of_all year = refl
