-- The first lines of a list, one after another.
use Rattle.std.proofs.Common.{◌≡◌, ◌<◌, ◌+◌, ◌-◌, ℕ, zero, suc, List, [], ◌∷◌, ◌++◌, length, take, drop, get_or, flat_map, refl, sym, ap, ◌∙◌, arith, append-nil}
use Rattle.std.proofs.lemmas.Grind.{flat_map-append}
use Rattle.std.proofs.lemmas.List.{drop_more, take_more}

module _ {A : Type 0} where
  -- an element, and what is before and behind it
  pub record SplitsAt (xs : List A) (i : ℕ) : Type 0 where
    pub element : A
    pub behind : drop i xs ≡ element ∷ drop (i + 1) xs
    pub before : take (i + 1) xs ≡ take i xs ++ element ∷ []

  pub splits_at : (xs : List A) (i : ℕ) → i < length xs → SplitsAt xs i
  splits_at [] i few = absurd (omega (arith, few))
  splits_at (x ∷ xs) i few = record { element = get_or (x ∷ xs) i x; behind = drop_more (x ∷ xs) i x few; before = take_more (x ∷ xs) i x few }

  none_taken : (k : ℕ) → take {A = A} k [] ≡ []
  none_taken zero = refl
  none_taken (suc k) = refl

  pub take_parts : (i k : ℕ) (xs : List A) → take (i + k) xs ≡ take i xs ++ take k (drop i xs)
  take_parts zero k xs = ap (λ n. take n xs) (omega arith)
  take_parts (suc i) k [] = none_taken (suc i + k) ∙ sym (none_taken k)
  take_parts (suc i) k (x ∷ xs) = let more : suc i + k ≡ suc (i + k) = omega arith in ap (λ n. take n (x ∷ xs)) more ∙ ap (λ ys. x ∷ ys) (take_parts i k xs)

  module _ (line : A → List ℕ) (xs : List A) (i : ℕ) (s : SplitsAt xs i) where
    -- one line more
    pub one_line : flat_map line (take (i + 1) xs) ≡ flat_map line (take i xs) ++ line s.element
    one_line = ap (flat_map line) s.before ∙ flat_map-append line (take i xs) (s.element ∷ []) ∙ ap (λ w. flat_map line (take i xs) ++ w) (append-nil (line s.element))

    -- all lines
    pub all_lines : (number : ℕ) → i < number → flat_map line (take i xs) ++ (line s.element ++ flat_map line (take (number - (i + 1)) (drop (i + 1) xs))) ≡ flat_map line (take number xs)
    all_lines number few =
        let parts : i + suc (number - (i + 1)) ≡ number = omega (arith, few) in
        sym (flat_map-append line (take i xs) (s.element ∷ take (number - (i + 1)) (drop (i + 1) xs))) ∙ ap (λ ys. flat_map line (take i xs ++ take (suc (number - (i + 1))) ys)) (sym s.behind)
        ∙ ap (flat_map line) (sym (take_parts i (suc (number - (i + 1))) xs) ∙ ap (λ n. take n xs) parts)
