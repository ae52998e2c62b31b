-- Values in the order in which they were put in, and which of them comes next.
use Rattle.std.specs.Prelude.{◌≡◌, ◌==◌, ◌<◌, ◌≤◌, ◌<ℤ◌, ◌≤ℤ◌, ℕ, ℤ, nat_lt, List, [], ◌∷◌, ◌++◌, map, cond, if◌then◌else◌, All, Option, Some, None, sum_by}
use Rattle.gix_revwalk.specs.declared.time_queue.Turn.{Turn}

module _ {X : Type 0} (turn : X → ℕ) where
  -- before the first of a lesser turn
  abbrev pub insert_by_turn : X → List X → List X
  insert_by_turn x [] = x ∷ []
  insert_by_turn x (y ∷ ys) = if nat_lt (turn x) (turn y) then y ∷ insert_by_turn x ys else x ∷ y ∷ ys

  -- by falling turn
  abbrev pub by_turn : List X → List X
  by_turn [] = []
  by_turn (x ∷ xs) = insert_by_turn x (by_turn xs)

  -- no turn was given twice
  abbrev pub AreApart : List X → Type 0
  AreApart xs = (t : ℕ) → sum_by (λ x. cond (turn x == t) 1 0) xs ≤ 1

abbrev pub turn_of : {T : Type 0} → Turn × T → ℕ
turn_of pair = pair.0.turn

abbrev pub timed : {T : Type 0} → Turn × T → ℤ × T
timed pair = (pair.0.time, pair.1)

-- in the order in which they were put in
abbrev pub times_and_values : {T : Type 0} → List (Turn × T) → List (ℤ × T)
times_and_values pairs = map timed (by_turn turn_of pairs)

-- the turns that were given are above the next one
pub record AreInTurn {T : Type 0} (next : ℕ) (pairs : List (Turn × T)) : Type 0 where
  pub apart : AreApart turn_of pairs
  pub given : All (λ pair. next < turn_of pair) pairs

-- The first of greatest key is taken out, if there is one: those before it have lesser keys, and the others stay in their order.
abbrev pub TakesFirst : {T : Type 0} → List (ℤ × T) → Option (ℤ × T) → List (ℤ × T) → Type 0
TakesFirst old None new = (old ≡ []) × (new ≡ [])
TakesFirst old (Some pair) new =
    (before behind : List _) × (old ≡ before ++ pair ∷ behind) × (new ≡ before ++ behind) × All (λ p. p.0 <ℤ pair.0) before × All (λ p. p.0 ≤ℤ pair.0) behind
