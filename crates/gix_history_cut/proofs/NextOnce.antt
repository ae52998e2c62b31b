-- What comes next is one, so of two lists that begin the same way the shorter one is the front of the longer one.
use Rattle.std.proofs.Common.{◌≡◌, ◌≤◌, ℕ, ℤ, List, [], ◌∷◌, ◌++◌, length, refl, sym, ap, ◌∙◌, arith, append_assoc, append-nil}
use Rattle.gix_statement.specs.WholeStatement.{Begins}
use Rattle.gix_statement.proofs.OneAnswer.{next_once}

module _ {I : Type 0} (parents followed : I → List I) (time : I → ℤ) (starts hidden : List I) where
  module _ (by : List ℕ) (ids others : List I) (begins : Begins parents followed time starts hidden by ids) (begun : Begins parents followed time starts hidden by others) where
    front_behind : (taken xs ys : List I) → length xs ≤ length ys → ids ≡ taken ++ xs → others ≡ taken ++ ys → (rest : List I) × (others ≡ ids ++ rest)
    front_behind taken [] ys few is same = (ys, same ∙ ap (λ zs. zs ++ ys) (sym (is ∙ append-nil taken)))
    front_behind taken (x ∷ xs) [] few is same = absurd (omega (arith, few))
    front_behind taken (x ∷ xs) (y ∷ ys) few is same =
        let h : x ≡ y = next_once parents followed time starts hidden taken x y by (begins.2 taken xs x is) (begun.2 taken ys y same) in
        front_behind (taken ++ x ∷ []) xs ys (omega (arith, few)) (is ∙ sym (append_assoc taken (x ∷ []) xs)) (same ∙ ap (λ z. taken ++ z ∷ ys) (sym h) ∙ sym (append_assoc taken (x ∷ []) ys))

    pub is_front : length ids ≤ length others → (rest : List I) × (others ≡ ids ++ rest)
    is_front few = front_behind [] ids others few refl refl
