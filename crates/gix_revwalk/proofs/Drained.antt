-- What was drawn to its end, one answer after the other.
use Rattle.std.proofs.Common.{List, [], ◌∷◌, Option, Some, None, sym, subst}
use Rattle.std.specs.Iterator.{Drains}

module _ {S A : Type 0} (steps : S → Option A → S → Type 0) where
  pub at_end : (s : S) → Drains steps s [] → (new : S) × steps s None new
  at_end s d = (d.0, subst (λ t. steps t None d.0) (sym d.1.1) d.1.2)

  pub at_first : (s : S) (x : A) (xs : List A) → Drains steps s (x ∷ xs) → (new : S) × steps s (Some x) new × Drains steps new xs
  at_first s x xs d = (d.1.1.0, d.1.1.1, (d.0, (d.1.0, d.1.1.2, d.1.2)))
