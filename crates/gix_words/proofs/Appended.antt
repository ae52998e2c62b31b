-- Words that were added one after another.
use Rattle.std.proofs.Common.{◌≡◌, List, ◌++◌, Result, Ok, Err, append_assoc, ◌∙◌}
use Rattle.std.specs.Prelude.{OnOk}

-- two parts behind old words are one part
module _ {A : Type 0} (old first last front back a b : List A) where
  pub joined : first ≡ old ++ a → last ≡ first ++ b → a ≡ front → b ≡ back → last ≡ old ++ (front ++ back)
  joined f l e h = l ∙ (λ k. f k ++ h k) ∙ (λ k. (old ++ e k) ++ back) ∙ append_assoc old front back

-- what follows from what is so of an `Ok`
pub on_ok : {T E P Q : Type 0} (r : Result T E) → (P → Q) → OnOk r P → OnOk r Q
on_ok (Ok x) so h = so h
on_ok (Err e) so h = tt
