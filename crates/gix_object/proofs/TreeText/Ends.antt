-- Ends of lists of bytes.
use Rattle.std.proofs.Common.{◌≡◌, ◌⊎◌, inl, inr, ℕ, ◌-◌, ◌<◌, ◌≤◌, List, length, drop, sym, ap, ◌∙◌, arith, length-drop}
use Rattle.std.proofs.lemmas.Bool.{cases_lt}
use Rattle.std.proofs.lemmas.List.{drop_all}
use Rattle.gix_object.specs.TreeRefIter.{IsEndOf}

-- the bytes behind the first ones are an end
pub drop_end : (n : ℕ) (bytes : List ℕ) → IsEndOf (drop n bytes) bytes
drop_end n bytes = go (cases_lt n (length bytes))
  where
    go : (n < length bytes) ⊎ (length bytes ≤ n) → drop (length bytes - length (drop n bytes)) bytes ≡ drop n bytes
    go (inl h) =
        let e : length bytes - length (drop n bytes) ≡ n = omega (arith, length-drop n bytes) in
        ap (λ i. drop i bytes) e
    go (inr h) =
        let l : length bytes ≤ length bytes - length (drop n bytes) = omega (arith, length-drop n bytes) in
        drop_all (length bytes - length (drop n bytes)) bytes l ∙ sym (drop_all n bytes h)
