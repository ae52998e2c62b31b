-- Generations fall from a commit to its parents.
use Rattle.std.proofs.Common.{◌≡◌, ◌⊎◌, ◌<◌, ◌≤◌, ℕ, List, [], ◌∷◌, Contains, subst, inl, inr, arith}
use Rattle.gix_paint.proofs.Common.{ObjectId, Reaches, start, step}
use Rattle.gix_hash.proofs.Lists.{only_member}

module _ (next : ObjectId → List ObjectId) where
  -- what an id that has a generation reaches has a generation, the same or a lesser one
  pub told_below : (told : ObjectId → ℕ → Type 0) → ((c i : ObjectId) (n : ℕ) → told c n → Contains (next c) i → (m : ℕ) × told i m × (m < n))
      → (q : ObjectId) (n : ℕ) → told q n → (i : ObjectId) → Reaches next (q ∷ []) i → (m : ℕ) × told i m × (m ≤ n) × ((q ≡ i) ⊎ (m < n))
  told_below told falls q n t i (start m) = (n, subst (λ j. told j n) (only_member q i m) t, Rattle.std.proofs.Common.le_refl n, inl (only_member q i m))
  told_below told falls q n t i (step {c = c} r m) =
      let above : (m : ℕ) × told c m × (m ≤ n) × ((q ≡ c) ⊎ (m < n)) = told_below told falls q n t c r in
      let here : (k : ℕ) × told i k × (k < above.0) = falls c i above.0 above.1 m in
      let under : here.0 < n = (let most : above.0 ≤ n = above.2 in let less : here.0 < above.0 = here.2 in omega arith) in
      (here.0, here.1, omega arith, inr under)
