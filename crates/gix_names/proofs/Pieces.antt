-- What is hashed, piece by piece.
use Rattle.std.proofs.Common.{◌≡◌, ℕ, List, [], ◌∷◌, ◌++◌, append_assoc}

pub pieces : (word digits bytes : List ℕ) → (((word ++ 32 ∷ []) ++ digits) ++ 0 ∷ []) ++ bytes ≡ word ++ 32 ∷ (digits ++ 0 ∷ bytes)
pieces word digits bytes = simp append_assoc
