-- Lists of which nothing is left.
use Rattle.std.proofs.Common.{ℕ, ◌≡◌, List, [], ◌∷◌, ◌++◌, refl}

pub not_empty : (xs ys : List ℕ) (b : ℕ) → xs ++ b ∷ ys ≡ [] → ⊥
not_empty [] ys b is = cc
not_empty (x ∷ xs) ys b is = cc

pub empty_between : (xs ys zs : List ℕ) → xs ++ (ys ++ zs) ≡ [] → ys ≡ []
empty_between [] [] zs is = refl
empty_between [] (y ∷ ys) zs is = cc
empty_between (x ∷ xs) ys zs is = cc
