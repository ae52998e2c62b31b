-- What the parents that are left add.
use Rattle.std.proofs.Common.{ℕ, suc, ◌≡◌, ◌+◌, ◌<◌, ◌≤◌, List, [], ◌∷◌, ◌++◌, length, drop, drop-cons, get_or, refl, ap, ◌∙◌, arith}
use Rattle.std.specs.Prelude.{flat_map}
use Rattle.gix_hash.specs.declared.ObjectId.{ObjectId}
use Rattle.gix_statement.specs.Formats.{hex}

abbrev pub spaced : List ObjectId → List ℕ
spaced parents = flat_map (λ p. 32 ∷ hex p) parents

pub first_parent : (parents : List ObjectId) (d : ObjectId) → 1 ≤ length parents
    → drop 1 (spaced parents) ≡ hex (get_or parents 0 d) ++ spaced (drop 1 parents)
first_parent [] d some = absurd (omega arith)
first_parent (p ∷ parents) d some = refl

pub next_parent : (parents : List ObjectId) (d : ObjectId) (i : ℕ) → i < length parents
    → spaced (drop i parents) ≡ 32 ∷ (hex (get_or parents i d) ++ spaced (drop (i + 1) parents))
next_parent parents d i at =
    ap spaced (drop-cons parents i d at)
    ∙ ap (λ k. 32 ∷ (hex (get_or parents i d) ++ spaced (drop k parents))) {x = suc i} {y = i + 1} (omega arith)
