-- Which walks meet the premise that each tree that the visits go into is stored, reads whole and doesn't hold itself.
use Rattle.std.proofs.Common.{◌≡◌, true, false, List, [], ◌∷◌, Option, None, Ok, Err, refl, codes}
use Rattle.gix_tree.proofs.Common.{ObjectId, Items, Visit, visit, inside, unknown_root, IsWhole, AllEnterWhole}
use Rattle.gix_object.specs.declared.decode.Error.TheVariants as decode
use Rattle.gix_object.specs.declared.find.existing_iter.Error.{Error as ExistingError}
use Rattle.gix_object.specs.declared.find.existing_iter.Error.TheVariants as existing
use Rattle.gix_tree.specs.Examples.{n, file, tree, itself, sample, torn, skip, at_root, below_root}

-- the look-up of a tree fails where the tree isn't stored
abbrev Lacks : (ObjectId → Option Items) → ObjectId → ExistingError → Type 0
Lacks trees i why = (trees i ≡ None) × (why ≡ existing.NotFound i)

-- the root's visits, where its tree `d` is left out
abbrev leaving_out : List Visit
leaving_out = at_root (file (codes "a") 1) ∷ visit unknown_root (tree (codes "d") 13) skip ∷ at_root (file (codes "e") 3) ∷ []

-- a missing tree that is left out is no matter
left_out : AllEnterWhole torn (Lacks torn) leaving_out
left_out = (λ g. let e : false ≡ true = g.0 in cc, (λ g. let e = g.1 in cc, (λ g. let e : false ≡ true = g.0 in cc, tt)))

-- a missing tree that is gone into is refused
gone_into : AllEnterWhole torn (Lacks torn) (at_root (file (codes "a") 1) ∷ at_root (tree (codes "d") 13) ∷ []) → ⊥
gone_into h = (h.1.0 (refl, refl)).whole.found (existing.NotFound (n 13)) (refl, refl)

-- a tree that holds itself is no matter, where it is left out inside itself
cycle_left_out : AllEnterWhole sample (Lacks sample) (at_root (tree (codes "d") 7) ∷ visit (inside unknown_root (tree (codes "d") 7)) (tree (codes "d") 7) skip ∷ [])
cycle_left_out = (λ g. record { whole = record { stored = (itself, refl, tt); found = λ why h. let e = h.0 in cc }; free = refl }, (λ g. let e = g.1 in cc, tt))

-- it is refused where it is gone into there too
cycle_gone_into : AllEnterWhole sample (Lacks sample) (at_root (tree (codes "d") 7) ∷ below_root (tree (codes "d") 7) (tree (codes "d") 7) ∷ []) → ⊥
cycle_gone_into h = let e : true ≡ false = (h.1.0 (refl, refl)).free in cc

-- a tree with a fault is refused where it is gone into
broken_gone_into : AllEnterWhole (λ i. Option.Some (Err decode.EntryMode ∷ [])) (λ i why. ⊥) (at_root (tree (codes "d") 13) ∷ []) → ⊥
broken_gone_into h =
    let s = (h.0 (refl, refl)).whole.stored in
    go s.0 s.1 s.2
  where
    go : (items : Items) → Option.Some (Err decode.EntryMode ∷ []) ≡ Option.Some items → IsWhole items → ⊥
    go [] e w = cc
    go (Err why ∷ items) e w = w
    go (Ok x ∷ items) e w = cc
