-- The pairs that the items of a priority queue's heap are.
use Rattle.std.proofs.Common.{◌≡◌, List, [], ◌∷◌, map, refl, ap, Ordering, IsPermutation}
use Rattle.std.specs.BinaryHeap.{IsUpperBound}
use Rattle.std.proofs.lemmas.List.Sorted.{IsPermutation-map}
use Rattle.gix_revwalk.specs.PriorityQueue.{keys, values}

module _ {X K T : Type 0} (key : X → K) (value : X → T) where
  abbrev pub pairs : List X → List (K × T)
  pairs items = map (λ x. (key x, value x)) items

  -- an item such that no other item has a greater key
  pub greatest_key : (R : K → K → Ordering) (x : X) (items : List X) → IsUpperBound (λ a b. R (key a) (key b)) x items → IsUpperBound R (key x) (keys (pairs items))
  greatest_key R x [] h = tt
  greatest_key R x (y ∷ items) h = (h.0, greatest_key R x items h.1)

  pub values_of_pairs : (items : List X) → map value items ≡ values (pairs items)
  values_of_pairs [] = refl
  values_of_pairs (x ∷ items) = ap (λ vs. value x ∷ vs) (values_of_pairs items)

  pub put_in : (x : X) (old new : List X) → IsPermutation (x ∷ old) new → IsPermutation ((key x, value x) ∷ pairs old) (pairs new)
  put_in x old new h = IsPermutation-map (λ y. (key y, value y)) (x ∷ old) new h

  pub taken_out : (x : X) (old new : List X) → IsPermutation old (x ∷ new) → IsPermutation (pairs old) ((key x, value x) ∷ pairs new)
  taken_out x old new h = IsPermutation-map (λ y. (key y, value y)) old (x ∷ new) h
