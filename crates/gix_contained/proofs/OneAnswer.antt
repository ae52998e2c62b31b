-- Of one history there is one answer.
use Rattle.std.proofs.Common.{◌≡◌, List, ◌∷◌, refl, ap}
use Rattle.gix_hash.specs.declared.ObjectId.{ObjectId}
use Rattle.gix_contained.specs.Contained.{AreContained, empty, reached, passed}

module _ {parents : ObjectId → List ObjectId} {tips : List ObjectId} where
  pub one_answer : {ids those these : List ObjectId} → AreContained parents tips ids those → AreContained parents tips ids these → those ≡ these
  one_answer empty empty = refl
  one_answer (reached {i = i} r a) (reached s b) = ap (λ xs. i ∷ xs) (one_answer a b)
  one_answer (reached r a) (passed n b) = absurd (n r)
  one_answer (passed n a) (reached s b) = absurd (n s)
  one_answer (passed n a) (passed o b) = one_answer a b
