-- A worked example of rows that agree with a store: commit 2 with the parent 1, in whose row the parent's place may be corrupt.
use Rattle.std.proofs.Common.{◌≡◌, pos, [], ◌∷◌, Some, refl, ap, arith}
use Rattle.gix_revwalk.proofs.Common.{ParentPlace, At, Fault, GraphRow}
use Rattle.gix_revwalk.specs.Agreeing.{PlaceAgrees}
use Rattle.gix_revwalk.specs.Examples.{n}

abbrev pub first_row : GraphRow
first_row = record { id = n 1; tree = n 9; parents = []; generation = 1; time = pos 1 }

abbrev pub second_row : ParentPlace → GraphRow
second_row place = record { id = n 2; tree = n 9; parents = place ∷ []; generation = 2; time = pos 2 }

-- the place of the parent's row, and a corrupt place
pub place_agrees : PlaceAgrees (first_row ∷ second_row (At 0) ∷ []) 2 (n 1) (At 0)
place_agrees = (first_row, refl, refl, refl, omega arith)

pub fault_agrees : PlaceAgrees (first_row ∷ second_row Fault ∷ []) 2 (n 1) Fault
fault_agrees = (first_row, refl, omega arith)

-- the place of another row doesn't agree
pub place_disagrees : PlaceAgrees (first_row ∷ second_row (At 1) ∷ []) 2 (n 1) (At 1) → ⊥
place_disagrees (row, there, same, found, less) = let e : Some (second_row (At 1)) ≡ Some row = there in let l : 2 ≡ row.generation = (let s : second_row (At 1) ≡ row = cc in ap (λ r. r.generation) s) in omega arith
