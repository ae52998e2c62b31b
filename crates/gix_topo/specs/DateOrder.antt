-- `git rev-list --date-order`: no parent before all of its children, and otherwise by the committer's time.
use Rattle.std.specs.Prelude.{ℤ, List, Contains, reverse}
use Rattle.gix_hash.specs.declared.ObjectId.{ObjectId}
use Rattle.gix_revwalk.specs.declared.CommitTimeOrder.TheVariants.{NewestFirst}
use Rattle.gix_revwalk.specs.TimeOrder.{IsFirstBest}
use Rattle.gix_topo.specs.TopoOrder.{IsMadeReady}
use Rattle.gix_topo.specs.WalkSet.{IsReady}

-- what comes next: a ready commit of greatest time, and of these the one that became ready first
abbrev pub IsBestMade :
    (ObjectId → ℤ) → (ObjectId → List ObjectId) → (ObjectId → Type 0) → List ObjectId → List ObjectId → ObjectId → Type 0
IsBestMade time walked In tips taken i =
    (ready : List ObjectId) × IsMadeReady time walked In tips (reverse taken) ready
    × IsFirstBest NewestFirst time (IsReady walked In (Contains taken)) ready taken i
