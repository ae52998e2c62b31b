-- What a run of `merge-base` writes, by what commits reach.
use Rattle.std.proofs.Common.{◌≢◌, ℕ, List, [], ◌∷◌, Option, Result, Ok, IsSome, refl, sym, ap, subst}
use Rattle.gix_commands.proofs.Common.{Appends, ObjectId, Objects, GraphRow, IsAgreeing, parents_of, whole_from, Fault, fault_of_search, AreWhole, EndsWell}
use Rattle.gix_commands.proofs.Common.{BasesSucceeds, joined, not_joined, never_faulty, Bases}
use Rattle.gix_contained.specs.declared.Error.{Error}
use Rattle.gix_merge_base.specs.Bases.{AreBases, FailsBy}
use Rattle.gix_merge_base.proofs.Tops.{store_alone}
use Rattle.gix_commands.specs.Run.{Serves}
use Rattle.gix_commands.proofs.CommitRuns.{ends_whole}
use Rattle.gix_commands.proofs.InternalFacts.{bases_sound}
use Rattle.gix_commands.proofs.ListedCommits.{lines_of_ids}

module _ (objects : Objects) (rows : List GraphRow) (agreeing : IsAgreeing objects rows) (one : ObjectId) (others : List ObjectId) where
  -- where all that is reached is whole no commit is a fault
  pub no_fault_reached : AreWhole objects (one ∷ others) → (e : Error) → FailsBy objects (never_faulty objects) rows one others e → ⊥
  no_fault_reached whole e f =
      bases_sound objects rows agreeing one others e f
      (ap fault_of_search (store_alone objects (never_faulty objects) rows one others e agreeing (λ i r. whole_from objects i (whole i r)) f))

  -- all that was reached was read, or has a row that agrees
  pub joined_so : {Stored : ObjectId → Type 0} → (old new : Option (List ℕ)) → others ≢ [] → Serves Stored objects rows old (Bases one others) (Ok tt) new
      → (bases : List ObjectId) × AreBases (parents_of objects) one others bases × AreWhole objects (one ∷ others) × Appends old new (lines_of_ids bases)
  joined_so old new some (joined bases found written) = (bases, found.bases_are agreeing, (λ i r. subst IsSome (sym (found.read agreeing some i r).stored) refl), written)

  pub joins_well : {Stored : ObjectId → Type 0} → {old : Option (List ℕ)} → AreWhole objects (one ∷ others) → (answer : Result (Unit {0}) Fault) (new : Option (List ℕ)) → Serves Stored objects rows old (Bases one others) answer new → EndsWell answer
  joins_well whole answer new (not_joined e f) = absurd (no_fault_reached whole e f)
  joins_well whole answer new s = tt

pub bases_succeeds : BasesSucceeds
bases_succeeds words input records one others answer old new asked are whole =
    ends_whole words input records (Bases one others) (one ∷ others) answer old new asked are whole (λ Stored objects rows each agreeing all given left. joins_well objects rows agreeing one others all given left)
