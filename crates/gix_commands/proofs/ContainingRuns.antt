-- What a run of `containing` writes, by what commits reach.
use Rattle.std.proofs.Common.{◌≢◌, ℕ, List, [], ◌∷◌, Option, Result, Ok, IsSome, refl, sym, subst}
use Rattle.gix_commands.proofs.Common.{Appends, ObjectId, Objects, GraphRow, IsAgreeing, parents_of, Fault, AreWhole, EndsWell}
use Rattle.gix_commands.proofs.Common.{ContainingSucceeds, reaching, not_reaching, Containing}
use Rattle.gix_containing.specs.Containing.{AreContaining}
use Rattle.gix_commands.specs.Run.{Serves}
use Rattle.gix_commands.proofs.BasesRuns.{no_fault_reached}
use Rattle.gix_commands.proofs.CommitRuns.{ends_whole}
use Rattle.gix_commands.proofs.ListedCommits.{lines_of_ids}

module _ (objects : Objects) (rows : List GraphRow) (agreeing : IsAgreeing objects rows) (target : ObjectId) (tips : List ObjectId) where
  -- all that was reached was read, or has a row that agrees
  pub reaching_so : {Stored : ObjectId → Type 0} → (old new : Option (List ℕ)) → tips ≢ [] → Serves Stored objects rows old (Containing target tips) (Ok tt) new
      → (those : List ObjectId) × AreContaining (parents_of objects) target tips those × AreWhole objects (target ∷ tips) × Appends old new (lines_of_ids those)
  reaching_so old new some (reaching those found written) = (those, found.exact agreeing, (λ i r. subst IsSome (sym (found.read agreeing some i r).stored) refl), written)

  pub reaches_well : {Stored : ObjectId → Type 0} → {old : Option (List ℕ)} → AreWhole objects (target ∷ tips) → (answer : Result (Unit {0}) Fault) (new : Option (List ℕ)) → Serves Stored objects rows old (Containing target tips) answer new → EndsWell answer
  reaches_well whole answer new (not_reaching e f) = absurd (no_fault_reached objects rows agreeing target tips whole e f)
  reaches_well whole answer new s = tt

pub containing_succeeds : ContainingSucceeds
containing_succeeds words input records target tips answer old new asked are whole =
    ends_whole words input records (Containing target tips) (target ∷ tips) answer old new asked are whole (λ Stored objects rows each agreeing all given left. reaches_well objects rows agreeing target tips all given left)
