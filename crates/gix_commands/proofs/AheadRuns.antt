-- What a run of `ahead` writes, by what commits reach.
use Rattle.std.proofs.Common.{ℕ, List, [], ◌∷◌, Option, Result, Ok, IsSome, refl, sym, subst}
use Rattle.gix_commands.proofs.Common.{AheadSucceeds, Appends, ObjectId, Objects, GraphRow, IsAgreeing, parents_of, Fault, IsNumberOf, AreWhole, EndsWell}
use Rattle.gix_commands.proofs.Common.{counted, not_counted, Ahead}
use Rattle.gix_ahead.specs.Ahead.{IsAhead}
use Rattle.gix_commands.specs.Ahead.{ahead_line}
use Rattle.gix_commands.specs.Run.{Serves}
use Rattle.gix_commands.proofs.BasesRuns.{no_fault_reached}
use Rattle.gix_commands.proofs.CommitRuns.{ends_whole}
use Rattle.gix_commands.proofs.ListedCommits.{IsShown}

number_of : (objects : Objects) (one other : ObjectId) (n : ℕ) → IsAhead (parents_of objects) one other n → IsNumberOf (IsShown objects (one ∷ []) (other ∷ [])) n
number_of objects one other n a = record { ids = a.ids; distinct = a.once; each = λ i c. (a.exact i).0 c; all = λ i s. (a.exact i).1 s; number = a.number }

module _ {Stored : ObjectId → Type 0} (objects : Objects) (rows : List GraphRow) (agreeing : IsAgreeing objects rows) (one other : ObjectId) where
  pub counted_so : (old new : Option (List ℕ)) → Serves Stored objects rows old (Ahead one other) (Ok tt) new
      → (ahead behind : ℕ) × IsNumberOf (IsShown objects (one ∷ []) (other ∷ [])) ahead × IsNumberOf (IsShown objects (other ∷ []) (one ∷ [])) behind × Appends old new (ahead_line ahead behind)
  counted_so old new (counted ahead behind f written) =
      (ahead, behind, number_of objects one other ahead (f.ahead_is agreeing), number_of objects other one behind (f.behind_is agreeing), written)

  -- and has read all that both reach
  pub counted_whole : (old new : Option (List ℕ)) → Serves Stored objects rows old (Ahead one other) (Ok tt) new → AreWhole objects (one ∷ other ∷ [])
  counted_whole old new (counted ahead behind f written) = λ i r. subst IsSome (sym (f.read agreeing i r).stored) refl

  -- where that is whole no commit is a fault
  pub counts_well : {old : Option (List ℕ)} → AreWhole objects (one ∷ other ∷ []) → (answer : Result (Unit {0}) Fault) (new : Option (List ℕ)) → Serves Stored objects rows old (Ahead one other) answer new → EndsWell answer
  counts_well whole answer new (not_counted e f) = absurd (no_fault_reached objects rows agreeing one (other ∷ []) whole e f)
  counts_well whole answer new s = tt

pub ahead_succeeds : AheadSucceeds
ahead_succeeds words input records one other answer old new asked are whole =
    ends_whole words input records (Ahead one other) (one ∷ other ∷ []) answer old new asked are whole (λ Stored objects rows each agreeing all given left. counts_well objects rows agreeing one other all given left)
