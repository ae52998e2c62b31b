-- What the loops of both walks keep: the calls and the visits that were made, and what any rest of the walk makes of them.
use Rattle.std.proofs.Common.{◌≢◌, List, [], ◌∷◌, ◌++◌, refl, sym, subst, append_assoc}
use Rattle.gix_object.specs.declared.find.existing_iter.Error.{Error as ExistingError}
use Rattle.gix_object.specs.declared.find.existing_iter.Error.TheVariants as existing
use Rattle.gix_tree.proofs.Common.{Error, Call, Run, error_of_find, Visit, Ending}
use Rattle.gix_tree.specs.declared.breadthfirst.Error.TheVariants as error

pub run_more : {V : Type 0} (steps : V → Call → V → Type 0) (a b c : V) (calls more : List Call) → Run steps a calls b → Run steps b more c → Run steps a (calls ++ more) c
run_more steps a b c [] more h g = subst (λ x. Run steps x more c) h g
run_more steps a b c (call ∷ calls) more h g = (h.0, h.1, run_more steps h.0 b c calls more h.2 g)

-- what a failed look-up leads to, where memory is a fault of its own
pub look_up_failed : (P : Error → Type 0) (Fails : ExistingError → Type 0) → P error.Memory → ((why : ExistingError) → Fails why → P (error.Find why)) → (why : ExistingError)
    → (why ≢ existing.Memory → Fails why) → P (error_of_find why)
look_up_failed P Fails memory others existing.Memory failed = memory
look_up_failed P Fails memory others existing.Store failed = others existing.Store (failed (λ e. cc))
look_up_failed P Fails memory others (existing.NotFound oid) failed = others (existing.NotFound oid) (failed (λ e. cc))
look_up_failed P Fails memory others (existing.ObjectKind oid expected actual) failed = others (existing.ObjectKind oid expected actual) (failed (λ e. cc))

abbrev pub Walks : Type 1
Walks = List Call → List Visit → Ending → Type 0

-- `Script` says which walks there are from the start on
module _ {V : Type 0} (steps : V → Call → V → Type 0) (old : V) (Script : Walks) where
  -- a walk that came to its end
  pub record Ended (now : V) (end : Ending) : Type 0 where
    pub calls : List Call
    pub visits : List Visit
    pub script : Script calls visits end
    pub run : Run steps old calls now

  -- `Rest` says how the walk may go on
  pub record SoFar (Rest : Walks) (now : V) : Type 0 where
    calls : List Call
    visits : List Visit
    run : Run steps old calls now
    goes_on : (more : List Call) (rest : List Visit) (end : Ending) → Rest more rest end → Script (calls ++ more) (visits ++ rest) end

  pub at_start : {Rest : Walks} → ((more : List Call) (rest : List Visit) (end : Ending) → Rest more rest end → Script more rest end) → SoFar Rest old
  at_start goes_on = record { calls = []; visits = []; run = refl; goes_on = goes_on }

  -- these calls were made, and these visits
  pub further : {Rest Left : Walks} {mid now : V} (made : List Call) (seen : List Visit) → SoFar Rest mid → Run steps mid made now
      → ((more : List Call) (rest : List Visit) (end : Ending) → Left more rest end → Rest (made ++ more) (seen ++ rest) end) → SoFar Left now
  further {mid = mid} {now = now} made seen h run goes_on = record {
    calls = h.calls ++ made;
    visits = h.visits ++ seen;
    run = run_more steps old mid now h.calls made h.run run;
    goes_on = λ more rest end walk.
        subst (λ l. Script l ((h.visits ++ seen) ++ rest) end) (sym (append_assoc h.calls made more))
        (subst (λ l. Script (h.calls ++ (made ++ more)) l end) (sym (append_assoc h.visits seen rest)) (h.goes_on (made ++ more) (seen ++ rest) end (goes_on more rest end walk)));
  }

  pub ends : {Rest : Walks} {mid now : V} {more : List Call} {rest : List Visit} {end : Ending} → SoFar Rest mid → Rest more rest end → Run steps mid more now → Ended now end
  ends {mid = mid} {now = now} {more = more} {rest = rest} {end = end} h walk run = record {
    calls = h.calls ++ more;
    visits = h.visits ++ rest;
    script = h.goes_on more rest end walk;
    run = run_more steps old mid now h.calls more h.run run;
  }
