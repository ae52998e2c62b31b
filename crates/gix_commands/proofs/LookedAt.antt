-- What is read of a commit again is what its text says.
use Rattle.std.proofs.Common.{◌≡◌, ◌≢◌, ℕ, pos, List, [], Option, Some, None, Result, Ok, Err, IfOk, refl, sym, ap, ◌∙◌}
use Rattle.gix_commands.proofs.Common.{Fault, get, Object, ObjectId, Objects, Commit, IsExistingFault, commit_of_object, kind_of, never_faulty, next_in, read_commit, time_in}
use Rattle.gix_object.specs.CommitItems.{commit_items}
use Rattle.gix_object.specs.CommitRefIter.{first_committer}
use Rattle.gix_object.specs.declared.Kind.{Kind}
use Rattle.gix_object.specs.declared.Kind.TheVariants as kind
use Rattle.gix_object.specs.declared.decode.Error.{Error as DecodeError}
use Rattle.gix_object.specs.declared.find.existing_iter.Error.{Error as ExistingError}
use Rattle.gix_object.specs.declared.find.existing_iter.Error.TheVariants as existing
use Rattle.gix_revwalk.specs.declared.read.Header.{Header}
use Rattle.gix_revwalk.specs.Either.{seconds_told}
use Rattle.gix_revwalk.specs.Reading.{ReadsHeader}
use Rattle.gix_revwalk.proofs.CommitterTime.{TellsTime, tells}
use Rattle.gix_commands.specs.Chosen.{IsHeaderOf, seconds_or_zero}

told : (o : Option Commit) (r : Result (List ℕ) DecodeError) → TellsTime o r → seconds_or_zero (seconds_told r) ≡ time_in o
told (Some commit) (Ok signature) h = sym h
told (Some commit) (Err e) h = absurd h
told None (Ok signature) h = absurd h
told None (Err e) h = refl

pub header_read : (objects : Objects) (i : ObjectId) (header : Header) → ReadsHeader objects i header → IsHeaderOf objects i header
header_read objects i header h = record {
  parents = h.parents ∙ sym (ap (next_in i) h.stored);
  time = ap seconds_or_zero h.time ∙ told (read_commit (kind_of i) h.bytes) (first_committer (commit_items (kind_of i) h.bytes)) (tells (kind_of i) h.bytes) ∙ sym (ap (λ o. time_in (commit_of_object i o)) h.stored);
}

pub header_unread : (objects : Objects) (i : ObjectId) (why : ExistingError) (header : Header) → (why ≢ existing.Memory → IsExistingFault objects (never_faulty objects) i kind.Commit why) → header.parent_ids.items ≡ [] → seconds_or_zero header.time ≡ pos 0 → why ≢ existing.Memory → IsHeaderOf objects i header
header_unread objects i why header fails none zero other = go why (fails other)
  where
    of_none : (o : Option Object) → get objects i ≡ o → next_in i o ≡ [] → time_in (commit_of_object i o) ≡ pos 0 → IsHeaderOf objects i header
    of_none o e parents time = record {
      parents = none ∙ sym (ap (next_in i) e ∙ parents);
      time = zero ∙ sym (ap (λ x. time_in (commit_of_object i x)) e ∙ time);
    }

    of_kind : (k : Kind) (bytes : List ℕ) → k ≢ kind.Commit → get objects i ≡ Some (record { kind = k; bytes = bytes }) → IsHeaderOf objects i header
    of_kind kind.Commit bytes unlike e = absurd (unlike refl)
    of_kind kind.Tree bytes unlike e = of_none _ e refl refl
    of_kind kind.Blob bytes unlike e = of_none _ e refl refl
    of_kind kind.Tag bytes unlike e = of_none _ e refl refl

    go : (why : ExistingError) → IsExistingFault objects (never_faulty objects) i kind.Commit why → IsHeaderOf objects i header
    go existing.Store f = absurd f
    go (existing.NotFound oid) f = of_none None f.1 refl refl
    go (existing.ObjectKind oid wanted actual) f = of_kind actual f.3 f.2 f.4
    go existing.Memory f = absurd f

pub ok_unread : (objects : Objects) (i : ObjectId) (why : ExistingError) (inner : Result Header Fault) → (why ≢ existing.Memory → IsExistingFault objects (never_faulty objects) i kind.Commit why)
    → IfOk inner (λ h. (h.parent_ids.items ≡ []) × (seconds_or_zero h.time ≡ pos 0) × (why ≢ existing.Memory)) → IfOk inner (IsHeaderOf objects i)
ok_unread objects i why (Ok header) fails h = header_unread objects i why header fails h.0 h.1 h.2
ok_unread objects i why (Err e) fails h = tt
