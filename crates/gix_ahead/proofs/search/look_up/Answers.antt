use Rattle.std.proofs.Common.{◌≡◌, ℕ, ℤ, List, Result, Ok, Err, refl, sym, ◌∙◌}
use Rattle.gix_object.specs.declared.decode.Error.{Error as DecodeError}
use Rattle.gix_revwalk.specs.Either.{seconds_told}
use Rattle.gix_paint.proofs.Reading.{front_read}
use Rattle.gix_ahead.proofs.search.look_up.Goals as goal

committer_told : (r : Result (List ℕ) DecodeError) (time : ℤ) → Ok time ≡ seconds_told r → (signature : List ℕ) × (r ≡ Ok signature)
committer_told (Ok signature) time h = (signature, refl)
committer_told (Err e) time h = cc

pub returns-clause-read : goal.returns-clause-read
returns-clause-read g c =
    let h = c.in_ok-parent_ids.ensures.reads in (
      refl,
      front_read (g.F.Find.objects c.args.source.now.objects.now) c.args.id c.in_ok-parent_ids.field-0.parent_ids.items
          (record { bytes = h.bytes; stored = h.stored; parents = h.parents; committer = committer_told _ c.in_ok-time.field-0 (sym c.in_ok-time.was ∙ h.time); fault = tt }),
    )
