use Rattle.std.proofs.Common.{◌≡◌, ℤ, pos, Result, Ok, Err, SFits, rules, w64, sym, ap, ◌∙◌}
use Rattle.std.proofs.lemmas.Int.{to_z-of_z}
use Rattle.std.specs.Result.{result_unwrap_or}
use Rattle.gix_object.specs.declared.decode.Error.{Error}
use Rattle.gix_simple.proofs.Common.{ObjectId, Objects, time_of}
use Rattle.gix_revwalk.proofs.CommitterTime.{SaysTime, says_time, time_read}
use Rattle.gix_simple.proofs.Simple.stored_time.Goals as goal

time_or_zero : (objects : Objects) (i : ObjectId) (time : Result ℤ Error) → SaysTime objects i time → result_unwrap_or time (pos 0) ≡ time_of objects i
time_or_zero objects i (Ok time) says = sym (time_read objects i time says)
time_or_zero objects i (Err fault) says = sym says

pub returns-clause-ok : goal.returns-clause-ok
returns-clause-ok g c =
    let objects = g.F.Find.objects c.self.inside.source.objects in
    let fits : SFits w64 c.unwrap_or.result = search rules in
    simp to_z-of_z (c.unwrap_or.ensures ∙ time_or_zero objects c.args.id.now c.in-Ok.time (says_time objects c.args.id.now c.in-Ok.time c.in-Ok.ensures.reads)
    ∙ ap (λ w. time_of (g.F.Find.objects w.store) c.args.id.now) c.self.view_is)
