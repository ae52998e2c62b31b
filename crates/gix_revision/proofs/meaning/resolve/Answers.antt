use Rattle.std.proofs.Common.{subst}
use Rattle.std.proofs.lemmas.Result.{on_ok_weaker}
use Rattle.gix_revision.specs.Resolves.{IsChosen}
use Rattle.gix_revision.proofs.meaning.resolve.Goals as goal

pub returns-in-Ok : goal.returns-in-Ok
returns-in-Ok g c =
    let old = c.args.found.now.items in
    let new = c.resolve_parsed.new.found.items in
    let parsed = c.in-Ok.revision in
    on_ok_weaker c.resolve_parsed.result (λ (h : IsChosen c.target_of.result parsed old new). (parsed, subst (λ t. IsChosen t parsed old new) c.target_of.ensures h)) c.resolve_parsed.ensures
