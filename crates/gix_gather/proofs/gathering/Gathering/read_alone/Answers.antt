use Rattle.std.proofs.Common.{sym, ap, subst, ◌∙◌}
use Rattle.std.specs.FinMap as map
use Rattle.gix_records.specs.NamedPart.{IsWithin}
use Rattle.gix_gather.proofs.Kept.{within_insert}
use Rattle.gix_gather.proofs.gathering.Gathering.read_alone.Goals as goal

pub returns-clause-within : goal.returns-clause-within
returns-clause-within g c =
    let put = c.in_ok-insert-2.ensures.ok ∙ ap (λ m. map.insert m c.args.id (record { kind = c.in-Some.kind; bytes = c.as_slice-bytes.result.now })) c.self.view_is in
    subst (IsWithin c.args.self.now) (sym put) (within_insert _ _ _ c.requires)
