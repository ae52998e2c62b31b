use Rattle.std.proofs.Common.{sym, subst}
use Rattle.gix_records.specs.NamedRecords.{AreNamed}
use Rattle.gix_records.proofs.Naming.{all_named, stored_named, no_name_fault}
use Rattle.gix_records.proofs.named.named_records_in.Goals as goal

pub returns-in_err-check_names-clause-only : goal.returns-in_err-check_names-clause-only
returns-in_err-check_names-clause-only c = λ records are named. absurd (no_name_fault _ _ _ c.in_err-check_names.ensures.fault are named)

pub returns-clause-read : goal.returns-clause-read
returns-clause-read c =
    let read = c.in_ok-store.ensures.read in
    (read.0, read.1, all_named _ read.0 c.in_ok-check_names.ensures.named read.1, read.2)

pub returns-clause-named : goal.returns-clause-named
returns-clause-named c =
    let read = c.in_ok-store.ensures.read in
    subst AreNamed (sym read.2) (stored_named read.0 (all_named _ read.0 c.in_ok-check_names.ensures.named read.1))
