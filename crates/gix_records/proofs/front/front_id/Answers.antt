use Rattle.std.proofs.Common.{sym, ap, ◌∙◌}
use Rattle.gix_records.specs.RecordFront.{front_id}
use Rattle.gix_records.proofs.HexFacts.{short_id_from_hex}
use Rattle.gix_records.proofs.RecordFacts.{ended_found, id_read}
use Rattle.gix_records.proofs.front.front_id.Goals as goal

-- an id is read of the digits before the space
pub returns-in-Some-from_digits : goal.returns-in-Some-from_digits
returns-in-Some-from_digits c =
    let digits = c.in-Some.digits.now in
    let whole = (ended_found 32 40 c.args.text.now (digits, c.in-Some.rest.now) (sym c.in-Some.ensures)).0 in
    let spelled = short_id_from_hex digits c.in-Some-from_digits.id (sym c.in-Some-from_digits.ensures) in
    sym (ap front_id whole ∙ id_read digits c.in-Some-from_digits.id c.in-Some.rest.now spelled)
