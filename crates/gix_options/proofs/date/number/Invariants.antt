use Rattle.std.proofs.Common.{◌≡◌, ◌<◌, ◌^◌, drop}
use Rattle.gix_records.specs.Decimal.{digits_behind}
use Rattle.gix_options.proofs.date.number.Given as goal

-- the digits that are left, after the number, spell what all of them spell
abbrev pub invariant-loop-digit : goal.invariant-loop-digit
invariant-loop-digit l = record {
  bound : l.number < 10 ^ l.digit-index;
  same : digits_behind l.number (drop l.digit-index l.digits) ≡ digits_behind 0 l.digits;
}
