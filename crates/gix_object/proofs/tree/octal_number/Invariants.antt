use Rattle.std.proofs.Common.{◌≡◌, ◌<◌, ◌≤◌, ◌^◌, length, drop}
use Rattle.gix_object.specs.TreeItems.{octal_from}
use Rattle.gix_object.proofs.tree.octal_number.Given as goal

abbrev pub invariant-loop-digit : goal.invariant-loop-digit
invariant-loop-digit l = record {
  short : length l.digits ≤ 6;
  below : l.number < 8 ^ l.digit-index;
  same : octal_from l.number (drop l.digit-index l.digits) ≡ octal_from 0 l.digits;
}
