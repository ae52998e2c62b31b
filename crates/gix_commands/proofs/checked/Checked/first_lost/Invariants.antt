use Rattle.std.proofs.Common.{◌≡◌, length}
use Rattle.gix_commands.specs.Checked.{first_lost}
use Rattle.gix_commands.proofs.checked.Checked.first_lost.Given as goal

-- those that were looked at are there
abbrev pub invariant-loop-id : goal.invariant-loop-id
invariant-loop-id l = record {
  left : first_lost l.fn.self.objects l.fn.self.rows l.ids ≡ first_lost l.fn.self.objects l.fn.self.rows l.fn.ids;
  kept : l.self ≡ l.fn.self;
}

abbrev pub decreases-loop-id : goal.decreases-loop-id
decreases-loop-id l = length l.ids
