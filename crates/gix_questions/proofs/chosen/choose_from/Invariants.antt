use Rattle.std.proofs.Common.{◌≡◌, take}
use Rattle.gix_questions.specs.Standing.{excluded_of, pairs_of, tips_of}
use Rattle.gix_questions.proofs.chosen.choose_from.Given as goal

-- what the revisions so far stand for
abbrev pub invariant-loop-one : goal.invariant-loop-one
invariant-loop-one l = record {
  tips : l.chosen.tips.items ≡ tips_of (take l.one-index l.one-items);
  hidden : l.chosen.hidden.items ≡ excluded_of (take l.one-index l.one-items);
  pairs : l.chosen.pairs.items ≡ pairs_of (take l.one-index l.one-items);
}
