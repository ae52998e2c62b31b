use Rattle.std.proofs.Common.{ℕ, List, ◌++◌, ◌≡◌, length}
use Rattle.gix_format.specs.Pieces.{subject_text}
use Rattle.gix_format.proofs.LinesLeft.{left_adds}
use Rattle.gix_format.proofs.subject.add_subject.Given as goal

-- what was added, and behind it what the text that is left adds, is the subject
abbrev pub invariant-loop-left : goal.invariant-loop-left
invariant-loop-left l =
    (added : List ℕ) × (l.line.items ≡ l.fn.line.items ++ added) × (added ++ left_adds l.has_begun l.left ≡ subject_text l.fn.text)

abbrev pub decreases-loop-left : goal.decreases-loop-left
decreases-loop-left l = length l.left
