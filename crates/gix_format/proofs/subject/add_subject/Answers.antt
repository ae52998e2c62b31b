use Rattle.std.proofs.Common.{[], ◌∷◌, ◌++◌, true, cond, arith}
use Rattle.std.proofs.lemmas.Grind.{common_steps}
use Rattle.gix_format.proofs.LinesLeft.{left_adds, subject_is}
use Rattle.gix_format.proofs.subject.add_subject.Goals as goal

pub loop-left-init : goal.loop-left-init
loop-left-init c =
    let is = subject_is c.args.text.now in
    ([], grind (arith, common_steps), grind (arith, common_steps))

pub returns-in_err-extend_from_slice-clause-begun : goal.returns-in_err-extend_from_slice-clause-begun
returns-in_err-extend_from_slice-clause-begun c = (
  c.loop-left.invariant.0 ++ cond c.loop-left.has_begun (32 ∷ []) [],
  c.trimmed-shown.result.now ++ left_adds true c.first_line.result.1.now,
  grind (arith, common_steps),
  grind (arith, common_steps),
)
