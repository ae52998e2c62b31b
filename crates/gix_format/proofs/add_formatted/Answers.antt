use Rattle.std.proofs.Common.{◌+◌, ◌<◌, List, ℕ, [], ◌∷◌, ◌++◌, length, drop, get_or, arith, sym, ap, ◌∙◌}
use Rattle.std.proofs.lemmas.Grind.{common_steps}
use Rattle.gix_statement.specs.Formats as formats
use Rattle.gix_statement.specs.Formats.{formatted}
use Rattle.gix_format.specs.Page.{page_commit}
use Rattle.gix_format.specs.Pieces.{field_text}
use Rattle.gix_format.proofs.Empty.{empty_between}
use Rattle.gix_format.proofs.Rests.{at_field, at_other, at_percent, at_person}
use Rattle.gix_format.proofs.add_formatted.Goals as goal
use Rattle.gix_format.proofs.add_formatted.Goals.{then-before-eq0+then-byte-eq37, then-before-eq0+else-byte-eq37+in_ok-push, else-before-eq0+then-goes_on, else-before-eq0+else-goes_on+in_ok-add_field}

pub returns-in_err-add_field-clause-begun : goal.returns-in_err-add_field-clause-begun
returns-in_err-add_field-clause-begun c =
    let page : formats.Commit = page_commit c.args.commit in
    let at : c.loop-byte.byte-index < length c.args.format.now = omega arith in
    let is = at_field page c.loop-byte.before c.args.format.now c.loop-byte.byte-index at c.if-before-eq0.false (sym c.if-goes_on.ensures) in
    let begun = c.add_field.ensures.begun in
    let so_far = c.loop-byte.invariant in (
      so_far.0 ++ begun.0,
      begun.1 ++ formatted page 0 (drop (c.loop-byte.byte-index + 1) c.args.format.now),
      grind (arith, common_steps),
      grind (arith, common_steps),
    )

pub loop-byte-preserved : goal.loop-byte-preserved
loop-byte-preserved c =
    let page : formats.Commit = page_commit c.args.commit in
    let format : List ℕ = c.args.format.now in
    let i : ℕ = c.loop-byte.byte-index in
    let at : c.loop-byte.byte-index < length c.args.format.now = omega arith in
    let so_far = c.loop-byte.invariant in
    elim c.if-before-eq0.branch [
      | then-before-eq0+then-byte-eq37 w ↦
          (let is = at_percent page c.loop-byte.before format i at w.if-before-eq0.true w.if-byte-eq37.true in
          (so_far.0, grind (arith, common_steps), grind (arith, common_steps)))
      | then-before-eq0+else-byte-eq37+in_ok-push w ↦
          (let is = at_other page c.loop-byte.before format i at w.if-before-eq0.true w.if-byte-eq37.false in
          (so_far.0 ++ get_or format i 0 ∷ [], grind (arith, common_steps), grind (arith, common_steps)))
      | else-before-eq0+then-goes_on w ↦
          (let is = at_person page c.loop-byte.before format i at (sym w.if-goes_on.ensures) in
          (so_far.0, grind (arith, common_steps), grind (arith, common_steps)))
      | else-before-eq0+else-goes_on+in_ok-add_field w ↦
          (let is = at_field page c.loop-byte.before format i at w.if-before-eq0.false (sym w.if-goes_on.ensures) in
          (so_far.0 ++ field_text page c.loop-byte.before (get_or format i 0), grind (arith, common_steps), grind (arith, common_steps)))
    ]

pub returns-in_err-add_field-clause-succeeds : goal.returns-in_err-add_field-clause-succeeds
returns-in_err-add_field-clause-succeeds c =
    let page : formats.Commit = page_commit c.args.commit in
    let at : c.loop-byte.byte-index < length c.args.format.now = omega arith in
    let is = at_field page c.loop-byte.before c.args.format.now c.loop-byte.byte-index at c.if-before-eq0.false (sym c.if-goes_on.ensures) in
    let so_far = c.loop-byte.invariant in
    λ none.
    let empty = empty_between so_far.0 _ _ (ap (λ (rest : List ℕ). so_far.0 ++ rest) (sym is) ∙ so_far.2 ∙ none) in
    let ok = c.add_field.ensures.succeeds empty in
    let failed = c.in_err-add_field.was in
    grind (arith, common_steps)
