use Rattle.std.proofs.Common.{◌+◌, ◌-◌, ◌<◌, List, [], ◌∷◌, ◌++◌, length, take, drop, arith, ℕ, ap, sym, ◌∙◌}
use Rattle.std.proofs.lemmas.Grind.{common_steps}
use Rattle.gix_hash.specs.declared.ObjectId.{ObjectId}
use Rattle.gix_hash.specs.declared.ObjectId.TheVariants.{Sha1}
use Rattle.gix_format.proofs.Empty.{not_empty}
use Rattle.gix_format.proofs.ParentsLeft.{first_parent, next_parent, spaced}
use Rattle.gix_format.proofs.add_parents.Goals as goal

pub returns-in_err-add_id-clause-begun : goal.returns-in_err-add_id-clause-begun
returns-in_err-add_id-clause-begun c =
    let begun = c.add_id.ensures.begun in
    let is = first_parent c.args.parents.now (Sha1 []) c.in-len1-up.len_at_least in
    (begun.0, begun.1 ++ spaced (drop 1 c.args.parents.now), begun.2, grind (arith, common_steps))

pub returns-in_err-add_id-2-clause-begun : goal.returns-in_err-add_id-2-clause-begun
returns-in_err-add_id-2-clause-begun c =
    let begun = c.add_id-in-loop-parent.ensures.begun in
    let so_far = c.loop-parent.invariant in
    let others : List ObjectId = take (length c.args.parents.now - 1) (drop 1 c.args.parents.now) in
    let at : c.loop-parent.parent-index < length others = omega arith in
    let is = next_parent others (Sha1 []) c.loop-parent.parent-index at in (
      so_far.0 ++ 32 ∷ begun.0,
      begun.1 ++ spaced (drop (c.loop-parent.parent-index + 1) others),
      grind (arith, common_steps),
      grind (arith, common_steps),
    )

pub returns-in_err-push-clause-succeeds : goal.returns-in_err-push-clause-succeeds
returns-in_err-push-clause-succeeds c =
    let so_far = c.loop-parent.invariant in
    let others : List ObjectId = take (length c.args.parents.now - 1) (drop 1 c.args.parents.now) in
    let at : c.loop-parent.parent-index < length others = omega arith in
    let is = next_parent others (Sha1 []) c.loop-parent.parent-index at in
    λ none. absurd (not_empty so_far.0 _ 32 (ap (λ (rest : List ℕ). so_far.0 ++ rest) (sym is) ∙ so_far.2 ∙ none))
