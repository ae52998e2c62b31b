use Rattle.std.proofs.Common.{◌<◌, List, ℕ, [], ◌∷◌, ◌++◌, length, get_or, arith, ap, sym, ◌∙◌}
use Rattle.std.specs.Char.{to_ascii_lowercase}
use Rattle.std.proofs.lemmas.Grind.{common_steps}
use Rattle.gix_format.proofs.Empty.{not_empty}
use Rattle.gix_format.proofs.Lower.{next_byte}
use Rattle.gix_format.proofs.add_lower.Goals as goal

pub loop-byte-preserved : goal.loop-byte-preserved
loop-byte-preserved c =
    let text : List ℕ = c.args.text.now in
    let at : c.loop-byte.byte-index < length c.args.text.now = omega arith in
    let is = next_byte text c.loop-byte.byte-index at in
    let so_far = c.loop-byte.invariant in
    (so_far.0 ++ to_ascii_lowercase (get_or text c.loop-byte.byte-index 0) ∷ [], grind (arith, common_steps), grind (arith, common_steps))

pub returns-in_err-push-clause-succeeds : goal.returns-in_err-push-clause-succeeds
returns-in_err-push-clause-succeeds c =
    let at : c.loop-byte.byte-index < length c.args.text.now = omega arith in
    let is = next_byte c.args.text.now c.loop-byte.byte-index at in
    let so_far = c.loop-byte.invariant in
    λ none. absurd (not_empty so_far.0 _ _ (ap (λ (rest : List ℕ). so_far.0 ++ rest) (sym is) ∙ so_far.2 ∙ none))
