use Rattle.std.proofs.Common.{ℕ, List, ◌+◌, ◌-◌, ◌++◌, ◌∷◌, [], ap, arith, length, take, append_assoc, length-append, length-take, length-drop, ◌∙◌}
use Rattle.std.proofs.lemmas.List.{take_more_set}
use Rattle.std.proofs.lemmas.Slice.{take-put_mid}
use Rattle.gix_lines.proofs.buffer.place.Goals as goal
use borrow.Rule.Slice.PartMut.{put_mid}

pub returns-clause-taken : goal.returns-clause-taken
returns-clause-taken c =
    let end : ℕ = c.args.at + length c.args.piece.now in
    let bytes : List ℕ = c.args.bytes.now in
    let piece : List ℕ = c.copy_from_slice.new.self in
    take_more_set (put_mid c.args.at (end - c.args.at) bytes piece) end c.args.behind (simp (length-append, length-take, length-drop) (omega (arith, c.copy_from_slice.ensures.after)))
    ∙ ap (λ xs. xs ++ c.args.behind ∷ []) (take-put_mid c.args.at (end - c.args.at) bytes piece end (omega (arith, ap length c.copy_from_slice.ensures.after)) (omega arith))
    ∙ append_assoc (take c.args.at bytes) piece (c.args.behind ∷ []) ∙ ap (λ ys. take c.args.at bytes ++ (ys ++ c.args.behind ∷ [])) c.copy_from_slice.ensures.after
