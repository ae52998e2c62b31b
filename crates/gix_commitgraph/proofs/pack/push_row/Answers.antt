use Rattle.std.proofs.Common.{◌++◌, List, map, ℤ, FitsSigned, ◌∙◌, ap, rules, slice_index, w32, w64}
use Rattle.gix_commitgraph.proofs.Common.{to_be_bytes, cast_unsigned, ParentPlace, first_word, second_word, moved}
use Rattle.std.proofs.lemmas.Int.{to_z-of_z}
use Rattle.gix_commitgraph.specs.Packed.{row_bytes}
use Rattle.gix_commitgraph.proofs.Packed.Writing.{six_appended}
use Rattle.gix_commitgraph.proofs.pack.push_row.Goals as goal

pub returns-clause-bytes : goal.returns-clause-bytes
unfolding row_bytes
returns-clause-bytes c =
    let parts = six_appended c.args.out.now.items c.as_bytes.result.now c.as_bytes-2.result.now _ _ _ _ _ _ _ _ _ _ c.in_ok-extend_from_slice.ensures.items c.in_ok-extend_from_slice-2.ensures.items c.in_ok-push_word.ensures c.in_ok-push_word-2.ensures c.in_ok-push_word-3.ensures c.in_ok-extend_from_slice-3.ensures.items in
    let first = c.first_word-first.ensures ∙ ap (λ (x : List ParentPlace). first_word (map (moved (slice_index c.args.numbers.now)) x)) c.as_slice.ensures in
    let second = c.second_word-second.ensures ∙ ap (λ (x : List ParentPlace). second_word c.args.next (map (moved (slice_index c.args.numbers.now)) x)) c.as_slice-2.ensures in
    let fits : FitsSigned w64 c.args.row.now.time = search rules in
    let time = c.to_be_bytes.ensures ∙ ap (λ (z : ℤ). to_be_bytes w64 (cast_unsigned w64 z)) (to_z-of_z w64 c.args.row.now.time fits) in
    parts ∙ (λ i. c.args.out.now.items ++ (c.as_bytes.ensures.value i ++ (c.as_bytes-2.ensures.value i ++ (to_be_bytes w32 (first i) ++ (to_be_bytes w32 (second i) ++ (to_be_bytes w32 c.args.row.now.generation ++ time i))))))
