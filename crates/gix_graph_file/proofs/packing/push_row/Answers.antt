use Rattle.std.proofs.Common.{◌/◌, ◌%◌, ◌^◌, ◌++◌, ap, ◌∙◌, w32, w64}
use Rattle.std.proofs.lemmas.List.{append_assoc}
use Rattle.std.proofs.lemmas.Result.{on_ok_weaker}
use Rattle.gix_graph_file.proofs.Common.{to_be_bytes, first_packed, second_packed}
use Rattle.gix_graph_file.specs.PackedParts.{row_packed}
use Rattle.gix_graph_file.proofs.packing.push_row.Goals as goal

pub returns : goal.returns
unfolding row_packed
returns c =
    let old = c.args.out.now.items in
    let id = c.args.id.now in
    let tree = c.args.tree.now in
    let first = c.first_word-first.ensures ∙ ap (first_packed c.args.rows) c.word_at.ensures in
    let second = c.second_word-second.ensures ∙ ap (second_packed c.args.rows) c.word_at-2.ensures in
    let long = c.long_at-long.ensures in
    let before = c.in_ok-extend_from_slice-2.ensures.items ∙ ap (λ items. items ++ tree) c.in_ok-extend_from_slice.ensures.items in
    on_ok_weaker c.push_numbers.result
    (λ pushed. pushed ∙ (λ i. before i ++ (to_be_bytes w32 (first i) ++ (to_be_bytes w32 (second i) ++ (to_be_bytes w32 (long i / 2 ^ 34) ++ to_be_bytes w64 (long i % 2 ^ 34)))))
    ∙ append_assoc (old ++ id) tree _ ∙ append_assoc old id _)
    c.push_numbers.ensures
