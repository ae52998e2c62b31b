use Rattle.std.proofs.Common.{◌≡◌, ℕ, List, ◌++◌, take, drop, ap, ◌∙◌}
use Rattle.gix_graph_file.proofs.Common.{rows_packed}
use Rattle.gix_graph_file.specs.PackedParts.{head_packed}
use Rattle.gix_graph_file.specs.Halves.{lower_end, lower_packed}
use Rattle.gix_graph_file.proofs.HalfRows.{halves_appended, lower-cut}
use Rattle.gix_graph_file.proofs.halves.packed_of_halves.Goals as goal

pub returns : goal.returns
returns c =
    let lower = c.args.lower in
    let file = c.args.file.items in
    let ids : c.split_at.result.1.now ≡ drop lower.ids_at (take (lower_end lower) file) = c.split_at.ensures.back ∙ ap (drop lower.ids_at) (c.as_slice.ensures.value ∙ c.cut.ensures) in
    let commits : c.split_at-2.result.1.now ≡ drop lower.commits_at (take (lower_end lower) file) = c.split_at-2.ensures.back ∙ ap (drop lower.commits_at) (c.as_slice-2.ensures.value ∙ c.cut.ensures) in
    let rows : rows_packed lower.kind lower.rows lower.count c.split_at.result.1.now c.split_at-2.result.1.now ≡ lower_packed lower file =
    (λ i. rows_packed lower.kind lower.rows lower.count (ids i) (commits i)) ∙ lower-cut lower file in
    let out = c.push_head.new.out.items in
    let upper = c.push_rows.new.out.items in
    halves_appended _ _ _ _ (head_packed lower.kind lower.rows lower.words) (lower_packed lower file) c.args.upper.items c.in_ok-out.ensures.items c.in_ok-push_head.ensures
    (c.in_ok-push_rows.ensures ∙ ap (λ (x : List ℕ). out ++ x) rows) (c.in_ok-extend_from_slice.ensures.items ∙ ap (λ (x : List ℕ). upper ++ x) c.as_slice-3.ensures.value)
