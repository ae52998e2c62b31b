use Rattle.std.proofs.Common.{◌++◌, codes, w64, ap, sym, ◌∙◌}
use Rattle.std.proofs.lemmas.Int.{to_z-of_z}
use Rattle.gix_revwalk.specs.Agreeing.{rows_in}
use Rattle.gix_commitgraph.specs.GraphCommit.{row_of_commit}
use Rattle.gix_graph_store.specs.RowText.{id_line, people_lines, text_at, text_if}
use Rattle.gix_graph_store.proofs.Lines.{whole-is_text}
use Rattle.gix_graph_store.proofs.text.write.Goals as goal

pub returns : goal.returns
returns c =
    let commit = c.in-Some-commit_by_id.commit in
    whole-is_text c.in-Some.graph.now c.args.id.now (row_of_commit commit) c.in-Some-commit_by_id.ensures.row c.add_id_line.new.text.items c.add_parents.new.text.items c.add_people.new.text.items
    (ap (λ b. text_if b c.add_parents.new.text.items) (sym c.if-not-branch.false) ∙ c.in_ok-add_parents.ensures)
    (c.in_ok-add_id_line.ensures ∙ (λ k. c.clear.ensures.items k ++ id_line (codes "tree ") (c.root_tree_id-tree.ensures k)))
    (c.in_ok-add_people.ensures ∙ ap (λ seconds. c.add_parents.new.text.items ++ people_lines seconds) (to_z-of_z w64 c.committer_timestamp-seconds.result (record { sfits = c.committer_timestamp-seconds.type_inv }) ∙ c.committer_timestamp-seconds.ensures))
    ∙ ap (λ graph. text_at (rows_in graph) c.args.id.now) (sym c.in-Some.is)
