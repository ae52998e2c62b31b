use Rattle.std.proofs.Common.{ℕ, List, ap, ◌∙◌, sym, subst, option_map}
use Rattle.gix_commitgraph.specs.GraphCommit.{row_of_commit}
use Rattle.gix_revwalk.specs.Commits.{commit_of_kind}
use Rattle.gix_graph_check.specs.StoredCommits.{commit_shown}
use Rattle.gix_graph_verify.specs.declared.objects.Found.{Found}
use Rattle.gix_graph_verify.specs.Named.{IsFound}
use Rattle.gix_graph_verify.proofs.Comparing.{differing, named-commit}
use Rattle.gix_graph_verify.proofs.rows.compare.Goals as goal

pub returns : goal.returns
returns g c =
    let commit = commit_shown c.in-Some.stored in
    let named = named-commit c.id-id.result c.in-Ok-Named.kind c.read.new.buf.items commit (subst (λ (x : Found). IsFound c.id-id.result x c.read.new.buf.items) c.in-Ok-Named.field-0-is c.in-Ok-Named.ensures) (ap (λ (x : List ℕ). commit_of_kind c.id-id.result c.in-Ok-Named.kind x) (sym c.as_slice.ensures.value) ∙ sym c.in_ok-stored.ensures ∙ ap (option_map commit_shown) c.in-Some.is) in
    differing c.args.graph.now (row_of_commit c.args.commit) commit c.id-id.result c.id-id.ensures named c.requires.finite c.if-row_agrees.ensures c.difference_of.result c.difference_of.ensures
