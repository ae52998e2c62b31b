use Rattle.std.proofs.Common.{ℕ, List, subst, sym}
use Rattle.std.proofs.lemmas.List.{length-map}
use Rattle.gix_graph_file.specs.ChainSteps.{files_seen}
use Rattle.gix_graph_file.specs.Chain.{HasChain}
use Rattle.gix_graph_verify.specs.declared.difference.Difference.{Difference}
use Rattle.gix_graph_verify.specs.Reporting.{Tells, IsOfFile, AllFilesTold}
use Rattle.gix_graph_verify.proofs.Reports.{reported, verified}
use Rattle.gix_graph_verify.proofs.files.verify.Goals as goal

pub returns-clause-report : goal.returns-clause-report
returns-clause-report g c =
    let files = files_seen c.args.layers.now in
    let first = c.add_hashes.new.differences.items in
    reported files c.args.passed c.num_commits.result c.in_ok-graph.graph c.in_ok-lower.lower first c.add_rows.new.differences.items
    c.in_ok-graph.ensures.rows
    (subst (λ (x : List (List ℕ)). HasChain x c.in_ok-lower.lower) c.lowest.ensures c.in_ok-lower.ensures.rows)
    c.num_commits.ensures.count
    (subst (λ (x : List Difference). Tells (IsOfFile files) x first) c.new-differences.ensures.items c.in_ok-add_hashes.ensures.tells)
    c.in_ok-add_rows.ensures.tells
    (subst (λ (x : ℕ). AllFilesTold files x first) (sym (length-map c.args.layers.now (λ layer. layer.now))) c.in_ok-add_hashes.ensures.each)
    c.in_ok-add_rows.ensures.each

pub returns-clause-verified : goal.returns-clause-verified
returns-clause-verified g c = verified (files_seen c.args.layers.now) c.args.passed c.num_commits.result c.add_rows.new.differences.items (returns-clause-report g c)
