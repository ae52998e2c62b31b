use Rattle.std.proofs.Common.{◌≡◌, true, sym, ap, ◌∙◌}
use Rattle.gix_revwalk.proofs.Common.{is_same}
use Rattle.gix_hash.proofs.Ids.Equality.{eq_is_same}
use Rattle.gix_hash.specs.contracts.ObjectIdPartialEq.TheImpl.{eq-value}
use Rattle.gix_revwalk.proofs.NearRow.{found_near}
use Rattle.gix_revwalk.proofs.row.find_row.Goals as goal

pub returns-then-eq-clause-row : goal.returns-then-eq-clause-row
returns-then-eq-clause-row c =
    let equal : c.eq.result ≡ eq-value.it c.id.result c.args.id.now = c.eq.ensures in
    let same : is_same c.id.result c.args.id.now ≡ true = ap (λ f. f c.id.result c.args.id.now) (sym eq_is_same) ∙ sym equal ∙ c.if-eq.true in
    found_near c.args.graph.now c.args.id.now c.args.near _ c.id.result c.num_commits.ensures.sound.rising c.commit_at-commit.ensures.row c.id.ensures same
