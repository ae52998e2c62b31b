use Rattle.std.proofs.Common.{◌≡◌, ◌<◌, ◌∙◌, ℕ, true, false, nat_lt, MatchBool, refl, sym, ap, arith}
use Rattle.std.proofs.lemmas.Bool.Decides.{nat_tests}
use Rattle.gix_commitgraph.specs.Rows.{GraphRow}
use Rattle.gix_commitgraph.specs.GraphCommit.{row_of_commit}
use Rattle.gix_graph_check.proofs.SoundRows.{row_at-read}
use Rattle.gix_graph_check.proofs.sound.is_sound_place.Goals as goal

is_below : (told generation other : ℕ) → told ≡ other → MatchBool (nat_lt told generation) (other < generation) (¬ (other < generation))
is_below told generation other same = elim (nat_lt told generation) as (λ t. nat_lt told generation ≡ t → MatchBool t (other < generation) (¬ (other < generation))) [
  | true ↦ λ lt. grind (arith, nat_tests)
  | false ↦ λ ge lt. grind (arith, nat_tests)
] refl

pub returns-in-Ok : goal.returns-in-Ok
returns-in-Ok c =
    let row = row_at-read c.args.graph.now c.in-Ok.position.0 (row_of_commit c.commit_at.result) c.commit_at.ensures.row in
    rw c.in-Ok.is (is_below c.generation.result c.args.generation _ (c.generation.ensures ∙ sym (ap (λ (r : GraphRow). r.generation) row)))
