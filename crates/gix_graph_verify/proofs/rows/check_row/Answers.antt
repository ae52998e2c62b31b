use Rattle.std.proofs.Common.{◌≡◌, ◌≢◌, ◌<◌, ◌∙◌, List, Option, Some, None, Result, Ok, Err, IfOk, true, is_some, option_map, sym, ap, subst}
use Rattle.gix_commitgraph.specs.Rows.{GraphRow, row_of}
use Rattle.gix_commitgraph.specs.GraphCommit.{row_of_commit}
use Rattle.gix_graph_check.specs.Sound.{IsSound}
use Rattle.gix_graph_check.proofs.SoundRows.{row_at-read}
use Rattle.gix_graph_verify.specs.declared.difference.Difference.{Difference}
use Rattle.gix_graph_verify.specs.Differences.{IsAnswer, IsSaid}
use Rattle.gix_graph_verify.proofs.rows.check_row.Goals as goal

found : {A B : Type 0} (f : A → B) (o : Option A) → is_some o ≡ true → option_map f o ≢ None
found f None e none = cc
found f (Some x) e none = cc

-- what is said of a sound row
module _ (rows lower : List GraphRow) (row : GraphRow) (sound : IsSound rows row) where
  said : (d : Option Difference) → IsAnswer rows row d → IsSaid rows lower row d
  said None backed = record { sound = sound; backed = λ none. backed }
  said (Some d) is = is

  all_said : {E : Type 0} (r : Result (Option Difference) E) → IfOk r (IsAnswer rows row) → IfOk r (IsSaid rows lower row)
  all_said (Ok d) h = said d h
  all_said (Err e) h = tt

pub returns-then-is_some : goal.returns-then-is_some
returns-then-is_some g c =
    let row = row_at-read c.args.graph.now c.args.number (row_of_commit c.commit_at-commit.result) c.commit_at-commit.ensures.row in
    let own = c.id-id.ensures ∙ sym (ap (λ (r : GraphRow). r.id) row) in
    record {
      sound = c.if-not-is_sound.ensures;
      backed = λ none. absurd (found row_of_commit c.commit_by_id.result (sym c.is_some.ensures ∙ c.if-is_some.true) (c.commit_by_id.ensures.row ∙ ap (row_of c.args.lower.now) own ∙ none));
    }

pub compare-requires-clause-finite : goal.compare-requires-clause-finite
compare-requires-clause-finite g c =
    subst (λ (r : GraphRow). r.generation < 4294967295) (row_at-read c.args.graph.now c.args.number (row_of_commit c.commit_at-commit.result) c.commit_at-commit.ensures.row) c.if-not-is_sound.ensures.finite

pub returns : goal.returns
returns g c =
    let row = row_at-read c.args.graph.now c.args.number (row_of_commit c.commit_at-commit.result) c.commit_at-commit.ensures.row in
    let sound = subst (IsSound c.args.graph.now) row c.if-not-is_sound.ensures in
    subst (λ (r : GraphRow). IfOk c.compare.result (IsSaid c.args.graph.now c.args.lower.now r)) (sym row) (all_said c.args.graph.now c.args.lower.now (row_of_commit c.commit_at-commit.result) sound c.compare.result c.compare.ensures)
