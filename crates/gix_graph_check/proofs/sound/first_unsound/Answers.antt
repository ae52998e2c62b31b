use Rattle.std.proofs.Common.{ap, sym, ◌∙◌, arith}
use Rattle.gix_commitgraph.specs.GraphCommit.{row_of_commit}
use Rattle.gix_commitgraph.specs.Rows.{GraphRow}
use Rattle.gix_graph_check.proofs.SoundRows.{row_at-read, all-sound}
use Rattle.gix_graph_check.proofs.sound.first_unsound.Goals as goal

pub returns-then-not-is_sound : goal.returns-then-not-is_sound
returns-then-not-is_sound c = record {
  number = c.loop-number.number;
  within = omega arith;
  id = ap (λ (r : GraphRow). r.id) (row_at-read c.args.graph.now c.loop-number.number (row_of_commit c.commit_at.result) c.commit_at.ensures.row) ∙ sym c.id.ensures;
  unsound = c.if-not-is_sound.ensures;
  before = c.loop-number.invariant;
}

pub returns : goal.returns
returns c = all-sound c.args.graph.now c.loop-number.number (omega arith) c.loop-number.invariant
