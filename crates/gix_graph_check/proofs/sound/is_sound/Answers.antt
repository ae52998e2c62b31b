use Rattle.gix_commitgraph.specs.GraphCommit.{row_of_commit}
use Rattle.gix_graph_check.proofs.SoundRows.{sound-by, not-sound-by}
use Rattle.gix_graph_check.proofs.sound.is_sound.Goals as goal

pub returns-then-generation-lt-GENERATION_NUMBER_INFINITY : goal.returns-then-generation-lt-GENERATION_NUMBER_INFINITY
returns-then-generation-lt-GENERATION_NUMBER_INFINITY c =
    sound-by c.args.graph.now (row_of_commit c.commit_at-commit.result) c.generation-generation.result c.generation-generation.ensures c.args.number c.commit_at-commit.ensures.row c.if-generation-lt-GENERATION_NUMBER_INFINITY.true c.has_sound_places.result c.has_sound_places.ensures

pub returns-else-generation-lt-GENERATION_NUMBER_INFINITY : goal.returns-else-generation-lt-GENERATION_NUMBER_INFINITY
returns-else-generation-lt-GENERATION_NUMBER_INFINITY c =
    not-sound-by c.args.graph.now (row_of_commit c.commit_at-commit.result) c.generation-generation.result c.generation-generation.ensures c.args.number c.commit_at-commit.ensures.row c.if-generation-lt-GENERATION_NUMBER_INFINITY.false
