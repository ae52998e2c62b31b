use Rattle.std.proofs.Common.{◌<◌, List, length, All, subst, sym, ◌∙◌, IfOk}
use Rattle.gix_commitgraph.proofs.Common.{words_of, row_at}
use Rattle.gix_commitgraph.specs.Parents.{Answer}
use Rattle.gix_commitgraph.proofs.Packed.RowAt.{answers-within, begun_answers}
use Rattle.gix_commitgraph.proofs.commit.Commit.iter_parents.Goals as goal

pub returns-clause-within : goal.returns-clause-within
returns-clause-within c =
    let commit = c.args.self in
    let rows = commit.graph.now in
    let answers = c.new.ensures ∙ begun_answers rows commit.position.0 commit.row.now c.kind-kind.result c.first_field.result c.second_field.result (words_of c.overflow.result.now) commit.begins c.kind-kind.ensures c.first_field.ensures c.second_field.ensures c.overflow.ensures in
    subst (λ (x : List Answer). All (λ answer. IfOk answer (λ position. position.0 < length rows)) x) (sym answers) (answers-within (length rows) (row_at rows commit.position.0).parents commit.begins.among)
