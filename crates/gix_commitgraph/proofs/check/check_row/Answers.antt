use Rattle.std.proofs.Common.{ap, ◌∙◌, option_map}
use Rattle.gix_commitgraph.proofs.Common.{words_of, id_before}
use Rattle.gix_commitgraph.proofs.Packed.Steps.{order_fault, parents_fault, reads_on, behind-read}
use Rattle.gix_commitgraph.proofs.check.check_row.Goals as goal

pub returns-then-not-is_above : goal.returns-then-not-is_above
returns-then-not-is_above c =
    let a = c.args in
    λ left. order_fault a.layout.kind a.layout.rows a.layout.words left a.r (id_before a.layout.kind a.before) a.row.now (words_of a.words.now) (cc)

pub returns-in-Some : goal.returns-in-Some
returns-in-Some c =
    let a = c.args in
    let read = behind-read a.layout.kind a.layout.rows a.layout.words a.row.now a.words.now _ _ _ _ c.saturating_sub-next.ensures c.first_field-first.ensures c.second_field-second.ensures c.after_parents.ensures in
    λ left. reads_on a.layout.kind a.layout.rows a.layout.words left a.r (id_before a.layout.kind a.before) a.row.now (words_of a.words.now) (words_of c.in-Some.rest.now) (cc) (read ∙ ap (option_map _) c.in-Some.is)

pub returns-in-None : goal.returns-in-None
returns-in-None c =
    let a = c.args in
    let read = behind-read a.layout.kind a.layout.rows a.layout.words a.row.now a.words.now _ _ _ _ c.saturating_sub-next.ensures c.first_field-first.ensures c.second_field-second.ensures c.after_parents.ensures in
    λ left. parents_fault a.layout.kind a.layout.rows a.layout.words left a.r (id_before a.layout.kind a.before) a.row.now (words_of a.words.now) (cc) (read ∙ ap (option_map _) c.in-None.is)
