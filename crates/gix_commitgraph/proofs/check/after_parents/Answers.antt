use Rattle.std.proofs.Common.{sym, ◌∙◌}
use Rattle.gix_commitgraph.proofs.Packed.Parents.{behind-second_list}
use Rattle.gix_commitgraph.proofs.Common.{words_of}
use Rattle.gix_commitgraph.proofs.check.after_parents.Goals as goal

pub returns-then-second-next : goal.returns-then-second-next
returns-then-second-next c =
    c.after_long_list.ensures ∙ sym (behind-second_list c.args.rows c.args.next c.args.first c.args.second (words_of c.args.words.now) c.if-first-eq-NO_PARENT.false (sym c.is_place.ensures ∙ c.if-not-is_place.false) c.if-second-eq-NO_PARENT-2.false c.if-second-lt-FLAG.false c.if-second-next.true)
