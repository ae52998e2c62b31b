use Rattle.std.proofs.Common.{sym, ◌∙◌}
use Rattle.gix_commitgraph.proofs.Packed.Parents.{list_goes_on}
use Rattle.gix_commitgraph.proofs.check.after_list.Goals as goal

pub loop-left-preserved : goal.loop-left-preserved
loop-left-preserved c = list_goes_on c.args.rows c.from_be_bytes-word.result c.loop-left.left.now _ c.in-len4-up.len_at_least c.from_be_bytes-word.ensures c.if-word-ge-FLAG.false (sym c.is_place-in-len4-up.ensures ∙ c.if-not-is_place.false) c.loop-left.invariant
