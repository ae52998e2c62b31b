use Rattle.std.proofs.Common.{◌*◌, sym, ap, ◌∙◌, arith}
use Rattle.gix_commitgraph.proofs.Common.{drop_all, words_of}
use Rattle.gix_commitgraph.proofs.Packed.Parents.{words_of-drop}
use Rattle.gix_commitgraph.proofs.parents.words_from.Goals as goal

pub returns-then-at-words : goal.returns-then-at-words
returns-then-at-words c = ap words_of c.split_at.ensures.back ∙ words_of-drop c.args.from c.args.words.now

pub returns-else-at-words : goal.returns-else-at-words
returns-else-at-words c = ap words_of (sym (drop_all (4 * c.args.from) c.args.words.now (omega arith))) ∙ words_of-drop c.args.from c.args.words.now
