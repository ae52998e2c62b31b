use Rattle.std.proofs.lemmas.Bool.Decides.{Decides-eqb}
use Rattle.std.proofs.lemmas.Slice.Eq.{strip_prefix_is}
use Rattle.gix_object.proofs.Commits.Lines.{after_word_stripped}
use Rattle.gix_object.proofs.commit.after_word.Goals as goal

pub returns : goal.returns
returns c =
    after_word_stripped c.args.word.now c.args.bytes.now c.strip_prefix.result
    (strip_prefix_is Decides-eqb c.args.bytes.now c.args.word.now c.strip_prefix.result c.strip_prefix.ensures.cases)
