use Rattle.std.proofs.Common.{codes, sym, [], ◌∷◌, Some}
use Rattle.std.proofs.lemmas.Bool.Decides.{Decides-eqb}
use Rattle.std.proofs.lemmas.Slice.Eq.{strip_prefix_is}
use Rattle.gix_revision.proofs.TagLine.{tag_of}
use Rattle.gix_revision.proofs.texts.tagged.Goals as goal

pub returns : goal.returns
returns c =
    let line = c.in_ok-line.line in
    let split = c.in_ok-digits in
    let rest = c.in_ok-_rest._rest in
    tag_of c.args.kind c.args.bytes.now line.now split.digits.now split.behind.now rest.now c.len_in_hex.result c.in_ok-id.id
    (strip_prefix_is Decides-eqb c.args.bytes.now (codes "object ") (Some line) c.in_ok-line.ensures.cases)
    split.ensures.cases.1
    split.ensures.cases.2
    (strip_prefix_is Decides-eqb split.behind.now (10 ∷ []) (Some rest) c.in_ok-_rest.ensures.cases)
    (sym c.in_ok-id.ensures)
