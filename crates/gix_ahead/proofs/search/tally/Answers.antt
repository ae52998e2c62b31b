use Rattle.std.proofs.Common.{filter, length, ap, ◌∙◌}
use Rattle.gix_ahead.specs.Inside.Search.{One, Other, is_alone}
use Rattle.gix_ahead.proofs.Counting.{tallied}
use Rattle.gix_ahead.proofs.search.tally.Goals as goal

pub returns : goal.returns
returns c =
    tallied c.args.marks.now _ c.in_ok-ids.ensures.all c.in_ok-ids.ensures.once _ _
    (c.alone_among.ensures.ahead ∙ ap (λ xs. length (filter (is_alone c.args.marks.now One Other) xs)) c.as_slice.ensures.value)
    (c.alone_among.ensures.behind ∙ ap (λ xs. length (filter (is_alone c.args.marks.now Other One) xs)) c.as_slice.ensures.value)
