use Rattle.std.proofs.Common.{◌≡◌, filter, length, take}
use Rattle.gix_ahead.specs.Inside.Search.{One, Other, is_alone}
use Rattle.gix_ahead.proofs.search.alone_among.Given as goal

-- the ids so far were counted
abbrev pub invariant-loop-id : goal.invariant-loop-id
invariant-loop-id l = record {
  ahead : l.ahead ≡ length (filter (is_alone l.marks One Other) (take l.id-index l.ids));
  behind : l.behind ≡ length (filter (is_alone l.marks Other One) (take l.id-index l.ids));
}
