use Rattle.std.proofs.Common.{◌≡◌, true, take}
use Rattle.gix_contained.specs.Inside.Search.{AreLookedUp}
use Rattle.gix_revwalk.specs.Agreeing.{rows_in, rows_of}
use Rattle.gix_contained.proofs.search.look_up_all.Given as goal

-- the ids so far were looked up
abbrev pub invariant-loop-id : goal.invariant-loop-id
invariant-loop-id g l = record {
  objects_stay : l.source.objects.now ≡ l.objects;
  graph_stays : rows_of l.source.graph ≡ rows_in l.fn.graph;
  use_stays : l.source.in_use ≡ true;
  looked_up : AreLookedUp (g.F.Find.objects l.objects) (rows_in l.fn.graph) (take l.id-index l.ids) l.asked;
}
