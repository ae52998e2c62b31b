use Rattle.std.proofs.Common.{◌≡◌, take}
use Rattle.gix_revwalk.specs.Agreeing.{rows_in, rows_of}
use Rattle.gix_merge_base.specs.Inside.Steps.{ReadsOthers}
use Rattle.gix_merge_base.proofs.other_parents.Given as goal

-- the parents of the commits so far
abbrev pub invariant-loop-id : goal.invariant-loop-id
invariant-loop-id g l = record {
  objects_stay : l.source.objects.now ≡ l.objects;
  graph_stays : rows_of l.source.graph ≡ rows_in l.fn.graph;
  those : ReadsOthers (g.F.Find.objects l.objects) (rows_in l.fn.graph) (take l.id-index l.ids) l.those.items;
}
