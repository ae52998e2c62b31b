use Rattle.std.proofs.Common.{◌≡◌, take}
use Rattle.gix_topo.proofs.Common.{rows_of}
use Rattle.gix_topo.specs.Inside.Releasing.{LooksUpAll}
use Rattle.gix_topo.proofs.counting.Counting.look_up_parents.Given as goal

-- looking parents up changes nothing but the text that was read; those before the index are known
abbrev pub invariant-loop-parent : goal.invariant-loop-parent
invariant-loop-parent g l = record {
  counting : l.self ≡ l.fn.self;
  known : LooksUpAll (g.F.Find.objects l.fn.self.reader.find) (rows_of l.fn.self.reader.graph) l.fn.self.reader.in_use l.fn.self.frontier (take l.parent-index l.parent-items);
}
