use Rattle.std.proofs.Common.{ap, sym, ◌∙◌, min}
use Rattle.gix_topo.proofs.Common.{least, known_generation, rows_of}
use Rattle.gix_topo.proofs.Counts.Rest.{least_lower}
use Rattle.gix_topo.proofs.counting.Counting.lower.Goals as goal

pub loop-id-preserved : goal.loop-id-preserved
loop-id-preserved g c = record {
  reader = c.loop-id.invariant.reader;
  parents = c.loop-id.invariant.parents;
  frontier = c.loop-id.invariant.frontier;
  expanded = c.loop-id.invariant.expanded;
  depth =
      ap (λ d. least (rows_of c.args.self.now.reader.graph) d c.in-Some.rest.now) (c.min-self.ensures ∙ ap (λ n. min c.loop-id.self.depth n) (c.generation.ensures ∙ ap (λ r. known_generation (rows_of r.graph) c.in-Some.id.now) c.loop-id.invariant.reader))
      ∙ least_lower (rows_of c.args.self.now.reader.graph) c.loop-id.self.depth c.in-Some.id.now c.in-Some.rest.now
      ∙ ap (least (rows_of c.args.self.now.reader.graph) c.loop-id.self.depth) (sym c.in-Some.ensures.cases.0) ∙ c.loop-id.invariant.depth;
}
