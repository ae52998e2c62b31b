use Rattle.std.proofs.Common.{sym, ◌∙◌}
use Rattle.std.proofs.Math.Path.{transport}
use Rattle.gix_paint.proofs.Common.{reads, ReadsParents, skips}
use Rattle.gix_paint.specs.Inside.Painter.{rows_of}
use Rattle.gix_paint.proofs.Painter.treat.Goals as goal

pub returns-then-not-begins-clause-ok : goal.returns-then-not-begins-clause-ok
returns-then-not-begins-clause-ok g c = skips (sym c.begins.ensures.turn ∙ c.if-not-begins.true) c.begins.ensures.takes c.begins.ensures.in_use

pub returns-clause-ok : goal.returns-clause-ok
returns-clause-ok g c =
    let takes = c.begins.ensures.takes in
    reads (sym c.begins.ensures.turn ∙ c.if-not-begins.false)
    (record {
      objects_stay = c.in_ok-parent_ids.ensures.objects ∙ takes.objects_stay;
      graph_stays = c.in_ok-parent_ids.ensures.graph ∙ takes.graph_stays;
      marks_stay = takes.marks_stay;
      queue_stays = takes.queue_stays;
      frontier = takes.frontier;
    })
    (transport (λ k. ReadsParents (g.F.Find.objects (takes.objects_stay k).now) (rows_of (takes.graph_stays k)) (c.begins.ensures.in_use k) c.args.entry.id (sym c.as_slice.ensures k) c.parents.new.source.in_use) c.in_ok-parent_ids.ensures.parents)
    c.in_ok-meet_all.ensures
