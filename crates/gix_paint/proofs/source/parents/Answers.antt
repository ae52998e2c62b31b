use Rattle.std.proofs.Common.{ap, sym, subst}
use Rattle.gix_paint.proofs.Common.{Reads, ReadsParents}
use Rattle.gix_paint.proofs.Reading.{row_read, store_read}
use Rattle.gix_revwalk.specs.Agreeing.{rows_of}
use Rattle.gix_revwalk.specs.Reading.{ReadsRow}
use Rattle.gix_paint.proofs.source.parents.Goals as goal

pub returns-in-Some-clause-parents : goal.returns-in-Some-clause-parents
returns-in-Some-clause-parents g c =
    row_read (g.F.Find.objects c.args.source.now.objects.now)
    (subst (λ row. ReadsRow (rows_of c.args.source.now.graph) c.args.source.now.in_use c.args.id.now row c.read_row.new.self.in_use) c.in-Some.is c.in_ok-row.ensures.reads)

pub returns-clause-parents : goal.returns-clause-parents
returns-clause-parents g c =
    subst (ReadsParents (g.F.Find.objects c.args.source.now.objects.now) (rows_of c.args.source.now.graph) c.args.source.now.in_use c.args.id.now c.in_ok-parent_ids.parent_ids.items) (sym c.in_ok-parent_ids.ensures.in_use)
    (store_read (g.F.Find.objects c.args.source.now.objects.now)
    (subst (λ row. ReadsRow (rows_of c.args.source.now.graph) c.args.source.now.in_use c.args.id.now row c.read_row.new.self.in_use) c.in_default.is c.in_ok-row.ensures.reads)
    (subst (λ objects. Reads (g.F.Find.objects objects.now) c.args.id.now c.in_ok-parent_ids.parent_ids.items) (ap (λ s. s.objects) c.in_ok-row.ensures.same) c.in_ok-parent_ids.ensures.read))
