use Rattle.std.proofs.Common.{◌≡◌, sym, ap, subst, ◌∙◌, rules, None, Some, Err}
use Rattle.std.proofs.lemmas.Result.{err_from_is_err_and}
use Rattle.gix_topo.proofs.Common.{Error, rows_of, ReadsRow, Reads, ReadsText, by_row, by_text}
use Rattle.gix_topo.specs.declared.Error.TheVariants as error
use Rattle.gix_topo.specs.Reading.{no_memory}
use Rattle.gix_topo.proofs.reader.Reader.read.Goals as goal

pub returns-in_err-row-clause-reads : goal.returns-in_err-row-clause-reads
returns-in_err-row-clause-reads g c =
    let p : (e : Error) × (c.from_residual.result ≡ Err e) × (e ≡ error.Memory) = err_from_is_err_and c.from_residual.result c.from_residual.ensures.1 in
    subst (λ answer. Reads (g.F.Find.objects c.args.self.now.find) (g.F.Find.faulty c.args.self.now.find) (rows_of c.args.self.now.graph) c.args.self.now.in_use c.args.id.now answer c.read_row.new.self.in_use) (sym (p.1 ∙ ap Err p.2)) no_memory

pub returns-in_default-clause-reads : goal.returns-in_default-clause-reads
returns-in_default-clause-reads g c =
    subst (Reads (g.F.Find.objects c.args.self.now.find) (g.F.Find.faulty c.args.self.now.find) (rows_of c.args.self.now.graph) c.args.self.now.in_use c.args.id.now c.read_text.result) (sym (ap (λ r. r.in_use) c.read_text.ensures.same))
    (by_text (subst (λ r. ReadsRow (rows_of r.graph) r.in_use c.args.id.now None c.read_row.new.self.in_use) c.self.view_is (subst (λ row. ReadsRow (rows_of c.self.inside.source.graph) c.self.inside.source.in_use c.args.id.now row c.read_row.new.self.in_use) c.in_default.is c.in_ok-row.ensures.reads)) (subst (λ r. ReadsText (g.F.Find.objects r.find) (g.F.Find.faulty r.find) c.args.id.now c.read_text.result) c.self.view_is (subst (λ s. ReadsText (g.F.Find.objects s.objects) (g.F.Find.faulty s.objects) c.args.id.now c.read_text.result) c.in_ok-row.ensures.same c.read_text.ensures.reads)))

pub returns-clause-reads : goal.returns-clause-reads
returns-clause-reads g c =
    by_row (subst (λ r. ReadsRow (rows_of r.graph) r.in_use c.args.id.now (Some c.in-Some.row) c.read_row.new.self.in_use) c.self.view_is (subst (λ row. ReadsRow (rows_of c.self.inside.source.graph) c.self.inside.source.in_use c.args.id.now row c.read_row.new.self.in_use) c.in-Some.is c.in_ok-row.ensures.reads)) (search rules)
