use Rattle.std.proofs.Common.{arith}
use Rattle.std.proofs.lemmas.Result.{err_from_is_err_and}
use Rattle.gix_graph_store.specs.StoredRows.{StoredDisagrees}
use Rattle.gix_graph_store.proofs.StoredCommits.{all-stored}
use Rattle.gix_graph_store.proofs.stored.check_stored.Goals as goal

pub returns-in_err-check_row-clause-disagrees : goal.returns-in_err-check_row-clause-disagrees
returns-in_err-check_row-clause-disagrees g c =
    let p = err_from_is_err_and c.from_residual.result c.from_residual.ensures.1 in
    let found : StoredDisagrees (g.F.Find.objects c.args.store.now) (g.F.Find.faulty c.args.store.now) c.args.graph.now c.in_err-check_row.field-0.0 = record {
      number = c.loop-number.number;
      within = omega arith;
      disagrees = c.in_err-check_row.ensures;
      before = c.loop-number.invariant;
    } in
    rw (p.1, p.2) found

pub returns-clause-agrees : goal.returns-clause-agrees
returns-clause-agrees g c = all-stored c.args.graph.now (g.F.Find.objects c.args.store.now) (λ n within. c.loop-number.invariant n (omega arith))
