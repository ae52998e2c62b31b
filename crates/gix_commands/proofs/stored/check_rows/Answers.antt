use Rattle.std.proofs.Common.{OnOk, sym, subst}
use Rattle.gix_commitgraph.specs.Packed.{AreGraphRows}
use Rattle.gix_graph_store.specs.Laws.{StoredAgree}
use Rattle.gix_revwalk.specs.Agreeing.{rows_in}
use Rattle.gix_commands.proofs.RowsAsTexts.{no_rows_graph}
use Rattle.gix_commands.proofs.stored.check_rows.Goals as goal

pub returns-in-Some-clause-stored : goal.returns-in-Some-clause-stored
returns-in-Some-clause-stored c = subst (λ g. OnOk c.check_graph.result (StoredAgree (rows_in g) c.args.store.now)) (sym c.in-Some.is) c.check_graph.ensures.stored

pub returns-in-None-clause-graph : goal.returns-in-None-clause-graph
returns-in-None-clause-graph c = subst (λ g. AreGraphRows (rows_in g)) (sym c.in-None.is) no_rows_graph
