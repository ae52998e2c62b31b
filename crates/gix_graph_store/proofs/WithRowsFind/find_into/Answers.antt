use Rattle.gix_revwalk.specs.Agreeing.{rows_in}
use Rattle.gix_graph_store.proofs.ToldObjects.{finds-stored, finds-told, finds-none}
use Rattle.gix_graph_store.proofs.WithRowsFind.find_into.Goals as goal

pub returns-in-Some : goal.returns-in-Some
returns-in-Some g c = finds-stored (rows_in c.args.self.now.graph) (g.F.Find.objects c.args.self.now.store) c.args.id.now (g.F.Find.faulty c.args.self.now.store c.args.id.now) _ _ c.in_ok-kind.ensures c.in-Some.kind c.in-Some.is

pub returns-in-Ok-true : goal.returns-in-Ok-true
returns-in-Ok-true g c = finds-told (rows_in c.args.self.now.graph) (g.F.Find.objects c.args.self.now.store) c.args.id.now (g.F.Find.faulty c.args.self.now.store c.args.id.now) _ _ c.in_ok-kind.ensures c.in_default.is _ _ c.in-Ok-true.field-0-test c.in-Ok-true.ensures

pub returns-in-Ok-false : goal.returns-in-Ok-false
returns-in-Ok-false g c = finds-none (rows_in c.args.self.now.graph) (g.F.Find.objects c.args.self.now.store) c.args.id.now (g.F.Find.faulty c.args.self.now.store c.args.id.now) _ _ c.in_ok-kind.ensures c.in_default.is _ _ c.in-Ok-false.field-0-test c.in-Ok-false.ensures
