use Rattle.std.proofs.Common.{sym, ◌∙◌}
use Rattle.gix_simple.proofs.TreatsId.{meets_shown}
use Rattle.gix_simple.proofs.Simple.meet.Goals as goal

pub returns : goal.returns
returns g c = meets_shown g.F.Find.objects g.F.Find.faulty g.P.Predicate.answers c.args.id.now _ _ c.self.view_is (Rattle.std.specs.contracts.alloc.AllocError.the_row).Denot _ _ (sym c.contains.ensures ∙ c.if-contains.false) c.in_ok-insert.ensures.added c.in_ok-insert.ensures.ok
