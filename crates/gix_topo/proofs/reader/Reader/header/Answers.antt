use Rattle.std.proofs.Common.{sym, subst}
use Rattle.gix_topo.specs.Inside.Reader.{AreKept}
use Rattle.gix_topo.proofs.Reading.KeptHeaders.{others_kept}
use Rattle.gix_topo.proofs.reader.Reader.header.Goals as goal

pub invariant_of-self : goal.invariant_of-self
invariant_of-self g c = others_kept (g.F.Find.objects c.self.inside.source.objects) c.self.inside.kept c.remove.new.self c.self.invariant c.args.id.now c.remove.ensures.map

pub invariant_of-self-2 : goal.invariant_of-self-2
invariant_of-self-2 g c =
    others_kept (g.F.Find.objects c.header.new.self.objects) c.self.inside.kept c.remove.new.self
    (subst (λ s. AreKept (g.F.Find.objects s.objects) c.self.inside.kept) (sym c.in_ok-header.ensures.same) c.self.invariant) c.args.id.now c.remove.ensures.map

pub invariant_of-self-in_err-header : goal.invariant_of-self-in_err-header
invariant_of-self-in_err-header g c =
    others_kept (g.F.Find.objects c.header.new.self.objects) c.self.inside.kept c.remove.new.self
    (subst (λ s. AreKept (g.F.Find.objects s.objects) c.self.inside.kept) (sym c.in_err-header.ensures.same) c.self.invariant) c.args.id.now c.remove.ensures.map
