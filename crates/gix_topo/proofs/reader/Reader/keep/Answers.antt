use Rattle.std.proofs.Common.{refl, sym, subst, ◌∙◌}
use Rattle.gix_revwalk.specs.Reading.{ReadsHeader}
use Rattle.gix_topo.proofs.Reading.KeptHeaders.{also_kept, same_header}
use Rattle.gix_topo.proofs.reader.Reader.keep.Goals as goal

pub invariant_of-self : goal.invariant_of-self
invariant_of-self g c =
    let objects = g.F.Find.objects c.self.inside.source.objects in
    let read : ReadsHeader objects c.args.id.now c.args.header.now = subst (λ r. ReadsHeader (g.F.Find.objects r.find) c.args.id.now c.args.header.now) (sym c.self.view_is) c.requires in
    also_kept objects c.self.inside.kept c.insert.new.self c.self.invariant c.args.id.now _ (same_header objects c.args.id.now c.args.header.now _ read (c.in-Ok.ensures.ok ∙ c.as_slice.ensures) refl) c.insert.result c.insert.ensures.ok c.insert.ensures.err
