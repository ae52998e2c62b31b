use Rattle.std.proofs.Common.{◌≡◌, subst, rules}
use Rattle.gix_object.specs.declared.Kind.TheVariants.{Tag}
use Rattle.gix_names.specs.Named.{IsNamed}
use Rattle.gix_revision.specs.Leads.{itself, by_tag, IsTagOf}
use Rattle.gix_revision.proofs.steps.untag.Goals as goal

pub loop-init : goal.loop-init
loop-init g c = itself

pub loop-preserved : goal.loop-preserved
loop-preserved g c =
    let text = c.read.new.object.items in
    let is_tag : c.in_ok-kind.kind ≡ Tag = search rules in
    by_tag text c.loop.invariant
    (subst (λ k. IsNamed c.loop.id k text) is_tag c.in_ok-kind.ensures)
    (subst (λ k. IsTagOf k text c.in-Some.next) c.kind.ensures (subst (λ b. IsTagOf c.kind.result b c.in-Some.next) c.as_slice.ensures.value c.in-Some.ensures))
