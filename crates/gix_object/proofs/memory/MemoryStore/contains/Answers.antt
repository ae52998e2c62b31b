use Rattle.std.proofs.Common.{is_some, ap, ◌∙◌}
use Rattle.std.specs.Cow.{cow_slice_items}
use Rattle.std.specs.FinMap as map
use Rattle.gix_object.proofs.MemoryStore.{mapped, has_place}
use Rattle.gix_object.proofs.memory.MemoryStore.contains.Goals as goal

pub returns : goal.returns
returns c =
    c.is_some.ensures ∙ mapped _ c.get.result ∙ ap is_some c.get.ensures ∙ has_place (cow_slice_items c.self.inside.bytes) c.self.inside.objects c.args.id.now
    ∙ ap (λ m. is_some (map.get m c.args.id.now)) c.self.view_is
