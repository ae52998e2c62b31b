use Rattle.std.proofs.Common.{sym, ap, ◌∙◌}
use Rattle.std.specs.Cow.{cow_slice_items}
use Rattle.std.specs.FinMap as map
use Rattle.gix_object.proofs.MemoryStore.{len_stored}
use Rattle.gix_object.proofs.memory.MemoryStore.len.Goals as goal

pub returns : goal.returns
returns c = c.len.ensures ∙ sym (len_stored (cow_slice_items c.self.inside.bytes) c.self.inside.objects) ∙ ap map.len c.self.view_is
