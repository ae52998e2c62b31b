use Rattle.std.proofs.Common.{ℕ, List, Some, take, drop, ap, sym, ◌-◌, ◌∙◌, option_map}
use Rattle.std.specs.Cow.{cow_slice_items}
use Rattle.std.specs.FinMap as map
use Rattle.gix_object.specs.MemoryStore.{object_at}
use Rattle.gix_object.proofs.MemoryStore.{get_stored}
use Rattle.gix_object.proofs.memory.MemoryStore.get.Goals as goal

pub returns-in_default : goal.returns-in_default
returns-in_default c =
    let buffer = cow_slice_items c.self.inside.bytes in
    ap (option_map (object_at buffer)) c.in_default.ensures ∙ sym (get_stored buffer c.self.inside.objects c.args.id.now) ∙ ap (λ m. map.get m c.args.id.now) c.self.view_is

pub returns : goal.returns
returns c =
    let buffer = cow_slice_items c.self.inside.bytes in
    let stored = c.in-Some.stored.now in
    ap (λ (bytes : List ℕ). Some (record { kind = stored.kind; bytes = take (stored.end - stored.start) (drop stored.start bytes) })) c.as_slice-bytes.ensures.value
    ∙ ap (option_map (object_at buffer)) c.in-Some.ensures ∙ sym (get_stored buffer c.self.inside.objects c.args.id.now) ∙ ap (λ m. map.get m c.args.id.now) c.self.view_is
