use Rattle.std.proofs.Common.{is_some, sym, ap, ◌∙◌}
use Rattle.std.proofs.lemmas.Result.{IfOk-weaker}
use Rattle.std.specs.Cow.{cow_slice_items}
use Rattle.std.specs.FinMap as map
use Rattle.gix_object.proofs.MemoryStore.{has_place, len_stored}
use Rattle.gix_object.proofs.memory.MemoryStore.ids.Goals as goal

pub returns : goal.returns
returns c =
    let bytes = cow_slice_items c.self.inside.bytes in
    let places = c.self.inside.objects in record {
      all = IfOk-weaker c.ids.result _ _ (λ ids all i. all i ∙ has_place bytes places i ∙ ap (λ m. is_some (map.get m i)) c.self.view_is) c.ids.ensures.all;
      once = IfOk-weaker c.ids.result _ _ (λ ids count. count ∙ sym (len_stored bytes places) ∙ ap map.len c.self.view_is) c.ids.ensures.once;
    }
