-- Objects that stay where another is put in.
use Rattle.std.proofs.Common.{◌≡◌, Bool, true, false, Some, None, cond, refl, sym, ◌∙◌, ap}
use Rattle.std.specs.FinMap as map
use Rattle.std.specs.Ordering.{eq_by_cmp}
use Rattle.std.proofs.lemmas.Option.{none-some}
use Rattle.gix_hash.specs.declared.ObjectId.{ObjectId}
use Rattle.gix_hash.specs.Id.{id_cmp}
use Rattle.gix_hash.proofs.Ids.Membership.{id_total, same_is}
use Rattle.gix_object.specs.Object.{Object, Objects}
use Rattle.gix_records.specs.NamedPart.{IsWithin}

-- an object is put in under an id that has none
pub within_insert : (objects : Objects) (i : ObjectId) (o : Object) → map.get objects i ≡ None → IsWithin objects (map.insert objects i o)
within_insert objects i o none q p at = map.get-insert id_total objects i o q ∙ at_key (eq_by_cmp id_cmp q i) refl
  where
    at_key : (b : Bool) → eq_by_cmp id_cmp q i ≡ b → cond b (Some o) (map.get objects q) ≡ Some p
    at_key true same = absurd (none-some p (sym none ∙ ap (map.get objects) (sym (same_is q i same)) ∙ at))
    at_key false same = at

pub within_more : (few some many : Objects) → IsWithin few some → IsWithin some many → IsWithin few many
within_more few some many left right q p at = right q p (left q p at)
