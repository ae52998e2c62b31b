-- Named records whose ids a named store has.
use Rattle.std.proofs.Common.{ℕ, ◌≡◌, ◌⊎◌, ◌<◌, ◌^◌, ◌+◌, List, [], ◌∷◌, ◌++◌, Bool, true, false, length, All, Option, Some, None, IsSome, IfSome, cond, refl, sym, ◌∙◌, ap, subst, inl, inr, arith, length-append}
use Rattle.std.specs.FinMap as map_of
use Rattle.std.specs.Ordering.{eq_by_cmp}
use Rattle.std.proofs.lemmas.List.Elements.{All-head, All-tail}
use Rattle.std.proofs.lemmas.Option.{none-some}
use Rattle.gix_hash.specs.declared.ObjectId.{ObjectId}
use Rattle.gix_hash.specs.Id.{id_cmp, kind_of}
use Rattle.gix_hash.proofs.Ids.Membership.{id_total, same_is}
use Rattle.gix_object.specs.Object.{Object, Objects}
use Rattle.gix_names.specs.Named.{IsNamed, name_text, Collide}
use Rattle.gix_names.proofs.Agree.{agree}
use Rattle.gix_records.specs.Records.{Record, IsRecord, AreRecords, put_in}
use Rattle.gix_records.specs.NamedRecords.{IsNamedRecord, AreNamed}
use Rattle.gix_records.specs.NamedPart.{IsWithin, SomeCollide, NamedPart}
use Rattle.gix_records.proofs.RecordFacts.{record_parts}

-- a record's bytes and what is behind it are shorter than the text
shorter : (r : Record) (text behind : List ℕ) → IsRecord r text behind → length r.bytes + length behind < length text
shorter r text behind h =
    let parts = record_parts r text behind h in
    omega (arith, ap length parts.1, length-append parts.0 (r.bytes ++ 10 ∷ behind), length-append r.bytes (10 ∷ behind))

within_put : (done objects : Objects) (i : ObjectId) (o : Object) → IsWithin done objects → map_of.get objects i ≡ Some o → IsWithin (map_of.insert done i o) objects
within_put done objects i o h e q p at = at_key (eq_by_cmp id_cmp q i) refl (sym (map_of.get-insert id_total done i o q) ∙ at)
  where
    at_key : (b : Bool) → eq_by_cmp id_cmp q i ≡ b → cond b (Some o) (map_of.get done q) ≡ Some p → map_of.get objects q ≡ Some p
    at_key true same f = subst (λ j. map_of.get objects j ≡ Some p) (sym (same_is q i same)) (e ∙ f)
    at_key false same f = h q p f

module _ (objects : Objects) (named : AreNamed objects) (fits : (i : ObjectId) → IfSome (map_of.get objects i) (λ o. length o.bytes < 2 ^ 64)) where
  abbrev object_of : Record → Object
  object_of r = record { kind = r.kind; bytes = r.bytes }

  one_within : (r : Record) (done : Objects) → length r.bytes < 2 ^ 64 → IsNamedRecord r → IsSome (map_of.get objects r.id) → IsWithin done objects → IsWithin (map_of.insert done r.id (object_of r)) objects ⊎ SomeCollide
  one_within r done m is has h = go (map_of.get objects r.id) refl (named r.id) (fits r.id) has
    where
      agreed : (o : Object) → map_of.get objects r.id ≡ Some o → ((r.kind ≡ o.kind) × (r.bytes ≡ o.bytes)) ⊎ Collide (kind_of r.id) (name_text r.kind r.bytes) (name_text o.kind o.bytes) → IsWithin (map_of.insert done r.id (object_of r)) objects ⊎ SomeCollide
      agreed o e (inl same) =
          let kinds : r.kind ≡ o.kind = same.0 in
          let texts : r.bytes ≡ o.bytes = same.1 in
          let object : o ≡ object_of r = λ j. record { kind = sym kinds j; bytes = sym texts j } in
          inl (within_put done objects r.id (object_of r) h (e ∙ ap Some object))
      agreed o e (inr two) = inr (kind_of r.id, name_text r.kind r.bytes, name_text o.kind o.bytes, two)

      go : (p : Option Object) → map_of.get objects r.id ≡ p → IfSome p (λ o. IsNamed r.id o.kind o.bytes) → IfSome p (λ o. length o.bytes < 2 ^ 64) → IsSome p → IsWithin (map_of.insert done r.id (object_of r)) objects ⊎ SomeCollide
      go None e n l there = cc
      go (Some o) e n l there = agreed o e (agree r.id r.kind o.kind r.bytes o.bytes m l is n)

  all_within : (records : List Record) (text : List ℕ) (done : Objects) → length text < 2 ^ 64 → AreRecords records text → All IsNamedRecord records → All (λ r. IsSome (map_of.get objects r.id)) records → IsWithin done objects → IsWithin (put_in done records) objects ⊎ SomeCollide
  all_within [] text done m are is has h = inl h
  all_within (r ∷ records) text done m are is has h =
      let less = shorter r text are.0 are.1 in
      elim (one_within r done (omega (arith, less)) (All-head IsNamedRecord r records is) (All-head (λ r. IsSome (map_of.get objects r.id)) r records has) h) [
        | inl more ↦ all_within records are.0 (map_of.insert done r.id (object_of r)) (omega (arith, less)) are.2 (All-tail IsNamedRecord r records is) (All-tail (λ r. IsSome (map_of.get objects r.id)) r records has) more
        | inr two ↦ inr two
      ]

pub named_part : NamedPart
named_part records text objects m are is named fits has =
    all_within objects named fits records text map_of.empty m are is has (λ i o e. absurd (none-some o (sym (map_of.get-empty id_cmp i) ∙ e)))
