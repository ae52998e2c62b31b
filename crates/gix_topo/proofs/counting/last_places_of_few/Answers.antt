use Rattle.std.proofs.Common.{◌≡◌, List, [], ◌∷◌, ◌++◌, true, false, sym, ap, ◌∙◌, append_assoc}
use Rattle.gix_topo.proofs.Common.{is_among, last_places, ObjectId, same_back}
use Rattle.std.specs.List.{list_any}
use Rattle.gix_hash.specs.contracts.ObjectIdPartialEq.TheImpl.{eq-value}
use Rattle.gix_hash.proofs.Ids.Equality.{eq_is_same}
use Rattle.gix_topo.proofs.counting.last_places_of_few.Goals as goal

-- an id is looked for by comparing those of the list with it
among_by_eq : (i : ObjectId) (ids : List ObjectId) → list_any (λ j. eq-value.it j i) ids ≡ is_among i ids
among_by_eq i ids = ap (λ eq. list_any (λ j. eq j i) ids) eq_is_same ∙ (λ k. list_any (λ j. same_back j i k) ids)

pub loop-id-preserved-then-contains : goal.loop-id-preserved-then-contains
loop-id-preserved-then-contains c =
    let again : is_among c.in-Some.id.now c.in-Some.rest.now ≡ true = sym (among_by_eq c.in-Some.id.now c.in-Some.rest.now) ∙ sym c.contains.ensures.value ∙ c.if-contains.true in
    rw (c.in-Some.ensures.cases.0, again) at c.loop-id.invariant

pub loop-id-preserved : goal.loop-id-preserved
loop-id-preserved c =
    let last : is_among c.in-Some.id.now c.in-Some.rest.now ≡ false = sym (among_by_eq c.in-Some.id.now c.in-Some.rest.now) ∙ sym c.contains.ensures.value ∙ c.if-contains.false in
    ap (λ those. those ++ last_places c.in-Some.rest.now) c.in_ok-push.ensures.ok ∙ append_assoc c.loop-id.places.items (c.in-Some.id.now ∷ []) (last_places c.in-Some.rest.now)
    ∙ (rw (c.in-Some.ensures.cases.0, last) at c.loop-id.invariant)
