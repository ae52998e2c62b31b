use Rattle.std.proofs.Common.{◌≡◌, ◌<◌, ◌||◌, [], ◌∷◌, ◌++◌, true, false, List, sym, ap, ◌∙◌, arith, append_assoc, append-nil, length}
use Rattle.std.specs.FinSet as set
use Rattle.gix_topo.proofs.Common.{ObjectId, id_cmp, is_among, is_same, id_total, same_is}
use Rattle.gix_topo.proofs.counting.last_places_of_many.Goals as goal

pub loop-id-init : goal.loop-id-init
loop-id-init c = record {
  behind = [];
  whole = sym (append-nil c.args.ids.now);
  later = λ n i. ap (λ s. set.contains s i) c.new-later.ensures ∙ set.contains-empty id_cmp i;
  places = c.new-places.ensures.items;
}

longer : (all ids rest behind : List ObjectId) (i : ObjectId) → all ≡ ids ++ behind → ids ≡ rest ++ i ∷ [] → all ≡ rest ++ (i ∷ behind)
longer all ids rest behind i e f = e ∙ ap (λ those. those ++ behind) f ∙ append_assoc rest (i ∷ []) behind

pub loop-id-preserved-then-contains : goal.loop-id-preserved-then-contains
loop-id-preserved-then-contains c =
    let some : 0 < length c.loop-id.ids.now = omega (arith, c.in-Some.ensures.cases.1) in
    let again : is_among c.in-Some.id.now c.loop-id.invariant.behind ≡ true = sym (c.loop-id.invariant.later some c.in-Some.id.now) ∙ sym c.contains.ensures ∙ c.if-contains.true in
    record {
      behind = c.in-Some.id.now ∷ c.loop-id.invariant.behind;
      whole = longer _ _ _ _ _ c.loop-id.invariant.whole c.in-Some.ensures.cases.0;
      later = λ n i. grind (arith, c.loop-id.invariant.later some i, same_is i c.in-Some.id.now, again);
      places = rw again c.loop-id.invariant.places;
    }

pub loop-id-preserved-in_ok-insert : goal.loop-id-preserved-in_ok-insert
loop-id-preserved-in_ok-insert c =
    let some : 0 < length c.loop-id.ids.now = omega (arith, c.in-Some.ensures.cases.1) in
    let first : is_among c.in-Some.id.now c.loop-id.invariant.behind ≡ false = sym (c.loop-id.invariant.later some c.in-Some.id.now) ∙ sym c.contains.ensures ∙ c.if-contains.false in
    record {
      behind = c.in-Some.id.now ∷ c.loop-id.invariant.behind;
      whole = longer _ _ _ _ _ c.loop-id.invariant.whole c.in-Some.ensures.cases.0;
      later = λ n i. ap (λ s. set.contains s i) c.in_ok-insert.ensures.ok ∙ set.contains-insert id_total c.loop-id.later c.in-Some.id.now i ∙ ap (λ b. is_same i c.in-Some.id.now || b) (c.loop-id.invariant.later some i);
      places = rw first (c.in_ok-push_front.ensures.items ∙ ap (λ ids. c.in-Some.id.now ∷ ids) c.loop-id.invariant.places);
    }
