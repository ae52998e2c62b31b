-- Two ways to say what the parents and the members are, which agree on the members, give the same orders.
use Rattle.std.proofs.Common.{◌≡◌, ℤ, List, [], ◌∷◌, reverse, Contains, sym, subst}
use Rattle.gix_topo.proofs.Common.{Contains-append_left, ObjectId, Contains-here, Contains-there, Sorting, IsChild, IsChildless, IsReady, Keeps, last_places, IsMadeReady, IsBeginningBy, IsListBy, IsNextBy}
use Rattle.gix_topo.specs.declared.Sorting.TheVariants as order
use Rattle.gix_topo.proofs.Readiness.IsReady.{keeps_alike}
use Rattle.gix_topo.proofs.Run.ReadyInTurn.{reverse_in}

module _ (time : ObjectId → ℤ) (walked other : ObjectId → List ObjectId) (In Out : ObjectId → Type 0) (to : (i : ObjectId) → In i → Out i) (from : (i : ObjectId) → Out i → In i)
    (same : (i : ObjectId) → In i → other i ≡ walked i) where
  child_from : (d p : ObjectId) → IsChild other Out d p → IsChild walked In d p
  child_from d p c = record { child = from d c.child; parent = from p c.parent; named = subst (λ ids. Contains ids p) (same d (from d c.child)) c.named }

  child_to : (d p : ObjectId) → IsChild walked In d p → IsChild other Out d p
  child_to d p c = record { child = to d c.child; parent = to p c.parent; named = subst (λ ids. Contains ids p) (sym (same d c.child)) c.named }

  childless_to : (i : ObjectId) → IsChildless walked In i → IsChildless other Out i
  childless_to i h = record { member = to i h.member; alone = λ d c. h.alone d (child_from d i c) }

  childless_from : (i : ObjectId) → IsChildless other Out i → IsChildless walked In i
  childless_from i h = record { member = from i h.member; alone = λ d c. h.alone d (child_to d i c) }

  ready_to : (Taken : ObjectId → Type 0) (i : ObjectId) → IsReady walked In Taken i → IsReady other Out Taken i
  ready_to Taken i h = record { member = to i h.member; left = h.left; children = λ d c. h.children d (child_from d i c) }

  ready_from : (Taken : ObjectId → Type 0) (i : ObjectId) → IsReady other Out Taken i → IsReady walked In Taken i
  ready_from Taken i h = record { member = from i h.member; left = h.left; children = λ d c. h.children d (child_to d i c) }

  -- of taken members, the same became ready
  made_to : (tips taken ready : List ObjectId) → ((i : ObjectId) → Contains taken i → In i) → IsMadeReady time walked In tips taken ready → IsMadeReady time other Out tips taken ready
  made_to tips [] ready members h = (h.0, keeps_alike (IsChildless walked In) (IsChildless other Out) childless_to childless_from h.1, h.2)
  made_to tips (c ∷ taken) ready members h = (
    h.0,
    h.1,
    made_to tips taken h.0 (λ i m. members i (Contains-there i c taken m)) h.2,
    subst (λ ids. Keeps (IsReady other Out (Contains (c ∷ taken))) (last_places ids) h.1) (sym (same c (members c (Contains-here c taken)))) (keeps_alike (IsReady walked In (Contains (c ∷ taken))) (IsReady other Out (Contains (c ∷ taken))) (ready_to (Contains (c ∷ taken))) (ready_from (Contains (c ∷ taken))) h.3),
    h.4,
  )

  -- so is the next one
  pub next_to : (s : Sorting) (tips done : List ObjectId) → ((i : ObjectId) → Contains done i → In i) → (i : ObjectId) → IsNextBy s time walked In tips done i → IsNextBy s time other Out tips done i
  next_to order.DateOrder tips done members i h = (
    h.0,
    made_to tips (reverse done) h.0 (λ i m. members i (reverse_in i done m)) h.1,
    record { best = record { among = ready_to (Contains done) i h.2.best.among; best = λ j r. h.2.best.best j (ready_from (Contains done) j r) }; first = h.2.first },
  )
  next_to order.TopoOrder tips done members i h = (h.0, made_to tips (reverse done) h.0 (λ i m. members i (reverse_in i done m)) h.1, h.2)

  -- what is in order stays so
  pub begins_to : (tips ids : List ObjectId) → ((i : ObjectId) → Contains ids i → In i) → (s : Sorting) → IsBeginningBy (IsNextBy s time walked In tips) ids → IsBeginningBy (IsNextBy s time other Out tips) ids
  begins_to tips ids members s h taken rest i e = next_to s tips taken (λ j m. members j (subst (λ xs. Contains xs j) (sym e) (Contains-append_left taken (i ∷ rest) j m))) i (h taken rest i e)

pub list_to : (time : ObjectId → ℤ) (walked other : ObjectId → List ObjectId) (In Out : ObjectId → Type 0) (to : (i : ObjectId) → In i → Out i) (from : (i : ObjectId) → Out i → In i) (same : (i : ObjectId) → In i → other i ≡ walked i)
    → (tips ids : List ObjectId) → ((i : ObjectId) → Contains ids i → In i) → (s : Sorting) → IsListBy (IsNextBy s time walked In tips) ids → IsListBy (IsNextBy s time other Out tips) ids
list_to time walked other In Out to from same tips ids members s h = record {
  begins = begins_to time walked other In Out to from same tips ids members s h.begins;
  ends = λ i n. h.ends i (next_to time other walked Out In from to (λ j o. sym (same j (from j o))) s tips ids (λ j m. to j (members j m)) i n);
}
