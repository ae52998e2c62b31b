-- Each order has a list: over a finite history, a best ready commit is taken until none is ready.
use Rattle.std.proofs.Common.{◌≡◌, ◌↔◌, ◌⊎◌, ℤ, List, ◌++◌, Bool, true, not, ◌&&◌, filter, reverse, Contains, refl, sym, ◌∙◌, true≢false}
use Rattle.gix_topo.proofs.Common.{and_parts, and_from, not-true, not_from_false, false_from_ne_true, ObjectId, is_among, IsListBy, first_new, Reaches, among_from, among_is, Objects, IsBestMade, IsInWalk, IsLastMade, IsChild, IsMadeReady, among-filter}
use Rattle.gix_topo.specs.declared.Sorting.TheVariants as order
use Rattle.gix_revwalk.specs.Texts.{text_next}
use Rattle.gix_revwalk.proofs.Greedy.{some_list}
use Rattle.gix_revwalk.proofs.Orders.{found_passes}
use Rattle.gix_revwalk.proofs.SomeOrder.{reached_list}
use Rattle.gix_topo.proofs.Readiness.Decided.{made, made_is, made_member}
use Rattle.gix_topo.proofs.Readiness.IsReady.{in_walk_top}
use Rattle.gix_topo.proofs.Run.EachOnce.{named_all, reached_known}
use Rattle.gix_topo.proofs.Run.ReadyInTurn.{IsReadyNext, WereTaken, last_or_none, next_is_ready, ready_picks, reverse_in}

-- a list holds the members, and them alone
module _ (walked : ObjectId → List ObjectId) (In : ObjectId → Type 0) (members : List ObjectId) (are : (i : ObjectId) → Contains members i ↔ In i) where
  abbrev is_member : ObjectId → Bool
  is_member i = is_among i members

  member_is : (i : ObjectId) → is_member i ≡ true → In i
  member_is i e = (are i).0 (among_is i members e)

  is_member_by : (i : ObjectId) → In i → is_member i ≡ true
  is_member_by i m = among_from i members ((are i).1 m)

  children_known : (c i : ObjectId) → IsChild walked In c i → is_among c members ≡ true
  children_known c i k = is_member_by c k.child

  module _ (time : ObjectId → ℤ) (tips : List ObjectId) where
    abbrev made_by : List ObjectId → List ObjectId
    made_by taken = made walked In members is_member time tips (reverse taken)

    made_so : (taken : List ObjectId) → IsMadeReady time walked In tips (reverse taken) (made_by taken)
    made_so taken = made_is walked In members is_member children_known member_is is_member_by time tips (reverse taken)

    -- each choice is a member that wasn't taken, so one member fewer is left
    date_list : ((i : ObjectId) → In i → Contains tips i ⊎ ((c : ObjectId) × IsChild walked In c i)) → (ids : List ObjectId) × IsListBy (IsBestMade time walked In tips) ids
    date_list top = some_list members (IsReadyNext walked In) (IsBestMade time walked In tips) (λ taken. WereTaken time walked In tips (reverse taken))
        (λ taken i were n. (next_is_ready time walked In tips top order.DateOrder taken i were n).0)
        (λ taken were. ready_picks time walked In tips top order.DateOrder taken were (made_by taken) (made_so taken))
        (λ taken i were n.
        let r = next_is_ready time walked In tips top order.DateOrder taken i were n in
        record { known = is_member_by i r.0.member; is_new = false_from_ne_true _ (λ t. r.0.left (among_is i taken t)); fits = r.1 }) tt

    topo_list : (ids : List ObjectId) × IsListBy (IsLastMade time walked In tips) ids
    topo_list = some_list members (IsLastMade time walked In tips) (IsLastMade time walked In tips) (λ taken. Unit {0}) (λ taken i fits n. n) (λ taken fits. (first_new (reverse (made_by taken)) taken, last_or_none time walked In tips taken (made_by taken) (made_so taken) _ refl))
        (λ taken i fits h.
        let f : Contains (reverse h.0) i × (not (is_among i taken) ≡ true) = found_passes (λ j. not (is_among j taken)) (reverse h.0) i h.2 in
        record { known = is_member_by i (made_member time walked In tips (reverse taken) h.0 h.1 i (reverse_in i h.0 f.0)); is_new = not-true _ f.1; fits = tt }) tt

-- each id names next some of the parents that its commit's text names in a store
module _ (objects : Objects) (walked all : ObjectId → List ObjectId) (tips ends : List ObjectId)
    (walked_named : (c i : ObjectId) → Contains (walked c) i → Contains (text_next objects c) i) (all_named : (c i : ObjectId) → Contains (all c) i → Contains (text_next objects c) i) where
  members_of : (members : List ObjectId) × ((i : ObjectId) → Contains members i ↔ IsInWalk walked all tips ends i)
  members_of =
      let above : (list : List ObjectId) × ((i : ObjectId) → Contains list i ↔ Reaches walked tips i) = reached_list walked tips (tips ++ named_all objects) (reached_known objects walked tips walked_named) in
      let below : (list : List ObjectId) × ((i : ObjectId) → Contains list i ↔ Reaches all ends i) = reached_list all ends (ends ++ named_all objects) (reached_known objects all ends all_named) in (
        filter (λ j. not (is_among j below.0)) above.0,
        λ i. (
          λ c.
              let e : (not (is_among i below.0) && is_among i above.0) ≡ true = sym (among-filter i (λ j. not (is_among j below.0)) above.0) ∙ among_from i (filter (λ j. not (is_among j below.0)) above.0) c in
              record { reached = (above.1 i).0 (among_is i above.0 (and_parts _ _ e).1); outside = λ r. true≢false (sym (among_from i below.0 ((below.1 i).1 r)) ∙ not-true _ (and_parts _ _ e).0) },
          λ m. among_is i (filter (λ j. not (is_among j below.0)) above.0) (among-filter i (λ j. not (is_among j below.0)) above.0 ∙ and_from _ _ (not_from_false _ (false_from_ne_true _ (λ t. m.outside ((below.1 i).0 (among_is i below.0 t))))) (among_from i above.0 ((above.1 i).1 m.reached))),
        ),
      )

  pub some_topo : (time : ObjectId → ℤ) → (ids : List ObjectId) × IsListBy (IsLastMade time walked (IsInWalk walked all tips ends) tips) ids
  some_topo time = topo_list walked (IsInWalk walked all tips ends) members_of.0 members_of.1 time tips

  pub some_date : ((c i : ObjectId) → Contains (walked c) i → Contains (all c) i) → (time : ObjectId → ℤ) → (ids : List ObjectId) × IsListBy (IsBestMade time walked (IsInWalk walked all tips ends) tips) ids
  some_date within time = date_list walked (IsInWalk walked all tips ends) members_of.0 members_of.1 time tips (in_walk_top walked all tips ends within)
