-- The walk in depth, from a place in a tree on: what each step of a loop needs.
use Rattle.std.proofs.Common.{◌≡◌, ◌≢◌, true, false, List, [], ◌∷◌, ◌++◌, Option, Some, Ok, refl, sym, ap, ◌∙◌, subst, append_assoc}
use Rattle.gix_tree.proofs.Common.{ObjectId, TreeEntry, Action, Call, PopBack, Items, Place, Visit, visit, inside, Leaves, Enters, outcome, Ending, Whole, Broken, Failed, IsUnfailed, is_broken, IsPreorder, IsPreorderBeginning}
use Rattle.gix_tree.proofs.Common.{depth_calls, DepthScript, whole, leaves, enters, ends_inside, not_found, breaks, cycles, fault, no_memory_at_look_up, no_memory_for_descent, refused, items_or_none, entries_in, entries_at}
use Rattle.gix_object.specs.declared.find.existing_iter.Error.{Error as ExistingError}
use Rattle.gix_tree.specs.Preorder as order

module _ (trees : ObjectId → Option Items) (fails : ObjectId → ExistingError → Type 0) where
  -- the walk in depth, from a place in a tree on, with what is left of the trees above it, the nearest first
  pub data DepthFrom : Place → Items → List (Place × Items) → List Call → List Visit → Ending → Type 0 where
    outermost : {p : Place} {items : Items} {calls : List Call} {visits : List Visit} {end : Ending} → DepthScript trees fails p items calls visits end → DepthFrom p items [] calls visits end
    resumes : {p q : Place} {items rest : Items} {above : List (Place × Items)} {calls more : List Call} {visits others : List Visit} {end : Ending} → DepthScript trees fails p items calls visits Whole → DepthFrom q rest above more others end → DepthFrom p items ((q, rest) ∷ above) (calls ++ PopBack ∷ more) (visits ++ others) end
    ends : {p q : Place} {items rest : Items} {above : List (Place × Items)} {calls : List Call} {visits : List Visit} {end : Ending} → DepthScript trees fails p items calls visits end → end ≢ Whole → DepthFrom p items ((q, rest) ∷ above) calls visits end

  retold : {p : Place} {items : Items} {above : List (Place × Items)} {calls calls2 : List Call} {visits visits2 : List Visit} {end : Ending} → calls ≡ calls2 → visits ≡ visits2 → DepthFrom p items above calls visits end → DepthFrom p items above calls2 visits2 end
  retold {p} {items} {above} {calls} {calls2} {visits} {visits2} {end} ec ev walk = subst (λ l. DepthFrom p items above l visits2 end) ec (subst (λ l. DepthFrom p items above calls l end) ev walk)

  -- an entry that the walk doesn't go into
  pub depth_leaves : {p : Place} {e : TreeEntry} {a : Action} {items : Items} {above : List (Place × Items)} {calls : List Call} {visits : List Visit} {end : Ending} → outcome (visit p e a) ≡ Leaves → DepthFrom p items above calls visits end → DepthFrom p (Ok e ∷ items) above (depth_calls (visit p e a) ++ calls) (visit p e a ∷ visits) end
  depth_leaves o (outermost script) = outermost (leaves o script)
  depth_leaves {p} {e} {a} o (resumes {calls = calls} {more = more} script rest) = retold (append_assoc (depth_calls (visit p e a)) calls (PopBack ∷ more)) refl (resumes (leaves o script) rest)
  depth_leaves o (ends script broken) = ends (leaves o script) broken

  -- a walk that ended in some tree has ended
  pub depth_ends : {p : Place} {items : Items} {above : List (Place × Items)} {calls : List Call} {visits : List Visit} {end : Ending} → end ≢ Whole → DepthScript trees fails p items calls visits end → DepthFrom p items above calls visits end
  depth_ends {above = []} broken script = outermost script
  depth_ends {above = frame ∷ above} broken script = ends script broken

  -- an entry that the walk goes into
  pub depth_enters : {p : Place} {e : TreeEntry} {a : Action} {sub items : Items} {above : List (Place × Items)} {calls : List Call} {visits : List Visit} {end : Ending} → outcome (visit p e a) ≡ Enters → trees e.id ≡ Some sub → DepthFrom (inside p e) sub ((p, items) ∷ above) calls visits end → DepthFrom p (Ok e ∷ items) above (depth_calls (visit p e a) ++ PopBack ∷ calls) (visit p e a ∷ visits) end
  depth_enters o is (ends script broken) = depth_ends broken (ends_inside o is script broken)
  depth_enters o is (resumes script (outermost rest)) = outermost (enters o is script rest)
  depth_enters o is (resumes script (ends rest broken)) = ends (enters o is script rest) broken
  depth_enters {p} {e} {a} o is (resumes {calls = calls} {visits = visits} script (resumes {calls = more} {more = others} {visits = seen} {others = unseen} rest behind)) =
      retold (append_assoc (depth_calls (visit p e a)) (PopBack ∷ (calls ++ PopBack ∷ more)) (PopBack ∷ others) ∙ ap (λ l. depth_calls (visit p e a) ++ PopBack ∷ l) (append_assoc calls (PopBack ∷ more) (PopBack ∷ others)))
      (ap (λ l. visit p e a ∷ l) (append_assoc visits seen unseen))
      (resumes (enters o is script rest) behind)

  -- THE ORDER OF THE VISITS

  broken_end : (end : Ending) → IsUnfailed end → end ≢ Whole → is_broken end ≡ true
  broken_end Whole w ne = absurd (ne refl)
  broken_end Broken w ne = refl
  broken_end (Failed why) w ne = absurd w

  -- the visits of a walk in depth are in preorder
  pub preorder : {p : Place} {items : Items} {calls : List Call} {visits : List Visit} {end : Ending} → DepthScript trees fails p items calls visits end → IsUnfailed end → IsPreorder (entries_at trees) p (entries_in items) visits (is_broken end)
  preorder whole w = order.none
  preorder (leaves o rest) w = order.leaves o (preorder rest w)
  preorder (enters {p = p} {e = e} {visits = visits} o is sub rest) w = order.enters o (subst (λ l. IsPreorder (entries_at trees) (inside p e) (entries_in (items_or_none l)) visits false) (sym is) (preorder sub tt)) (preorder rest w)
  preorder (ends_inside {p = p} {e = e} {a = a} {sub = sub} {items = items} {visits = visits} {end = end} o is script broken) w =
      let b = broken_end end w broken in
      let inner : IsPreorder (entries_at trees) (inside p e) (entries_at trees e.id) visits true = subst (λ l. IsPreorder (entries_at trees) (inside p e) (entries_in (items_or_none l)) visits true) (sym is) (subst (λ l. IsPreorder (entries_at trees) (inside p e) (entries_in sub) visits l) b (preorder script w)) in
      subst (λ l. IsPreorder (entries_at trees) p (e ∷ entries_in items) (visit p e a ∷ visits) l) (sym b) (order.broken_inside o inner)
  preorder (not_found o why) w = absurd w
  preorder (breaks o) w = order.breaks o
  preorder (cycles o) w = absurd w
  preorder fault w = absurd w
  preorder (no_memory_at_look_up o) w = absurd w
  preorder (no_memory_for_descent a o) w = absurd w
  preorder (refused a made) w = absurd w

  -- the visits of any walk in depth are a beginning of preorder
  pub preorder_beginning : {p : Place} {items : Items} {calls : List Call} {visits : List Visit} {end : Ending} → DepthScript trees fails p items calls visits end → IsPreorderBeginning (entries_at trees) p (entries_in items) visits
  preorder_beginning whole = order.ended
  preorder_beginning (leaves o rest) = order.behind_entry o (preorder_beginning rest)
  preorder_beginning (enters {p = p} {e = e} {visits = visits} o is sub rest) = order.behind_tree o (subst (λ l. IsPreorder (entries_at trees) (inside p e) (entries_in (items_or_none l)) visits false) (sym is) (preorder sub tt)) (preorder_beginning rest)
  preorder_beginning (ends_inside {p = p} {e = e} {visits = visits} o is script broken) = order.in_tree o (subst (λ l. IsPreorderBeginning (entries_at trees) (inside p e) (entries_in (items_or_none l)) visits) (sym is) (preorder_beginning script))
  preorder_beginning (not_found o why) = order.in_tree o order.ended
  preorder_beginning (breaks o) = order.at_break o
  preorder_beginning (cycles o) = order.at_cycle o
  preorder_beginning fault = order.ended
  preorder_beginning (no_memory_at_look_up o) = order.in_tree o order.ended
  preorder_beginning (no_memory_for_descent a o) = order.ended
  preorder_beginning (refused a made) = order.ended
