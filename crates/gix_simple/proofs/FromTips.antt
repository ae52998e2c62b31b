-- A walk that was just made, breadth first, and drawn to its end.
use Rattle.std.proofs.Common.{◌≡◌, List, filter, Bool, false, None, Result, All, sym}
use Rattle.gix_simple.proofs.Common.{Drains, AllZip, transport, ObjectId, Objects, Info, Parents, Error, IsFirstNew, IsListBy, ReadsWhole, time_of, Reaches, SimpleWalk, IsMade, Next, time_order, ids_of, new_ids, AnswersBy, IsNoRefusal}
use Rattle.gix_simple.proofs.Common.{IsPlain, GivesBreadthFirst, accepted_parents}
use Rattle.gix_revwalk.specs.declared.Parents.TheVariants as mode
use Rattle.gix_simple.proofs.Corollaries.{breadth, each_once}
use Rattle.gix_simple.proofs.MadeOfTips.{is_new_walk}

module _ {F P : Type 0} (objects : F → Objects) (faulty : F → ObjectId → Type 0) (answers : P → ObjectId → Bool → P → Type 0) (accepts : ObjectId → Bool) (list : List (Result Info Error)) where
  Drawn : F → Parents → List ObjectId → Type 0
  Drawn store parents starts = (ids : List ObjectId) × AllZip (IsPlain (objects store) parents None) list ids × IsListBy (IsFirstNew (accepted_parents (objects store) parents accepts) starts) ids

  Whole : F → Parents → List ObjectId → Type 0
  Whole store parents starts = (i : ObjectId) → Reaches (accepted_parents (objects store) parents accepts) starts i → ReadsWhole (objects store) i

  pub made_run : (store : F) (predicate : P) (tips : List ObjectId) (walk : SimpleWalk F P) → AnswersBy answers predicate accepts → IsMade objects faulty answers store predicate tips walk
      → ((i : ObjectId) → Reaches (accepted_parents (objects store) mode.All accepts) (new_ids (λ i. false) (filter accepts tips)) i → ReadsWhole (objects store) i)
      → All IsNoRefusal list → Drains (Next objects faulty answers) walk list
      → GivesBreadthFirst (objects store) (accepted_parents (objects store) mode.All accepts) (new_ids (λ i. false) (filter accepts tips)) list
  unfolding Drawn Whole
  made_run store predicate tips walk by_test made whole unrefused may =
      let made_so = is_new_walk objects faulty answers store predicate accepts tips walk by_test made in
      let whole_here : Whole walk.store walk.parents (ids_of walk.pending) = transport (λ k. Whole (sym made_so.same_store k) (sym made_so.all_parents k) (sym made_so.pending k)) whole in
      let timeless : time_order walk.parents walk.sorting ≡ None = λ j. time_order (made_so.all_parents j) (made_so.breadth_first j) in
      let drawn = breadth objects faulty answers walk accepts list timeless (record { by_test = made_so.by_test; fresh = made_so.fresh; open_to = made_so.open_to; rowless = made_so.rowless; whole = whole_here; unrefused = unrefused; drawn = may }) in
      let there : Drawn store mode.All (new_ids (λ i. false) (filter accepts tips)) = transport (λ k. Drawn (made_so.same_store k) (made_so.all_parents k) (made_so.pending k)) drawn in
      let each = each_once None (time_of (objects store)) (accepted_parents (objects store) mode.All accepts) (new_ids (λ i. false) (filter accepts tips)) there.0 there.2 in
      record { ids = there.0; given = there.1; in_order = there.2; once = each.0; reached = each.1 }
