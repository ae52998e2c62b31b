-- Worked examples of the order by time: over a finite history a test that computes says whether a list is in it.
use Rattle.std.proofs.Common.{◌≡◌, ◌≤◌, ℕ, pos, List, [], ◌∷◌, Bool, true, false, not, ◌&&◌, ◌||◌, find, Option, Some, None, Contains, MatchOption, refl, sym, ◌∙◌, arith, true≢false, leb-true}
use Rattle.std.proofs.Math.Dec.{leb}
use Rattle.gix_topo.proofs.Common.{ints, and_parts, not-true, false_from_ne_true, ObjectId, is_among, IsListBy, among_from, among_is, NewestFirst, OldestFirst, named_by}
use Rattle.gix_revwalk.specs.declared.CommitTimeOrder.{CommitTimeOrder}
use Rattle.gix_revwalk.specs.TimeOrder.{is_no_worse, IsNoWorse, IsNextByTime}
use Rattle.gix_revwalk.proofs.Beginnings.{begins_empty}
use Rattle.gix_revwalk.specs.Examples.{ids, history, sample_in}
use Rattle.gix_topo.proofs.Readiness.Decided.{all_of, all_is}
use Rattle.gix_topo.proofs.Examples.TopologicalOrders.{sample_seconds, is_this, this_is}
use Rattle.gix_topo.proofs.Run.ReadyInTurn.{is_list, list_tested}

abbrev no_worse : CommitTimeOrder → ℕ → ℕ → Bool
no_worse NewestFirst a b = leb b a
no_worse OldestFirst a b = leb a b

no_worse_is : (order : CommitTimeOrder) (a b : ℕ) → no_worse order a b ≡ true → IsNoWorse order (pos a) (pos b)
no_worse_is NewestFirst a b e = let l : b ≤ a = leb-true _ _ e in omega (arith, ints)
no_worse_is OldestFirst a b e = let l : a ≤ b = leb-true _ _ e in omega (arith, ints)

other : (x y : Bool) → (x || y) ≡ true → x ≡ false → y ≡ true
other x y e f = grind arith

module _ (order : CommitTimeOrder) (seconds : ObjectId → ℕ) (next : ObjectId → List ObjectId) (starts : List ObjectId) where
  abbrev is_next : List ObjectId → Option ObjectId → Bool
  is_next done None = all_of (λ j. is_among j done) (named_by next starts done)
  is_next done (Some i) =
      ((is_among i (named_by next starts done) && not (is_among i done)) && all_of (λ j. is_among j done || no_worse order (seconds i) (seconds j)) (named_by next starts done))
      && is_this (find (λ j. not (is_among j done) && is_no_worse order (pos (seconds j)) (pos (seconds i))) (named_by next starts done)) (Some i)

  abbrev IsNext : List ObjectId → ObjectId → Type 0
  IsNext = IsNextByTime order (λ i. pos (seconds i)) next starts

  untaken : (done : List ObjectId) (i : ObjectId) → (Contains done i → ⊥) → is_among i done ≡ false
  untaken done i left = false_from_ne_true _ (λ e. left (among_is i done e))

  next_is : (done : List ObjectId) (o : Option ObjectId) → is_next done o ≡ true → MatchOption o ((i : ObjectId) → IsNext done i → ⊥) (IsNext done)
  next_is done None e = λ i n. let p = n.best.among in true≢false (sym (all_is (λ j. is_among j done) (named_by next starts done) e i p.0) ∙ untaken done i p.1)
  next_is done (Some i) e =
      let t : (((is_among i (named_by next starts done) && not (is_among i done)) && all_of (λ j. is_among j done || no_worse order (seconds i) (seconds j)) (named_by next starts done)) ≡ true) × (is_this (find (λ j. not (is_among j done) && is_no_worse order (pos (seconds j)) (pos (seconds i))) (named_by next starts done)) (Some i) ≡ true) = and_parts _ _ e in
      let a : ((is_among i (named_by next starts done) && not (is_among i done)) ≡ true) × (all_of (λ j. is_among j done || no_worse order (seconds i) (seconds j)) (named_by next starts done) ≡ true) = and_parts _ _ t.0 in
      let b : (is_among i (named_by next starts done) ≡ true) × (not (is_among i done) ≡ true) = and_parts _ _ a.0 in
      record {
        best = record {
          among = (among_is i _ b.0, λ c. true≢false (sym (among_from i done c) ∙ not-true _ b.1));
          best = λ j p. no_worse_is order (seconds i) (seconds j) (other _ _ (all_is (λ k. is_among k done || no_worse order (seconds i) (seconds k)) (named_by next starts done) a.1 j p.0) (untaken done j p.1));
        };
        first = this_is _ _ t.1;
      }

  abbrev is_time : List ObjectId → List ObjectId → Bool
  is_time = is_list is_next

  -- a list that passes is in order by time
  pub time_by : (ids : List ObjectId) → is_time [] ids ≡ true → IsListBy IsNext ids
  time_by ids e = list_tested IsNext is_next next_is ids [] (begins_empty _) e

abbrev pub IsSampleTime : CommitTimeOrder → List ℕ → List ℕ → Type 0
IsSampleTime order tips list = IsListBy (IsNextByTime order (λ i. pos (sample_seconds history i)) (sample_in history) (ids tips)) (ids list)

pub newest_first : IsSampleTime NewestFirst (8 ∷ []) (8 ∷ 7 ∷ 6 ∷ 5 ∷ 4 ∷ 3 ∷ 2 ∷ 1 ∷ [])
newest_first = time_by NewestFirst (sample_seconds history) (sample_in history) (ids (8 ∷ [])) (ids (8 ∷ 7 ∷ 6 ∷ 5 ∷ 4 ∷ 3 ∷ 2 ∷ 1 ∷ [])) refl

pub oldest_first : IsSampleTime OldestFirst (8 ∷ []) (8 ∷ 6 ∷ 5 ∷ 3 ∷ 1 ∷ 7 ∷ 4 ∷ 2 ∷ [])
oldest_first = time_by OldestFirst (sample_seconds history) (sample_in history) (ids (8 ∷ [])) (ids (8 ∷ 6 ∷ 5 ∷ 3 ∷ 1 ∷ 7 ∷ 4 ∷ 2 ∷ [])) refl
