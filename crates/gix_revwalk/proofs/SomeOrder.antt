-- What comes next in breadth order or by time is pending. Where finitely many ids are reached, there is a list in each order, and a list of
-- what is reached.
use Rattle.std.proofs.Common.{◌≡◌, ◌↔◌, ℤ, pos, List, [], ◌∷◌, ◌++◌, find, Bool, true, false, not, ◌&&◌, cond, filter, Option, Some, None, MatchOption, Contains, refl, sym, ap, subst, ⊎_elim, ◌∙◌, arith}
use Rattle.std.proofs.Common.{flat_map, true≢false}
use Rattle.std.specs.FinMap as map_of
use Rattle.std.proofs.lemmas.Bool.{not-true, not-false, not_from_false, false_from_ne_true, and_parts, and_from}
use Rattle.std.proofs.lemmas.Int.{ints}
use Rattle.std.proofs.lemmas.List.Elements.{Contains-append_left, Contains-append_right}
use Rattle.gix_revwalk.proofs.Common.{ObjectId, is_among, Reaches, start, step, among_from, among_is, Contains-here, Contains-there, Contains-cons_cases, no_member, Object, Objects, CommitTimeOrder, IsBeginningBy, IsListBy}
use Rattle.gix_revwalk.proofs.Common.{named_by, first_new, IsFirstNew, IsNextOne, IsPending, IsBest, IsFirstBest, IsNoWorse, is_no_worse, parents_of, parents_in, commit_of_object}
use Rattle.gix_revwalk.specs.declared.CommitTimeOrder.TheVariants.{NewestFirst, OldestFirst}
use Rattle.gix_revwalk.proofs.Greedy.{GoesOn, Picks, none_has, some_list}
use Rattle.gix_revwalk.proofs.NewIds.{among_flat, among-filter, find-filter}
use Rattle.gix_revwalk.proofs.Orders.{AreReached, found_passes, none_passes, reached_by_named, reached_is_given, reached_more, given_is_reached}
use Rattle.gix_revwalk.proofs.Rows.{found_entry}

pub no_worse_is : (order : CommitTimeOrder) (a b : ℤ) → is_no_worse order a b ≡ true → IsNoWorse order a b
no_worse_is NewestFirst a b e = grind (arith, ints)
no_worse_is OldestFirst a b e = grind (arith, ints)

worse_is : (order : CommitTimeOrder) (a b : ℤ) → is_no_worse order a b ≡ false → IsNoWorse order b a
worse_is NewestFirst a b e = grind (arith, ints)
worse_is OldestFirst a b e = grind (arith, ints)

itself_no_worse : (order : CommitTimeOrder) (a : ℤ) → IsNoWorse order a a
itself_no_worse NewestFirst a = omega (arith, ints)
itself_no_worse OldestFirst a = omega (arith, ints)

pub itself_is : (order : CommitTimeOrder) (a : ℤ) → is_no_worse order a a ≡ true
itself_is NewestFirst a = grind (arith, ints)
itself_is OldestFirst a = grind (arith, ints)

no_worse_through : (order : CommitTimeOrder) (a b c : ℤ) → IsNoWorse order a b → IsNoWorse order b c → IsNoWorse order a c
no_worse_through NewestFirst a b c h k = omega (arith, ints)
no_worse_through OldestFirst a b c h k = omega (arith, ints)

-- the names that aren't taken
abbrev pub untaken : List ObjectId → List ObjectId → List ObjectId
untaken taken names = filter (λ j. not (is_among j taken)) names

module _ (order : CommitTimeOrder) (time : ObjectId → ℤ) where
  abbrev better : ObjectId → Option ObjectId → Option ObjectId
  better x None = Some x
  better x (Some y) = Some (cond (is_no_worse order (time x) (time y)) x y)

  -- one of best time of a list
  abbrev pub best : List ObjectId → Option ObjectId
  best [] = None
  best (x ∷ xs) = better x (best xs)

  abbrev pub IsBestOf : List ObjectId → Option ObjectId → Type 0
  IsBestOf xs o = MatchOption o ((i : ObjectId) → Contains xs i → ⊥) (IsBest order time (Contains xs))

  pub best_is : (xs : List ObjectId) → IsBestOf xs (best xs)
  best_is [] = λ i c. no_member i c
  best_is (x ∷ xs) = go (best xs) (best_is xs)
    where
      go : (o : Option ObjectId) → IsBestOf xs o → IsBestOf (x ∷ xs) (better x o)
      go None h = record { among = Contains-here x xs; best = λ other c. ⊎_elim (λ s. subst (λ y. IsNoWorse order (time x) (time y)) s (itself_no_worse order (time x))) (λ t. absurd (h other t)) (Contains-cons_cases other x xs c) }
      go (Some y) h = pick (is_no_worse order (time x) (time y)) refl
        where
          pick : (b : Bool) → is_no_worse order (time x) (time y) ≡ b → IsBest order time (Contains (x ∷ xs)) (cond b x y)
          pick true e = record {
            among = Contains-here x xs;
            best = λ other c. ⊎_elim (λ s. subst (λ z. IsNoWorse order (time x) (time z)) s (itself_no_worse order (time x))) (λ t. no_worse_through order (time x) (time y) (time other) (no_worse_is order (time x) (time y) e) (h.best other t)) (Contains-cons_cases other x xs c);
          }
          pick false e = record {
            among = Contains-there y x xs h.among;
            best = λ other c. ⊎_elim (λ s. subst (λ z. IsNoWorse order (time y) (time z)) s (worse_is order (time x) (time y) e)) (λ t. h.best other t) (Contains-cons_cases other x xs c);
          }

  -- it is the first that is as good
  first_best : (xs : List ObjectId) (i : ObjectId) → best xs ≡ Some i → find (λ j. is_no_worse order (time j) (time i)) xs ≡ Some i
  first_best [] i e = cc
  first_best (x ∷ xs) i e = go (best xs) (first_best xs) e
    where
      at_once : x ≡ i → find (λ j. is_no_worse order (time j) (time i)) (x ∷ xs) ≡ Some i
      at_once s = ap (λ b. cond b (Some x) (find (λ j. is_no_worse order (time j) (time i)) xs)) (subst (λ y. is_no_worse order (time x) (time y) ≡ true) s (itself_is order (time x))) ∙ ap Some s

      go : (o : Option ObjectId) → ((y : ObjectId) → o ≡ Some y → find (λ j. is_no_worse order (time j) (time y)) xs ≡ Some y) → better x o ≡ Some i → find (λ j. is_no_worse order (time j) (time i)) (x ∷ xs) ≡ Some i
      go None r s = at_once (let same : x ≡ i = cc in same)
      go (Some y) r s = pick (is_no_worse order (time x) (time y)) refl s
        where
          pick : (b : Bool) → is_no_worse order (time x) (time y) ≡ b → Some (cond b x y) ≡ Some i → find (λ j. is_no_worse order (time j) (time i)) (x ∷ xs) ≡ Some i
          pick true o t = at_once (let same : x ≡ i = cc in same)
          pick false o t =
              let same : y ≡ i = cc in
              ap (λ b. cond b (Some x) (find (λ j. is_no_worse order (time j) (time i)) xs)) (subst (λ z. is_no_worse order (time x) (time z) ≡ false) same o) ∙ subst (λ z. find (λ j. is_no_worse order (time j) (time z)) xs ≡ Some z) same (r y refl)

  -- of names of which those that aren't taken are exactly the ids of P
  pub best_of : (P : ObjectId → Type 0) (names taken : List ObjectId) → ((i : ObjectId) → Contains (untaken taken names) i ↔ P i) → (o : Option ObjectId) → o ≡ best (untaken taken names)
      → MatchOption o ((i : ObjectId) → P i → ⊥) (IsFirstBest order time P names taken)
  best_of P names taken same None e = let h : IsBestOf (untaken taken names) None = subst (IsBestOf (untaken taken names)) (sym e) (best_is (untaken taken names)) in λ i p. h i ((same i).1 p)
  best_of P names taken same (Some i) e =
      let h : IsBestOf (untaken taken names) (Some i) = subst (IsBestOf (untaken taken names)) (sym e) (best_is (untaken taken names)) in
      record {
        best = record { among = (same i).0 h.among; best = λ other p. h.best other ((same other).1 p) };
        first = sym (find-filter (λ j. is_no_worse order (time j) (time i)) (λ j. not (is_among j taken)) names) ∙ first_best (untaken taken names) i (sym e);
      }

module _ (next : ObjectId → List ObjectId) (starts : List ObjectId) where
  abbrev pending : List ObjectId → List ObjectId
  pending taken = untaken taken (named_by next starts taken)

  pending_is : (taken : List ObjectId) (i : ObjectId) → Contains (pending taken) i ↔ IsPending next starts taken i
  pending_is taken i = (
    λ c.
        let e : (not (is_among i taken) && is_among i (named_by next starts taken)) ≡ true = sym (among-filter i (λ j. not (is_among j taken)) (named_by next starts taken)) ∙ among_from i (pending taken) c in
        (among_is i (named_by next starts taken) (and_parts _ _ e).1, λ t. true≢false (sym (among_from i taken t) ∙ not-true _ (and_parts _ _ e).0)),
    λ p. among_is i (pending taken) (among-filter i (λ j. not (is_among j taken)) (named_by next starts taken) ∙ and_from _ _ (not_from_false _ (false_from_ne_true _ (λ e. p.1 (among_is i taken e)))) (among_from i _ p.0)),
  )

  -- what comes next is pending, and something does where anything is
  pub next_is_pending : (o : Option CommitTimeOrder) (time : ObjectId → ℤ) (taken : List ObjectId) (i : ObjectId) → IsNextOne o time next starts taken i → IsPending next starts taken i
  next_is_pending None time taken i e =
      let h : Contains (named_by next starts taken) i × (not (is_among i taken) ≡ true) = found_passes (λ j. not (is_among j taken)) (named_by next starts taken) i e in
      (h.0, λ c. true≢false (sym (among_from i taken c) ∙ not-true _ h.1))
  next_is_pending (Some order) time taken i h = h.best.among

  pub picks : (o : Option CommitTimeOrder) (time : ObjectId → ℤ) (taken : List ObjectId) → Picks (IsPending next starts) (IsNextOne o time next starts) taken
  picks (Some order) time taken = (best order time (pending taken), best_of order time (IsPending next starts taken) (named_by next starts taken) taken (pending_is taken) (best order time (pending taken)) refl)
  picks None time taken = (first_new (named_by next starts taken) taken, go (first_new (named_by next starts taken) taken) refl)
    where
      go : (o : Option ObjectId) → first_new (named_by next starts taken) taken ≡ o → MatchOption o ((i : ObjectId) → IsPending next starts taken i → ⊥) (IsFirstNew next starts taken)
      go None e = λ i p. p.1 (among_is i taken (not-false _ (none_passes _ (named_by next starts taken) i e p.0)))
      go (Some i) e = e

  pub pending_begins : (o : Option CommitTimeOrder) (time : ObjectId → ℤ) (ids : List ObjectId) → IsBeginningBy (IsNextOne o time next starts) ids → IsBeginningBy (IsPending next starts) ids
  pending_begins o time ids h taken rest i e = next_is_pending o time taken i (h taken rest i e)

  pub pending_list : (o : Option CommitTimeOrder) (time : ObjectId → ℤ) (ids : List ObjectId) → IsListBy (IsNextOne o time next starts) ids → IsListBy (IsPending next starts) ids
  pending_list o time ids h = record { begins = pending_begins o time ids h.begins; ends = none_has (IsPending next starts) (IsNextOne o time next starts) ids (picks o time ids) h.ends }

  -- where what starts reach is among finitely many ids
  module _ (all : List ObjectId) (finite : (i : ObjectId) → Reaches next starts i → Contains all i) where
    goes_on : (taken : List ObjectId) (i : ObjectId) → AreReached next starts taken → IsPending next starts taken i → GoesOn all (AreReached next starts) taken i
    goes_on taken i reached p = record {
      known = among_from i all (finite i (reached_by_named next starts taken reached i p.0));
      is_new = false_from_ne_true _ (λ e. p.1 (among_is i taken e));
      fits = reached_more next starts taken i reached p;
    }

    pub order_exists : (o : Option CommitTimeOrder) (time : ObjectId → ℤ) → (ids : List ObjectId) × IsListBy (IsNextOne o time next starts) ids
    order_exists o time =
        some_list all (IsPending next starts) (IsNextOne o time next starts) (AreReached next starts) (λ taken i fits. next_is_pending o time taken i) (λ taken fits. picks o time taken) (λ taken i fits n. goes_on taken i fits (next_is_pending o time taken i n)) (λ c m. absurd (no_member c m))

    -- what is reached, in a list
    pub reached_list : (list : List ObjectId) × ((i : ObjectId) → Contains list i ↔ Reaches next starts i)
    reached_list =
        let order : (ids : List ObjectId) × IsListBy (IsNextOne None (λ i. pos 0) next starts) ids = order_exists None (λ i. pos 0) in
        let list : IsListBy (IsPending next starts) order.0 = pending_list None (λ i. pos 0) order.0 order.1 in
        (order.0, λ i. (given_is_reached next starts order.0 list.begins i, reached_is_given next starts order.0 list i))

-- all parents that the store names
abbrev all_parents : Objects → List ObjectId
all_parents objects = flat_map (λ e. parents_in (commit_of_object e.0 (Some e.1))) (map_of.entries objects)

parents_named : (objects : Objects) (c i : ObjectId) → Contains (parents_of objects c) i → is_among i (all_parents objects) ≡ true
parents_named objects c i h = go (map_of.get objects c) refl
  where
    go : (o : Option Object) → map_of.get objects c ≡ o → is_among i (all_parents objects) ≡ true
    go None e = absurd (no_member i (subst (λ x. Contains (parents_in (commit_of_object c x)) i) e h))
    go (Some object) e =
        among_flat (λ x. parents_in (commit_of_object x.0 (Some x.1))) (map_of.entries objects) (c, object) i
        (found_entry (map_of.entries objects) c object (sym (map_of.get-entries objects c) ∙ e))
        (among_from i _ (subst (λ x. Contains (parents_in (commit_of_object c x)) i) e h))

-- each id that is named next is a parent
abbrev pub AreParents : Objects → (ObjectId → List ObjectId) → Type 0
AreParents objects next = (c i : ObjectId) → Contains (next c) i → Contains (parents_of objects c) i

-- the starts and all parents that the store names, among which is all that the starts reach through parents
abbrev pub known_ids : Objects → List ObjectId → List ObjectId
known_ids objects starts = starts ++ all_parents objects

pub known : (objects : Objects) (next : ObjectId → List ObjectId) (starts : List ObjectId) → AreParents objects next → (i : ObjectId) → Reaches next starts i → Contains (known_ids objects starts) i
known objects next starts parents i (start s) = Contains-append_left starts (all_parents objects) i s
known objects next starts parents i (step {c = c} r n) = Contains-append_right starts (all_parents objects) i (among_is i (all_parents objects) (parents_named objects c i (parents c i n)))
