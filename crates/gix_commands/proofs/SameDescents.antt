-- Date order and topological order are those of the statement.
use Rattle.std.proofs.Common.{◌≡◌, ℕ, ℤ, ◌≤ℤ◌, int_le, List, [], ◌∷◌, ◌++◌, codes, filter, reverse, Bool, true, false, cond, not, ◌&&◌, Contains, refl, sym, ap, subst, ◌∙◌, ⊎_elim, arith}
use Rattle.gix_commands.proofs.Common.{false≢true, ObjectId, is_among, among_from, among_is, Contains-here, Contains-there, Contains-cons_cases, no_member, NewestFirst, IsListBy, IsInWalk, AreMadeReady}
use Rattle.std.proofs.lemmas.Int.{ints}
use Rattle.gix_revwalk.specs.TimeOrder as times
use Rattle.gix_topo.specs.TopoOrder as topo
use Rattle.gix_topo.specs.WalkSet as walk
use Rattle.gix_topo.specs.declared.Sorting.{Sorting}
use Rattle.gix_topo.specs.declared.Sorting.TheVariants as order
use Rattle.gix_topo.specs.Laws.{IsNextBy}
use Rattle.gix_topo.proofs.Readiness.IsReady.{in_walk_top}
use Rattle.gix_topo.proofs.Run.ReadyInTurn.{ready_list}
use Rattle.gix_statement.specs.WholeStatement.{IsBest, IsNext, Keeps, date, empty, kept, passed, IsShown, IsReady, by_time, topo as topo_next}
use Rattle.gix_commands.proofs.SameOrders.{reaches, reaches_back, found_first, not_taken, no_worse_test}

-- the name of an order
abbrev pub name_down : Sorting → List ℕ
name_down order.DateOrder = codes "date"
name_down order.TopoOrder = codes "topo"

-- a list by rising time
module _ (time : ObjectId → ℤ) where
  abbrev AreAtLeast : ℤ → List ObjectId → Type 0
  AreAtLeast t [] = Unit {0}
  AreAtLeast t (j ∷ ids) = (t ≤ℤ time j) × AreAtLeast t ids

  abbrev Rises : List ObjectId → Type 0
  Rises [] = Unit {0}
  Rises (j ∷ ids) = AreAtLeast (time j) ids × Rises ids

  le_is : (s t : ℤ) → int_le s t ≡ true → s ≤ℤ t
  le_is s t e = grind (arith, ints)

  le_from : (s t : ℤ) → s ≤ℤ t → int_le s t ≡ true
  le_from s t l = grind (arith, ints)

  le_not : (s t : ℤ) → int_le s t ≡ false → t ≤ℤ s
  le_not s t e = grind (arith, ints)

  le_trans : (s t u : ℤ) → s ≤ℤ t → t ≤ℤ u → s ≤ℤ u
  le_trans s t u l m = omega (arith, ints)

  at_least_le : (s t : ℤ) (ids : List ObjectId) → s ≤ℤ t → AreAtLeast t ids → AreAtLeast s ids
  at_least_le s t [] l h = tt
  at_least_le s t (j ∷ ids) l h = (le_trans s t (time j) l h.0, at_least_le s t ids l h.1)

  at_least_insert : (t : ℤ) (i : ObjectId) (ids : List ObjectId) → t ≤ℤ time i → AreAtLeast t ids → AreAtLeast t (topo.insert_by_time time i ids)
  at_least_insert t i [] l h = (l, tt)
  at_least_insert t i (j ∷ ids) l h = go (int_le (time i) (time j)) (at_least_insert t i ids l h.1)
    where
      go : (b : Bool) → AreAtLeast t (topo.insert_by_time time i ids) → AreAtLeast t (cond b (i ∷ j ∷ ids) (j ∷ topo.insert_by_time time i ids))
      go true r = (l, h)
      go false r = (h.0, r)

  rises_insert : (i : ObjectId) (ids : List ObjectId) → Rises ids → Rises (topo.insert_by_time time i ids)
  rises_insert i [] h = (tt, tt)
  rises_insert i (j ∷ ids) h = go (int_le (time i) (time j)) refl (rises_insert i ids h.1)
    where
      go : (b : Bool) → int_le (time i) (time j) ≡ b → Rises (topo.insert_by_time time i ids) → Rises (cond b (i ∷ j ∷ ids) (j ∷ topo.insert_by_time time i ids))
      go true e r = let l = le_is (time i) (time j) e in ((l, at_least_le (time i) (time j) ids l h.0), h)
      go false e r = (at_least_insert (time j) i ids (le_not (time i) (time j) e) h.0, r)

  rises_by_time : (ids : List ObjectId) → Rises (topo.by_time time ids)
  rises_by_time [] = tt
  rises_by_time (i ∷ ids) = rises_insert i (topo.by_time time ids) (rises_by_time ids)

  abbrev earlier : ObjectId → List ObjectId → List ObjectId
  earlier i ids = filter (λ j. not (int_le (time i) (time j))) ids

  abbrev later : ObjectId → List ObjectId → List ObjectId
  later i ids = filter (λ j. int_le (time i) (time j)) ids

  none_earlier : (i : ObjectId) (ids : List ObjectId) → AreAtLeast (time i) ids → earlier i ids ≡ []
  none_earlier i [] h = refl
  none_earlier i (j ∷ ids) h = ap (λ b. cond (not b) (j ∷ earlier i ids) (earlier i ids)) (le_from (time i) (time j) h.0) ∙ none_earlier i ids h.1

  all_later : (i : ObjectId) (ids : List ObjectId) → AreAtLeast (time i) ids → later i ids ≡ ids
  all_later i [] h = refl
  all_later i (j ∷ ids) h = ap (λ b. cond b (j ∷ later i ids) (later i ids)) (le_from (time i) (time j) h.0) ∙ ap (λ xs. j ∷ xs) (all_later i ids h.1)

  -- an id that is put in is between what is earlier and what is not
  insert_parts : (i : ObjectId) (ids : List ObjectId) → Rises ids → topo.insert_by_time time i ids ≡ earlier i ids ++ i ∷ later i ids
  insert_parts i [] h = refl
  insert_parts i (j ∷ ids) h = go (int_le (time i) (time j)) refl (insert_parts i ids h.1)
    where
      go : (b : Bool) → int_le (time i) (time j) ≡ b → topo.insert_by_time time i ids ≡ earlier i ids ++ i ∷ later i ids
          → cond b (i ∷ j ∷ ids) (j ∷ topo.insert_by_time time i ids) ≡ cond (not b) (j ∷ earlier i ids) (earlier i ids) ++ i ∷ cond b (j ∷ later i ids) (later i ids)
      go true e r =
          let least : AreAtLeast (time i) ids = at_least_le (time i) (time j) ids (le_is (time i) (time j) e) h.0 in
          (λ k. sym (none_earlier i ids least) k ++ i ∷ j ∷ sym (all_later i ids least) k)
      go false e r = ap (λ xs. j ∷ xs) r

-- a list without repeats that is gone through is a list gone through that leaves repeats out
module _ (P Q : ObjectId → Type 0) (to : (i : ObjectId) → P i → Q i) (from : (i : ObjectId) → Q i → P i) where
  abbrev IsSame : List ObjectId → List ObjectId → Type 0
  IsSame seen before = (j : ObjectId) → ((is_among j seen ≡ true) → Contains before j) × (Contains before j → is_among j seen ≡ true)

  same_more : (i : ObjectId) (seen before : List ObjectId) → IsSame seen before → IsSame (i ∷ seen) (i ∷ before)
  same_more i seen before same j = (
    λ a. ⊎_elim (λ e. subst (Contains (i ∷ before)) e (Contains-here i before)) (λ t. Contains-there j i before ((same j).0 (among_from j seen t))) (Contains-cons_cases j i seen (among_is j (i ∷ seen) a)),
    λ c. among_from j (i ∷ seen) (⊎_elim (λ e. subst (Contains (i ∷ seen)) e (Contains-here i seen)) (λ t. Contains-there j i seen (among_is j seen ((same j).1 t))) (Contains-cons_cases j i before c)),
  )

  same_still : (i : ObjectId) (seen before : List ObjectId) → is_among i seen ≡ true → IsSame seen before → IsSame seen (i ∷ before)
  same_still i seen before known same j = (λ a. Contains-there j i before ((same j).0 a), λ c. ⊎_elim (λ e. subst (λ x. is_among x seen ≡ true) e known) (same j).1 (Contains-cons_cases j i before c))

  abbrev AtFirst : List ObjectId → ObjectId → List ObjectId → Type 0
  AtFirst before i after = Q i × (Contains before i → ⊥)

  abbrev AtLast : List ObjectId → ObjectId → List ObjectId → Type 0
  AtLast before i after = Q i × (Contains after i → ⊥)

  keeps_first : (ids seen before those : List ObjectId) → IsSame seen before → topo.Keeps P (topo.distinct_after seen ids) those → Keeps AtFirst before ids those
  keeps_first [] seen before those same topo.none = empty
  keeps_first (i ∷ ids) seen before those same k = go (is_among i seen) refl (keeps_first ids seen (i ∷ before) those) (λ rest. keeps_first ids (i ∷ seen) (i ∷ before) rest (same_more i seen before same)) k
    where
      take_it : is_among i seen ≡ false → (all : List ObjectId) → ((rest : List ObjectId) → topo.Keeps P (topo.distinct_after (i ∷ seen) ids) rest → Keeps AtFirst (i ∷ before) ids rest) → topo.Keeps P (i ∷ topo.distinct_after (i ∷ seen) ids) all → Keeps AtFirst before (i ∷ ids) all
      take_it new all more (topo.kept {those = rest} p k) = kept (to i p, λ c. false≢true (sym new ∙ (same i).1 c)) (more rest k)
      take_it new all more (topo.passed n k) = passed (λ q. n (from i q.0)) (more all k)

      go : (t : Bool) → is_among i seen ≡ t → (IsSame seen (i ∷ before) → topo.Keeps P (topo.distinct_after seen ids) those → Keeps AtFirst (i ∷ before) ids those) → ((rest : List ObjectId) → topo.Keeps P (topo.distinct_after (i ∷ seen) ids) rest → Keeps AtFirst (i ∷ before) ids rest)
          → topo.Keeps P (cond t (topo.distinct_after seen ids) (i ∷ topo.distinct_after (i ∷ seen) ids)) those → Keeps AtFirst before (i ∷ ids) those
      go true known a b k = passed (λ q. q.1 ((same i).0 known)) (a (same_still i seen before known same) k)
      go false new a b k = take_it new those b k

  keeps_last : (ids before those : List ObjectId) → topo.Keeps P (topo.last_places ids) those → Keeps AtLast before ids those
  keeps_last [] before those topo.none = empty
  keeps_last (i ∷ ids) before those k = go (is_among i ids) refl (keeps_last ids (i ∷ before)) k
    where
      take_it : is_among i ids ≡ false → (all : List ObjectId) → ((rest : List ObjectId) → topo.Keeps P (topo.last_places ids) rest → Keeps AtLast (i ∷ before) ids rest) → topo.Keeps P (i ∷ topo.last_places ids) all → Keeps AtLast before (i ∷ ids) all
      take_it new all more (topo.kept {those = rest} p k) = kept (to i p, λ c. false≢true (sym new ∙ among_from i ids c)) (more rest k)
      take_it new all more (topo.passed n k) = passed (λ q. n (from i q.0)) (more all k)

      go : (t : Bool) → is_among i ids ≡ t → ((rest : List ObjectId) → topo.Keeps P (topo.last_places ids) rest → Keeps AtLast (i ∷ before) ids rest) → topo.Keeps P (cond t (topo.last_places ids) (i ∷ topo.last_places ids)) those → Keeps AtLast before (i ∷ ids) those
      go true known more k = passed (λ q. q.1 (among_is i ids known)) (more those k)
      go false new more k = take_it new those more k

module _ (parents followed : ObjectId → List ObjectId) (time : ObjectId → ℤ) (tips hidden : List ObjectId) where
  abbrev In : ObjectId → Type 0
  In = IsInWalk followed parents tips hidden

  pub shown : (i : ObjectId) → In i → IsShown parents followed time tips hidden i
  shown i m = (reaches followed tips i m.reached, λ r. m.outside (reaches_back parents hidden i r))

  pub shown_back : (i : ObjectId) → IsShown parents followed time tips hidden i → In i
  shown_back i s = record { reached = reaches_back followed tips i s.0; outside = λ r. s.1 (reaches parents hidden i r) }

  ready : (taken : List ObjectId) (i : ObjectId) → walk.IsReady followed In (Contains taken) i → IsReady parents followed time tips hidden taken i
  ready taken i r = (shown i r.member, r.left, λ child s n. r.children child (record { child = shown_back child s; parent = r.member; named = n }))

  ready_back : (taken : List ObjectId) (i : ObjectId) → IsReady parents followed time tips hidden taken i → walk.IsReady followed In (Contains taken) i
  ready_back taken i p = record { member = shown_back i p.0; left = p.1; children = λ d c. p.2 d (shown d c.child) c.named }

  childless : (i : ObjectId) → walk.IsChildless followed In i → IsReady parents followed time tips hidden [] i
  childless i c = (shown i c.member, λ m. no_member i m, λ child s n. absurd (c.alone child (record { child = shown_back child s; parent = c.member; named = n })))

  childless_back : (i : ObjectId) → IsReady parents followed time tips hidden [] i → walk.IsChildless followed In i
  childless_back i p = record { member = shown_back i p.0; alone = λ d c. no_member d (p.2 d (shown d c.child) c.named) }

  by_time_same : (ids : List ObjectId) → topo.by_time time ids ≡ by_time parents followed time tips hidden ids
  by_time_same [] = refl
  by_time_same (i ∷ ids) = insert_parts time i (topo.by_time time ids) (rises_by_time time ids) ∙ ap (λ xs. filter (λ j. not (int_le (time i) (time j))) xs ++ i ∷ filter (λ j. int_le (time i) (time j)) xs) (by_time_same ids)

  are_made_ready : (taken made : List ObjectId) → topo.IsMadeReady time followed In tips taken made → AreMadeReady parents followed time tips hidden taken made
  are_made_ready [] made h = (h.0, keeps_first (walk.IsChildless followed In) (IsReady parents followed time tips hidden []) childless childless_back tips [] [] h.0 (λ j. (λ a. among_is j [] a, λ c. absurd (no_member j c))) h.1, h.2 ∙ by_time_same h.0)
  are_made_ready (c ∷ taken) made h = (
    h.0,
    h.1,
    are_made_ready taken h.0 h.2,
    h.4,
    keeps_last (walk.IsReady followed In (Contains (c ∷ taken))) (IsReady parents followed time tips hidden (c ∷ taken)) (ready (c ∷ taken)) (ready_back (c ∷ taken)) (followed c) [] h.1 h.3,
  )

  abbrev Turn : List ObjectId → List ℕ → ObjectId → Type 0
  Turn taken name i = IsNext parents followed time tips hidden taken i name

  -- what comes next comes next on the page, where it is ready
  next_there : (by : Sorting) (taken : List ObjectId) (i : ObjectId) → walk.IsReady followed In (Contains taken) i → IsNextBy by time followed In tips taken i → Turn taken (name_down by) i
  next_there order.DateOrder taken i r h =
      date h.0 (are_made_ready (reverse taken) h.0 h.1)
      (found_first (λ j. not (is_among j taken) && times.is_no_worse NewestFirst (time j) (time i)) (IsBest (λ a b. time b ≤ℤ time a) (IsReady parents followed time tips hidden taken)) h.0 i h.2.first
      (λ j b. ap (λ x. x && times.is_no_worse NewestFirst (time j) (time i)) (not_taken j taken b.0.1) ∙ no_worse_test NewestFirst (time j) (time i) (b.1 i (ready taken i r)))
      (ready taken i r, λ other p. h.2.best.best other (ready_back taken other p)))
  next_there order.TopoOrder taken i r h =
      topo_next h.0 (are_made_ready (reverse taken) h.0 h.1)
      (found_first (λ j. not (is_among j taken)) (IsReady parents followed time tips hidden taken) (reverse h.0) i h.2 (λ j p. not_taken j taken p.1) (ready taken i r))

  ready_there : (by : Sorting) (taken : List ObjectId) (i : ObjectId) → Turn taken (name_down by) i → IsReady parents followed time tips hidden taken i
  ready_there order.DateOrder taken i (date made is f) = f.4.0
  ready_there order.TopoOrder taken i (topo_next made is f) = f.4

  pub in_order_down : (within : (c i : ObjectId) → Contains (followed c) i → Contains (parents c) i) (by : Sorting) (ids : List ObjectId) → IsListBy (IsNextBy by time followed In tips) ids → IsListBy (λ taken. Turn taken (name_down by)) ids
  in_order_down within by ids h =
      let r = ready_list time followed In tips (in_walk_top followed parents tips hidden within) by ids h in
      record { begins = λ taken rest i e. next_there by taken i (r.begins taken rest i e) (h.begins taken rest i e); ends = λ i n. r.ends i (ready_back ids i (ready_there by ids i n)) }
