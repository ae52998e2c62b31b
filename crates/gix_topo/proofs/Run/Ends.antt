-- Every topological walk ends, asks about each commit once, and is silent after a fault. None of it needs a sound history.
use Rattle.std.proofs.Common.{◌≡◌, ◌+◌, ◌≤◌, ℕ, suc, List, [], ◌∷◌, ◌++◌, length, Bool, true, false, ◌||◌, cond, Option, Some, None, Result, Err, Contains, refl, sym, ap, subst, inl, inr, ⊎_elim, ◌∙◌, arith, length-append, le_refl}
use Rattle.std.proofs.Common.{le_trans, true≢false}
use Rattle.std.proofs.lemmas.List.{length-map}
use Rattle.gix_topo.proofs.Common.{or_cases, or_right, or_from, or_parts, false_from_ne_true, Yields, ObjectId, id_cmp, is_same, is_among, Objects, Info, Error, AreDistinct, TopoWalk, Ready, Counted, ready_ids, named_ids, IsNextReady}
use Rattle.gix_topo.proofs.Common.{IsLeft, IsOtherParent, IsMetFault, IsFault, IsLate, IsStarted, Takes, after, Next, refused, left_beside, answers_left, AreApart, given_ids, id_total, same_is, same_itself, among_from, among_is}
use Rattle.gix_topo.proofs.Common.{Contains-here, Contains-there, Contains-cons_cases, no_member, fresh, fresh_agree, new_less, times_once}
use Rattle.std.specs.FinSet as set
use Rattle.gix_topo.specs.declared.Error.TheVariants as error
use Rattle.gix_object.specs.declared.find.existing_iter.Error.TheVariants as existing
use Rattle.gix_topo.specs.Walk.{was_ready, failed}
use Rattle.gix_revwalk.specs.Asking.{AsksAll, none, more}
use Rattle.gix_revwalk.proofs.NewIds.{times}
use Rattle.gix_topo.proofs.Readiness.IsReady.{distinct_times}
use Rattle.gix_topo.proofs.Readiness.ReadyIds.{chosen_in, chosen_length, chosen_among, chosen_once, held_among, held_once, in_ids}
use Rattle.gix_topo.proofs.Run.Draws.{Draws, rests, shows, hides, breaks, all_drawn, ended_drawn, nothing_more}

-- distinct ids that are new no more
all_new : (s : ObjectId → Bool) (xs ids : List ObjectId) → AreDistinct ids → ((i : ObjectId) → Contains ids i → is_among i xs ≡ true) → ((i : ObjectId) → Contains ids i → s i ≡ false) → length (fresh (λ j. is_among j ids || s j) xs) + length ids ≡ length (fresh s xs)
all_new s xs [] d a n = omega arith
all_new s xs (i ∷ ids) d a n =
    let r : length (fresh (λ j. is_among j ids || s j) xs) + length ids ≡ length (fresh s xs) = all_new s xs ids d.1 (λ j c. a j (Contains-there j i ids c)) (λ j c. n j (Contains-there j i ids c)) in
    let unseen : (is_among i ids || s i) ≡ false = or_from (is_among i ids) (s i) (false_from_ne_true _ (λ t. d.0 (among_is i ids t))) (n i (Contains-here i ids)) in
    let e : suc (length (fresh (λ j. is_same j i || (is_among j ids || s j)) xs)) ≡ length (fresh (λ j. is_among j ids || s j) xs) = new_less (λ j. is_among j ids || s j) xs i (a i (Contains-here i ids)) unseen in
    let g : length (fresh (λ j. (is_same j i || is_among j ids) || s j) xs) ≡ length (fresh (λ j. is_same j i || (is_among j ids || s j)) xs) = ap length (fresh_agree _ _ xs (λ j h. turned (is_same j i) (is_among j ids) (s j))) in
    omega arith
  where
    turned : (a b c : Bool) → ((a || b) || c) ≡ (a || (b || c))
    turned a b c = grind arith

left_most : (n : ℕ) (ready : List Ready) → left_beside n ready ≤ n + length ready
left_most n [] = omega arith
left_most n (r ∷ ready) = omega arith

left_all : (n : ℕ) (ready : List Ready) (m : ℕ) → length ready ≡ suc m → left_beside n ready ≡ n + length ready
left_all n [] m e = absurd (omega arith)
left_all n (r ∷ ready) m e = refl

module _ {F P : Type 0} (objects : F → Objects) (faulty : F → ObjectId → Type 0) (answers : P → ObjectId → Bool → P → Type 0) where
  made_then : (w : TopoWalk F P) (c : Ready) (counted : Counted) (ready : List Ready) (predicate : P) (t : Takes objects faulty answers w c counted ready) (j : ObjectId) → was_ready (after objects faulty answers w c counted ready predicate) j ≡ (is_among j (ready_ids t.added) || was_ready w j)
  made_then w c counted ready predicate t j =
      (λ k. set.contains-insert id_total w.taken c.id j k || held_among t.others t.added ready t.holds j k)
      ∙ turned (is_same j c.id) (set.contains w.taken j) (is_among j (ready_ids t.others)) (is_among j (ready_ids t.added))
      ∙ ap (λ b. is_among j (ready_ids t.added) || (set.contains w.taken j || b)) (sym (chosen_among w.plan.sorting w.ready c t.others t.chosen j))
    where
      turned : (c t o a : Bool) → ((c || t) || (o || a)) ≡ (a || (t || (c || o)))
      turned c t o a = grind arith

  abbrev new_in : TopoWalk F P → ℕ
  new_in w = length (fresh (was_ready w) (named_ids (objects w.plan.store) w.plan.rows))

  pub takes_left : (w : TopoWalk F P) (c : Ready) (counted : Counted) (ready : List Ready) (predicate : P) → Takes objects faulty answers w c counted ready → suc (answers_left objects (after objects faulty answers w c counted ready predicate)) ≤ answers_left objects w
  takes_left w c counted ready predicate t =
      let named : List ObjectId = named_ids (objects w.plan.store) w.plan.rows in
      let a : length (fresh (λ j. is_among j (ready_ids t.added) || was_ready w j) named) + length (ready_ids t.added) ≡ new_in w = all_new (was_ready w) named (ready_ids t.added) t.adds.distinct t.adds.named t.adds.unmade in
      let b : new_in (after objects faulty answers w c counted ready predicate) ≡ length (fresh (λ j. is_among j (ready_ids t.added) || was_ready w j) named) = ap length (fresh_agree _ _ named (λ j h. made_then w c counted ready predicate t j)) in
      let l : length (ready_ids t.added) ≡ length t.added = length-map t.added (λ r. r.id) in
      let h : length ready ≡ length (t.others ++ t.added) = ap length t.holds in
      let j : length (t.others ++ t.added) ≡ length t.others + length t.added = length-append t.others t.added in
      let s : length w.ready ≡ suc (length t.others) = chosen_length w.plan.sorting w.ready c t.others t.chosen in
      let x : answers_left objects w ≡ new_in w + length w.ready = left_all (new_in w) w.ready (length t.others) s in
      let y : answers_left objects (after objects faulty answers w c counted ready predicate) ≤ new_in (after objects faulty answers w c counted ready predicate) + length ready = left_most _ ready in
      omega arith

  -- each answer leaves less
  draws_left : {w new : TopoWalk F P} {ids : List ObjectId} {list : List (Result Info Error)} → Draws objects faulty answers w ids list new → length list + answers_left objects new ≤ answers_left objects w
  draws_left (rests {w = w}) = omega arith
  draws_left (shows {w = w} {c = c} {counted = counted} {ready = ready} {q = q} t a is d) = let l = takes_left w c counted ready q t in let r = draws_left d in omega arith
  draws_left (hides {w = w} {c = c} {counted = counted} {ready = ready} {q = q} t a d) = let l = takes_left w c counted ready q t in let r = draws_left d in omega arith
  draws_left (breaks {w = w} c others ch f l) =
      let n : length w.ready ≡ suc (length others) = chosen_length w.plan.sorting w.ready c others ch in
      let x : answers_left objects w ≡ new_in w + length w.ready = left_all (new_in w) w.ready (length others) n in
      omega arith

  pub next_left : {w new : TopoWalk F P} {answer : Result Info Error} → Next objects faulty answers w (Some answer) new → suc (answers_left objects new) ≤ answers_left objects w
  next_left {w} {new} {answer} n = let l = draws_left (all_drawn objects faulty answers (answer ∷ []) w new (new, n, refl)).1 in omega arith

  -- a list that may follow a walk is no longer than that
  pub drawn_left : (list : List (Result Info Error)) (w new : TopoWalk F P) → Yields (Next objects faulty answers) w list new → length list ≤ answers_left objects w
  drawn_left list w new d = let l = draws_left (all_drawn objects faulty answers list w new d).1 in omega arith

  -- the same fault where more may become ready
  abbrev Fault : TopoWalk F P → (ObjectId → Type 0) → Error → Type 0
  Fault w Q e = IsFault objects faulty w.plan Q e × IsLate objects w.plan Q e

  module _ (w : TopoWalk F P) (Q R : ObjectId → Type 0) (g : (i : ObjectId) → Q i → R i) where
    met_more : (i : ObjectId) (e : Error) → IsMetFault objects faulty w.plan Q i e → IsMetFault objects faulty w.plan R i e
    met_more i e f = record { looked_up = λ a. ⊎_elim (λ r. inl r) (λ k. inr (k.0, g k.0 k.1, k.2)) (f.looked_up a); unrowed = f.unrowed; store_fails = f.store_fails }

    other_more : (i : ObjectId) → IsOtherParent objects w.plan Q i → IsOtherParent objects w.plan R i
    other_more i o = record { unwalked = o.unwalked; child = o.child; ready = g o.child o.ready; named = o.named }

    fault_more : (e : Error) → Fault w Q e → Fault w R e
    fault_more error.MissingIndegreeUnexpected f = f
    fault_more error.MissingStateUnexpected f = f
    fault_more (error.Find existing.Store) f = ((f.0.0, f.0.1, met_more f.0.0 _ f.0.2), f.1)
    fault_more (error.Find (existing.NotFound oid)) f = ((f.0.0, f.0.1, met_more f.0.0 _ f.0.2), λ n. other_more oid (f.1 n))
    fault_more (error.Find (existing.ObjectKind oid expected actual)) f = ((f.0.0, f.0.1, met_more f.0.0 _ f.0.2), λ n. other_more oid (f.1 n))
    fault_more (error.Find existing.Memory) f = absurd f.1
    fault_more (error.ObjectDecode e) f = ((f.0.0, f.0.1, met_more f.0.0 _ f.0.2), λ n. ((f.1 n).0, other_more (f.1 n).0 (f.1 n).1, (f.1 n).2))
    fault_more error.Memory f = f

  -- when a fault comes, and what follows
  fault_left : {w new : TopoWalk F P} {e : Error} → Next objects faulty answers w (Some (Err e)) new → Fault w (IsLeft objects w.plan w.taken) e × (new.ready ≡ [])
  fault_left {e = e} (refused {old = w} {c = c} t a next) =
      let r = fault_left next in
      (fault_more w (IsLeft objects w.plan (set.insert w.taken c.id)) (IsLeft objects w.plan w.taken) (λ i k. record { member = k.member; untaken = λ m. k.untaken (set.contains-insert id_total w.taken c.id i ∙ or_right (is_same i c.id) _ m) }) e r.0, r.1)
  fault_left {e = e} (failed {old = w} c others ch f l) =
      (fault_more w (IsNextReady objects w.plan w.taken c.id) (IsLeft objects w.plan w.taken) (λ i k. record { member = k.ready.member; untaken = λ m. k.ready.left (set.contains-insert id_total w.taken c.id i ∙ or_right (is_same i c.id) _ m) }) e (f, l), refl)

  pub fails : {w new : TopoWalk F P} (e : Error) → Next objects faulty answers w (Some (Err e)) new →
      IsFault objects faulty w.plan (IsLeft objects w.plan w.taken) e × IsLate objects w.plan (IsLeft objects w.plan w.taken) e × ((answer : Option (Result Info Error)) (later : TopoWalk F P) → Next objects faulty answers new answer later → answer ≡ None)
  fails e n = let r = fault_left n in (r.0.0, r.0.1, λ answer later next. nothing_more objects faulty answers answer next r.1)

  pub ended_ready : {w new : TopoWalk F P} → Next objects faulty answers w None new → (new.ready ≡ []) × ((answer : Option (Result Info Error)) (later : TopoWalk F P) → Next objects faulty answers new answer later → answer ≡ None)
  ended_ready n = let e = (ended_drawn objects faulty answers n).2 in (e, λ answer later next. nothing_more objects faulty answers answer next e)

  -- no commit is taken twice
  pub apart_on : (w : TopoWalk F P) (c : Ready) (counted : Counted) (ready : List Ready) (predicate : P) → Takes objects faulty answers w c counted ready → AreApart w → AreApart (after objects faulty answers w c counted ready predicate)
  apart_on w c counted ready predicate t h = record {
    distinct = held_once t.others t.added ready t.holds once.1 t.adds.distinct (λ i m. (fresh i m).2);
    untaken = λ i m. set.contains-insert id_total w.taken c.id i ∙ ⊎_elim (of_others i) (λ a. or_from _ _ (fresh i (among_is i _ a)).1 (fresh i (among_is i _ a)).0) (or_cases _ _ (sym (held_among t.others t.added ready t.holds i) ∙ among_from i _ m));
  }
    where
      once : AreDistinct (c.id ∷ ready_ids t.others)
      once = chosen_once w.plan.sorting w.ready c t.others t.chosen h.distinct

      was : (i : ObjectId) → is_among i (ready_ids w.ready) ≡ (is_same i c.id || is_among i (ready_ids t.others))
      was = chosen_among w.plan.sorting w.ready c t.others t.chosen

      fresh : (i : ObjectId) → Contains (ready_ids t.added) i → (set.contains w.taken i ≡ false) × (is_same i c.id ≡ false) × (is_among i (ready_ids t.others) ≡ false)
      fresh i m = let k = or_parts _ _ (t.adds.unmade i m) in let l = or_parts _ _ (sym (was i) ∙ k.1) in (k.0, l.0, l.1)

      of_others : (i : ObjectId) → is_among i (ready_ids t.others) ≡ true → (is_same i c.id || set.contains w.taken i) ≡ false
      of_others i o = or_from _ _ (false_from_ne_true _ (λ e. once.0 (subst (Contains (ready_ids t.others)) (same_is i c.id e) (among_is i _ o)))) (h.untaken i (among_is i _ (was i ∙ or_right (is_same i c.id) _ o)))

  -- from here on each is taken once
  abbrev AreNew : TopoWalk F P → List ObjectId → Type 0
  AreNew w ids = AreDistinct ids × ((i : ObjectId) → Contains ids i → set.contains w.taken i ≡ false)

  taken_new : (w : TopoWalk F P) (c : Ready) (counted : Counted) (ready : List Ready) (predicate : P) (ids : List ObjectId) → Takes objects faulty answers w c counted ready → AreApart w →
      (AreApart (after objects faulty answers w c counted ready predicate) → AreNew (after objects faulty answers w c counted ready predicate) ids) → AreNew w (c.id ∷ ids)
  taken_new w c counted ready predicate ids t h rest =
      let r : AreNew (after objects faulty answers w c counted ready predicate) ids = rest (apart_on w c counted ready predicate t h) in
      let free : (i : ObjectId) → Contains ids i → (is_same i c.id ≡ false) × (set.contains w.taken i ≡ false) = λ i m. or_parts _ _ (sym (set.contains-insert id_total w.taken c.id i) ∙ r.1 i m) in (
        (λ m. true≢false (sym (same_itself c.id) ∙ (free c.id m).0), r.0),
        λ i m. ⊎_elim (λ e. subst (λ y. set.contains w.taken y ≡ false) e (h.untaken c.id (in_ids w.ready c (chosen_in w.plan.sorting w.ready c t.others t.chosen)))) (λ n. (free i n).1) (Contains-cons_cases i c.id ids m),
      )

  draws_new : {w new : TopoWalk F P} {ids : List ObjectId} {list : List (Result Info Error)} → Draws objects faulty answers w ids list new → AreApart w → AreNew w ids
  draws_new rests h = (tt, λ i m. absurd (no_member i m))
  draws_new (shows {w = w} {c = c} {counted = counted} {ready = ready} {q = q} {ids = ids} t a is d) h = taken_new w c counted ready q ids t h (draws_new d)
  draws_new (hides {w = w} {c = c} {counted = counted} {ready = ready} {q = q} {ids = ids} t a d) h = taken_new w c counted ready q ids t h (draws_new d)
  draws_new (breaks c others ch f l) h = (tt, λ i m. absurd (no_member i m))

  pub started_apart : (w : TopoWalk F P) → IsStarted objects faulty answers w → AreApart w
  started_apart w h = record { distinct = h.distinct; untaken = λ i m. ap (λ s. set.contains s i) h.untaken ∙ set.contains-empty id_cmp i }

  -- what the predicate was asked
  draws_asks : {w new : TopoWalk F P} {ids : List ObjectId} {list : List (Result Info Error)} → Draws objects faulty answers w ids list new → AsksAll answers w.predicate ids new.predicate
  draws_asks rests = none
  draws_asks (shows t a is d) = more a (draws_asks d)
  draws_asks (hides t a d) = more a (draws_asks d)
  draws_asks (breaks c others ch f l) = none

  pub asks_once : (list : List (Result Info Error)) (w new : TopoWalk F P) → IsStarted objects faulty answers w → Yields (Next objects faulty answers) w list new → (ids : List ObjectId) × AsksAll answers w.predicate ids new.predicate × AreDistinct ids
  asks_once list w new h y = let d = all_drawn objects faulty answers list w new y in (d.0, draws_asks d.1, (draws_new d.1 (started_apart w h)).0)

  -- what is given was taken
  given_times : {w new : TopoWalk F P} {ids : List ObjectId} {list : List (Result Info Error)} → Draws objects faulty answers w ids list new → (i : ObjectId) → times i (given_ids list) ≤ times i ids
  given_times rests i = le_refl _
  given_times (shows {c = c} {info = info} t a is d) i = let r = given_times d i in let e : ◌≡◌ {A = ℕ} (cond (is_same i info.id) 1 0) (cond (is_same i c.id) 1 0) = ap (λ j. cond (is_same i j) 1 0) is.same_id in omega arith
  given_times (hides t a d) i = let r = given_times d i in omega arith
  given_times (breaks c others ch f l) i = le_refl _

  pub never_twice : (list : List (Result Info Error)) (w new : TopoWalk F P) → IsStarted objects faulty answers w → Yields (Next objects faulty answers) w list new → AreDistinct (given_ids list)
  never_twice list w new h y =
      let d = all_drawn objects faulty answers list w new y in
      times_once (given_ids list) (λ i. le_trans (given_times d.1 i) (distinct_times d.0 (draws_new d.1 (started_apart w h)).0 i))
