-- What is pending, seen over the definitions: the first new one, or the first of best time.
use Rattle.std.proofs.Common.{◌≡◌, ◌+◌, ℕ, suc, ℤ, List, [], ◌∷◌, ◌++◌, find, Bool, true, false, not, ◌&&◌, ◌||◌, cond, Option, Contains, sym, ap, subst, ⊎_elim, ◌∙◌, arith, true≢false}
use Rattle.gix_simple.proofs.Common.{and_right, map-append, or_comm, false≢true, or_cases, false_from_ne_true, Contains-append_left, Contains-append_right, ObjectId, is_same, is_among, CommitTimeOrder, named_by, Pending, ids_of, same_is, same_itself, TakesBest}
use Rattle.gix_simple.proofs.Common.{among-append, among-one, among_from, among_is, Contains-here, Contains-there, fresh, fresh_agree, fresh-append, fresh_head, IsHead, times-append, times-fresh, times_among}
use Rattle.gix_revwalk.specs.BreadthOrder.{IsFirstNew}
use Rattle.gix_revwalk.specs.TimeOrder.{is_no_worse, IsNextByTime, IsNextOne, IsNoWorse, IsPending}
use Rattle.gix_revwalk.proofs.NewIds.{times, find-new, find-behind, fresh_split}
use Rattle.gix_revwalk.proofs.SomeOrder.{next_is_pending, no_worse_is, itself_is}

-- the pending ids, of all those named and those taken
abbrev pub IsQueue : List ObjectId → List ObjectId → List ObjectId → Type 0
IsQueue named taken ids = ids ≡ fresh (λ j. is_among j taken) named

-- the pending ids where i is about to be taken
abbrev pub IsRest : List ObjectId → List ObjectId → ObjectId → List ObjectId → Type 0
IsRest named taken i ids = ids ≡ fresh (λ j. is_same j i || is_among j taken) named

-- the next ids come in
pub grows : (named taken : List ObjectId) (i : ObjectId) (left ids new : List ObjectId) (seen : ObjectId → Bool) →
    IsRest named taken i left → ids ≡ left ++ fresh seen new → ((j : ObjectId) → is_among j new ≡ true → seen j ≡ is_among j named) →
    ((j : ObjectId) → is_among j taken ≡ true → is_among j named ≡ true) → is_among i named ≡ true → IsQueue (named ++ new) (taken ++ i ∷ []) ids
grows named taken i left ids new seen rest joins alike within here =
    joins
    ∙ ap (λ xs. xs ++ fresh seen new) rest
    ∙ (λ k. fresh_agree (λ j. is_same j i || is_among j taken) (λ j. is_among j (taken ++ i ∷ [])) named (λ j n. pushed j) k ++ fresh_agree seen (λ j. is_among j named || is_among j (taken ++ i ∷ [])) new (λ j n. let a = alike j n in let t = inside j in grind arith) k)
    ∙ sym (fresh-append (λ j. is_among j (taken ++ i ∷ [])) named new)
  where
    pushed : (j : ObjectId) → (is_same j i || is_among j taken) ≡ is_among j (taken ++ i ∷ [])
    pushed j = or_comm (is_same j i) (is_among j taken) ∙ sym (among-append j taken (i ∷ []) ∙ ap (λ b. is_among j taken || b) (among-one j i))

    inside : (j : ObjectId) → is_among j (taken ++ i ∷ []) ≡ true → is_among j named ≡ true
    inside j t = ⊎_elim (λ e. subst (λ y. is_among y named ≡ true) (sym (same_is j i e)) here) (λ e. within j e) (or_cases (is_same j i) (is_among j taken) (pushed j ∙ t))

-- how often an id is pending
counted : (named taken ids : List ObjectId) → IsQueue named taken ids → (j : ObjectId) → times j ids ≡ cond (not (is_among j taken) && is_among j named) 1 0
counted named taken ids q j = ap (times j) q ∙ times-fresh j (λ j. is_among j taken) named

is_pending : (n t : Bool) → n ≡ true → t ≡ false → ◌≡◌ {A = ℕ} (cond (not t && n) 1 0) 1
is_pending n t a b = grind arith

-- a pending id is among them
in_queue : (next : ObjectId → List ObjectId) (starts taken ids : List ObjectId) → IsQueue (named_by next starts taken) taken ids → (i : ObjectId) → IsPending next starts taken i → is_among i ids ≡ true
in_queue next starts taken ids q i p =
    times_among i ids 0 (counted (named_by next starts taken) taken ids q i ∙ is_pending _ _ (among_from i _ p.0) (false_from_ne_true _ (λ t. p.1 (among_is i taken t))))

-- nothing is pending: the list ends
pub ends : (o : Option CommitTimeOrder) (time : ObjectId → ℤ) (next : ObjectId → List ObjectId) (starts taken : List ObjectId) → IsQueue (named_by next starts taken) taken [] → (i : ObjectId) → IsNextOne o time next starts taken i → ⊥
ends o time next starts taken q i n = false≢true (in_queue next starts taken [] q i (next_is_pending next starts o time taken i n))

-- what is chosen first
pub heads : (time : ObjectId → ℤ) (next : ObjectId → List ObjectId) (starts taken : List ObjectId) (i : ObjectId) (left : List ObjectId) → IsQueue (named_by next starts taken) taken (i ∷ left) →
    IsFirstNew next starts taken i × IsRest (named_by next starts taken) taken i left × (is_among i (named_by next starts taken) ≡ true)
heads time next starts taken i left q =
    let h : IsHead (λ j. is_among j taken) (named_by next starts taken) i left = fresh_head _ _ i left (sym q) in
    (h.found, sym h.others, h.among)

in_pending : (i : ObjectId) (ps : List Pending) → is_among i (ids_of ps) ≡ true → (p : Pending) × Contains ps p × (p.id ≡ i)
in_pending i [] e = absurd (false≢true e)
in_pending i (p ∷ ps) e = ⊎_elim (λ s. (p, Contains-here p ps, sym (same_is i p.id s))) (λ t. let r : (q : Pending) × Contains ps q × (q.id ≡ i) = in_pending i ps t in (r.0, Contains-there r.0 p ps r.1, r.2)) (or_cases _ _ e)

counted_one : (n t : Bool) (x : ℕ) → suc x ≡ cond (not t && n) 1 0 → (n ≡ true) × (t ≡ false)
counted_one n t x e = (grind arith, grind arith)

no_worse_test : (order : CommitTimeOrder) (a b : ℤ) → (IsNoWorse order a b → ⊥) → is_no_worse order a b ≡ false
no_worse_test order a b n = false_from_ne_true _ (λ e. n (no_worse_is order a b e))

-- what is chosen by time
module _ (order : CommitTimeOrder) (time : ObjectId → ℤ) (next : ObjectId → List ObjectId) (starts taken : List ObjectId) (pending : List Pending) (p : Pending) (others : List Pending)
    (q : IsQueue (named_by next starts taken) taken (ids_of pending)) (takes : TakesBest order pending p others) (timed : (r : Pending) → Contains pending r → r.time ≡ time r.id) where
  abbrev named : List ObjectId
  named = named_by next starts taken

  placed : fresh (λ j. is_among j taken) named ≡ ids_of takes.before ++ p.id ∷ ids_of takes.behind
  placed = sym q ∙ ap ids_of takes.place ∙ map-append (λ r. r.id) takes.before (p ∷ takes.behind)

  in_place : (r : Pending) → Contains (takes.before ++ p ∷ takes.behind) r → Contains pending r
  in_place r c = subst (λ ps. Contains ps r) (sym takes.place) c

  here : p.time ≡ time p.id
  here = timed p (in_place p (Contains-append_right takes.before (p ∷ takes.behind) p (Contains-here p takes.behind)))

  untaken : (is_among p.id named ≡ true) × (is_among p.id taken ≡ false)
  untaken =
      let often : times p.id (ids_of takes.before) + (cond (is_same p.id p.id) 1 0 + times p.id (ids_of takes.behind)) ≡ cond (not (is_among p.id taken) && is_among p.id named) 1 0 =
      sym (times-append p.id (ids_of takes.before) (p.id ∷ ids_of takes.behind)) ∙ ap (times p.id) (sym placed) ∙ times-fresh p.id (λ j. is_among j taken) named in
      let one : ◌≡◌ {A = ℕ} (cond (is_same p.id p.id) 1 0) 1 = ap (λ b. cond b 1 0) (same_itself p.id) in
      counted_one _ _ (times p.id (ids_of takes.before) + times p.id (ids_of takes.behind)) (omega (arith, often, one))

  -- those before it are worse
  worse : (j : ObjectId) → Contains (ids_of takes.before) j → (not (is_among j taken) && is_no_worse order (time j) (time p.id)) ≡ false
  worse j c =
      let r : (r : Pending) × Contains takes.before r × (r.id ≡ j) = in_pending j takes.before (among_from j (ids_of takes.before) c) in
      let there : r.0.time ≡ time j = timed r.0 (in_place r.0 (Contains-append_left takes.before (p ∷ takes.behind) r.0 r.1)) ∙ ap time r.2 in
      and_right (not (is_among j taken)) _ (no_worse_test order (time j) (time p.id) (λ w. takes.first r.0 r.1 (subst (λ t. IsNoWorse order t p.time) (sym there) (subst (λ t. IsNoWorse order (time j) t) (sym here) w))))

  pub bests : IsNextByTime order time next starts taken p.id × IsRest named taken p.id (ids_of others) × (is_among p.id named ≡ true)
  bests = (
    record {
      best = record {
        among = (among_is p.id named untaken.0, λ c. true≢false (sym (among_from p.id taken c) ∙ untaken.1));
        best = λ other n.
            let r : (r : Pending) × Contains pending r × (r.id ≡ other) = in_pending other pending (in_queue next starts taken (ids_of pending) q other n) in
            let there : r.0.time ≡ time other = timed r.0 r.1 ∙ ap time r.2 in
            subst (λ t. IsNoWorse order (time p.id) t) there (subst (λ t. IsNoWorse order t r.0.time) here (takes.best r.0 r.1));
      };
      first =
          sym (find-new (λ j. not (is_among j taken) && is_no_worse order (time j) (time p.id)) (λ j. is_among j taken) named (λ j t. ap (λ b. not b && is_no_worse order (time j) (time p.id)) t))
          ∙ ap (find (λ j. not (is_among j taken) && is_no_worse order (time j) (time p.id))) placed
          ∙ find-behind (λ j. not (is_among j taken) && is_no_worse order (time j) (time p.id)) (ids_of takes.before) (ids_of takes.behind) p.id worse (ap (λ b. not b && is_no_worse order (time p.id) (time p.id)) untaken.1 ∙ itself_is order (time p.id));
    },
    ap ids_of takes.left ∙ map-append (λ r. r.id) takes.before takes.behind ∙ sym (fresh_split (λ j. is_among j taken) named (ids_of takes.before) (ids_of takes.behind) p.id placed),
    untaken.0,
  )
