-- What a walk holds that was just made of some tips.
use Rattle.std.proofs.Common.{◌≡◌, ◌⊎◌, ◌≤◌, List, [], filter, Bool, true, false, ◌&&◌, ◌||◌, cond, Contains, refl, sym, ap, subst, inl, inr, ⊎_elim, arith, ◌∙◌}
use Rattle.gix_simple.proofs.Common.{false≢true, and_parts, or-false, ObjectId, id_cmp, is_among, Objects, among_from, among_is, no_member, SimpleWalk, bare, time_order, IsMade, ids_of, AreDistinct, new_ids, Becomes, itself, further}
use Rattle.gix_simple.proofs.Common.{AnswersBy, IsFresh, IsNewWalk, fresh, times_among, times-fresh, among-filter, times_once, among_times}
use Rattle.std.specs.FinSet as set
use Rattle.gix_revwalk.specs.declared.Parents.TheVariants as mode
use Rattle.gix_simple.specs.declared.Sorting.TheVariants as sorting
use Rattle.gix_revwalk.proofs.NewIds.{times}
use Rattle.gix_simple.proofs.Treated.{Setting, Stands, Did, keep, all_treated}

-- new ids are distinct
fresh_once : (s : ObjectId → Bool) (xs : List ObjectId) → AreDistinct (fresh s xs)
fresh_once s xs = times_once (fresh s xs) (λ i. let t = times-fresh i s xs in grind arith)

-- they are ids of the list
pub fresh_among : (i : ObjectId) (s : ObjectId → Bool) (xs : List ObjectId) → Contains (fresh s xs) i → is_among i xs ≡ true
fresh_among i s xs h = let t = times-fresh i s xs in let m : 1 ≤ times i (fresh s xs) = among_times i (fresh s xs) (among_from i (fresh s xs) h) in grind arith

-- all of them, where none is old
among_fresh : (i : ObjectId) (xs : List ObjectId) → is_among i xs ≡ true → Contains (fresh (λ j. false) xs) i
among_fresh i xs h = among_is i (fresh (λ j. false) xs) (times_among i (fresh (λ j. false) xs) 0 (times-fresh i (λ j. false) xs ∙ ap (λ b. cond b 1 0) h))

further_on : {P : Type 0} (answers : P → ObjectId → Bool → P → Type 0) {first mid last : P} → Becomes answers first mid → Becomes answers mid last → Becomes answers first last
further_on answers {first} {mid} {last} h itself = h
further_on answers {first} {mid} {last} h (further b a) = further (further_on answers h b) a

module _ {F P : Type 0} (objects : F → Objects) (faulty : F → ObjectId → Type 0) (answers : P → ObjectId → Bool → P → Type 0) (store : F) (predicate : P) (accepts : ObjectId → Bool) (tips : List ObjectId) (walk : SimpleWalk F P) (by_test : AnswersBy answers predicate accepts) (made : IsMade objects faulty answers store predicate tips walk) where
  setting : Setting objects faulty answers
  setting = record { store = store; predicate = predicate; rows = []; parents = mode.All; named = λ i. []; sorting = sorting.BreadthFirst; begun = false; marks = set.empty; accepts = accepts; hidden = λ i. false; starts = tips; by_test = by_test; agreeing = λ row n. absurd (no_member row n) }

  stood : Stands objects faulty answers setting (bare store predicate)
  unfolding setting
  stood = record { store = refl; parents = refl; sorting = refl; marks = refl; begun = refl; tips = refl; rows = inl refl; asked_of = itself; remembered = λ i e. absurd (false≢true (sym (set.contains-empty id_cmp i) ∙ e)); timed = λ order some. cc }

  did : Did objects faulty answers setting tips (bare store predicate) walk
  unfolding setting
  did = all_treated objects faulty answers setting false made refl stood (λ i n. record { marked = set.contains-empty id_cmp i; rowed = λ e. absurd (false≢true e) })

  keep_is : (i : ObjectId) → keep objects faulty answers setting i ≡ accepts i
  unfolding setting
  keep_is i = grind arith

  pending : ids_of walk.pending ≡ new_ids (λ i. false) (filter accepts tips)
  unfolding setting
  pending = did.pending ∙ (λ j. new_ids (λ i. set.contains-empty id_cmp i j) (filter (λ i. keep_is i j) tips))

  seen : (i : ObjectId) → accepts i ≡ true → set.contains walk.seen i ≡ is_among i tips
  seen i a = did.seen i (keep_is i ∙ a) ∙ ap (λ b. is_among i tips || b) (set.contains-empty id_cmp i) ∙ or-false (is_among i tips)

  pub pending_is : (i : ObjectId) → Contains (ids_of walk.pending) i → (accepts i ≡ true) × (is_among i tips ≡ true)
  pending_is i h = and_parts (accepts i) (is_among i tips) (sym (among-filter i accepts tips) ∙ fresh_among i (λ j. false) (filter accepts tips) (subst (λ ids. Contains ids i) pending h))

  is_fresh : IsFresh objects walk accepts
  unfolding setting
  is_fresh = record {
    distinct = subst AreDistinct (sym pending) (fresh_once (λ i. false) (filter accepts tips));
    pending_seen = λ i h. let p = pending_is i h in seen i p.0 ∙ p.1;
    seen = λ i h. decided i h (accepts i) refl;
    remembered = did.rest.remembered;
    shown = λ i. ap (λ s. set.contains s i) did.rest.marks ∙ set.contains-empty id_cmp i;
    unbegun = did.rest.begun;
    timed = λ order some. cc (ap (λ m. time_order m walk.sorting) did.rest.parents, ap (time_order mode.All) did.rest.sorting);
  }
    where
      decided : (i : ObjectId) → set.contains walk.seen i ≡ true → (b : Bool) → accepts i ≡ b → Contains (ids_of walk.pending) i ⊎ (accepts i ≡ false)
      decided i h true a = inl (subst (λ ids. Contains ids i) (sym pending) (among_fresh i (filter accepts tips) (among-filter i accepts tips ∙ ap (λ b. b && is_among i tips) a ∙ sym (seen i a) ∙ h)))
      decided i h false a = inr a

  pub is_new_walk : IsNewWalk objects answers store accepts tips walk
  unfolding setting
  is_new_walk = record {
    pending = pending;
    fresh = is_fresh;
    by_test = λ mid new i answer b a. by_test mid new i answer (further_on answers did.rest.asked_of b) a;
    same_store = did.rest.store;
    all_parents = did.rest.parents;
    breadth_first = did.rest.sorting;
    rowless = ⊎_elim (λ e. e) (λ e. e) did.rest.rows;
    open_to = did.rest.tips;
  }
