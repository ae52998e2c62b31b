-- The laws that follow from the theorem over whole walks.
use Rattle.std.proofs.Common.{◌≡◌, ◌↔◌, ◌≤ℤ◌, ℕ, ℤ, List, [], ◌∷◌, ◌++◌, filter, Bool, true, false, not, ◌&&◌, Option, Some, None, Result, Ok, Err, Contains, refl, sym, ap, subst, ⊎_elim}
use Rattle.std.proofs.Common.{◌∙◌, arith, true≢false}
use Rattle.gix_simple.proofs.Common.{AllZip, Contains-append_left, Contains-append_cases, false≢true, and_parts, and_from, not_from_false, not-true, false_from_ne_true, ObjectId, Objects, GraphRow, row_of, Parents}
use Rattle.gix_simple.proofs.Common.{Info, CommitTimeOrder, Error, named_by, Reaches, start, step, Tells, IsAgreeing, time_of, parents_of, walked_parents, SimpleWalk, time_order, cutoff, is_older, ids_of, AreDistinct}
use Rattle.gix_simple.proofs.Common.{IsGiven, IsBeginningBy, IsListBy, IsFirstNew, IsNextOne, GivesInOrder, GivesBeginning, IsWholeRun, IsBegunRun, starts_of, next_of, is_kept, kept_parents, accepted_parents, recent_parents, IsPlain, IsPlainRun, filter_all}
use Rattle.gix_simple.proofs.Common.{among_from, among_is, no_member, among-filter, named-push, transport, and-true, walked_within}
use Rattle.gix_revwalk.specs.declared.CommitTimeOrder.TheVariants.{NewestFirst}
use Rattle.gix_revwalk.specs.TimeOrder.{IsPending, IsNextByTime}
use Rattle.gix_revwalk.proofs.Beginnings.{on, once}
use Rattle.gix_revwalk.specs.Infos.{IsInfo, IsRowGeneration}
use Rattle.gix_revwalk.proofs.Orders.{given_is_reached, reached_is_given}
use Rattle.gix_revwalk.proofs.SomeOrder.{next_is_pending, pending_list}
use Rattle.gix_simple.proofs.Treated.{no_cutoff}
use Rattle.gix_simple.proofs.Theorem.{no_start, Contains-filter, gives_in_order, gives_beginning}

-- a beginning has no id twice, and only what is reached
pub begun_once : (o : Option CommitTimeOrder) (time : ObjectId → ℤ) (next : ObjectId → List ObjectId) (starts ids : List ObjectId) → IsBeginningBy (IsNextOne o time next starts) ids → AreDistinct ids × ((i : ObjectId) → Contains ids i → Reaches next starts i)
begun_once o time next starts ids h =
    let b : IsBeginningBy (IsPending next starts) ids = λ taken rest i e. next_is_pending next starts o time taken i (h taken rest i e) in
    (once (IsPending next starts) (λ taken i p. p.1) ids b, given_is_reached next starts ids b)

-- a list in order has each id that is reached, once
pub each_once : (o : Option CommitTimeOrder) (time : ObjectId → ℤ) (next : ObjectId → List ObjectId) (starts ids : List ObjectId) → IsListBy (IsNextOne o time next starts) ids → AreDistinct ids × ((i : ObjectId) → Contains ids i ↔ Reaches next starts i)
each_once o time next starts ids h =
    let b = begun_once o time next starts ids h.begins in
    (b.0, λ i. (b.1 i, reached_is_given next starts ids (pending_list next starts o time ids h) i))

-- what hidden tips cut away
module _ (objects : Objects) (m : Parents) (accepts hides : ObjectId → Bool) (limit : Option ℤ) (tips hidden_tips : List ObjectId) (tells : Tells hides (Reaches (parents_of objects) hidden_tips)) where
  kept_both : (i : ObjectId) → is_kept objects accepts (λ j. false) limit i ≡ true → hides i ≡ false → is_kept objects accepts hides limit i ≡ true
  kept_both i k h = grind arith

  kept_still : (i : ObjectId) → is_kept objects accepts hides limit i ≡ true → (is_kept objects accepts (λ j. false) limit i ≡ true) × (hides i ≡ false)
  kept_still i k = (grind arith, grind arith)

  in_filter : (p : ObjectId → Bool) (xs : List ObjectId) (i : ObjectId) → Contains xs i → p i ≡ true → Contains (filter p xs) i
  in_filter p xs i c e = among_is i _ (among-filter i p xs ∙ and_from _ _ e (among_from i xs c))

  abbrev pub All-next : ObjectId → List ObjectId
  All-next = kept_parents objects m accepts (λ j. false) limit

  abbrev pub Shown-next : ObjectId → List ObjectId
  Shown-next = kept_parents objects m accepts hides limit

  abbrev pub shown_tips : List ObjectId
  shown_tips = filter (λ i. not (hides i)) tips

  pub shown_reached : (i : ObjectId) → Reaches All-next tips i → hides i ≡ false → Reaches Shown-next shown_tips i
  shown_reached i (start s) h = start (in_filter (λ j. not (hides j)) tips i s (not_from_false _ h))
  shown_reached i (step {c = c} r n) h =
      let a : Contains (walked_parents objects m c) i × (is_kept objects accepts (λ j. false) limit i ≡ true) = Contains-filter _ (walked_parents objects m c) i n in
      let open_c : hides c ≡ false = false_from_ne_true _ (λ t. true≢false (sym ((tells i).1 (step ((tells c).0 t) (walked_within m _ i a.0))) ∙ h)) in
      step (shown_reached c r open_c) (in_filter _ (walked_parents objects m c) i a.0 (kept_both i a.1 h))

  pub reached_shown : (i : ObjectId) → Reaches Shown-next shown_tips i → Reaches All-next tips i × (hides i ≡ false)
  reached_shown i (start s) = let a : Contains tips i × (not (hides i) ≡ true) = Contains-filter (λ j. not (hides j)) tips i s in (start a.0, not-true _ a.1)
  reached_shown i (step {c = c} r n) =
      let a : Contains (walked_parents objects m c) i × (is_kept objects accepts hides limit i ≡ true) = Contains-filter _ (walked_parents objects m c) i n in
      let k : (is_kept objects accepts (λ j. false) limit i ≡ true) × (hides i ≡ false) = kept_still i a.1 in
      (step (reached_shown c r).0 (in_filter _ (walked_parents objects m c) i a.0 k.0), k.1)

-- the times never rise
pub times_fall : (time : ObjectId → ℤ) (next : ObjectId → List ObjectId) (starts ids : List ObjectId) → IsListBy (IsNextByTime NewestFirst time next starts) ids → ((c i : ObjectId) → Contains (next c) i → time i ≤ℤ time c)
    → (taken rest : List ObjectId) (a b : ObjectId) → ids ≡ taken ++ a ∷ b ∷ rest → time b ≤ℤ time a
times_fall time next starts ids h older taken rest a b e =
    let behind : IsNextByTime NewestFirst time next starts (taken ++ a ∷ []) b = h.begins (taken ++ a ∷ []) rest b (on taken (b ∷ rest) a e) in
    ⊎_elim (λ n. (h.begins taken (b ∷ rest) a e).best.best b (n, λ c. behind.best.among.1 (Contains-append_left taken (a ∷ []) b c))) (λ n. older a b n)
    (Contains-append_cases (named_by next starts taken) (next a) b (subst (λ xs. Contains xs b) (named-push next starts taken a) behind.best.among.0))

-- walks without hidden tips and rows
pub all_kept : (xs : List ObjectId) → filter (λ i. not false) xs ≡ xs
all_kept xs = filter_all (λ i. not false) xs (λ i c. refl)

zip_weaker : {A B : Type 0} (R S : A → B → Type 0) → ((a : A) (b : B) → R a b → S a b) → (xs : List A) (ys : List B) → AllZip R xs ys → AllZip S xs ys
zip_weaker R S f [] [] h = tt
zip_weaker R S f [] (y ∷ ys) h = absurd h
zip_weaker R S f (x ∷ xs) [] h = absurd h
zip_weaker R S f (x ∷ xs) (y ∷ ys) h = (f x y h.0, zip_weaker R S f xs ys h.1)

plain_info : (objects : Objects) (rows : List GraphRow) (m : Parents) (order : Option CommitTimeOrder) → rows ≡ [] → (answer : Result Info Error) (i : ObjectId) → IsGiven objects rows m order answer i → IsPlain objects m order answer i
plain_info objects rows m order e (Ok info) i h = go h.generation h.by_row h.info_is
  where
    go : (generation : Option ℕ) → IsRowGeneration rows i generation → IsInfo info i (walked_parents objects m i) generation (Rattle.gix_simple.specs.Walk.time_if order (time_of objects i)) → IsPlain objects m order (Ok info) i
    go None r is = is
    go (Some generation) r is = let n : None ≡ Some r.0 = ap (λ rs. row_of rs i) (sym e) ∙ r.1 in cc
plain_info objects rows m order e (Err x) i h = h

module _ {F P : Type 0} (objects : F → Objects) (faulty : F → ObjectId → Type 0) (answers : P → ObjectId → Bool → P → Type 0) (walk : SimpleWalk F P) (accepts : ObjectId → Bool) where
  recent_is : next_of objects walk accepts (λ i. false) ≡ recent_parents (objects walk.store) walk.parents accepts (cutoff walk.parents walk.sorting)
  recent_is = λ k c. filter (λ i. and-true (accepts i) k && not (is_older (time_of (objects walk.store) i) (cutoff walk.parents walk.sorting))) (walked_parents (objects walk.store) walk.parents c)

  accepted_is : cutoff walk.parents walk.sorting ≡ None → next_of objects walk accepts (λ i. false) ≡ accepted_parents (objects walk.store) walk.parents accepts
  accepted_is e = recent_is ∙ (λ k c. filter (λ i. accepts i && not (is_older (time_of (objects walk.store) i) (e k))) (walked_parents (objects walk.store) walk.parents c)) ∙ (λ k c. filter (λ i. and-true (accepts i) k) (walked_parents (objects walk.store) walk.parents c))

  plain_gives : (next : ObjectId → List ObjectId) (list : List (Result Info Error)) → next_of objects walk accepts (λ i. false) ≡ next → IsPlainRun objects faulty answers walk accepts next list → GivesInOrder objects walk accepts (λ i. false) list
  plain_gives next list same run =
      gives_in_order objects faulty answers walk accepts (λ i. false) run.by_test run.fresh
      (λ i. (λ e. absurd (false≢true e), λ r. absurd (no_start _ walk.hidden_tips i r run.open_to)))
      (record { given = λ i r. run.whole i (subst (λ n. Reaches n (ids_of walk.pending) i) same (subst (λ ts. Reaches (next_of objects walk accepts (λ j. false)) ts i) (all_kept (ids_of walk.pending)) r)); painted = λ some hides. absurd (hides run.open_to) })
      (subst (λ rows. IsAgreeing (objects walk.store) rows) (sym run.rowless) (λ row n. absurd (no_member row n)))
      list run.unrefused run.drawn

  plain_order : (order : Option CommitTimeOrder) (next : ObjectId → List ObjectId) (list : List (Result Info Error)) → time_order walk.parents walk.sorting ≡ order → next_of objects walk accepts (λ i. false) ≡ next → IsPlainRun objects faulty answers walk accepts next list →
      (ids : List ObjectId) × AllZip (IsPlain (objects walk.store) walk.parents order) list ids × IsListBy (IsNextOne order (time_of (objects walk.store)) next (ids_of walk.pending)) ids
  plain_order order next list e same run =
      let g : GivesInOrder objects walk accepts (λ i. false) list = plain_gives next list same run in (
        g.ids,
        subst (λ o. AllZip (IsPlain (objects walk.store) walk.parents o) list g.ids) e (zip_weaker _ (IsPlain (objects walk.store) walk.parents (time_order walk.parents walk.sorting)) (plain_info (objects walk.store) walk.rows walk.parents (time_order walk.parents walk.sorting) run.rowless) list g.ids g.given),
        transport (λ k. IsListBy (IsNextOne (e k) (time_of (objects walk.store)) (same k) (all_kept (ids_of walk.pending) k)) g.ids) g.in_order,
      )

  pub breadth : (list : List (Result Info Error)) → time_order walk.parents walk.sorting ≡ None → IsPlainRun objects faulty answers walk accepts (accepted_parents (objects walk.store) walk.parents accepts) list →
      (ids : List ObjectId) × AllZip (IsPlain (objects walk.store) walk.parents None) list ids × IsListBy (IsFirstNew (accepted_parents (objects walk.store) walk.parents accepts) (ids_of walk.pending)) ids
  breadth list e run = plain_order None _ list e (accepted_is (no_cutoff walk.parents walk.sorting e)) run

  pub by_time : (order : CommitTimeOrder) (list : List (Result Info Error)) → time_order walk.parents walk.sorting ≡ Some order → IsPlainRun objects faulty answers walk accepts (recent_parents (objects walk.store) walk.parents accepts (cutoff walk.parents walk.sorting)) list →
      (ids : List ObjectId) × AllZip (IsPlain (objects walk.store) walk.parents (Some order)) list ids × IsListBy (IsNextByTime order (time_of (objects walk.store)) (recent_parents (objects walk.store) walk.parents accepts (cutoff walk.parents walk.sorting)) (ids_of walk.pending)) ids
  by_time order list e run = plain_order (Some order) _ list e recent_is run

module _ {F P : Type 0} (objects : F → Objects) (faulty : F → ObjectId → Type 0) (answers : P → ObjectId → Bool → P → Type 0) (walk : SimpleWalk F P) (accepts : ObjectId → Bool) where
  pub gives : (hides : ObjectId → Bool) (list : List (Result Info Error)) → IsWholeRun objects faulty answers walk accepts hides list → GivesInOrder objects walk accepts hides list
  gives hides list run = gives_in_order objects faulty answers walk accepts hides run.by_test run.fresh run.tells run.meets run.agreeing list run.unrefused run.drawn

  pub gives_once : (hides : ObjectId → Bool) (list : List (Result Info Error)) (g : GivesInOrder objects walk accepts hides list) → AreDistinct g.ids × ((i : ObjectId) → Contains g.ids i ↔ Reaches (next_of objects walk accepts hides) (starts_of walk hides) i)
  gives_once hides list g = each_once (time_order walk.parents walk.sorting) (time_of (objects walk.store)) (next_of objects walk accepts hides) (starts_of walk hides) g.ids g.in_order

  pub begins : (hides : ObjectId → Bool) (list : List (Result Info Error)) (left : SimpleWalk F P) → IsBegunRun objects faulty answers walk accepts hides list left → GivesBeginning objects walk accepts hides list
  begins hides list left run = gives_beginning objects faulty answers walk accepts hides run.by_test run.fresh run.tells run.meets run.agreeing list left run.unrefused run.drawn

  pub begins_once : (hides : ObjectId → Bool) (list : List (Result Info Error)) (g : GivesBeginning objects walk accepts hides list) → AreDistinct g.ids × ((i : ObjectId) → Contains g.ids i → Reaches (next_of objects walk accepts hides) (starts_of walk hides) i)
  begins_once hides list g = begun_once (time_order walk.parents walk.sorting) (time_of (objects walk.store)) (next_of objects walk accepts hides) (starts_of walk hides) g.ids g.begins

  pub rising : (hides : ObjectId → Bool) (list : List (Result Info Error)) → time_order walk.parents walk.sorting ≡ Some NewestFirst → ((c i : ObjectId) → Contains (parents_of (objects walk.store) c) i → time_of (objects walk.store) i ≤ℤ time_of (objects walk.store) c) → (g : GivesInOrder objects walk accepts hides list) (taken rest : List ObjectId) (a b : ObjectId) → g.ids ≡ taken ++ a ∷ b ∷ rest → time_of (objects walk.store) b ≤ℤ time_of (objects walk.store) a
  rising hides list e older g = times_fall (time_of (objects walk.store)) (next_of objects walk accepts hides) (starts_of walk hides) g.ids
      (transport (λ k. IsListBy (IsNextOne (e k) (time_of (objects walk.store)) (next_of objects walk accepts hides) (starts_of walk hides)) g.ids) g.in_order)
      (λ c i n. older c i (walked_within walk.parents _ i (among_is i _ (and_parts _ _ (sym (among-filter i _ (walked_parents (objects walk.store) walk.parents c)) ∙ among_from i _ n)).1)))

-- the test of no hidden tips
pub no_tips : {F P : Type 0} (objects : F → Objects) (walk : SimpleWalk F P) (shown : ObjectId → Bool) → Tells shown (Reaches (parents_of (objects walk.store)) []) → shown ≡ (λ i. false)
no_tips objects walk shown tells = λ k i. (false_from_ne_true (shown i) (λ e. no_start (parents_of (objects walk.store)) [] i ((tells i).0 e) refl)) k
