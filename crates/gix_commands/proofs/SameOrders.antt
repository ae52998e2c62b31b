-- What commits reach, breadth order and time order are those of the statement.
use Rattle.std.proofs.Common.{◌≡◌, ◌≢◌, ℕ, ℤ, List, [], ◌∷◌, ◌++◌, find, filter, Bool, true, false, cond, not, ◌&&◌, Option, Some, None, AllPairs, Contains, flat_map, refl, sym, ap}
use Rattle.std.proofs.Common.{subst, ◌∙◌, codes, ⊎_elim, arith}
use Rattle.gix_commands.proofs.Common.{false≢true, All-nil, All-cons, Contains-append_left, Contains-append_right, Contains-append_cases, Contains-get_or, same_Some, none-some, ObjectId, is_among}
use Rattle.gix_commands.proofs.Common.{among_from, among_is, Contains-here, Contains-there, Contains-cons_cases, no_member, CommitTimeOrder, IsListBy, IsNextOne, named_by, new_ids, IsNoWorse}
use Rattle.std.proofs.lemmas.List.Kept.{AllPairs-cons}
use Rattle.gix_hash.specs.Reach as reach
use Rattle.gix_hash.specs.Reach.{Tells}
use Rattle.gix_revwalk.specs.Ids.{AreDistinct as AreApart}
use Rattle.gix_revwalk.specs.TimeOrder as times
use Rattle.gix_revwalk.specs.TimeOrder.{is_no_worse}
use Rattle.gix_revwalk.proofs.NewIds.{find-filter, find-new, times_among, times-fresh}
use Rattle.std.proofs.lemmas.Int.{ints}
use Rattle.gix_revwalk.specs.declared.CommitTimeOrder.TheVariants.{NewestFirst, OldestFirst}
use Rattle.gix_revwalk.proofs.SomeOrder.{next_is_pending, pending_list}
use Rattle.gix_statement.specs.WholeStatement.{Reaches, start, parent, IsBest, IsFirst, IsNext, IsPending, breadth, newest, oldest}
use Rattle.gix_merge_base.proofs.Members.{new_within}

pub reaches : (parents : ObjectId → List ObjectId) (starts : List ObjectId) (i : ObjectId) → reach.Reaches parents starts i → Reaches parents starts i
reaches parents starts i (reach.start s) = start s
reaches parents starts i (reach.step {c = c} r n) = parent (reaches parents starts c r) n

pub reaches_back : (parents : ObjectId → List ObjectId) (starts : List ObjectId) (i : ObjectId) → Reaches parents starts i → reach.Reaches parents starts i
reaches_back parents starts i (start s) = reach.start s
reaches_back parents starts i (parent {child = c} r n) = reach.step (reaches_back parents starts c r) n

pub are_distinct : (ids : List ObjectId) → AreApart ids → AllPairs (λ i j. i ≢ j) ids
are_distinct [] apart = λ i j d l m. absurd (omega (arith, m))
are_distinct (x ∷ ids) apart = AllPairs-cons (λ i j. i ≢ j) x ids (λ k d l e. apart.0 (subst (Contains ids) (sym e) (Contains-get_or ids k d l))) (are_distinct ids apart.1)

-- what is found first is the first that has P, where all that has P passes
pub found_first : (test : ObjectId → Bool) (P : ObjectId → Type 0) (names : List ObjectId) (i : ObjectId) → find test names ≡ Some i → ((j : ObjectId) → P j → test j ≡ true) → P i → IsFirst P names i
found_first test P [] i e passes p = absurd (none-some i e)
found_first test P (j ∷ names) i e passes p = go (λ f. found_first test P names i f passes p) (test j) refl e
  where
    go : (find test names ≡ Some i → IsFirst P names i) → (t : Bool) → test j ≡ t → cond t (Some j) (find test names) ≡ Some i → IsFirst P (j ∷ names) i
    go more false f e = let r = more e in (j ∷ r.0, r.1, ap (λ xs. j ∷ xs) r.2, All-cons (λ k. P k → ⊥) j r.0 (λ q. false≢true (sym f ∙ passes j q)) r.3, p)
    go more true t e = ([], names, ap (λ x. x ∷ names) (same_Some j i e), All-nil (λ k. P k → ⊥), p)

abbrev or_else : Option ObjectId → Option ObjectId → Option ObjectId
or_else None o = o
or_else (Some i) o = Some i

find-append : (test : ObjectId → Bool) (xs ys : List ObjectId) → find test (xs ++ ys) ≡ or_else (find test xs) (find test ys)
find-append test [] ys = refl
find-append test (x ∷ xs) ys = go (find-append test xs ys) (test x)
  where
    go : find test (xs ++ ys) ≡ or_else (find test xs) (find test ys) → (t : Bool) → cond t (Some x) (find test (xs ++ ys)) ≡ or_else (cond t (Some x) (find test xs)) (find test ys)
    go e true = refl
    go e false = e

find-both : (a b : ObjectId → Bool) (xs ys zs ws : List ObjectId) → find a xs ≡ find b zs → find a ys ≡ find b ws → find a (xs ++ ys) ≡ find b (zs ++ ws)
find-both a b xs ys zs ws e f = find-append a xs ys ∙ (λ k. or_else (e k) (f k)) ∙ sym (find-append b zs ws)

pub new_in : (ids : List ObjectId) (i : ObjectId) → Contains ids i → Contains (new_ids (λ j. false) ids) i
new_in ids i c = among_is i (new_ids (λ j. false) ids) (times_among i (new_ids (λ j. false) ids) 0 (times-fresh i (λ j. false) ids ∙ ap (λ b. cond b 1 0) (among_from i ids c)))

pub filtered : (pass : ObjectId → Bool) (ids : List ObjectId) (i : ObjectId) → Contains (filter pass ids) i → Contains ids i × (pass i ≡ true)
filtered pass [] i c = absurd (no_member i c)
filtered pass (j ∷ ids) i c = go (filtered pass ids i) (pass j) refl c
  where
    go : (Contains (filter pass ids) i → Contains ids i × (pass i ≡ true)) → (t : Bool) → pass j ≡ t → Contains (cond t (j ∷ filter pass ids) (filter pass ids)) i → Contains (j ∷ ids) i × (pass i ≡ true)
    go more true p c = ⊎_elim (λ e. (subst (Contains (j ∷ ids)) e (Contains-here j ids), ap pass (sym e) ∙ p)) (λ t. let m = more t in (Contains-there i j ids m.0, m.1)) (Contains-cons_cases i j (filter pass ids) c)
    go more false p c = let m = more c in (Contains-there i j ids m.0, m.1)

pub filtered_in : (pass : ObjectId → Bool) (ids : List ObjectId) (i : ObjectId) → Contains ids i → pass i ≡ true → Contains (filter pass ids) i
filtered_in pass [] i c p = c
filtered_in pass (j ∷ ids) i c p = go (λ t. filtered_in pass ids i t p) (pass j) refl
  where
    go : (Contains ids i → Contains (filter pass ids) i) → (t : Bool) → pass j ≡ t → Contains (cond t (j ∷ filter pass ids) (filter pass ids)) i
    go more true q = ⊎_elim (λ e. subst (Contains (j ∷ filter pass ids)) e (Contains-here j (filter pass ids))) (λ t. Contains-there i j (filter pass ids) (more t)) (Contains-cons_cases i j ids c)
    go more false q = ⊎_elim (λ e. absurd (false≢true (sym q ∙ ap pass e ∙ p))) more (Contains-cons_cases i j ids c)

not_true : (b : Bool) → not b ≡ true → b ≡ false
not_true true e = absurd (false≢true e)
not_true false e = refl

both : {a b : Bool} → a ≡ true → b ≡ true → (a && b) ≡ true
both {a} {b} e f = ap (λ x. x && b) e ∙ f

pub not_taken : (i : ObjectId) (taken : List ObjectId) → (Contains taken i → ⊥) → not (is_among i taken) ≡ true
not_taken i taken out = go (is_among i taken) refl
  where
    go : (t : Bool) → is_among i taken ≡ t → not t ≡ true
    go true e = absurd (out (among_is i taken e))
    go false e = refl

pub no_worse_test : (order : CommitTimeOrder) (a b : ℤ) → IsNoWorse order a b → is_no_worse order a b ≡ true
no_worse_test order a b h = grind (arith, ints)

-- the name of an order by time, or of breadth order
abbrev pub name_of : Option CommitTimeOrder → List ℕ
name_of None = codes "breadth"
name_of (Some NewestFirst) = codes "newest"
name_of (Some OldestFirst) = codes "oldest"

module _ (parents followed : ObjectId → List ObjectId) (time : ObjectId → ℤ) (from hidden : List ObjectId) (hides : ObjectId → Bool) (tells : Tells hides (reach.Reaches parents hidden)) where
  hidden_is : (i : ObjectId) → hides i ≡ true → Reaches parents hidden i
  hidden_is i e = reaches parents hidden i ((tells i).0 e)

  not_hidden : (i : ObjectId) → not (hides i) ≡ true → Reaches parents hidden i → ⊥
  not_hidden i e r = false≢true (sym (not_true (hides i) e) ∙ (tells i).1 (reaches_back parents hidden i r))

  is_not_hidden : (i : ObjectId) → (Reaches parents hidden i → ⊥) → not (hides i) ≡ true
  is_not_hidden i out = go (hides i) refl
    where
      go : (t : Bool) → hides i ≡ t → not t ≡ true
      go true e = absurd (out (hidden_is i e))
      go false e = refl

  abbrev next : ObjectId → List ObjectId
  next c = filter (λ i. not (hides i)) (followed c)

  abbrev starts : List ObjectId
  starts = filter (λ i. not (hides i)) (new_ids (λ i. false) from)

  find_next : (test : ObjectId → Bool) (those : List ObjectId) → find test (flat_map next those) ≡ find (λ i. not (hides i) && test i) (flat_map followed those)
  find_next test [] = refl
  find_next test (c ∷ those) = find-both _ _ (next c) (flat_map next those) (followed c) (flat_map followed those) (find-filter test (λ i. not (hides i)) (followed c)) (find_next test those)

  find_named : (test : ObjectId → Bool) (taken : List ObjectId) → find test (named_by next starts taken) ≡ find (λ i. not (hides i) && test i) (from ++ flat_map followed taken)
  find_named test taken =
      find-both _ _ starts (flat_map next taken) from (flat_map followed taken)
      (find-filter test (λ i. not (hides i)) (new_ids (λ i. false) from) ∙ find-new (λ i. not (hides i) && test i) (λ i. false) from (λ i e. absurd (false≢true e))) (find_next test taken)

  named_next : (those : List ObjectId) (i : ObjectId) → Contains (flat_map next those) i → Contains (flat_map followed those) i × (not (hides i) ≡ true)
  named_next [] i c = absurd (no_member i c)
  named_next (d ∷ those) i c =
      ⊎_elim (λ n. let f = filtered (λ j. not (hides j)) (followed d) i n in (Contains-append_left (followed d) (flat_map followed those) i f.0, f.1))
      (λ n. let f = named_next those i n in (Contains-append_right (followed d) (flat_map followed those) i f.0, f.1)) (Contains-append_cases (next d) (flat_map next those) i c)

  next_named : (those : List ObjectId) (i : ObjectId) → Contains (flat_map followed those) i → not (hides i) ≡ true → Contains (flat_map next those) i
  next_named [] i c out = c
  next_named (d ∷ those) i c out =
      ⊎_elim (λ n. Contains-append_left (next d) (flat_map next those) i (filtered_in (λ j. not (hides j)) (followed d) i n out)) (λ n. Contains-append_right (next d) (flat_map next those) i (next_named those i n out))
      (Contains-append_cases (followed d) (flat_map followed those) i c)

  pending : (taken : List ObjectId) (i : ObjectId) → times.IsPending next starts taken i → IsPending parents followed time from hidden taken i
  pending taken i p =
      ⊎_elim
      (λ c. let f = filtered (λ j. not (hides j)) (new_ids (λ j. false) from) i c in (Contains-append_left from (flat_map followed taken) i (new_within (λ j. false) from i f.0), p.1, not_hidden i f.1))
      (λ c. let f = named_next taken i c in (Contains-append_right from (flat_map followed taken) i f.0, p.1, not_hidden i f.1)) (Contains-append_cases starts (flat_map next taken) i p.0)

  pending_back : (taken : List ObjectId) (i : ObjectId) → IsPending parents followed time from hidden taken i → times.IsPending next starts taken i
  pending_back taken i p =
      let out : not (hides i) ≡ true = is_not_hidden i p.2 in (
        ⊎_elim (λ c. Contains-append_left starts (flat_map next taken) i (filtered_in (λ j. not (hides j)) (new_ids (λ j. false) from) i (new_in from i c) out))
            (λ c. Contains-append_right starts (flat_map next taken) i (next_named taken i c out)) (Contains-append_cases from (flat_map followed taken) i p.0),
        p.1,
      )

  abbrev Turn : List ObjectId → List ℕ → ObjectId → Type 0
  Turn taken name i = IsNext parents followed time from hidden taken i name

  -- of all that are pending the first of best time
  abbrev AsGood : CommitTimeOrder → ObjectId → ObjectId → Type 0
  AsGood order i other = IsNoWorse order (time i) (time other)

  abbrev as_good : CommitTimeOrder → List ObjectId → ObjectId → ObjectId → Bool
  as_good order taken i j = not (is_among j taken) && is_no_worse order (time j) (time i)

  best : (order : CommitTimeOrder) (taken : List ObjectId) (i : ObjectId) → IsNextOne (Some order) time next starts taken i → IsFirst (IsBest (AsGood order) (IsPending parents followed time from hidden taken)) (from ++ flat_map followed taken) i
  best order taken i h =
      found_first (λ j. not (hides j) && as_good order taken i j) (IsBest (AsGood order) (IsPending parents followed time from hidden taken)) (from ++ flat_map followed taken) i
      (sym (find_named (as_good order taken i) taken) ∙ h.first)
      (λ j b. both (is_not_hidden j b.0.2) (both (not_taken j taken b.0.1) (no_worse_test order (time j) (time i) (b.1 i (pending taken i h.best.among)))))
      (pending taken i h.best.among, λ other p. h.best.best other (pending_back taken other p))

  -- what comes next comes next on the page, where it is pending
  next_there : (o : Option CommitTimeOrder) (taken : List ObjectId) (i : ObjectId) → IsNextOne o time next starts taken i → Turn taken (name_of o) i
  next_there None taken i h =
      breadth (found_first (λ j. not (hides j) && not (is_among j taken)) (IsPending parents followed time from hidden taken) (from ++ flat_map followed taken) i (sym (find_named (λ j. not (is_among j taken)) taken) ∙ h)
      (λ j p. both (is_not_hidden j p.2) (not_taken j taken p.1)) (pending taken i (next_is_pending next starts None time taken i h)))
  next_there (Some NewestFirst) taken i h = newest (best NewestFirst taken i h)
  next_there (Some OldestFirst) taken i h = oldest (best OldestFirst taken i h)

  pending_there : (o : Option CommitTimeOrder) (taken : List ObjectId) (i : ObjectId) → Turn taken (name_of o) i → IsPending parents followed time from hidden taken i
  pending_there None taken i (breadth f) = f.4
  pending_there (Some NewestFirst) taken i (newest f) = f.4.0
  pending_there (Some OldestFirst) taken i (oldest f) = f.4.0

  pub in_order_there : (o : Option CommitTimeOrder) (ids : List ObjectId) → IsListBy (IsNextOne o time next starts) ids → IsListBy (λ taken. Turn taken (name_of o)) ids
  in_order_there o ids h = record {
    begins = λ taken rest i e. next_there o taken i (h.begins taken rest i e);
    ends = λ i n. (pending_list next starts o time ids h).ends i (pending_back ids i (pending_there o ids i n));
  }
