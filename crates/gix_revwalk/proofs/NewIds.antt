-- The ids of a list that are new, each at its first place: what is pending of all that was named.
use Rattle.std.proofs.Common.{ℕ, suc, ◌≡◌, ◌+◌, List, [], ◌∷◌, ◌++◌, Bool, true, false, not, cond, ◌&&◌, ◌||◌, filter, find, Some, IsPermutation, length, Contains, ◌≤◌, refl, sym, ap, subst, ◌∙◌, arith, append_assoc, append-nil}
use Rattle.std.proofs.Common.{⊎_elim, true≢false, flat_map, sum_by}
use Rattle.std.proofs.lemmas.Bool.{false≢true, or_right, or_left, or_from, or_cases, true_from_ne_false, false_from_ne_true, not_from_false}
use Rattle.std.proofs.lemmas.List.Concat.{flat_map-append}
use Rattle.std.proofs.lemmas.List.Elements.{filter-append}
use Rattle.gix_hash.proofs.Lists.{filter_all}
use Rattle.std.proofs.lemmas.List.Sums.{sum_by-cons}
use Rattle.std.proofs.lemmas.List.Sorted.{sum_by-IsPermutation}
use Rattle.gix_revwalk.proofs.Common.{ObjectId, is_same, is_among, named_by, same_is, same_itself, same_from, same_back, no_member, among-append, Contains-cons_cases, Contains-here, Contains-there, among_from}
pub use Rattle.gix_revwalk.specs.Ids.{times, new_ids as fresh}
use Rattle.gix_revwalk.specs.Ids.{AreDistinct}

-- tests that agree on the list
pub fresh_agree : (s t : ObjectId → Bool) (xs : List ObjectId) → ((i : ObjectId) → is_among i xs ≡ true → s i ≡ t i) → fresh s xs ≡ fresh t xs
fresh_agree s t [] agree = refl
fresh_agree s t (x ∷ xs) agree =
    let rest : (i : ObjectId) → is_among i xs ≡ true → s i ≡ t i = λ i h. agree i (or_right (is_same i x) _ h) in
    (λ k. cond (agree x (or_left _ _ (same_itself x)) k) (fresh_agree s t xs rest k) (x ∷ fresh_agree (λ j. is_same j x || s j) (λ j. is_same j x || t j) xs (λ i h. ap (λ b. is_same i x || b) (rest i h)) k))

or_through : (a b c : Bool) → (a ≡ true → c ≡ true) → (b || c) ≡ ((a || b) || c)
or_through true true c h = refl
or_through true false c h = h refl
or_through false b c h = refl

or_round : (a b c : Bool) → (b || (a || c)) ≡ ((a || b) || c)
or_round true true c = refl
or_round true false c = refl
or_round false b c = refl

pub fresh-append : (s : ObjectId → Bool) (xs ys : List ObjectId) → fresh s (xs ++ ys) ≡ fresh s xs ++ fresh (λ j. is_among j xs || s j) ys
fresh-append s [] ys = refl
fresh-append s (x ∷ xs) ys = go (fresh-append s xs ys) (fresh-append (λ j. is_same j x || s j) xs ys) (s x) refl
  where
    old_case : fresh s (xs ++ ys) ≡ fresh s xs ++ fresh (λ j. is_among j xs || s j) ys → s x ≡ true → fresh s (xs ++ ys) ≡ fresh s xs ++ fresh (λ j. is_among j (x ∷ xs) || s j) ys
    old_case r e = r ∙ ap (λ zs. fresh s xs ++ zs) (fresh_agree _ _ ys (λ j h. or_through (is_same j x) (is_among j xs) (s j) (λ same. subst (λ y. s y ≡ true) (sym (same_is j x same)) e)))

    new_case : fresh (λ j. is_same j x || s j) (xs ++ ys) ≡ fresh (λ j. is_same j x || s j) xs ++ fresh (λ j. is_among j xs || (is_same j x || s j)) ys → fresh (λ j. is_same j x || s j) (xs ++ ys) ≡ fresh (λ j. is_same j x || s j) xs ++ fresh (λ j. is_among j (x ∷ xs) || s j) ys
    new_case r = r ∙ ap (λ zs. fresh (λ j. is_same j x || s j) xs ++ zs) (fresh_agree _ _ ys (λ j h. or_round (is_same j x) (is_among j xs) (s j)))

    go : fresh s (xs ++ ys) ≡ fresh s xs ++ fresh (λ j. is_among j xs || s j) ys → fresh (λ j. is_same j x || s j) (xs ++ ys) ≡ fresh (λ j. is_same j x || s j) xs ++ fresh (λ j. is_among j xs || (is_same j x || s j)) ys → (b : Bool) → s x ≡ b → cond b (fresh s (xs ++ ys)) (x ∷ fresh (λ j. is_same j x || s j) (xs ++ ys)) ≡ cond b (fresh s xs) (x ∷ fresh (λ j. is_same j x || s j) xs) ++ fresh (λ j. is_among j (x ∷ xs) || s j) ys
    go r q true e = old_case r e
    go r q false e = ap (λ zs. x ∷ zs) (new_case q)

-- the first new one, and the others
pub record IsHead (s : ObjectId → Bool) (xs : List ObjectId) (i : ObjectId) (rest : List ObjectId) : Type 0 where
  pub found : find (λ j. not (s j)) xs ≡ Some i
  pub is_new : s i ≡ false
  pub among : is_among i xs ≡ true
  pub others : fresh (λ j. is_same j i || s j) xs ≡ rest

pub fresh_head : (s : ObjectId → Bool) (xs : List ObjectId) (i : ObjectId) (rest : List ObjectId) → fresh s xs ≡ i ∷ rest → IsHead s xs i rest
fresh_head s [] i rest e = cc
fresh_head s (x ∷ xs) i rest e = go (fresh_head s xs i rest) (s x) refl e
  where
    old_case : IsHead s xs i rest → s x ≡ true → IsHead s (x ∷ xs) i rest
    old_case h o =
        record {
          found = ap (λ b. cond (not b) (Some x) (find (λ j. not (s j)) xs)) o ∙ h.found;
          is_new = h.is_new;
          among = or_right (is_same i x) _ h.among;
          others = ap (λ b. cond b (fresh (λ j. is_same j i || s j) xs) (x ∷ fresh (λ k. is_same k x || (is_same k i || s k)) xs)) (or_right (is_same x i) (s x) o) ∙ h.others;
        }

    new_case : s x ≡ false → x ≡ i → fresh (λ j. is_same j x || s j) xs ≡ rest → IsHead s (x ∷ xs) i rest
    new_case o e r = record {
      found = ap (λ b. cond (not b) (Some x) (find (λ j. not (s j)) xs)) o ∙ ap Some e;
      is_new = subst (λ y. s y ≡ false) e o;
      among = or_left _ _ (same_from i x (sym e));
      others = ap (λ b. cond b (fresh (λ j. is_same j i || s j) xs) (x ∷ fresh (λ k. is_same k x || (is_same k i || s k)) xs)) (or_left (is_same x i) (s x) (same_from x i e)) ∙ ap (λ y. fresh (λ j. is_same j y || s j) xs) (sym e) ∙ r;
    }

    go : (fresh s xs ≡ i ∷ rest → IsHead s xs i rest) → (b : Bool) → s x ≡ b → cond b (fresh s xs) (x ∷ fresh (λ j. is_same j x || s j) xs) ≡ i ∷ rest → IsHead s (x ∷ xs) i rest
    go r true o e = old_case (r e) o
    go r false o e = new_case o (cc) (cc)

pub times-append : (i : ObjectId) (xs ys : List ObjectId) → times i (xs ++ ys) ≡ times i xs + times i ys
times-append i [] ys = let e : times i ys ≡ 0 + times i ys = omega arith in e
times-append i (x ∷ xs) ys = let e : times i (xs ++ ys) ≡ times i xs + times i ys = times-append i xs ys in omega arith

times_sum : (i : ObjectId) (xs : List ObjectId) → times i xs ≡ sum_by (λ x. cond (is_same i x) 1 0) xs
times_sum i [] = refl
times_sum i (x ∷ xs) = ap (λ n. cond (is_same i x) 1 0 + n) (times_sum i xs) ∙ sym (sum_by-cons (λ y. cond (is_same i y) 1 0) x xs)

-- in another order each id is in the list as often
pub times_moved : (i : ObjectId) (xs ys : List ObjectId) → IsPermutation xs ys → times i ys ≡ times i xs
times_moved i xs ys h = times_sum i ys ∙ sum_by-IsPermutation (λ x. cond (is_same i x) 1 0) xs ys h ∙ sym (times_sum i xs)

pub times_among : (i : ObjectId) (xs : List ObjectId) (n : ℕ) → times i xs ≡ suc n → is_among i xs ≡ true
times_among i [] n e = absurd (omega arith)
times_among i (x ∷ xs) n e = go (times_among i xs n) (is_same i x) e
  where
    go : (times i xs ≡ suc n → is_among i xs ≡ true) → (b : Bool) → cond b 1 0 + times i xs ≡ suc n → (b || is_among i xs) ≡ true
    go r true e = refl
    go r false e = r (omega arith)

pub times_none : (i : ObjectId) (xs : List ObjectId) → is_among i xs ≡ false → times i xs ≡ 0
times_none i [] e = refl
times_none i (x ∷ xs) e = go (times_none i xs) (is_same i x) e
  where
    go : (is_among i xs ≡ false → times i xs ≡ 0) → (b : Bool) → (b || is_among i xs) ≡ false → cond b 1 0 + times i xs ≡ 0
    go r true e = absurd (true≢false e)
    go r false e = let k : times i xs ≡ 0 = r e in omega arith

-- each new id is in the list once
pub times-fresh : (i : ObjectId) (s : ObjectId → Bool) (xs : List ObjectId) → times i (fresh s xs) ≡ cond (not (s i) && is_among i xs) 1 0
times-fresh i s [] = elim (s i) as (λ b. ◌≡◌ {A = ℕ} 0 (cond (not b && false) 1 0)) [ true ↦ refl | false ↦ refl ]
times-fresh i s (x ∷ xs) = go (times-fresh i s xs) (times-fresh i (λ j. is_same j x || s j) xs) (s x) refl
  where
    old_same : s x ≡ true → (b : Bool) → is_same i x ≡ b → ◌≡◌ {A = ℕ} (cond (not (s i) && is_among i xs) 1 0) (cond (not (s i) && (b || is_among i xs)) 1 0)
    old_same o true same = ap {B = ℕ} (λ b. cond (not b && is_among i xs) 1 0) (ap s (same_is i x same) ∙ o) ∙ ap {B = ℕ} (λ b. cond (not b && true) 1 0) (sym (ap s (same_is i x same) ∙ o))
    old_same o false same = refl

    new_same : s x ≡ false → (b : Bool) → is_same i x ≡ b → cond b 1 0 + cond (not (b || s i) && is_among i xs) 1 0 ≡ cond (not (s i) && (b || is_among i xs)) 1 0
    new_same o true same = (let e : 1 + cond (not (true || s i) && is_among i xs) 1 0 ≡ 1 = omega arith in e) ∙ ap {B = ℕ} (λ b. cond (not b && true) 1 0) (sym (ap s (same_is i x same) ∙ o))
    new_same o false same = (let e : 0 + cond (not (s i) && is_among i xs) 1 0 ≡ cond (not (s i) && is_among i xs) 1 0 = omega arith in e)

    go : times i (fresh s xs) ≡ cond (not (s i) && is_among i xs) 1 0 → times i (fresh (λ j. is_same j x || s j) xs) ≡ cond (not (is_same i x || s i) && is_among i xs) 1 0 → (b : Bool) → s x ≡ b → times i (cond b (fresh s xs) (x ∷ fresh (λ j. is_same j x || s j) xs)) ≡ cond (not (s i) && is_among i (x ∷ xs)) 1 0
    go r q true o = r ∙ old_same o (is_same i x) refl
    go r q false o = ap (λ n. cond (is_same i x) 1 0 + n) q ∙ new_same o (is_same i x) refl

pub among-filter : (i : ObjectId) (p : ObjectId → Bool) (xs : List ObjectId) → is_among i (filter p xs) ≡ (p i && is_among i xs)
among-filter i p [] = elim (p i) as (λ b. false ≡ (b && false)) [ true ↦ refl | false ↦ refl ]
among-filter i p (x ∷ xs) = go (among-filter i p xs) (p x) refl (is_same i x) refl
  where
    swapped : (a b : Bool) → a ≡ true → (true || b) ≡ (a && true)
    swapped true b e = refl
    swapped false b e = absurd (false≢true e)

    dropped : (a b : Bool) → a ≡ false → (a && b) ≡ (a && true)
    dropped true b e = absurd (true≢false e)
    dropped false b e = refl

    go : is_among i (filter p xs) ≡ (p i && is_among i xs) → (b : Bool) → p x ≡ b → (c : Bool) → is_same i x ≡ c → is_among i (cond b (x ∷ filter p xs) (filter p xs)) ≡ (p i && (c || is_among i xs))
    go r true e true same = ap (λ c. c || is_among i (filter p xs)) same ∙ swapped (p i) (is_among i xs) (ap p (same_is i x same) ∙ e)
    go r true e false same = ap (λ c. c || is_among i (filter p xs)) same ∙ r
    go r false e true same = r ∙ dropped (p i) (is_among i xs) (ap p (same_is i x same) ∙ e)
    go r false e false same = r

-- one more commit names its own
pub named-push : (next : ObjectId → List ObjectId) (starts taken : List ObjectId) (i : ObjectId) → named_by next starts (taken ++ i ∷ []) ≡ named_by next starts taken ++ next i
named-push next starts taken i = ap (λ xs. starts ++ xs) (flat_map-append next taken (i ∷ []) ∙ ap (λ xs. flat_map next taken ++ xs) (append-nil (next i))) ∙ sym (append_assoc starts (flat_map next taken) (next i))

-- one id is new no more
pub new_less : (s : ObjectId → Bool) (xs : List ObjectId) (i : ObjectId) → is_among i xs ≡ true → s i ≡ false → suc (length (fresh (λ j. is_same j i || s j) xs)) ≡ length (fresh s xs)
new_less s [] i e f = absurd (false≢true e)
new_less s (x ∷ xs) i e f = go (new_less s xs i) (new_less (λ j. is_same j x || s j) xs i) (is_same i x) refl (s x) refl e
  where
    here : is_same i x ≡ true → suc (length (fresh (λ j. is_same j i || s j) (x ∷ xs))) ≡ length (fresh s (x ∷ xs))
    here t =
        let same : i ≡ x = same_is i x t in
        let old : (is_same x i || s x) ≡ true = or_left _ _ (same_from x i (sym same)) in
        let new : s x ≡ false = ap s (sym same) ∙ f in
        ap (λ b. suc (length (cond b (fresh (λ j. is_same j i || s j) xs) (x ∷ fresh (λ j. is_same j x || (is_same j i || s j)) xs)))) old
        ∙ ap (λ y. suc (length (fresh (λ j. is_same j y || s j) xs))) same
        ∙ ap (λ b. length (cond b (fresh s xs) (x ∷ fresh (λ j. is_same j x || s j) xs))) (sym new)

    swapped : (a b c : Bool) → (a || (b || c)) ≡ (b || (a || c))
    swapped true true c = refl
    swapped true false c = refl
    swapped false b c = refl

    go : (is_among i xs ≡ true → s i ≡ false → suc (length (fresh (λ j. is_same j i || s j) xs)) ≡ length (fresh s xs)) →
        (is_among i xs ≡ true → (is_same i x || s i) ≡ false → suc (length (fresh (λ j. is_same j i || (is_same j x || s j)) xs)) ≡ length (fresh (λ j. is_same j x || s j) xs)) →
        (a : Bool) → is_same i x ≡ a → (b : Bool) → s x ≡ b → (a || is_among i xs) ≡ true → suc (length (fresh (λ j. is_same j i || s j) (x ∷ xs))) ≡ length (fresh s (x ∷ xs))
    go r q true t b o e = here t
    go r q false t true o e =
        ap (λ b. suc (length (cond b (fresh (λ j. is_same j i || s j) xs) (x ∷ fresh (λ j. is_same j x || (is_same j i || s j)) xs)))) (or_right (is_same x i) (s x) o)
        ∙ r e f
        ∙ ap (λ b. length (cond b (fresh s xs) (x ∷ fresh (λ j. is_same j x || s j) xs))) (sym o)
    go r q false t false o e =
        ap (λ b. suc (length (cond b (fresh (λ j. is_same j i || s j) xs) (x ∷ fresh (λ j. is_same j x || (is_same j i || s j)) xs)))) (or_from (is_same x i) (s x) (sym (same_back i x) ∙ t) o)
        ∙ ap (λ ys. suc (suc (length ys))) (fresh_agree _ _ xs (λ j h. swapped (is_same j x) (is_same j i) (s j)))
        ∙ ap suc (q e (or_from (is_same i x) (s i) t f))
        ∙ ap (λ b. length (cond b (fresh s xs) (x ∷ fresh (λ j. is_same j x || s j) xs))) (sym o)

pub among_flat : {X : Type 0} (f : X → List ObjectId) (es : List X) (e : X) (i : ObjectId) → Contains es e → is_among i (f e) ≡ true → is_among i (flat_map f es) ≡ true
among_flat f [] e i h n = absurd (no_member e h)
among_flat f (x ∷ es) e i h n = among-append i (f x) (flat_map f es) ∙ ⊎_elim (λ s. or_left _ _ (subst (λ y. is_among i (f y) ≡ true) (sym s) n)) (λ t. or_right (is_among i (f x)) _ (among_flat f es e i t n)) (Contains-cons_cases e x es h)

-- counting ids
pub among_times : (i : ObjectId) (xs : List ObjectId) → is_among i xs ≡ true → 1 ≤ times i xs
among_times i [] e = absurd (false≢true e)
among_times i (x ∷ xs) e = go (is_same i x) (among_times i xs) e
  where
    go : (b : Bool) → (is_among i xs ≡ true → 1 ≤ times i xs) → (b || is_among i xs) ≡ true → 1 ≤ cond b 1 0 + times i xs
    go true r e = omega arith
    go false r e = let k : 1 ≤ times i xs = r e in omega arith

pub times_is_among : (i : ObjectId) (xs : List ObjectId) → 1 ≤ times i xs → is_among i xs ≡ true
times_is_among i xs h = true_from_ne_false _ (λ f. let z : times i xs ≡ 0 = times_none i xs f in omega arith)

-- distinct ids are in the list once each
pub times_once : (xs : List ObjectId) → ((i : ObjectId) → times i xs ≤ 1) → AreDistinct xs
times_once [] n = tt
times_once (x ∷ xs) n = (
  (λ m. let a : cond (is_same x x) 1 0 + times x xs ≤ 1 = n x in let s : ◌≡◌ {A = ℕ} (cond (is_same x x) 1 0) 1 = ap (λ b. cond b 1 0) (same_itself x) in let o : 1 ≤ times x xs = among_times x xs (among_from x xs m) in absurd (omega arith)),
  times_once xs (λ i. let a : cond (is_same i x) 1 0 + times i xs ≤ 1 = n i in omega arith),
)

module _ (test pass : ObjectId → Bool) where
  -- a search among what passes is one for what passes both
  pub find-filter : (ids : List ObjectId) → find test (filter pass ids) ≡ find (λ i. pass i && test i) ids
  find-filter [] = refl
  find-filter (i ∷ ids) = go (find-filter ids) (pass i)
    where
      go : find test (filter pass ids) ≡ find (λ j. pass j && test j) ids → (t : Bool) → find test (cond t (i ∷ filter pass ids) (filter pass ids)) ≡ cond (t && test i) (Some i) (find (λ j. pass j && test j) ids)
      go e true = ap (λ o. cond (test i) (Some i) o) e
      go e false = e

-- a search among the new ids is one among all, where no old one passes
pub find-new : (test old : ObjectId → Bool) (ids : List ObjectId) → ((i : ObjectId) → old i ≡ true → test i ≡ false) → find test (fresh old ids) ≡ find test ids
find-new test old [] passed = refl
find-new test old (i ∷ ids) passed = go (find-new test old ids passed) (λ failed. find-new test (λ j. is_same j i || old j) ids (more failed)) (old i) refl (test i) refl
  where
    more : test i ≡ false → (j : ObjectId) → (is_same j i || old j) ≡ true → test j ≡ false
    more failed j e = ⊎_elim (λ s. ap test (same_is j i s) ∙ failed) (passed j) (or_cases (is_same j i) (old j) e)

    go : find test (fresh old ids) ≡ find test ids → (test i ≡ false → find test (fresh (λ j. is_same j i || old j) ids) ≡ find test ids) → (s : Bool) → old i ≡ s → (t : Bool) → test i ≡ t
        → find test (cond s (fresh old ids) (i ∷ fresh (λ j. is_same j i || old j) ids)) ≡ cond t (Some i) (find test ids)
    go same others true o true e = absurd (true≢false (sym e ∙ passed i o))
    go same others true o false e = same
    go same others false o true e = ap (λ t. cond t (Some i) (find test (fresh (λ j. is_same j i || old j) ids))) e
    go same others false o false e = ap (λ t. cond t (Some i) (find test (fresh (λ j. is_same j i || old j) ids))) e ∙ others e

-- one is found behind those that fail
pub find-behind : (test : ObjectId → Bool) (before behind : List ObjectId) (i : ObjectId) → ((j : ObjectId) → Contains before j → test j ≡ false) → test i ≡ true → find test (before ++ i ∷ behind) ≡ Some i
find-behind test [] behind i fails e = ap (λ t. cond t (Some i) (find test behind)) e
find-behind test (x ∷ before) behind i fails e =
    ap (λ t. cond t (Some x) (find test (before ++ i ∷ behind))) (fails x (Contains-here x before)) ∙ find-behind test before behind i (λ j c. fails j (Contains-there j x before c)) e

-- the new ids but one
fresh_without : (s : ObjectId → Bool) (xs : List ObjectId) (i : ObjectId) → fresh (λ j. is_same j i || s j) xs ≡ filter (λ j. not (is_same j i)) (fresh s xs)
fresh_without s [] i = refl
fresh_without s (x ∷ xs) i = go (fresh_without s xs i) (fresh_without (λ j. is_same j x || s j) xs i) (s x) refl (is_same x i) refl
  where
    again : (a b : Bool) → (a || b) ≡ (a || (a || b))
    again a b = grind arith

    swapped : (a b c : Bool) → (a || (b || c)) ≡ (b || (a || c))
    swapped a b c = grind arith

    go : fresh (λ j. is_same j i || s j) xs ≡ filter (λ j. not (is_same j i)) (fresh s xs) → fresh (λ j. is_same j i || (is_same j x || s j)) xs ≡ filter (λ j. not (is_same j i)) (fresh (λ j. is_same j x || s j) xs)
        → (b : Bool) → s x ≡ b → (t : Bool) → is_same x i ≡ t
        → cond (t || b) (fresh (λ j. is_same j i || s j) xs) (x ∷ fresh (λ j. is_same j x || (is_same j i || s j)) xs) ≡ filter (λ j. not (is_same j i)) (cond b (fresh s xs) (x ∷ fresh (λ j. is_same j x || s j) xs))
    go old new true o true e = old
    go old new true o false e = old
    go old new false o true e =
        fresh_agree _ _ xs (λ j h. ap (λ y. is_same j y || s j) (sym (same_is x i e)) ∙ again (is_same j x) (s j) ∙ ap (λ y. is_same j y || (is_same j x || s j)) (same_is x i e))
        ∙ new
        ∙ ap (λ t. cond (not t) (x ∷ filter (λ j. not (is_same j i)) (fresh (λ j. is_same j x || s j) xs)) (filter (λ j. not (is_same j i)) (fresh (λ j. is_same j x || s j) xs))) (sym e)
    go old new false o false e =
        ap (λ those. x ∷ those) (fresh_agree _ _ xs (λ j h. swapped (is_same j x) (is_same j i) (s j)) ∙ new)
        ∙ ap (λ t. cond (not t) (x ∷ filter (λ j. not (is_same j i)) (fresh (λ j. is_same j x || s j) xs)) (filter (λ j. not (is_same j i)) (fresh (λ j. is_same j x || s j) xs))) (sym e)

-- one of the new ids is taken out
pub fresh_split : (s : ObjectId → Bool) (xs before behind : List ObjectId) (i : ObjectId) → fresh s xs ≡ before ++ i ∷ behind → fresh (λ j. is_same j i || s j) xs ≡ before ++ behind
fresh_split s xs before behind i e =
    fresh_without s xs i
    ∙ ap (filter (λ j. not (is_same j i))) e
    ∙ filter-append (λ j. not (is_same j i)) before (i ∷ behind)
    ∙ (λ k. filter_all (λ j. not (is_same j i)) before (λ j c. not_from_false _ (other j (λ s. once.0 (among_from i before (subst (Contains before) (same_is j i s) c))))) k ++ cond (not (same_itself i k)) (i ∷ rest) rest)
    ∙ ap (λ those. before ++ those) (filter_all (λ j. not (is_same j i)) behind (λ j c. not_from_false _ (other j (λ s. once.1 (among_from i behind (subst (Contains behind) (same_is j i s) c))))))
  where
    rest : List ObjectId
    rest = filter (λ j. not (is_same j i)) behind

    other : (j : ObjectId) → (is_same j i ≡ true → ⊥) → is_same j i ≡ false
    other j n = false_from_ne_true _ n

    most : (a b : Bool) → cond (not a && b) 1 0 ≤ 1
    most a b = grind arith

    once : (is_among i before ≡ true → ⊥) × (is_among i behind ≡ true → ⊥)
    once =
        let count : times i before + times i (i ∷ behind) ≡ cond (not (s i) && is_among i xs) 1 0 = sym (times-append i before (i ∷ behind)) ∙ ap (times i) (sym e) ∙ times-fresh i s xs in
        let here : times i (i ∷ behind) ≡ 1 + times i behind = ap (λ b. cond b 1 0 + times i behind) (same_itself i) in
        let few : cond (not (s i) && is_among i xs) 1 0 ≤ 1 = most (s i) (is_among i xs) in
        (λ a. let n : 1 ≤ times i before = among_times i before a in omega arith, λ a. let n : 1 ≤ times i behind = among_times i behind a in omega arith)
