-- Which commits are ready: how taking one changes them. Over any walked parents and any set.
use Rattle.std.proofs.Common.{◌≡◌, ◌⊎◌, ◌+◌, ◌≤◌, ℕ, ℤ, List, [], ◌∷◌, ◌++◌, Bool, true, false, not, ◌&&◌, ◌||◌, cond, Contains, refl, sym, ap, subst, inl, inr, ⊎_elim, ◌∙◌, arith, true≢false}
use Rattle.gix_topo.proofs.Common.{false_from_ne_true, and_parts, not-true, or_cases, or_left, or_right, ObjectId, is_same, is_among, Reaches, start, step, IsInWalk, IsChild, IsChildless, IsReady, Keeps, passed, distinct_after}
use Rattle.gix_topo.proofs.Common.{first_places, last_places, by_time, AreDistinct, same_is, among_from, among_is, Contains-here, Contains-there, Contains-cons_cases, no_member, fresh, times_none, times_moved, times-fresh, among_times}
use Rattle.gix_topo.specs.TopoOrder.{none, kept}
use Rattle.gix_revwalk.proofs.NewIds.{times}
use Rattle.gix_topo.proofs.Readiness.RisingTime.{by_time_moves}

-- lists in which an id is as often
pub among_by : (i : ObjectId) (xs ys : List ObjectId) → times i xs ≡ times i ys → is_among i xs ≡ is_among i ys
among_by i xs ys e = grind (arith, among_times i xs, among_times i ys, times_none i xs, times_none i ys)

pub distinct_times : (xs : List ObjectId) → AreDistinct xs → (i : ObjectId) → times i xs ≤ 1
distinct_times [] d i = omega arith
distinct_times (x ∷ xs) d i = go (is_same i x) (times i xs) (distinct_times xs d.1 i) (λ e. times_none i xs (false_from_ne_true _ (λ t. d.0 (subst (λ y. Contains xs y) (same_is i x e) (among_is i xs t)))))
  where
    go : (b : Bool) (n : ℕ) → n ≤ 1 → (b ≡ true → n ≡ 0) → cond b 1 0 + n ≤ 1
    go b n l z = grind arith

-- what is kept of a list
module _ (P : ObjectId → Type 0) where
  pub keeps_in : {xs ys : List ObjectId} → Keeps P xs ys → (i : ObjectId) → Contains xs i → P i → Contains ys i
  keeps_in none i c p = absurd (no_member i c)
  keeps_in (kept {i = x} {ids = xs} {those = ys} h k) i c p = ⊎_elim (λ e. subst (λ y. Contains (x ∷ ys) y) e (Contains-here x ys)) (λ t. Contains-there i x ys (keeps_in k i t p)) (Contains-cons_cases i x xs c)
  keeps_in (passed {i = x} {ids = xs} n k) i c p = ⊎_elim (λ e. absurd (n (subst P (sym e) p))) (λ t. keeps_in k i t p) (Contains-cons_cases i x xs c)

  pub keeps_from : {xs ys : List ObjectId} → Keeps P xs ys → (i : ObjectId) → Contains ys i → Contains xs i × P i
  keeps_from none i c = absurd (no_member i c)
  keeps_from (kept {i = x} {ids = xs} {those = ys} h k) i c =
      ⊎_elim (λ e. (subst (λ y. Contains (x ∷ xs) y) e (Contains-here x xs), subst P e h)) (λ t. let r : Contains xs i × P i = keeps_from k i t in (Contains-there i x xs r.0, r.1)) (Contains-cons_cases i x ys c)
  keeps_from (passed {i = x} {ids = xs} n k) i c = let r : Contains xs i × P i = keeps_from k i c in (Contains-there i x xs r.0, r.1)

  pub keeps_times : {xs ys : List ObjectId} → Keeps P xs ys → (i : ObjectId) → times i ys ≤ times i xs
  keeps_times none i = omega arith
  keeps_times (kept {i = x} {ids = xs} {those = ys} h k) i = let r : times i ys ≤ times i xs = keeps_times k i in omega arith
  keeps_times (passed {i = x} {ids = xs} {those = ys} n k) i = let r : times i ys ≤ times i xs = keeps_times k i in omega arith

  -- there is one list of those kept
  pub keeps_one : {xs ys : List ObjectId} → Keeps P xs ys → (zs : List ObjectId) → Keeps P xs zs → ys ≡ zs
  keeps_one none zs none = refl
  keeps_one (kept {i = x} h k) (y ∷ zs) (kept g l) = ap (λ ws. x ∷ ws) (keeps_one k zs l)
  keeps_one (kept h k) zs (passed n l) = absurd (n h)
  keeps_one (passed n k) (y ∷ zs) (kept g l) = absurd (n g)
  keeps_one (passed n k) zs (passed m l) = keeps_one k zs l

-- P in other words, for the ids of a list
pub keeps_on : {P Q : ObjectId → Type 0} {xs ys : List ObjectId} → ((i : ObjectId) → Contains xs i → P i → Q i) → ((i : ObjectId) → Contains xs i → Q i → P i) → Keeps P xs ys → Keeps Q xs ys
keeps_on f g none = none
keeps_on f g (kept {i = i} {ids = ids} p k) = kept (f i (Contains-here i ids) p) (keeps_on (λ j m. f j (Contains-there j i ids m)) (λ j m. g j (Contains-there j i ids m)) k)
keeps_on f g (passed {i = i} {ids = ids} n k) = passed (λ q. n (g i (Contains-here i ids) q)) (keeps_on (λ j m. f j (Contains-there j i ids m)) (λ j m. g j (Contains-there j i ids m)) k)

-- one list after the other
pub keeps_append : {P : ObjectId → Type 0} {xs ys first others : List ObjectId} → Keeps P xs first → Keeps P ys others → Keeps P (xs ++ ys) (first ++ others)
keeps_append none k = k
keeps_append (kept p h) k = kept p (keeps_append h k)
keeps_append (passed n h) k = passed n (keeps_append h k)

pub keeps_alike : (P Q : ObjectId → Type 0) → ((i : ObjectId) → P i → Q i) → ((i : ObjectId) → Q i → P i) → {xs ys : List ObjectId} → Keeps P xs ys → Keeps Q xs ys
keeps_alike P Q f g = keeps_on (λ i m. f i) (λ i m. g i)

-- so often or not at all
counted_among : (i : ObjectId) (xs : List ObjectId) (b : Bool) → times i xs ≡ cond b 1 0 → is_among i xs ≡ b
counted_among i xs b e = grind (arith, among_times i xs, times_none i xs)

counted_once : (n : ℕ) (b : Bool) → n ≡ cond b 1 0 → n ≤ 1
counted_once n b e = grind arith

-- each id at its last place
pub times-last : (i : ObjectId) (xs : List ObjectId) → times i (last_places xs) ≡ cond (is_among i xs) 1 0
times-last i [] = refl
times-last i (x ∷ xs) = go (is_among x xs) (last_places xs) ∙ counted (is_among x xs) (is_same i x) (is_among i xs) (times i (last_places xs)) (times-last i xs) (λ s. ap (λ y. is_among y xs) (same_is i x s))
  where
    go : (b : Bool) (ys : List ObjectId) → times i (cond b ys (x ∷ ys)) ≡ cond b (times i ys) (cond (is_same i x) 1 0 + times i ys)
    go true ys = refl
    go false ys = refl

    counted : (b s c : Bool) (n : ℕ) → n ≡ cond c 1 0 → (s ≡ true → c ≡ b) → cond b n (cond s 1 0 + n) ≡ cond (s || c) 1 0
    counted b s c n r o = grind arith

last_among : (xs : List ObjectId) (i : ObjectId) → is_among i (last_places xs) ≡ is_among i xs
last_among xs i = counted_among i (last_places xs) (is_among i xs) (times-last i xs)

pub last_in : (xs : List ObjectId) (i : ObjectId) → Contains xs i → Contains (last_places xs) i
last_in xs i c = among_is i _ (last_among xs i ∙ among_from i xs c)

pub last_from : (xs : List ObjectId) (i : ObjectId) → Contains (last_places xs) i → Contains xs i
last_from xs i c = among_is i xs (sym (last_among xs i) ∙ among_from i _ c)

pub last_once : (xs : List ObjectId) (i : ObjectId) → times i (last_places xs) ≤ 1
last_once xs i = counted_once (times i (last_places xs)) (is_among i xs) (times-last i xs)

-- each id at its first place: the ids that are new
distinct_fresh : (seen xs : List ObjectId) → distinct_after seen xs ≡ fresh (λ j. is_among j seen) xs
distinct_fresh seen [] = refl
distinct_fresh seen (x ∷ xs) = λ k. cond (is_among x seen) (distinct_fresh seen xs k) (x ∷ distinct_fresh (x ∷ seen) xs k)

times-first : (seen xs : List ObjectId) (i : ObjectId) → times i (distinct_after seen xs) ≡ cond (not (is_among i seen) && is_among i xs) 1 0
times-first seen xs i = ap (times i) (distinct_fresh seen xs) ∙ times-fresh i (λ j. is_among j seen) xs

pub first_among : (seen xs : List ObjectId) (i : ObjectId) → is_among i (distinct_after seen xs) ≡ (not (is_among i seen) && is_among i xs)
first_among seen xs i = counted_among i (distinct_after seen xs) _ (times-first seen xs i)

pub first_from : (seen xs : List ObjectId) (i : ObjectId) → Contains (distinct_after seen xs) i → (is_among i seen ≡ false) × Contains xs i
first_from seen xs i m = let k = and_parts _ _ (sym (first_among seen xs i) ∙ among_from i _ m) in (not-true _ k.0, among_is i xs k.1)

pub first_once : (xs : List ObjectId) (i : ObjectId) → times i (first_places xs) ≤ 1
first_once xs i = counted_once (times i (first_places xs)) _ (times-first [] xs i)

-- sorting by time leaves the ids
pub among-by_time : (time : ObjectId → ℤ) (i : ObjectId) (xs : List ObjectId) → is_among i (by_time time xs) ≡ is_among i xs
among-by_time time i xs = among_by i (by_time time xs) xs (times_moved i xs (by_time time xs) (by_time_moves time xs))

module _ (walked : ObjectId → List ObjectId) (In : ObjectId → Type 0) where
  -- these are exactly the ready ones
  pub record AreReady (Taken : ObjectId → Type 0) (ready : List ObjectId) : Type 0 where
    pub each : (i : ObjectId) → is_among i ready ≡ true → IsReady walked In Taken i
    pub all : (i : ObjectId) → IsReady walked In Taken i → is_among i ready ≡ true

  pub ready_alike : (T U : ObjectId → Type 0) → ((i : ObjectId) → T i → U i) → ((i : ObjectId) → U i → T i) → (i : ObjectId) → IsReady walked In T i → IsReady walked In U i
  ready_alike T U f g i h = record { member = h.member; left = λ u. h.left (g i u); children = λ d c. f d (h.children d c) }

  pub are_ready_alike : (T U : ObjectId → Type 0) → ((i : ObjectId) → T i → U i) → ((i : ObjectId) → U i → T i) → (ready : List ObjectId) → AreReady T ready → AreReady U ready
  are_ready_alike T U f g ready h = record { each = λ i m. ready_alike T U f g i (h.each i m); all = λ i r. h.all i (ready_alike U T g f i r) }

  -- one more is taken
  pub record IsOneMore (T U : ObjectId → Type 0) (c : ObjectId) : Type 0 where
    pub before : (i : ObjectId) → T i → U i
    pub now : U c
    pub either : (i : ObjectId) → U i → T i ⊎ (c ≡ i)

  pub takes_ready : (T U : ObjectId → Type 0) (c : ObjectId) (ready others added new : List ObjectId) → IsOneMore T U c → AreReady T ready → ((i : ObjectId) → is_among i ready ≡ (is_same i c || is_among i others)) → (Contains others c → ⊥) →
      Keeps (IsReady walked In U) (last_places (walked c)) added → ((i : ObjectId) → is_among i new ≡ (is_among i others || is_among i added)) → AreReady U new
  takes_ready T U c ready others added new more h was alone keeps now =
      record { each = λ i m. ⊎_elim (still i) (λ a. (keeps_from (IsReady walked In U) keeps i (among_is i added a)).1) (or_cases _ _ (sym (now i) ∙ m)); all = λ i r. all i r (is_among i (walked c)) refl }
    where
      still : (i : ObjectId) → is_among i others ≡ true → IsReady walked In U i
      still i o =
          let r : IsReady walked In T i = h.each i (was i ∙ or_right (is_same i c) _ o) in
          record { member = r.member; left = λ u. ⊎_elim r.left (λ k. alone (subst (Contains others) (sym k) (among_is i others o))) (more.either i u); children = λ d k. more.before d (r.children d k) }

      all : (i : ObjectId) → IsReady walked In U i → (b : Bool) → is_among i (walked c) ≡ b → is_among i new ≡ true
      all i r true m = now i ∙ or_right (is_among i others) _ (among_from i added (keeps_in (IsReady walked In U) keeps i (last_in (walked c) i (among_is i (walked c) m)) r))
      all i r false m =
          let old : IsReady walked In T i = record {
            member = r.member;
            left = λ t. r.left (more.before i t);
            children = λ d k. ⊎_elim (λ t. t) (λ e. absurd (true≢false (sym (among_from i (walked c) (subst (λ y. Contains (walked y) i) (sym e) k.named)) ∙ m))) (more.either d (r.children d k));
          } in
          ⊎_elim (λ s. absurd (r.left (subst U (sym (same_is i c s)) more.now))) (λ o. now i ∙ or_left (is_among i others) _ o) (or_cases _ _ (sym (was i) ∙ h.all i old))

  -- at first the childless tips are ready
  pub starts_ready : (T : ObjectId → Type 0) (tips childless starts : List ObjectId) → ((i : ObjectId) → T i → ⊥) → ((i : ObjectId) → In i → Contains tips i ⊎ ((c : ObjectId) × IsChild walked In c i)) →
      Keeps (IsChildless walked In) (first_places tips) childless → ((i : ObjectId) → is_among i starts ≡ is_among i childless) → AreReady T starts
  starts_ready T tips childless starts untaken top keeps same =
      record {
        each = λ i m. let k = (keeps_from (IsChildless walked In) keeps i (among_is i childless (sym (same i) ∙ m))).1 in record { member = k.member; left = untaken i; children = λ d c. absurd (k.alone d c) };
        all = λ i r.
            ⊎_elim (λ tip. same i ∙ among_from i childless (keeps_in (IsChildless walked In) keeps i (among_is i _ (first_among [] tips i ∙ among_from i tips tip)) (record { member = r.member; alone = λ d c. untaken d (r.children d c) })))
            (λ c. absurd (untaken c.0 (r.children c.0 c.1))) (top i r.member);
      }

-- a member of a walk is a tip or has a child
pub in_walk_top : (walked all : ObjectId → List ObjectId) (tips ends : List ObjectId) → ((c i : ObjectId) → Contains (walked c) i → Contains (all c) i) → (i : ObjectId) → IsInWalk walked all tips ends i → Contains tips i ⊎ ((c : ObjectId) × IsChild walked (IsInWalk walked all tips ends) c i)
in_walk_top walked all tips ends within i h = go i h.reached h
  where
    go : (i : ObjectId) → Reaches walked tips i → IsInWalk walked all tips ends i → Contains tips i ⊎ ((c : ObjectId) × IsChild walked (IsInWalk walked all tips ends) c i)
    go i (start s) h = inl s
    go i (step {c = c} r n) h = inr (c, record { child = record { reached = r; outside = λ e. h.outside (step e (within c i n)) }; parent = h; named = n })
