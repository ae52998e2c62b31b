-- Lists by falling turn: one more behind all others, one taken out, and one list of what was put in.
use Rattle.std.proofs.Common.{◌≡◌, ◌==◌, ◌<◌, ◌≤◌, ◌<ℤ◌, ◌≤ℤ◌, ℕ, suc, ℤ, nat_lt, List, [], ◌∷◌, ◌++◌, length, map, Bool, true, false, cond, sum_by, All, Contains, IsPermutation, Some, refl, sym, ap, subst, ⊎_elim, ◌∙◌, arith, append-nil, is_lt, int_cmp, nat_cmp}
use Rattle.std.proofs.lemmas.List.{map-append}
use Rattle.std.proofs.lemmas.List.Elements.{All-nil, All-cons, All-tail, All-head, All-weaker, All-contains, All-map}
use Rattle.std.proofs.lemmas.List.Sorted.{IsPermutation-refl, IsPermutation-sym, IsPermutation-cons, IsPermutation-trans, IsPermutation-middle, IsPermutation-map, All-permutation, Contains-permutation, sum_by-IsPermutation}
use Rattle.std.proofs.lemmas.List.Sums.{sum_by-cons}
use Rattle.std.proofs.lemmas.Int.{ints}
use Rattle.gix_revwalk.proofs.Common.{Contains-here, Contains-there, Contains-cons_cases, no_member}
use Rattle.std.proofs.lemmas.List.Elements.{All-contains_itself, Contains-append_left, Contains-append_right}
use Rattle.std.proofs.lemmas.List.Sorted.{IsPermutation-append_left, IsPermutation-append_right, length_permutation}
use Rattle.std.proofs.lemmas.Cmp.{int_ranked}
use Rattle.std.proofs.Common.{Ordering, Less, Equal, Greater, true≢false}
use Rattle.std.specs.BinaryHeap.{IsUpperBound}
use Rattle.std.specs.Ordering.{MatchOrdering, ordering_then}
use Rattle.gix_revwalk.specs.PriorityQueue.{keys, values}
use Rattle.gix_revwalk.specs.declared.time_queue.Turn.{Turn}
use Rattle.gix_revwalk.specs.Turns.{insert_by_turn, by_turn, AreApart, turn_of, timed, times_and_values, AreInTurn, TakesFirst}

module _ {X : Type 0} (turn : X → ℕ) where
  often : ℕ → List X → ℕ
  often t xs = sum_by (λ x. cond (turn x == t) 1 0) xs

  pub apart_moved : (xs ys : List X) → IsPermutation xs ys → AreApart turn xs → AreApart turn ys
  apart_moved xs ys p apart t = let e = sum_by-IsPermutation (λ x. cond (turn x == t) 1 0) xs ys p in let b = apart t in omega (arith, e, b)

  occurs : (z : X) (xs : List X) → Contains xs z → 1 ≤ sum_by (λ x. cond (turn x == turn z) 1 0) xs
  occurs z [] c = absurd (no_member z c)
  occurs z (x ∷ xs) c =
      let e = sum_by-cons (λ x. cond (turn x == turn z) 1 0) x xs in
      ⊎_elim (λ s. let t : turn z ≡ turn x = ap turn (sym s) in grind arith) (λ m. let r = occurs z xs m in grind arith) (Contains-cons_cases z x xs c)

  apart_from : (x z : X) (xs : List X) → AreApart turn (x ∷ xs) → Contains xs z → turn z ≡ turn x → ⊥
  apart_from x z xs apart c s =
      let e = sum_by-cons (λ y. cond (turn y == turn z) 1 0) x xs in
      let b = apart (turn z) in
      let r = occurs z xs c in
      grind arith

  pub apart_rest : (x : X) (xs : List X) → AreApart turn (x ∷ xs) → AreApart turn xs
  apart_rest x xs apart t = let e = sum_by-cons (λ y. cond (turn y == t) 1 0) x xs in let b = apart t in grind arith

  none_of : (t : ℕ) (xs : List X) → ((z : X) → Contains xs z → turn z ≡ t → ⊥) → sum_by (λ x. cond (turn x == t) 1 0) xs ≡ 0
  none_of t [] h = refl
  none_of t (x ∷ xs) h =
      let e = sum_by-cons (λ y. cond (turn y == t) 1 0) x xs in
      let r = none_of t xs (λ z c. h z (Contains-there z x xs c)) in
      let n : turn x ≡ t → ⊥ = h x (Contains-here x xs) in
      grind arith

  -- one more, of a turn that is less than all
  pub apart_more : (x : X) (xs : List X) → All (λ z. turn x < turn z) xs → AreApart turn xs → AreApart turn (x ∷ xs)
  apart_more x xs low apart t =
      let e = sum_by-cons (λ y. cond (turn y == t) 1 0) x xs in
      let b = apart t in
      let n : sum_by (λ y. cond (turn y == turn x) 1 0) xs ≡ 0 = none_of (turn x) xs (λ z c s. let l : turn x < turn z = All-contains (λ z. turn x < turn z) xs z low c in omega arith) in
      let m : turn x ≡ t → sum_by (λ y. cond (turn y == t) 1 0) xs ≡ 0 = λ s. subst (λ t. sum_by (λ y. cond (turn y == t) 1 0) xs ≡ 0) s n in
      grind arith

  inserted : (x : X) (ys : List X) → IsPermutation (x ∷ ys) (insert_by_turn turn x ys)
  inserted x [] = IsPermutation-refl (x ∷ [])
  inserted x (y ∷ ys) = go (nat_lt (turn x) (turn y)) (inserted x ys)
    where
      go : (b : Bool) → IsPermutation (x ∷ ys) (insert_by_turn turn x ys) → IsPermutation (x ∷ y ∷ ys) (cond b (y ∷ insert_by_turn turn x ys) (x ∷ y ∷ ys))
      go true p = IsPermutation-trans _ _ _ (IsPermutation-sym _ _ (IsPermutation-middle (y ∷ []) x ys)) (IsPermutation-cons y (x ∷ ys) (insert_by_turn turn x ys) p)
      go false p = IsPermutation-refl (x ∷ y ∷ ys)

  pub by_turn_moves : (xs : List X) → IsPermutation xs (by_turn turn xs)
  by_turn_moves [] = IsPermutation-refl []
  by_turn_moves (x ∷ xs) = IsPermutation-trans _ _ _ (IsPermutation-cons x xs (by_turn turn xs) (by_turn_moves xs)) (inserted x (by_turn turn xs))

  abbrev Falls : List X → Type 0
  Falls [] = Unit {0}
  Falls (y ∷ ys) = All (λ z. turn z < turn y) ys × Falls ys

  falls_insert : (x : X) (ys : List X) → Falls ys → ((z : X) → Contains ys z → turn z ≡ turn x → ⊥) → Falls (insert_by_turn turn x ys)
  falls_insert x [] h other = (All-nil (λ z. turn z < turn x), tt)
  falls_insert x (y ∷ ys) h other = go (nat_lt (turn x) (turn y)) refl (falls_insert x ys h.1 (λ z c. other z (Contains-there z y ys c)))
    where
      go : (b : Bool) → nat_lt (turn x) (turn y) ≡ b → Falls (insert_by_turn turn x ys) → Falls (cond b (y ∷ insert_by_turn turn x ys) (x ∷ y ∷ ys))
      go true e r = let l : turn x < turn y = grind arith in (All-permutation (λ z. turn z < turn y) (x ∷ ys) (insert_by_turn turn x ys) (inserted x ys) (All-cons (λ z. turn z < turn y) x ys l h.0), r)
      go false e r =
          let n : turn y ≡ turn x → ⊥ = other y (Contains-here y ys) in
          let l : turn y < turn x = grind arith in
          (All-cons (λ z. turn z < turn x) y ys l (All-weaker (λ z. turn z < turn y) (λ z. turn z < turn x) (λ z k. omega arith) ys h.0), h)

  by_turn_falls : (xs : List X) → AreApart turn xs → Falls (by_turn turn xs)
  by_turn_falls [] apart = tt
  by_turn_falls (x ∷ xs) apart = falls_insert x (by_turn turn xs) (by_turn_falls xs (apart_rest x xs apart)) (λ z c. apart_from x z xs apart (Contains-permutation (by_turn turn xs) xs z (IsPermutation-sym _ _ (by_turn_moves xs)) c))

  -- lists of falling turn with the same values are one list
  one_list : (ys zs : List X) → Falls ys → Falls zs → ((p : X) → Contains ys p → Contains zs p) → ((p : X) → Contains zs p → Contains ys p) → ys ≡ zs
  one_list [] [] f g to back = refl
  one_list [] (z ∷ zs) f g to back = absurd (no_member z (back z (Contains-here z zs)))
  one_list (y ∷ ys) [] f g to back = absurd (no_member y (to y (Contains-here y ys)))
  one_list (y ∷ ys) (z ∷ zs) f g to back =
      let same : y ≡ z =
      ⊎_elim sym (λ c. ⊎_elim (λ e. e) (λ d. let l : turn y < turn z = All-contains (λ p. turn p < turn z) zs y g.0 c in let m : turn z < turn y = All-contains (λ p. turn p < turn y) ys z f.0 d in absurd (omega arith)) (Contains-cons_cases z y ys (back z (Contains-here z zs)))) (Contains-cons_cases y z zs (to y (Contains-here y ys))) in
      let turns : turn y ≡ turn z = ap turn same in
      (λ k. same k ∷ one_list ys zs f.1 g.1
      (λ p c. ⊎_elim (λ e. let l : turn p < turn y = All-contains (λ q. turn q < turn y) ys p f.0 c in let t : turn p ≡ turn z = ap turn (sym e) in absurd (omega arith)) (λ d. d) (Contains-cons_cases p z zs (to p (Contains-there p y ys c))))
      (λ p c. ⊎_elim (λ e. let l : turn p < turn z = All-contains (λ q. turn q < turn z) zs p g.0 c in let t : turn p ≡ turn y = ap turn (sym e) in absurd (omega arith)) (λ d. d) (Contains-cons_cases p y ys (back p (Contains-there p z zs c)))) k)

  pub by_turn_moved : (xs ys : List X) → AreApart turn xs → IsPermutation xs ys → by_turn turn xs ≡ by_turn turn ys
  by_turn_moved xs ys apart p =
      let all : IsPermutation (by_turn turn xs) (by_turn turn ys) = IsPermutation-trans _ _ _ (IsPermutation-sym _ _ (by_turn_moves xs)) (IsPermutation-trans _ _ _ p (by_turn_moves ys)) in
      one_list (by_turn turn xs) (by_turn turn ys) (by_turn_falls xs apart) (by_turn_falls ys (apart_moved xs ys p apart)) (λ q c. Contains-permutation _ _ q all c) (λ q c. Contains-permutation _ _ q (IsPermutation-sym _ _ all) c)

  last_inserted : (x : X) (ys : List X) → All (λ z. turn x < turn z) ys → insert_by_turn turn x ys ≡ ys ++ x ∷ []
  last_inserted x [] low = refl
  last_inserted x (y ∷ ys) low =
      let l : turn x < turn y = All-head (λ z. turn x < turn z) y ys low in
      let r = last_inserted x ys (All-tail (λ z. turn x < turn z) y ys low) in
      grind arith

  -- one that is put in comes behind all others
  pub put_in : (x : X) (old new : List X) → All (λ z. turn x < turn z) old → AreApart turn old → IsPermutation (x ∷ old) new → by_turn turn new ≡ by_turn turn old ++ x ∷ []
  put_in x old new low apart p =
      sym (by_turn_moved (x ∷ old) new (apart_more x old low apart) p)
      ∙ last_inserted x (by_turn turn old) (All-permutation (λ z. turn x < turn z) old (by_turn turn old) (by_turn_moves old) low)

  -- where one is inserted
  pub record Splits (x : X) (with without : List X) : Type 0 where
    pub before : List X
    pub behind : List X
    pub here : with ≡ before ++ x ∷ behind
    pub gone : without ≡ before ++ behind
    pub earlier : All (λ z. turn x < turn z) before

  splits : (x : X) (ys : List X) → Splits x (insert_by_turn turn x ys) ys
  splits x [] = record { before = []; behind = []; here = refl; gone = refl; earlier = All-nil (λ z. turn x < turn z) }
  splits x (y ∷ ys) = go (nat_lt (turn x) (turn y)) refl (splits x ys)
    where
      go : (b : Bool) → nat_lt (turn x) (turn y) ≡ b → Splits x (insert_by_turn turn x ys) ys → Splits x (cond b (y ∷ insert_by_turn turn x ys) (x ∷ y ∷ ys)) (y ∷ ys)
      go true e r = record { before = y ∷ r.before; behind = r.behind; here = ap (λ l. y ∷ l) r.here; gone = ap (λ l. y ∷ l) r.gone; earlier = All-cons (λ z. turn x < turn z) y r.before (grind arith) r.earlier }
      go false e r = record { before = []; behind = y ∷ ys; here = refl; gone = refl; earlier = All-nil (λ z. turn x < turn z) }

  -- one that is taken out leaves the others in their order
  pub taken_out : (x : X) (old new : List X) → AreApart turn old → IsPermutation old (x ∷ new) → Splits x (by_turn turn old) (by_turn turn new)
  taken_out x old new apart p = subst (λ l. Splits x l (by_turn turn new)) (sym (by_turn_moved old (x ∷ new) apart p)) (splits x (by_turn turn new))

-- what an upper bound says of a key
bounded : {K T : Type 0} (R : K → K → Ordering) (k : K) (pairs : List (K × T)) → IsUpperBound R k (keys pairs) → (pair : K × T) → Contains pairs pair → is_lt (R k pair.0) ≡ false
bounded R k [] h pair c = absurd (no_member pair c)
bounded R k (x ∷ pairs) h pair c = ⊎_elim (λ e. subst (λ p. is_lt (R k p.0) ≡ false) e h.0) (λ m. bounded R k pairs h.1 pair m) (Contains-cons_cases pair x pairs c)

abbrev pub turn_cmp : Turn → Turn → Ordering
turn_cmp a b = ordering_then (int_cmp a.time b.time) (nat_cmp a.turn b.turn)

-- one that isn't less has no lesser time, and a greater one where it came later
later : (a b : ℤ) (m n : ℕ) → is_lt (ordering_then (int_cmp a b) (nat_cmp m n)) ≡ false → (b ≤ℤ a) × (m < n → b <ℤ a)
later a b m n h = go (int_cmp a b) (int_ranked a b _ refl) h
  where
    go : (o : Ordering) → MatchOrdering o (a <ℤ b) (a ≡ b) (b <ℤ a) → is_lt (ordering_then o (nat_cmp m n)) ≡ false → (b ≤ℤ a) × (m < n → b <ℤ a)
    go Less r e = absurd (true≢false e)
    go Equal r e = (omega (arith, ints), λ l. grind arith)
    go Greater r e = (omega (arith, ints), λ l. r)

not_lower : (m n : ℕ) → is_lt (nat_cmp m n) ≡ false → m < n → ⊥
not_lower m n e l = grind arith

module _ {T : Type 0} where
  pub takes_first : (pair : Turn × T) (old new : List (Turn × T)) → AreApart turn_of old → IsPermutation old (pair ∷ new) → IsUpperBound turn_cmp pair.0 (keys old) → TakesFirst (times_and_values old) (Some (timed pair)) (times_and_values new)
  takes_first pair old new apart p upper =
      let s : Splits turn_of pair (by_turn turn_of old) (by_turn turn_of new) = taken_out turn_of pair old new apart p in
      let known : (z : Turn × T) → Contains (by_turn turn_of old) z → (z.0.time ≤ℤ pair.0.time) × (turn_of pair < turn_of z → z.0.time <ℤ pair.0.time) =
      λ z c. later pair.0.time z.0.time (turn_of pair) (turn_of z) (bounded turn_cmp pair.0 old upper z (Contains-permutation _ _ z (IsPermutation-sym _ _ (by_turn_moves turn_of old)) c)) in
      let in_old : (z : Turn × T) → Contains (s.before ++ pair ∷ s.behind) z → Contains (by_turn turn_of old) z = λ z c. subst (λ l. Contains l z) (sym s.here) c in (
        map timed s.before,
        map timed s.behind,
        ap (map timed) s.here ∙ map-append timed s.before (pair ∷ s.behind),
        ap (map timed) s.gone ∙ map-append timed s.before s.behind,
        All-map (λ q. q.0 <ℤ pair.0.time) timed s.before
            (All-weaker (Contains s.before) (λ z. z.0.time <ℤ pair.0.time)
            (λ z c. (known z (in_old z (Contains-append_left s.before (pair ∷ s.behind) z c))).1 (All-contains (λ y. turn_of pair < turn_of y) s.before z s.earlier c)) s.before (All-contains_itself s.before)),
        All-map (λ q. q.0 ≤ℤ pair.0.time) timed s.behind
            (All-weaker (Contains s.behind) (λ z. z.0.time ≤ℤ pair.0.time)
            (λ z c. (known z (in_old z (Contains-append_right s.before (pair ∷ s.behind) z (Contains-there z pair s.behind c)))).0) s.behind (All-contains_itself s.behind)),
      )

  abbrev pub numbered : Turn × T → ℕ × T
  numbered pair = (pair.0.turn, pair.1)

  abbrev pub number : ℕ × T → ℕ
  number pair = pair.0

  insert_numbered : (x : Turn × T) (ys : List (Turn × T)) → insert_by_turn number (numbered x) (map numbered ys) ≡ map numbered (insert_by_turn turn_of x ys)
  insert_numbered x [] = refl
  insert_numbered x (y ∷ ys) = go (nat_lt (turn_of x) (turn_of y)) (insert_numbered x ys)
    where
      go : (b : Bool) → insert_by_turn number (numbered x) (map numbered ys) ≡ map numbered (insert_by_turn turn_of x ys)
          → cond b (numbered y ∷ insert_by_turn number (numbered x) (map numbered ys)) (numbered x ∷ numbered y ∷ map numbered ys) ≡ map numbered (cond b (y ∷ insert_by_turn turn_of x ys) (x ∷ y ∷ ys))
      go true r = ap (λ l. numbered y ∷ l) r
      go false r = refl

  by_number : (xs : List (Turn × T)) → by_turn number (map numbered xs) ≡ map numbered (by_turn turn_of xs)
  by_number [] = refl
  by_number (x ∷ xs) = ap (insert_by_turn number (numbered x)) (by_number xs) ∙ insert_numbered x (by_turn turn_of xs)

  apart_numbered : (t : ℕ) (xs : List (Turn × T)) → sum_by (λ x. cond (number x == t) 1 0) (map numbered xs) ≡ sum_by (λ x. cond (turn_of x == t) 1 0) xs
  apart_numbered t [] = refl
  apart_numbered t (x ∷ xs) =
      let a = sum_by-cons (λ y. cond (number y == t) 1 0) (numbered x) (map numbered xs) in
      let b = sum_by-cons (λ y. cond (turn_of y == t) 1 0) x xs in
      let r = apart_numbered t xs in
      grind arith

  values_mapped : (xs : List (Turn × T)) → values (map numbered xs) ≡ values (map timed xs)
  values_mapped [] = refl
  values_mapped (x ∷ xs) = ap (λ l. x.1 ∷ l) (values_mapped xs)

  -- all values by their turns alone
  pub in_turn : (queue left : List (Turn × T)) (all : List (ℕ × T)) → AreApart turn_of queue → IsPermutation (map numbered queue) (all ++ map numbered left) → left ≡ [] → AreApart number all × (values (by_turn number all) ≡ values (times_and_values queue))
  in_turn queue left all apart h none =
      let p : IsPermutation (map numbered queue) all = subst (IsPermutation (map numbered queue)) (ap (λ l. all ++ map numbered l) none ∙ append-nil all) h in
      let there : AreApart number (map numbered queue) = λ t. let e = apart_numbered t queue in let b = apart t in omega (arith, e, b) in
      (apart_moved number (map numbered queue) all p there, ap values (sym (by_turn_moved number (map numbered queue) all there p) ∙ by_number queue) ∙ values_mapped (by_turn turn_of queue))

  -- one goes over
  pub goes_over : (all left rest : List (Turn × T)) (done next : List (ℕ × T)) (pair : Turn × T) → IsPermutation (map numbered all) (done ++ map numbered left) → IsPermutation left (pair ∷ rest) → IsPermutation (numbered pair ∷ done) next → IsPermutation (map numbered all) (next ++ map numbered rest)
  goes_over all left rest done next pair h out in_ =
      IsPermutation-trans _ _ _ h (IsPermutation-trans _ _ _ (IsPermutation-append_right done (map numbered left) (numbered pair ∷ map numbered rest) (IsPermutation-map numbered left (pair ∷ rest) out))
      (IsPermutation-trans _ _ _ (IsPermutation-middle done (numbered pair) (map numbered rest)) (IsPermutation-append_left (map numbered rest) (numbered pair ∷ done) next in_)))

  -- the greatest turn comes first
  pub comes_next : (pair : ℕ × T) (old new : List (ℕ × T)) → AreApart number old → IsPermutation old (pair ∷ new) → IsUpperBound nat_cmp pair.0 (keys old) → (values (by_turn number old) ≡ pair.1 ∷ values (by_turn number new)) × AreApart number new
  comes_next pair old new apart p upper = (go s.before s.here s.gone s.earlier, apart_rest number pair new (apart_moved number old (pair ∷ new) p apart))
    where
      s : Splits number pair (by_turn number old) (by_turn number new)
      s = taken_out number pair old new apart p

      go : (before : List (ℕ × T)) → by_turn number old ≡ before ++ pair ∷ s.behind → by_turn number new ≡ before ++ s.behind → All (λ z. number pair < number z) before → values (by_turn number old) ≡ pair.1 ∷ values (by_turn number new)
      go [] here gone earlier = ap values here ∙ ap (λ l. pair.1 ∷ values l) (sym gone)
      go (z ∷ before) here gone earlier =
          let c : Contains old z = Contains-permutation _ _ z (IsPermutation-sym _ _ (by_turn_moves number old)) (subst (λ l. Contains l z) (sym here) (Contains-here z (before ++ pair ∷ s.behind))) in
          absurd (not_lower (number pair) (number z) (bounded nat_cmp pair.0 old upper z c) (All-head (λ z. number pair < number z) z before earlier))

  -- one more
  pub more_in_turn : (next turn : ℕ) (pair : Turn × T) (old new : List (Turn × T)) → AreInTurn turn old → turn_of pair ≡ turn → suc next ≡ turn → IsPermutation (pair ∷ old) new → AreInTurn next new × (times_and_values new ≡ times_and_values old ++ timed pair ∷ [])
  more_in_turn next turn pair old new h own below p =
      let low : All (λ z. turn_of pair < turn_of z) old = subst (λ n. All (λ z. n < turn_of z) old) (sym own) h.given in (
        record {
          apart = apart_moved turn_of (pair ∷ old) new p (apart_more turn_of pair old low h.apart);
          given = All-permutation (λ z. next < turn_of z) (pair ∷ old) new p (All-cons (λ z. next < turn_of z) pair old (omega arith) (All-weaker (λ z. turn < turn_of z) (λ z. next < turn_of z) (λ z l. omega arith) old h.given));
        },
        ap (map timed) (put_in turn_of pair old new low h.apart p) ∙ map-append timed (by_turn turn_of old) (pair ∷ []),
      )

  -- one less
  pub less_in_turn : (turn : ℕ) (pair : Turn × T) (old new : List (Turn × T)) → AreInTurn turn old → IsPermutation old (pair ∷ new) → AreInTurn turn new
  less_in_turn turn pair old new h p = record {
    apart = apart_rest turn_of pair new (apart_moved turn_of old (pair ∷ new) p h.apart);
    given = All-tail (λ z. turn < turn_of z) pair new (All-permutation (λ z. turn < turn_of z) old (pair ∷ new) p h.given);
  }

  length_mapped : (pairs : List (Turn × T)) → length (map timed pairs) ≡ length pairs
  length_mapped [] = refl
  length_mapped (pair ∷ pairs) = ap suc (length_mapped pairs)

  pub as_many : (pairs : List (Turn × T)) → length pairs ≡ length (times_and_values pairs)
  as_many pairs = sym (length_permutation (map timed pairs) (map timed (by_turn turn_of pairs)) (IsPermutation-map timed pairs (by_turn turn_of pairs) (by_turn_moves turn_of pairs)) ∙ length_mapped pairs)

-- the measure of a loop that takes out one after the other
pub shorter : {X : Type 0} (x : X) (old new : List X) → IsPermutation old (x ∷ new) → suc (length new) ≤ length old
shorter x old new p = let e : suc (length new) ≡ length old = length_permutation old (x ∷ new) p in omega arith
