-- Two histories that show the same, and follow the same from what they show: a list in one is a list in the other.
use Rattle.std.proofs.Common.{◌≡◌, ◌⊎◌, ◌≤ℤ◌, ℕ, ℤ, List, [], ◌∷◌, ◌++◌, filter, flat_map, reverse, not, int_le, Contains, refl, sym, ap, subst, inl, inr, ◌∙◌, ⊎_elim}
use Rattle.std.proofs.lemmas.List.Elements.{All-contains, Contains-append_cases, Contains-append_left, Contains-get_or}
use Rattle.gix_hash.proofs.Ids.Membership.{Contains-here, Contains-there}
use Rattle.gix_statement.specs.WholeStatement.{AreMadeReady, Begins, by_time, IsBest, IsFirst, IsNext, IsNumberShown, IsPending, IsReady, IsShown, IsWhole, Keeps, empty, kept, passed, Reaches, start, parent, breadth, newest, oldest, date, topo}
use Rattle.gix_statement.proofs.Descents.{reverse_in}
use Rattle.gix_statement.proofs.Heart.{first_same}
use Rattle.gix_statement.proofs.EachHistory.{namer}

pub record Alike {I : Type 0} (one two follow follows : I → List I) (time : I → ℤ) (starts hidden : List I) : Type 0 where
  pub there : (i : I) → IsShown one follow time starts hidden i → IsShown two follows time starts hidden i
  pub back : (i : I) → IsShown two follows time starts hidden i → IsShown one follow time starts hidden i
  pub same : (c : I) → IsShown one follow time starts hidden c → follow c ≡ follows c

-- the best by one order has another property, where these agree
best_same : {I : Type 0} (R : I → I → Type 0) (P Q : I → Type 0) → ((j : I) → P j → Q j) → ((j : I) → Q j → P j) → (i : I) → IsBest R P i → IsBest R Q i
best_same R P Q there back i (p, best) = (there i p, λ j q. best j (back j q))

-- what is kept is the same where properties agree on what there is
pub kept_same : {I : Type 0} (P Q : List I → I → List I → Type 0) (before ids those : List I)
    → ((i : I) → Contains ids i → (b a : List I) → P b i a → Q b i a) → ((i : I) → Contains ids i → (b a : List I) → Q b i a → P b i a)
    → Keeps P before ids those → Keeps Q before ids those
kept_same P Q before ids those there back empty = empty
kept_same P Q before ids those there back (kept {i = i} {after = after} p k) =
    kept (there i (Contains-here i after) _ after p) (kept_same P Q _ _ _ (λ j m. there j (Contains-there j i after m)) (λ j m. back j (Contains-there j i after m)) k)
kept_same P Q before ids those there back (passed {i = i} {after = after} n k) =
    passed (λ q. n (back i (Contains-here i after) _ after q)) (kept_same P Q _ _ _ (λ j m. there j (Contains-there j i after m)) (λ j m. back j (Contains-there j i after m)) k)

-- the same time orders the same
by_time_same : {I : Type 0} (one two follow follows : I → List I) (time : I → ℤ) (starts hidden ids : List I) → by_time one follow time starts hidden ids ≡ by_time two follows time starts hidden ids
by_time_same one two follow follows time starts hidden [] = refl
by_time_same one two follow follows time starts hidden (x ∷ ids) =
    ap (λ js. filter (λ j. not (int_le (time x) (time j))) js ++ x ∷ filter (λ j. int_le (time x) (time j)) js) (by_time_same one two follow follows time starts hidden ids)

-- what more is followed reaches more
pub reach_more : {I : Type 0} (some more : I → List I) (from starts : List I) → ((c i : I) → Contains (some c) i → Contains (more c) i) → ((i : I) → Contains from i → Contains starts i)
    → (i : I) → Reaches some from i → Reaches more starts i
reach_more some more from starts within among i (start s) = start (among i s)
reach_more some more from starts within among i (parent {child = c} r m) = parent (reach_more some more from starts within among c r) (within c i m)

names_same : {I : Type 0} (follow follows : I → List I) (ids : List I) → ((c : I) → Contains ids c → follow c ≡ follows c) → flat_map follow ids ≡ flat_map follows ids
names_same follow follows [] h = refl
names_same follow follows (c ∷ ids) h = (λ k. h c (Contains-here c ids) k ++ names_same follow follows ids (λ i m. h i (Contains-there i c ids m)) k)

-- What is shown and followed is the same as far as it matters to a list: to what is listed, and to what is pending or ready when some of it is taken.
pub record AlikeFor {I : Type 0} (one two follow follows : I → List I) (time : I → ℤ) (starts hidden : List I) (Matters : I → Type 0) (ids : List I) : Type 0 where
  pub there : (i : I) → Matters i → IsShown one follow time starts hidden i → IsShown two follows time starts hidden i
  pub back : (i : I) → Matters i → IsShown two follows time starts hidden i → IsShown one follow time starts hidden i
  pub same : (c : I) → Matters c → follow c ≡ follows c
  pub child : (c i : I) → Matters i → IsShown one follow time starts hidden c → Contains (follow c) i → Matters c
  pub child_too : (c i : I) → Matters i → IsShown two follows time starts hidden c → Contains (follows c) i → Matters c
  pub listed : (c : I) → Contains ids c → Matters c
  pub shown : (c : I) → Contains ids c → IsShown one follow time starts hidden c
  pub met : (taken : List I) → ((c : I) → Contains taken c → Contains ids c) → (i : I)
      → IsPending one follow time starts hidden taken i ⊎ IsReady one follow time starts hidden taken i → Matters i
  pub met_too : (taken : List I) → ((c : I) → Contains taken c → Contains ids c) → (i : I)
      → IsPending two follows time starts hidden taken i ⊎ IsReady two follows time starts hidden taken i → Matters i

-- what is pending is shown, where all that are taken are
shown_pending : {I : Type 0} (one follow : I → List I) (time : I → ℤ) (starts hidden taken : List I) → ((c : I) → Contains taken c → IsShown one follow time starts hidden c)
    → (i : I) → IsPending one follow time starts hidden taken i → IsShown one follow time starts hidden i
shown_pending one follow time starts hidden taken shown i (m, untaken, out) = (
  ⊎_elim (λ s. start s) (λ n. let from = namer follow taken i n in parent (shown from.0 from.1).0 from.2) (Contains-append_cases starts (flat_map follow taken) i m),
  out,
)

module _ {I : Type 0} (one two follow follows : I → List I) (time : I → ℤ) (starts hidden : List I) where
  -- where all is alike that is shown
  alike_for : Alike one two follow follows time starts hidden → (ids : List I) → ((c : I) → Contains ids c → IsShown one follow time starts hidden c)
      → AlikeFor one two follow follows time starts hidden (IsShown one follow time starts hidden) ids
  alike_for a ids shown = record {
    there = λ i m. a.there i;
    back = λ i m. a.back i;
    same = a.same;
    child = λ c i m s n. s;
    child_too = λ c i m s n. a.back c s;
    listed = shown;
    shown = shown;
    met = λ taken among i. ⊎_elim (shown_pending one follow time starts hidden taken (λ c m. shown c (among c m)) i) (λ r. r.0);
    met_too = λ taken among i w. a.back i (⊎_elim (shown_pending two follows time starts hidden taken (λ c m. a.there c (shown c (among c m))) i) (λ r. r.0) w);
  }

  module _ (Matters : I → Type 0) (ids : List I) (a : AlikeFor one two follow follows time starts hidden Matters ids) where
    turned_for : AlikeFor two one follows follow time starts hidden Matters ids
    turned_for = record {
      there = a.back;
      back = a.there;
      same = λ c m. sym (a.same c m);
      child = a.child_too;
      child_too = a.child;
      listed = a.listed;
      shown = λ c m. a.there c (a.listed c m) (a.shown c m);
      met = a.met_too;
      met_too = a.met;
    }

    names_over : (taken : List I) → ((c : I) → Contains taken c → Contains ids c) → starts ++ flat_map follow taken ≡ starts ++ flat_map follows taken
    names_over taken among = ap (λ ns. starts ++ ns) (names_same follow follows taken (λ c m. a.same c (a.listed c (among c m))))

    pending_over : (taken : List I) → ((c : I) → Contains taken c → Contains ids c) → (i : I) → IsPending one follow time starts hidden taken i → IsPending two follows time starts hidden taken i
    pending_over taken among i p = (
      subst (λ ns. Contains ns i) (names_over taken among) p.0,
      p.1,
      (a.there i (a.met taken among i (inl p)) (shown_pending one follow time starts hidden taken (λ c m. a.shown c (among c m)) i p)).1,
    )

    ready_over : (taken : List I) → ((c : I) → Contains taken c → Contains ids c) → (i : I) → IsReady one follow time starts hidden taken i → IsReady two follows time starts hidden taken i
    ready_over taken among i (s, untaken, children) =
        let matters : Matters i = a.met taken among i (inr (s, untaken, children)) in (
          a.there i matters s,
          untaken,
          λ c cs m. let child : Matters c = a.child_too c i matters cs m in
              children c (a.back c child cs) (subst (λ ps. Contains ps i) (sym (a.same c child)) m),
        )

module _ {I : Type 0} (one two follow follows : I → List I) (time : I → ℤ) (starts hidden : List I) (Matters : I → Type 0) (ids : List I) (a : AlikeFor one two follow follows time starts hidden Matters ids) where
  abbrev Was : List I → I → Type 0
  Was = IsReady one follow time starts hidden

  abbrev Is : List I → I → Type 0
  Is = IsReady two follows time starts hidden

  abbrev AreAmong : List I → Type 0
  AreAmong taken = (c : I) → Contains taken c → Contains ids c

  ready_there : (taken : List I) → AreAmong taken → (i : I) → Was taken i → Is taken i
  ready_there = ready_over one two follow follows time starts hidden Matters ids a

  ready_back : (taken : List I) → AreAmong taken → (i : I) → Is taken i → Was taken i
  ready_back = ready_over two one follows follow time starts hidden Matters ids (turned_for one two follow follows time starts hidden Matters ids a)

  made_over : (taken ready : List I) → AreAmong taken → AreMadeReady one follow time starts hidden taken ready → AreMadeReady two follows time starts hidden taken ready
  made_over [] ready among (some, keeps, is) = (
    some,
    kept_same (λ b i a. Was [] i × (Contains b i → ⊥)) (λ b i a. Is [] i × (Contains b i → ⊥)) [] starts some (λ i m b a p. (ready_there [] among i p.0, p.1)) (λ i m b a p. (ready_back [] among i p.0, p.1)) keeps,
    is ∙ by_time_same one two follow follows time starts hidden some,
  )
  made_over (c ∷ taken) ready among (old, more, made, is, keeps) = (
    old,
    more,
    made_over taken old (λ i m. among i (Contains-there i c taken m)) made,
    is,
    subst (λ ps. Keeps (λ b i a. Is (c ∷ taken) i × (Contains a i → ⊥)) [] ps more) (a.same c (a.listed c (among c (Contains-here c taken))))
        (kept_same (λ b i a. Was (c ∷ taken) i × (Contains a i → ⊥)) (λ b i a. Is (c ∷ taken) i × (Contains a i → ⊥)) [] (follow c) more
        (λ i m b a p. (ready_there (c ∷ taken) among i p.0, p.1)) (λ i m b a p. (ready_back (c ∷ taken) among i p.0, p.1)) keeps),
  )

  module _ (taken : List I) (among : AreAmong taken) where
    abbrev Waits : I → Type 0
    Waits = IsPending one follow time starts hidden taken

    abbrev Awaits : I → Type 0
    Awaits = IsPending two follows time starts hidden taken

    pending_there : (i : I) → Waits i → Awaits i
    pending_there = pending_over one two follow follows time starts hidden Matters ids a taken among

    pending_back : (i : I) → Awaits i → Waits i
    pending_back = pending_over two one follows follow time starts hidden Matters ids (turned_for one two follow follows time starts hidden Matters ids a) taken among

    -- the first of what is named
    over_names : (P Q : I → Type 0) (i : I) → ((j : I) → P j → Q j) → ((j : I) → Q j → P j)
        → IsFirst P (starts ++ flat_map follow taken) i → IsFirst Q (starts ++ flat_map follows taken) i
    over_names P Q i there back f = subst (λ ns. IsFirst Q ns i) (names_over one two follow follows time starts hidden Matters ids a taken among) (first_same P Q _ i there back f)

    -- the best of what is pending, and of what is ready
    best_waits : (R : I → I → Type 0) (i : I) → IsFirst (IsBest R Waits) (starts ++ flat_map follow taken) i
        → IsFirst (IsBest R Awaits) (starts ++ flat_map follows taken) i
    best_waits R i f = over_names (IsBest R Waits) (IsBest R Awaits) i (best_same R Waits Awaits pending_there pending_back) (best_same R Awaits Waits pending_back pending_there) f

    best_ready : (R : I → I → Type 0) (ready : List I) (i : I) → IsFirst (IsBest R (Was taken)) ready i → IsFirst (IsBest R (Is taken)) ready i
    best_ready R ready i f = first_same (IsBest R (Was taken)) (IsBest R (Is taken)) ready i
        (best_same R (Was taken) (Is taken) (ready_there taken among) (ready_back taken among)) (best_same R (Is taken) (Was taken) (ready_back taken among) (ready_there taken among)) f

    next_over : (by : List ℕ) (i : I) → IsNext one follow time starts hidden taken i by → IsNext two follows time starts hidden taken i by
    next_over by i (breadth f) = breadth (over_names Waits Awaits i pending_there pending_back f)
    next_over by i (newest f) = newest (best_waits (λ a b. time b ≤ℤ time a) i f)
    next_over by i (oldest f) = oldest (best_waits (λ a b. time a ≤ℤ time b) i f)
    next_over by i (date ready made f) = date ready (made_over (reverse taken) ready (λ c m. among c (reverse_in taken c m)) made) (best_ready (λ a b. time b ≤ℤ time a) ready i f)
    next_over by i (topo ready made f) = topo ready (made_over (reverse taken) ready (λ c m. among c (reverse_in taken c m)) made)
        (first_same (Was taken) (Is taken) (reverse ready) i (ready_there taken among) (ready_back taken among) f)

  pub begins_for : (by : List ℕ) → Begins one follow time starts hidden by ids → Begins two follows time starts hidden by ids
  begins_for by (shown, apart, next) = (
    λ k d below. a.there _ (a.listed _ (Contains-get_or ids k d below)) (shown k d below),
    apart,
    λ taken rest i is. next_over taken (λ c m. subst (λ all. Contains all c) (sym is) (Contains-append_left taken (i ∷ rest) c m)) by i (next taken rest i is),
  )

module _ {I : Type 0} (one two follow follows : I → List I) (time : I → ℤ) (starts hidden : List I) (a : Alike one two follow follows time starts hidden) (by : List ℕ) (ids : List I) (begins : Begins one follow time starts hidden by ids) where
  listed_alike : AlikeFor one two follow follows time starts hidden (IsShown one follow time starts hidden) ids
  listed_alike = alike_for one two follow follows time starts hidden a ids (λ c m. All-contains (IsShown one follow time starts hidden) ids c begins.0 m)

  pub begins_alike : Begins two follows time starts hidden by ids
  begins_alike = begins_for one two follow follows time starts hidden (IsShown one follow time starts hidden) ids listed_alike by begins

  -- what is followed in the one history is followed in the other
  pub whole_alike : ((c i : I) → Contains (follow c) i → Contains (follows c) i) → IsWhole one follow time starts hidden by ids → IsWhole two follows time starts hidden by ids
  whole_alike within (ended, each) = (
    λ i n. ended i (next_over two one follows follow time starts hidden (IsShown one follow time starts hidden) ids (turned_for one two follow follows time starts hidden (IsShown one follow time starts hidden) ids listed_alike) ids (λ c m. m) by i n),
    λ acyclic i s. each (λ late j was r. acyclic late j (a.there j was) (reach_more follow follows (follow j) (follows j) within (within j) j r)) i (a.back i s),
  )

-- as many are shown
pub counted_alike : {I : Type 0} (one two follow follows : I → List I) (time : I → ℤ) (starts hidden : List I) → Alike one two follow follows time starts hidden
    → (n : ℕ) → IsNumberShown one follow time starts hidden n → IsNumberShown two follows time starts hidden n
counted_alike one two follow follows time starts hidden a n (ids, apart, exact, many) = (ids, apart, λ i. (λ m. a.there i ((exact i).0 m), λ s. (exact i).1 (a.back i s)), many)
