-- The same for `topo` and `date`: a list in one history is a list in every other that has all that starts and hidden ids reach.
use Rattle.std.proofs.Common.{◌≡◌, ◌≢◌, ◌≤ℤ◌, ℕ, ℤ, List, [], ◌∷◌, ◌++◌, filter, reverse, take, not, int_le, Contains, codes, refl, sym, ap, subst, ◌∙◌, ⊎_elim}
use Rattle.std.proofs.lemmas.List.Elements.{All-contains, Contains-append_cases, Contains-append_left, Contains-push_cases}
use Rattle.std.proofs.lemmas.List.{reverse-append}
use Rattle.gix_hash.proofs.Ids.Membership.{no_member, Contains-cons_cases, Contains-here, Contains-there}
use Rattle.gix_statement.specs.WholeStatement.{all, first, since, Follows, AreMadeReady, Begins, by_time, IsBest, IsNext, IsReady, IsShown, IsWhole, Keeps, empty, kept, passed, Reaches, start, parent, breadth, newest, oldest, date, topo}
use Rattle.gix_statement.proofs.EachHistory.{filter_in, filter_same}
use Rattle.gix_statement.proofs.Heart.{back_from, first_same, there_from}

-- `topo` and `date`
abbrev pub IsDown : List ℕ → Type 0
IsDown by = (by ≢ codes "breadth") × (by ≢ codes "newest") × (by ≢ codes "oldest")

-- what an option follows in another history
pub followed_down : {I : Type 0} (parents other : I → List I) (time times : I → ℤ) (tips : List I) (by : List ℕ) → IsDown by → (option : List (List ℕ)) {followed : I → List I} {starts : List I} → Follows parents time tips by option followed starts
    → (follow : I → List I) × Follows other times tips by option follow starts × ((c : I) → parents c ≡ other c → followed c ≡ follow c)
followed_down parents other time times tips by falls option all = (other, all, λ c e. e)
followed_down parents other time times tips by falls option (first named) = ((λ c. take 1 (other c)), first named, λ c e. ap (take 1) e)
followed_down parents other time times tips by falls option (since n named is) =
    absurd (⊎_elim (λ e. falls.1 (sym e)) (λ m. ⊎_elim (λ e. falls.2 (sym e)) (no_member by) (Contains-cons_cases by (codes "oldest") [] m)) (Contains-cons_cases by (codes "newest") (codes "oldest" ∷ []) named))

kept_same : {I : Type 0} (P Q : List I → I → List I → Type 0) → ((b : List I) (i : I) (a : List I) → P b i a → Q b i a) → ((b : List I) (i : I) (a : List I) → Q b i a → P b i a)
    → (before ids those : List I) → Keeps P before ids those → Keeps Q before ids those
kept_same P Q there back before ids those empty = empty
kept_same P Q there back before ids those (kept {i = i} {after = after} p k) = kept (there _ i after p) (kept_same P Q there back _ _ _ k)
kept_same P Q there back before ids those (passed {i = i} {after = after} n k) = passed (λ q. n (back _ i after q)) (kept_same P Q there back _ _ _ k)

kept_in : {I : Type 0} (P : List I → I → List I → Type 0) (before ids those : List I) → Keeps P before ids those → (i : I) → Contains those i → Contains ids i
kept_in P before ids those empty i m = m
kept_in P before ids those (kept {i = x} {after = after} {those = more} p k) i m = ⊎_elim
    (λ e. subst (Contains (x ∷ after)) e (Contains-here x after))
    (λ n. Contains-there i x after (kept_in P _ _ _ k i n))
    (Contains-cons_cases i x more m)
kept_in P before ids those (passed {i = x} {after = after} n k) i m = Contains-there i x after (kept_in P _ _ _ k i m)

pub reverse_in : {I : Type 0} (ids : List I) (i : I) → Contains (reverse ids) i → Contains ids i
reverse_in [] i m = m
reverse_in (x ∷ ids) i m = ⊎_elim
    (λ n. Contains-there i x ids (reverse_in ids i n))
    (λ e. subst (Contains (x ∷ ids)) e (Contains-here x ids))
    (Contains-push_cases (reverse ids) x i (subst (λ xs. Contains xs i) (reverse-append (x ∷ []) ids) m))

module _ {I : Type 0} (parents other followed follow : I → List I) (time times : I → ℤ) (starts hidden : List I)
    (up : (c : I) → Reaches followed starts c → followed c ≡ follow c) (down : (c : I) → Reaches parents hidden c → parents c ≡ other c) (timed : (c : I) → Reaches followed starts c → time c ≡ times c) where
  abbrev Was : I → Type 0
  Was = IsShown parents followed time starts hidden

  abbrev Is : I → Type 0
  Is = IsShown other follow times starts hidden

  shown_there : (i : I) → Was i → Is i
  shown_there i (r, out) = (there_from followed follow starts up i r, λ h. out (back_from parents other hidden down i h))

  shown_back : (i : I) → Is i → Was i
  shown_back i (r, out) = (back_from followed follow starts up i r, λ h. out (there_from parents other hidden down i h))

  ready_there : (taken : List I) (i : I) → IsReady parents followed time starts hidden taken i → IsReady other follow times starts hidden taken i
  ready_there taken i (s, untaken, children) = (shown_there i s, untaken, λ c cs m. let was = shown_back c cs in children c was (subst (λ ps. Contains ps i) (sym (up c was.0)) m))

  ready_back : (taken : List I) (i : I) → IsReady other follow times starts hidden taken i → IsReady parents followed time starts hidden taken i
  ready_back taken i (s, untaken, children) = (shown_back i s, untaken, λ c cs m. children c (shown_there c cs) (subst (λ ps. Contains ps i) (up c cs.0) m))

  -- times decide the order of starts
  by_time_in : (ids : List I) (i : I) → Contains (by_time parents followed time starts hidden ids) i → Contains ids i
  by_time_in [] i m = m
  by_time_in (x ∷ ids) i m = ⊎_elim
      (λ a. Contains-there i x ids (by_time_in ids i (filter_in (λ j. not (int_le (time x) (time j))) _ i a)))
      (λ b. ⊎_elim
      (λ e. subst (Contains (x ∷ ids)) e (Contains-here x ids))
      (λ c. Contains-there i x ids (by_time_in ids i (filter_in (λ j. int_le (time x) (time j)) _ i c)))
      (Contains-cons_cases i x _ b))
      (Contains-append_cases (filter (λ j. not (int_le (time x) (time j))) (by_time parents followed time starts hidden ids)) _ i m)

  same_by_time : (ids : List I) → ((i : I) → Contains ids i → time i ≡ times i) → by_time parents followed time starts hidden ids ≡ by_time other follow times starts hidden ids
  same_by_time [] h = refl
  same_by_time (x ∷ ids) h =
      let here : time x ≡ times x = h x (Contains-here x ids) in
      let more : by_time parents followed time starts hidden ids ≡ by_time other follow times starts hidden ids = same_by_time ids (λ i m. h i (Contains-there i x ids m)) in
      let old : List I = by_time parents followed time starts hidden ids in
      let at : (j : I) → Contains old j → time j ≡ times j = (λ j m. h j (Contains-there j x ids (by_time_in ids j m))) in
      (λ k. filter_same (λ j. not (int_le (time x) (time j))) (λ j. not (int_le (times x) (times j))) old (λ j m l. not (int_le (here l) (at j m l))) k
      ++ x ∷ filter_same (λ j. int_le (time x) (time j)) (λ j. int_le (times x) (times j)) old (λ j m l. int_le (here l) (at j m l)) k)
      ∙ ap (λ ids. filter (λ j. not (int_le (times x) (times j))) ids ++ x ∷ filter (λ j. int_le (times x) (times j)) ids) more

  abbrev WasMade : List I → List I → Type 0
  WasMade = AreMadeReady parents followed time starts hidden

  abbrev IsMade : List I → List I → Type 0
  IsMade = AreMadeReady other follow times starts hidden

  made_there : (taken ready : List I) → ((c : I) → Contains taken c → Was c) → WasMade taken ready → IsMade taken ready
  made_there [] ready shown (some, keeps, is) = (
    some,
    kept_same _ _ (λ b i a p. (ready_there [] i p.0, p.1)) (λ b i a p. (ready_back [] i p.0, p.1)) [] starts some keeps,
    is ∙ same_by_time some (λ i m. timed i (start (kept_in _ [] starts some keeps i m))),
  )
  made_there (c ∷ taken) ready shown (old, more, made, is, keeps) = (
    old,
    more,
    made_there taken old (λ i m. shown i (Contains-there i c taken m)) made,
    is,
    subst (λ ps. Keeps (λ before i after. IsReady other follow times starts hidden (c ∷ taken) i × (Contains after i → ⊥)) [] ps more) (up c (shown c (Contains-here c taken)).0)
        (kept_same _ _ (λ b i a p. (ready_there (c ∷ taken) i p.0, p.1)) (λ b i a p. (ready_back (c ∷ taken) i p.0, p.1)) [] (followed c) more keeps),
  )

  made_back : (taken ready : List I) → ((c : I) → Contains taken c → Was c) → IsMade taken ready → WasMade taken ready
  made_back [] ready shown (some, keeps, is) =
      let was = kept_same (λ b i a. IsReady other follow times starts hidden [] i × (Contains b i → ⊥)) (λ b i a. IsReady parents followed time starts hidden [] i × (Contains b i → ⊥)) (λ b i a p. (ready_back [] i p.0, p.1)) (λ b i a p. (ready_there [] i p.0, p.1)) [] starts some keeps in (
        some,
        was,
        is ∙ sym (same_by_time some (λ i m. timed i (start (kept_in _ [] starts some keeps i m)))),
      )
  made_back (c ∷ taken) ready shown (old, more, made, is, keeps) = (
    old,
    more,
    made_back taken old (λ i m. shown i (Contains-there i c taken m)) made,
    is,
    kept_same _ _ (λ b i a p. (ready_back (c ∷ taken) i p.0, p.1)) (λ b i a p. (ready_there (c ∷ taken) i p.0, p.1)) [] (followed c) more
        (subst (λ ps. Keeps (λ before i after. IsReady other follow times starts hidden (c ∷ taken) i × (Contains after i → ⊥)) [] ps more) (sym (up c (shown c (Contains-here c taken)).0)) keeps),
  )

  abbrev WasNewest : List I → I → Type 0
  WasNewest taken = IsBest (λ a b. time b ≤ℤ time a) (IsReady parents followed time starts hidden taken)

  abbrev IsNewest : List I → I → Type 0
  IsNewest taken = IsBest (λ a b. times b ≤ℤ times a) (IsReady other follow times starts hidden taken)

  newest_there : (taken : List I) (i : I) → WasNewest taken i → IsNewest taken i
  newest_there taken i (p, best) = (
    ready_there taken i p,
    λ j q. let was = ready_back taken j q in
        subst (λ t. t ≤ℤ times i) (timed j was.0.0) (subst (λ t. time j ≤ℤ t) (timed i p.0.0) (best j was)),
  )

  newest_back : (taken : List I) (i : I) → IsNewest taken i → WasNewest taken i
  newest_back taken i (p, best) = let here = ready_back taken i p in (
    here,
    λ j q.
        subst (λ t. t ≤ℤ time i) (sym (timed j q.0.0)) (subst (λ t. times j ≤ℤ t) (sym (timed i here.0.0)) (best j (ready_there taken j q))),
  )

  next_there : (by : List ℕ) → IsDown by → (taken : List I) → ((c : I) → Contains (reverse taken) c → Was c) → (i : I) → IsNext parents followed time starts hidden taken i by → IsNext other follow times starts hidden taken i by
  next_there by falls taken shown i (breadth f) = absurd (falls.0 refl)
  next_there by falls taken shown i (newest f) = absurd (falls.1 refl)
  next_there by falls taken shown i (oldest f) = absurd (falls.2 refl)
  next_there by falls taken shown i (date ready made f) = date ready (made_there (reverse taken) ready shown made) (first_same (WasNewest taken) (IsNewest taken) ready i (newest_there taken) (newest_back taken) f)
  next_there by falls taken shown i (topo ready made f) = topo ready (made_there (reverse taken) ready shown made) (first_same _ _ (reverse ready) i (ready_there taken) (ready_back taken) f)

  next_back : (by : List ℕ) → IsDown by → (taken : List I) → ((c : I) → Contains (reverse taken) c → Was c) → (i : I) → IsNext other follow times starts hidden taken i by → IsNext parents followed time starts hidden taken i by
  next_back by falls taken shown i (breadth f) = absurd (falls.0 refl)
  next_back by falls taken shown i (newest f) = absurd (falls.1 refl)
  next_back by falls taken shown i (oldest f) = absurd (falls.2 refl)
  next_back by falls taken shown i (date ready made f) = date ready (made_back (reverse taken) ready shown made) (first_same (IsNewest taken) (WasNewest taken) ready i (newest_back taken) (newest_there taken) f)
  next_back by falls taken shown i (topo ready made f) = topo ready (made_back (reverse taken) ready shown made) (first_same _ _ (reverse ready) i (ready_back taken) (ready_there taken) f)

  pub begins_down : (by : List ℕ) → IsDown by → (ids : List I) → Begins parents followed time starts hidden by ids → Begins other follow times starts hidden by ids
  begins_down by falls ids (shown, apart, next) = (
    λ k d below. shown_there _ (shown k d below),
    apart,
    λ taken rest i is. next_there by falls taken
        (λ c m. All-contains Was ids c shown (subst (λ all. Contains all c) (sym is) (Contains-append_left taken (i ∷ rest) c (reverse_in taken c m)))) i (next taken rest i is),
  )

  pub whole_down : (by : List ℕ) → IsDown by → (ids : List I) → Begins parents followed time starts hidden by ids → IsWhole parents followed time starts hidden by ids → IsWhole other follow times starts hidden by ids
  whole_down by falls ids (shown, apart, next) (ended, each) = (
    λ i n. ended i (next_back by falls ids (λ c m. All-contains Was ids c shown (reverse_in ids c m)) i n),
    λ acyclic i s. each (λ named j was r. acyclic named j (shown_there j was) (around j was.0 r)) i (shown_back i s),
  )
    where
      from_here : (j : I) → Reaches followed starts j → (c : I) → Reaches followed (followed j) c → Reaches followed starts c
      from_here j reached c (start m) = parent reached m
      from_here j reached c (parent {child = d} r m) = parent (from_here j reached d r) m

      around : (j : I) → Reaches followed starts j → Reaches followed (followed j) j → Reaches follow (follow j) j
      around j reached r = subst (λ from. Reaches follow from j) (up j reached) (there_from followed follow (followed j) (λ c s. up c (from_here j reached c s)) j r)
