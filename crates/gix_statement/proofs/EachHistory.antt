-- From one history to each: where what was gone through is there, an answer that is right in one history is right in every other.
use Rattle.std.proofs.Common.{◌≡◌, ◌≢◌, ℕ, ℤ, pos, List, [], ◌∷◌, ◌++◌, length, take, filter, not, int_lt, cond, Bool, true, false, All, Contains, codes, flat_map, refl, sym, ap, subst, ◌∙◌, arith, ⊎_elim}
use Rattle.std.proofs.lemmas.List.Elements.{All-contains, Contains-append_cases, Contains-append_left}
use Rattle.gix_hash.proofs.Ids.Membership.{Contains-cons_cases, Contains-here, Contains-there, no_member}
use Rattle.gix_hash.specs.declared.ObjectId.{ObjectId}
use Rattle.gix_statement.specs.WholeStatement.{Objects, Row, IsThere, IsHistory, IsBase, Begins, IsWhole, Follows, all, first, since, Keeps, empty, kept, passed, Reaches, start, parent, IsNumberShown}
use Rattle.gix_statement.proofs.Heart.{IsSimple, back_from, begins_there, there_from, whole_there}

-- a member of what a test keeps
pub filter_in : {I : Type 0} (p : I → Bool) (xs : List I) (i : I) → Contains (filter p xs) i → Contains xs i
filter_in p [] i m = m
filter_in p (x ∷ xs) i m = go (p x) (λ n. filter_in p xs i n) m
  where
    go : (b : Bool) → (Contains (filter p xs) i → Contains xs i) → Contains (cond b (x ∷ filter p xs) (filter p xs)) i → Contains (x ∷ xs) i
    go true more m = ⊎_elim (λ e. subst (Contains (x ∷ xs)) e (Contains-here x xs)) (λ n. Contains-there i x xs (more n)) (Contains-cons_cases i x (filter p xs) m)
    go false more m = Contains-there i x xs (more m)

pub filter_same : {I : Type 0} (p q : I → Bool) (xs : List I) → ((i : I) → Contains xs i → p i ≡ q i) → filter p xs ≡ filter q xs
filter_same p q [] h = refl
filter_same p q (x ∷ xs) h =
    (λ k. cond (h x (Contains-here x xs) k) (x ∷ filter p xs) (filter p xs))
    ∙ ap (λ ids. cond (q x) (x ∷ ids) ids) (filter_same p q xs (λ i c. h i (Contains-there i x xs c)))

-- who names it
pub namer : {I : Type 0} (names : I → List I) (ids : List I) (i : I) → Contains (flat_map names ids) i → (c : I) × Contains ids c × Contains (names c) i
namer names [] i m = absurd (no_member i m)
namer names (c ∷ ids) i m = ⊎_elim
    (λ here. (c, Contains-here c ids, here))
    (λ there. let n = namer names ids i there in (n.0, Contains-there n.0 c ids n.1, n.2))
    (Contains-append_cases (names c) (flat_map names ids) i m)

pub take_in : {I : Type 0} (xs : List I) (i : I) → Contains (take 1 xs) i → Contains xs i
take_in [] i m = m
take_in (x ∷ xs) i m = ⊎_elim (λ e. subst (Contains (x ∷ xs)) e (Contains-here x xs)) (λ n. absurd (no_member i n)) (Contains-cons_cases i x [] m)

abbrev pub is_young : (ObjectId → ℤ) → ℕ → ObjectId → Bool
is_young time n i = not (int_lt (time i) (pos n))

module _ (objects : Objects) (rows : List Row) (parents other : ObjectId → List ObjectId) (time times : ObjectId → ℤ) (one : IsHistory objects rows parents time) (another : IsHistory objects rows other times) where
  pub same_parents : (i : ObjectId) → IsThere objects rows i → parents i ≡ other i
  same_parents i (r, is, c) = subst (λ j. parents j ≡ other j) is ((one r c).0 ∙ sym (another r c).0)

  pub same_time : (i : ObjectId) → IsThere objects rows i → time i ≡ times i
  same_time i (r, is, c) = subst (λ j. time j ≡ times j) is ((one r c).1 ∙ sym (another r c).1)

  -- REACH: over what is there all histories are one
  module _ (starts : List ObjectId) (there : (i : ObjectId) → Reaches parents starts i → IsThere objects rows i) where
    same_over : (c : ObjectId) → Reaches parents starts c → parents c ≡ other c
    same_over c r = same_parents c (there c r)

    pub reach_there : (i : ObjectId) → Reaches parents starts i → Reaches other starts i
    reach_there = there_from parents other starts same_over

    pub reach_back : (i : ObjectId) → Reaches other starts i → Reaches parents starts i
    reach_back = back_from parents other starts same_over

  -- `containing`
  module _ (target : ObjectId) (tips : List ObjectId) (there : (i : ObjectId) → Reaches parents tips i → IsThere objects rows i) where
    below_tip : (i : ObjectId) → Contains tips i → (j : ObjectId) → Reaches parents (i ∷ []) j → IsThere objects rows j
    below_tip i m j r = there j (from_tip r)
      where
        from_tip : {k : ObjectId} → Reaches parents (i ∷ []) k → Reaches parents tips k
        from_tip (start {i = k} s) = start (⊎_elim (λ e. subst (Contains tips) e m) (λ n. absurd (no_member k n)) (Contains-cons_cases k i [] s))
        from_tip (parent s n) = parent (from_tip s) n

    pub containing_there : (those : List ObjectId) → Keeps (λ before i after. Reaches parents (i ∷ []) target) [] tips those → Keeps (λ before i after. Reaches other (i ∷ []) target) [] tips those
    containing_there those keeps = go [] tips those (λ i m. m) keeps
      where
        go : (before ids those : List ObjectId) → ((i : ObjectId) → Contains ids i → Contains tips i) → Keeps (λ before i after. Reaches parents (i ∷ []) target) before ids those → Keeps (λ before i after. Reaches other (i ∷ []) target) before ids those
        go before ids those among empty = empty
        go before ids those among (kept {i = i} {after = more} r k) =
            kept (reach_there (i ∷ []) (below_tip i (among i (Contains-here i more))) target r) (go _ _ _ (λ j m. among j (Contains-there j i more m)) k)
        go before ids those among (passed {i = i} {after = more} n k) =
            passed (λ r. n (reach_back (i ∷ []) (below_tip i (among i (Contains-here i more))) target r)) (go _ _ _ (λ j m. among j (Contains-there j i more m)) k)

  -- `merge-base`
  onward : (starts : List ObjectId) (j i : ObjectId) → Reaches parents starts j → Reaches parents (j ∷ []) i → Reaches parents starts i
  onward starts j i r (start m) = ⊎_elim (λ e. subst (Reaches parents starts) e r) (λ n. absurd (no_member i n)) (Contains-cons_cases i j [] m)
  onward starts j i r (parent {child = c} s m) = parent (onward starts j c r s) m

  module _ (first : ObjectId) (others : List ObjectId) (above : (i : ObjectId) → Reaches parents (first ∷ []) i → IsThere objects rows i) (beyond : (i : ObjectId) → Reaches parents others i → IsThere objects rows i) where
    -- what a common ancestor reaches
    below : (j : ObjectId) → Reaches parents (first ∷ []) j → (i : ObjectId) → Reaches parents (j ∷ []) i → IsThere objects rows i
    below j r i s = above i (onward (first ∷ []) j i r s)

    pub base_there : (i : ObjectId) → IsBase parents first others i → IsBase other first others i
    base_there i ((r, s), best) = (
      (reach_there (first ∷ []) above i r, reach_there others beyond i s),
      λ j common leads.
          let back = reach_back (first ∷ []) above j common.0 in
          best j (back, reach_back others beyond j common.1) (reach_back (j ∷ []) (below j back) i leads),
    )

    pub base_back : (i : ObjectId) → IsBase other first others i → IsBase parents first others i
    base_back i ((r, s), best) = (
      (reach_back (first ∷ []) above i r, reach_back others beyond i s),
      λ j common leads. best j (reach_there (first ∷ []) above j common.0, reach_there others beyond j common.1) (reach_there (j ∷ []) (below j common.0) i leads),
    )

  -- `ahead`
  pub counted_there : (starts hidden : List ObjectId) → ((i : ObjectId) → Reaches parents starts i → IsThere objects rows i) → ((i : ObjectId) → Reaches parents hidden i → IsThere objects rows i)
      → (n : ℕ) → IsNumberShown parents parents time starts hidden n → IsNumberShown other other times starts hidden n
  counted_there starts hidden there below n (ids, apart, exact, many) = (
    ids,
    apart,
    λ i. (
      λ c. let s = (exact i).0 c in (reach_there starts there i s.0, λ r. s.1 (reach_back hidden below i r)),
      λ s. (exact i).1 (reach_back starts there i s.0, λ r. s.1 (reach_there hidden below i r)),
    ),
    many,
  )

  -- LISTS that aren't topological, whole ones and beginnings: what is listed is there, what hidden ids reach is, and behind orders by time tips
  -- and what is judged
  module _ (by : List ℕ) (simple : IsSimple by) (tips hidden ids : List ObjectId) (listed : All (IsThere objects rows) ids)
      (below : (i : ObjectId) → Reaches parents hidden i → IsThere objects rows i)
      (first_judged : by ≢ codes "breadth" → (i : ObjectId) → Contains tips i → IsThere objects rows i)
      (judged : by ≢ codes "breadth" → (taken rest : List ObjectId) (j : ObjectId) → ids ≡ taken ++ j ∷ rest → (c i : ObjectId) → Contains taken c → Contains (parents c) i → IsThere objects rows i) where
    -- and behind a whole list what its last names
    abbrev pub AllJudged : Type 0
    AllJudged = by ≢ codes "breadth" → (c i : ObjectId) → Contains ids c → Contains (parents c) i → IsThere objects rows i

    is_listed : (c : ObjectId) → Contains ids c → IsThere objects rows c
    is_listed c m = All-contains (IsThere objects rows) ids c listed m

    taken_there : (taken rest : List ObjectId) (j : ObjectId) → ids ≡ taken ++ j ∷ rest → (c : ObjectId) → Contains taken c → IsThere objects rows c
    taken_there taken rest j is c m = is_listed c (subst (λ all. Contains all c) (sym is) (Contains-append_left taken (j ∷ rest) c m))

    -- what tips and those taken name is judged
    judged_so : (some : ObjectId → List ObjectId) → ((c i : ObjectId) → Contains (some c) i → Contains (parents c) i) → (starts taken : List ObjectId) → ((i : ObjectId) → Contains starts i → Contains tips i) → by ≢ codes "breadth"
        → ((c i : ObjectId) → Contains taken c → Contains (parents c) i → IsThere objects rows i) → (i : ObjectId) → Contains (starts ++ flat_map some taken) i → time i ≡ times i
    judged_so some within starts taken from late of i m = same_time i (⊎_elim
        (λ s. first_judged late i (from i s))
        (λ n. let c = namer some taken i n in of c.0 i c.1 (within c.0 i c.2))
        (Contains-append_cases starts (flat_map some taken) i m))

    -- a list through what an option follows is one in the other history
    abbrev pub AreMoved : (option : List (List ℕ)) (followed : ObjectId → List ObjectId) (starts : List ObjectId) → Type 0
    AreMoved option followed starts =
        (follows : ObjectId → List ObjectId)
        × Follows other times tips by option follows starts
        × (Begins parents followed time starts hidden by ids → Begins other follows times starts hidden by ids)
        × (AllJudged → Begins parents followed time starts hidden by ids → IsWhole parents followed time starts hidden by ids → IsWhole other follows times starts hidden by ids)

    hides : (c : ObjectId) → Reaches parents hidden c → parents c ≡ other c
    hides c r = same_parents c (below c r)

    pub moved : (option : List (List ℕ)) (followed : ObjectId → List ObjectId) (starts : List ObjectId) → Follows parents time tips by option followed starts → AreMoved option followed starts
    moved option followed starts all =
        let within : (c i : ObjectId) → Contains (other c) i → Contains (other c) i = (λ c i m. m) in
        let plain : (c i : ObjectId) → Contains (parents c) i → Contains (parents c) i = (λ c i m. m) in
        let same : (taken rest : List ObjectId) (j : ObjectId) → ids ≡ taken ++ j ∷ rest → (c : ObjectId) → Contains taken c → parents c ≡ other c = (λ taken rest j is c m. same_parents c (taken_there taken rest j is c m)) in
        let timed : by ≢ codes "breadth" → (taken rest : List ObjectId) (j : ObjectId) → ids ≡ taken ++ j ∷ rest → (i : ObjectId) → Contains (tips ++ flat_map parents taken) i → time i ≡ times i = (λ late taken rest j is. judged_so parents plain tips taken (λ i m. m) late (judged late taken rest j is)) in (
          other,
          all,
          begins_there parents other parents other time times tips hidden ids within hides by simple same timed,
          λ every. whole_there parents other parents other time times tips hidden ids within hides by simple same timed (λ c m. same_parents c (is_listed c m)) (λ late. judged_so parents plain tips ids (λ i m. m) late (every late)),
        )
    moved option followed starts (first named) =
        let broad : by ≡ codes "breadth" = ⊎_elim (λ e. sym e) (λ m. absurd (simple m)) (Contains-cons_cases by (codes "breadth") (codes "topo" ∷ codes "date" ∷ []) named) in
        let within : (c i : ObjectId) → Contains (take 1 (other c)) i → Contains (other c) i = (λ c i m. take_in (other c) i m) in
        let same : (taken rest : List ObjectId) (j : ObjectId) → ids ≡ taken ++ j ∷ rest → (c : ObjectId) → Contains taken c → take 1 (parents c) ≡ take 1 (other c) = (λ taken rest j is c m. ap (take 1) (same_parents c (taken_there taken rest j is c m))) in
        let timed : by ≢ codes "breadth" → (taken rest : List ObjectId) (j : ObjectId) → ids ≡ taken ++ j ∷ rest → (i : ObjectId) → Contains (tips ++ flat_map (λ c. take 1 (parents c)) taken) i → time i ≡ times i = (λ late taken rest j eq i m. absurd (late broad)) in (
          λ c. take 1 (other c),
          first named,
          begins_there parents other (λ c. take 1 (parents c)) (λ c. take 1 (other c)) time times tips hidden ids within hides by simple same timed,
          λ every. whole_there parents other (λ c. take 1 (parents c)) (λ c. take 1 (other c)) time times tips hidden ids within hides by simple same timed (λ c m. ap (take 1) (same_parents c (is_listed c m))) (λ late. absurd (late broad)),
        )
    moved option followed starts (since {number = number} n named is) = (
      λ c. filter (is_young times n) (other c),
      subst (Follows other times tips by option (λ c. filter (is_young times n) (other c))) (sym starts_same) (since n named is),
      begins_there parents other (λ c. filter (is_young time n) (parents c)) (λ c. filter (is_young times n) (other c)) time times (filter (is_young time n) tips) hidden ids within hides by simple same timed,
      λ every. whole_there parents other (λ c. filter (is_young time n) (parents c)) (λ c. filter (is_young times n) (other c)) time times (filter (is_young time n) tips) hidden ids within hides by simple same timed
          (λ c m. young_same c (is_listed c m) (λ i p. every late c i m p)) (λ l. judged_so (λ c. filter (is_young time n) (parents c)) young_in (filter (is_young time n) tips) ids (filter_in (is_young time n) tips) l (every l)),
    )
      where
        late : by ≢ codes "breadth"
        late e = ⊎_elim
            (λ s. let h : 6 ≡ 7 = ap length (s ∙ e) in omega (arith, h))
            (λ m. ⊎_elim (λ s. let h : 6 ≡ 7 = ap length (s ∙ e) in omega (arith, h)) (no_member by) (Contains-cons_cases by (codes "oldest") [] m))
            (Contains-cons_cases by (codes "newest") (codes "oldest" ∷ []) named)

        of_time : (i : ObjectId) → time i ≡ times i → is_young time n i ≡ (is_young times n) i
        of_time i e = λ k. not (int_lt (e k) (pos n))

        starts_same : filter (is_young time n) tips ≡ filter (is_young times n) tips
        starts_same = filter_same (is_young time n) (is_young times n) tips (λ i m. of_time i (same_time i (first_judged late i m)))

        young_in : (c i : ObjectId) → Contains (filter (is_young time n) (parents c)) i → Contains (parents c) i
        young_in c i m = filter_in (is_young time n) (parents c) i m

        young_same : (c : ObjectId) → IsThere objects rows c → ((i : ObjectId) → Contains (parents c) i → IsThere objects rows i) → filter (is_young time n) (parents c) ≡ filter (is_young times n) (other c)
        young_same c there of = filter_same (is_young time n) (is_young times n) (parents c) (λ i p. of_time i (same_time i (of i p))) ∙ ap (filter (is_young times n)) (same_parents c there)

        same : (taken rest : List ObjectId) (j : ObjectId) → ids ≡ taken ++ j ∷ rest → (c : ObjectId) → Contains taken c → filter (is_young time n) (parents c) ≡ filter (is_young times n) (other c)
        same taken rest j eq c m = young_same c (taken_there taken rest j eq c m) (λ i p. judged late taken rest j eq c i m p)

        within : (c i : ObjectId) → Contains (filter (is_young times n) (other c)) i → Contains (other c) i
        within c i m = filter_in (is_young times n) (other c) i m

        timed : by ≢ codes "breadth" → (taken rest : List ObjectId) (j : ObjectId) → ids ≡ taken ++ j ∷ rest → (i : ObjectId) → Contains (filter (is_young time n) tips ++ flat_map (λ c. filter (is_young time n) (parents c)) taken) i → time i ≡ times i
        timed l taken rest j eq = judged_so (λ c. filter (is_young time n) (parents c)) young_in (filter (is_young time n) tips) taken (filter_in (is_young time n) tips) l (judged l taken rest j eq)
