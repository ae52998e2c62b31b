-- What is known of a history and what all of it has, above a line.
use Rattle.std.proofs.Common.{◌≡◌, ◌⊎◌, ℕ, ℤ, List, [], ◌∷◌, filter, take, All, Contains, refl, sym, ap, subst, inl, inr, ◌∙◌, ⊎_elim}
use Rattle.std.proofs.lemmas.List.Elements.{All-contains}
use Rattle.gix_hash.proofs.Ids.Membership.{Contains-cons_cases, Contains-here, no_member}
use Rattle.gix_hash.specs.declared.ObjectId.{ObjectId}
use Rattle.gix_statement.specs.WholeStatement.{all, first, since, Follows, IsBase, IsShown, Keeps, Reaches, start, parent}
use Rattle.gix_statement.proofs.EachHistory.{filter_in, is_young, take_in}
use Rattle.gix_history_cut.specs.Cut.{ShowsAbove, IsBelow}
use Rattle.gix_history_cut.proofs.AlikeSides.{Alike, kept_same, reach_more}

-- The parents of a commit are known, or the commit is below a line. What is below reaches only what is below.
pub record IsCut (Below : ObjectId → Type 0) (parents known : ObjectId → List ObjectId) : Type 0 where
  pub down : (i p : ObjectId) → Below i → Contains (parents i) p → Below p
  pub same : (i : ObjectId) → (known i ≡ parents i) ⊎ ((known i ≡ []) × Below i)

-- What an option follows of all there is, from the same starts: the same where the parents are known, and nothing is known to be followed from where none are known.
pub record AreFollowed (parents known : ObjectId → List ObjectId) (time : ObjectId → ℤ) (tips : List ObjectId) (by : List ℕ) (option : List (List ℕ))
    (followed : ObjectId → List ObjectId) (starts : List ObjectId) : Type 0 where
  pub follows : ObjectId → List ObjectId
  pub is : Follows parents time tips by option follows starts
  pub same : (c : ObjectId) → known c ≡ parents c → followed c ≡ follows c
  pub none : (c : ObjectId) → known c ≡ [] → followed c ≡ []
  pub among : (c i : ObjectId) → Contains (follows c) i → Contains (parents c) i
  pub known_among : (c i : ObjectId) → Contains (followed c) i → Contains (known c) i
  pub from : (i : ObjectId) → Contains starts i → Contains tips i

pub followed_all : (parents known : ObjectId → List ObjectId) (time : ObjectId → ℤ) (tips : List ObjectId) (by : List ℕ) (option : List (List ℕ)) {followed : ObjectId → List ObjectId} {starts : List ObjectId}
    → Follows known time tips by option followed starts → AreFollowed parents known time tips by option followed starts
followed_all parents known time tips by option all = record {
  follows = parents;
  is = all;
  same = λ c e. e;
  none = λ c e. e;
  among = λ c i m. m;
  known_among = λ c i m. m;
  from = λ i m. m;
}
followed_all parents known time tips by option (first named) = record {
  follows = λ c. take 1 (parents c);
  is = first named;
  same = λ c e. ap (take 1) e;
  none = λ c e. ap (take 1) e;
  among = λ c i m. take_in (parents c) i m;
  known_among = λ c i m. take_in (known c) i m;
  from = λ i m. m;
}
followed_all parents known time tips by option (since n named is) = record {
  follows = λ c. filter (is_young time n) (parents c);
  is = since n named is;
  same = λ c e. ap (filter (is_young time n)) e;
  none = λ c e. ap (filter (is_young time n)) e;
  among = λ c i m. filter_in (is_young time n) (parents c) i m;
  known_among = λ c i m. filter_in (is_young time n) (known c) i m;
  from = λ i m. filter_in (is_young time n) tips i m;
}

module _ (Below : ObjectId → Type 0) (parents known : ObjectId → List ObjectId) (cut : IsCut Below parents known) where
  pub known_same : (c : ObjectId) → (Below c → ⊥) → known c ≡ parents c
  known_same c out = ⊎_elim (λ e. e) (λ n. absurd (out n.1)) (cut.same c)

  known_within : (c i : ObjectId) → Contains (known c) i → Contains (parents c) i
  known_within c i m = ⊎_elim (λ e. subst (λ ps. Contains ps i) e m) (λ n. absurd (no_member i (subst (λ ps. Contains ps i) n.0 m))) (cut.same c)

  -- REACH: what is known to be reached is, and what is reached is known to be, unless it is below
  pub up : (starts : List ObjectId) (i : ObjectId) → Reaches known starts i → Reaches parents starts i
  up starts = reach_more known parents starts starts known_within (λ i m. m)

  -- through what is followed, too
  pub down_by : (followed follows : ObjectId → List ObjectId) → ((c : ObjectId) → known c ≡ parents c → followed c ≡ follows c) → ((c i : ObjectId) → Contains (follows c) i → Contains (parents c) i)
      → (starts : List ObjectId) (i : ObjectId) → Reaches follows starts i → (Below i → ⊥) → Reaches followed starts i
  down_by followed follows same among starts i (start s) out = start s
  down_by followed follows same among starts i (parent {child = c} r m) out =
      let dry : Below c → ⊥ = (λ b. out (cut.down c i b (among c i m))) in
      parent (down_by followed follows same among starts c r dry) (subst (λ ps. Contains ps i) (sym (same c (known_same c dry))) m)

  pub down : (starts : List ObjectId) (i : ObjectId) → Reaches parents starts i → (Below i → ⊥) → Reaches known starts i
  down = down_by known parents (λ c e. e) (λ c i m. m)

  below_from : (j i : ObjectId) → Below j → Reaches parents (j ∷ []) i → Below i
  below_from j i b (start s) = ⊎_elim (λ e. subst Below e b) (λ n. absurd (no_member i n)) (Contains-cons_cases i j [] s)
  below_from j i b (parent {child = c} r m) = cut.down c i (below_from j c b r) m

  -- SHOWN: the same, where nothing shown is below
  module _ (followed follows : ObjectId → List ObjectId) (time : ObjectId → ℤ) (starts hidden : List ObjectId)
      (same : (c : ObjectId) → known c ≡ parents c → followed c ≡ follows c) (within : (c i : ObjectId) → Contains (followed c) i → Contains (follows c) i)
      (among : (c i : ObjectId) → Contains (follows c) i → Contains (parents c) i)
      (above : (i : ObjectId) → IsShown known followed time starts hidden i → Below i → ⊥) where
    found : (i : ObjectId) → Reaches follows starts i → (Reaches parents hidden i → ⊥) → Reaches followed starts i
    found i (start s) out = start s
    found i (parent {child = c} r m) out =
        let over : Reaches parents hidden c → ⊥ = (λ s. out (parent s (among c i m))) in
        let before : Reaches followed starts c = found c r over in
        parent before (subst (λ ps. Contains ps i) (sym (same c (known_same c (above c (before, λ s. over (up hidden c s)))))) m)

    pub cut_alike : Alike known parents followed follows time starts hidden
    cut_alike = record {
      there = λ i s. (reach_more followed follows starts starts within (λ j m. m) i s.0, λ r. s.1 (down hidden i r (above i s)));
      back = λ i s. (found i s.0 s.1, λ r. s.1 (up hidden i r));
      same = λ c s. same c (known_same c (above c s));
    }

  -- all that is followed is known to be, through what an option follows
  module _ (time : ObjectId → ℤ) (tips : List ObjectId) (by : List ℕ) (option : List (List ℕ)) (followed : ObjectId → List ObjectId) (starts : List ObjectId)
      (f : AreFollowed parents known time tips by option followed starts) where
    pub option_within : (c i : ObjectId) → Contains (followed c) i → Contains (f.follows c) i
    option_within c i m = ⊎_elim
        (λ e. subst (λ ps. Contains ps i) (f.same c e) m)
        (λ n. absurd (no_member i (subst (λ ps. Contains ps i) (f.none c n.0) m)))
        (cut.same c)

  module _ (time : ObjectId → ℤ) (tips hidden : List ObjectId) (by : List ℕ) (option : List (List ℕ)) (followed : ObjectId → List ObjectId) (starts : List ObjectId)
      (f : AreFollowed parents known time tips by option followed starts) (above : ShowsAbove Below known time tips hidden) where
    pub option_above : (i : ObjectId) → IsShown known followed time starts hidden i → Below i → ⊥
    option_above i s = above i (reach_more followed known starts tips f.known_among f.from i s.0, s.1)

    pub option_alike : Alike known parents followed f.follows time starts hidden
    option_alike = cut_alike followed f.follows time starts hidden f.same (option_within time tips by option followed starts f) f.among option_above

  pub plain_alike : (time : ObjectId → ℤ) (starts hidden : List ObjectId) → ShowsAbove Below known time starts hidden → Alike known parents known parents time starts hidden
  plain_alike time starts hidden above = cut_alike known parents time starts hidden (λ c e. e) known_within (λ c i m. m) above

  -- `contains` and `containing`
  pub contains_cut : (tip : ObjectId) (ids those : List ObjectId) → All (λ i. Below i → ⊥) ids
      → Keeps (λ before i after. Reaches known (tip ∷ []) i) [] ids those → Keeps (λ before i after. Reaches parents (tip ∷ []) i) [] ids those
  contains_cut tip ids those out = kept_same (λ before i after. Reaches known (tip ∷ []) i) (λ before i after. Reaches parents (tip ∷ []) i) [] ids those
      (λ i m b a r. up (tip ∷ []) i r) (λ i m b a r. down (tip ∷ []) i r (All-contains (λ j. Below j → ⊥) ids i out m))

  pub containing_cut : (target : ObjectId) (tips those : List ObjectId) → (Below target → ⊥)
      → Keeps (λ before i after. Reaches known (i ∷ []) target) [] tips those → Keeps (λ before i after. Reaches parents (i ∷ []) target) [] tips those
  containing_cut target tips those out = kept_same (λ before i after. Reaches known (i ∷ []) target) (λ before i after. Reaches parents (i ∷ []) target) [] tips those
      (λ i m b a r. up (i ∷ []) target r) (λ i m b a r. down (i ∷ []) target r out)

  -- `merge-base`
  module _ (time : ObjectId → ℤ) (one : ObjectId) (others : List ObjectId) (above : ShowsAbove Below known time (one ∷ []) others)
      (bases : (i : ObjectId) → IsBase known one others i → Below i → ⊥) where
    abbrev IsKnown : ObjectId → Type 0
    IsKnown i = Reaches known (one ∷ []) i × Reaches known others i

    abbrev IsCommon : ObjectId → Type 0
    IsCommon i = Reaches parents (one ∷ []) i × Reaches parents others i

    common_up : (i : ObjectId) → IsKnown i → IsCommon i
    common_up i k = (up (one ∷ []) i k.0, up others i k.1)

    common_down : (i : ObjectId) → IsCommon i → (Below i → ⊥) → IsKnown i
    common_down i c out = (down (one ∷ []) i c.0 out, down others i c.1 out)

    pub base_there : (i : ObjectId) → IsBase known one others i → IsBase parents one others i
    base_there i (p, best) = (
      common_up i p,
      λ j c r. let dry : Below j → ⊥ = (λ b. bases i (p, best) (below_from j i b r)) in
          best j (common_down j c dry) (down (j ∷ []) i r (bases i (p, best))),
    )

    -- what the one reaches is shown, or a commit that is known to be common reaches it, though not so that it could be said which
    abbrev IsJudged : ObjectId → Type 0
    IsJudged x = IsShown known known time (one ∷ []) others x ⊎ ((j : ObjectId) × IsKnown j × Reaches parents (j ∷ []) x)

    judged_known : (x : ObjectId) → Reaches known (one ∷ []) x → (IsJudged x → ⊥) → ⊥
    judged_known x r never = never (inl (r, λ s. never (inr (x, (r, s), start (Contains-here x [])))))

    judged : (x : ObjectId) → Reaches parents (one ∷ []) x → (IsJudged x → ⊥) → ⊥
    judged x (start s) never = judged_known x (start s) never
    judged x (parent {child = c} r m) never = judged c r (λ is. ⊎_elim
        (λ s. judged_known x (parent s.0 (subst (λ ps. Contains ps x) (sym (known_same c (above c s))) m)) never)
        (λ n. never (inr (n.0, n.1, parent n.2 m)))
        is)

    base_known : (i : ObjectId) → IsBase parents one others i → IsKnown i → IsBase known one others i
    base_known i (c, best) k = (k, λ j p r. best j (common_up j p) (up (j ∷ []) i r))

    base_out : (i : ObjectId) → IsBase parents one others i → Below i → ⊥
    base_out i (c, best) b = judged i c.0 (λ is. ⊎_elim
        (λ s. above i s b)
        (λ n. let same : n.0 ≡ i = best n.0 (common_up n.0 n.1) n.2 in bases i (base_known i (c, best) (subst IsKnown same n.1)) b)
        is)

    pub base_back : (i : ObjectId) → IsBase parents one others i → IsBase known one others i
    base_back i (c, best) = base_known i (c, best) (common_down i c (base_out i (c, best)))

-- LEAST: what commits reach whose parents aren't known is below a line.
module _ (parents known : ObjectId → List ObjectId) where
  unknown : (i : ObjectId) → known i ≡ [] → (ps : List ObjectId) → parents i ≡ ps → (known i ≡ parents i) ⊎ ((known i ≡ []) × IsBelow parents known i)
  unknown i none [] is = inl (none ∙ sym is)
  unknown i none (p ∷ ps) is = inr (none, (i, (λ e. let no : [] ≡ p ∷ ps = sym none ∙ (e ∙ is) in cc), start (Contains-here i [])))

  pub least_cut : ((i : ObjectId) → (known i ≡ parents i) ⊎ (known i ≡ [])) → IsCut (IsBelow parents known) parents known
  least_cut either = record {
    down = λ i p b m. (b.0, b.1, parent b.2 m);
    same = λ i. ⊎_elim (λ e. inl e) (λ none. unknown i none (parents i) refl) (either i);
  }
