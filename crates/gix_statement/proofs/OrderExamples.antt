-- Worked examples of the orders, whatever ids are.
use Rattle.std.proofs.Common.{◌≡◌, ◌≢◌, ◌≤ℤ◌, ℕ, ℤ, List, [], ◌∷◌, ◌++◌, AllPairs, Contains, codes, flat_map, refl, sym, ap, subst, ◌∙◌, arith, ⊎_elim}
use Rattle.std.proofs.lemmas.Int.{ints}
use Rattle.std.proofs.lemmas.List.Elements.{All-cons, All-nil}
use Rattle.std.proofs.lemmas.List.Kept.{AllPairs-cons}
use Rattle.gix_hash.proofs.Ids.Membership.{Contains-cons_cases, Contains-here, Contains-there, no_member}
use Rattle.gix_statement.specs.WholeStatement.{Begins, IsBest, IsFirst, IsNext, IsPending, IsShown, IsWhole, Reaches, start, parent, breadth, newest, oldest}

le_itself : (t : ℤ) → t ≤ℤ t
le_itself t = omega (arith, ints)

abbrev pub Throughout : {I : Type 0} → (List I → I → Type 0) → List I → Type 0
Throughout {I} F ids = (taken rest : List I) (i : I) → ids ≡ taken ++ i ∷ rest → F taken i

-- a list that is cut in two
pub cut_here : {I : Type 0} (F : List I → I → Type 0) (x : I) (xs : List I) → F [] x → Throughout (λ taken i. F (x ∷ taken) i) xs → Throughout F (x ∷ xs)
cut_here F x xs h t [] rest i e = let same : x ≡ i = cc in subst (F []) same h
cut_here F x xs h t (y ∷ taken) rest i e =
    let first : x ≡ y = cc in
    let others : xs ≡ taken ++ i ∷ rest = cc in
    subst (λ z. F (z ∷ taken) i) first (t taken rest i others)

pub cut_end : {I : Type 0} (F : List I → I → Type 0) → Throughout F []
cut_end F [] rest i e = cc
cut_end F (y ∷ taken) rest i e = cc

pub pair_apart : {I : Type 0} (a b : I) → a ≢ b → AllPairs (λ i j. i ≢ j) (a ∷ b ∷ [])
pair_apart a b n = AllPairs-cons (λ i j. i ≢ j) a (b ∷ []) (All-cons (λ j. a ≢ j) b [] n (All-nil _)) (AllPairs-cons (λ i j. i ≢ j) b [] (All-nil _) (λ i j d l m. absurd (omega (arith, m))))

-- A child and its only parent, at any times at all: clocks may be skewed. Nothing is hidden.
module _ {I : Type 0} (child root : I) (differ : root ≢ child) (parents followed : I → List I) (time : I → ℤ) (child_names : followed child ≡ root ∷ []) (root_names : followed root ≡ []) where
  unhidden : (i : I) → Reaches parents [] i → ⊥
  unhidden i (start s) = no_member i s
  unhidden i (parent {child = c} r m) = unhidden c r

  child_in : Reaches followed (child ∷ []) child
  child_in = start (Contains-here child [])

  root_in : Reaches followed (child ∷ []) root
  root_in = parent child_in (subst (λ ps. Contains ps root) (sym child_names) (Contains-here root []))

  reached : (i : I) → Reaches followed (child ∷ []) i → Contains (child ∷ root ∷ []) i
  reached i (start s) = ⊎_elim (λ e. subst (Contains (child ∷ root ∷ [])) e (Contains-here child (root ∷ []))) (λ n. absurd (no_member i n)) (Contains-cons_cases i child [] s)
  reached i (parent {child = c} r m) = ⊎_elim of_child (λ n. ⊎_elim of_root (λ o. absurd (no_member c o)) (Contains-cons_cases c root [] n)) (Contains-cons_cases c child (root ∷ []) (reached c r))
    where
      of_child : child ≡ c → Contains (child ∷ root ∷ []) i
      of_child e = Contains-there i child (root ∷ []) (subst (λ ps. Contains ps i) child_names (subst (λ j. Contains (followed j) i) (sym e) m))

      of_root : root ≡ c → Contains (child ∷ root ∷ []) i
      of_root e = absurd (no_member i (subst (λ ps. Contains ps i) root_names (subst (λ j. Contains (followed j) i) (sym e) m)))

  abbrev Pending : List I → I → Type 0
  Pending = IsPending parents followed time (child ∷ []) []

  abbrev Next : List ℕ → List I → I → Type 0
  Next by taken i = IsNext parents followed time (child ∷ []) [] taken i by

  names_of_child : child ∷ flat_map followed (child ∷ []) ≡ child ∷ root ∷ []
  names_of_child = ap (λ ps. child ∷ (ps ++ [])) child_names

  names_of_both : child ∷ flat_map followed (child ∷ root ∷ []) ≡ child ∷ root ∷ []
  names_of_both = (λ k. child ∷ (child_names k ++ (root_names k ++ [])))

  child_pending : Pending [] child
  child_pending = (Contains-here child [], no_member child, unhidden child)

  root_pending : Pending (child ∷ []) root
  root_pending = (subst (λ xs. Contains xs root) (sym names_of_child) (Contains-there root child (root ∷ []) (Contains-here root [])), λ c. ⊎_elim (λ e. differ (sym e)) (no_member root) (Contains-cons_cases root child [] c), unhidden root)

  only_child : (i : I) → Pending [] i → child ≡ i
  only_child i p = ⊎_elim (λ e. e) (λ n. absurd (no_member i n)) (Contains-cons_cases i child [] p.0)

  only_root : (i : I) → Pending (child ∷ []) i → root ≡ i
  only_root i p = ⊎_elim
      (λ e. absurd (p.1 (subst (Contains (child ∷ [])) e (Contains-here child []))))
      (λ n. ⊎_elim (λ e. e) (λ o. absurd (no_member i o)) (Contains-cons_cases i root [] n))
      (Contains-cons_cases i child (root ∷ []) (subst (λ xs. Contains xs i) names_of_child p.0))

  none_pending : (i : I) → Pending (child ∷ root ∷ []) i → ⊥
  none_pending i p = p.1 (subst (λ xs. Contains xs i) names_of_both p.0)

  -- one that is pending alone is the first, by any measure
  first_child : (P : I → Type 0) → P child → IsFirst P (child ∷ flat_map followed []) child
  first_child P p = ([], [], refl, All-nil _, p)

  first_root : (P : I → Type 0) → (P child → ⊥) → P root → IsFirst P (child ∷ flat_map followed (child ∷ [])) root
  first_root P n p = (child ∷ [], [], names_of_child, All-cons (λ j. P j → ⊥) child [] n (All-nil _), p)

  child_taken : Pending (child ∷ []) child → ⊥
  child_taken p = p.1 (Contains-here child [])

  abbrev Newer : I → I → Type 0
  Newer a b = time b ≤ℤ time a

  abbrev Older : I → I → Type 0
  Older a b = time a ≤ℤ time b

  best_child : (R : I → I → Type 0) → R child child → IsBest R (Pending []) child
  best_child R r = (child_pending, λ j p. subst (R child) (only_child j p) r)

  best_root : (R : I → I → Type 0) → R root root → IsBest R (Pending (child ∷ [])) root
  best_root R r = (root_pending, λ j p. subst (R root) (only_root j p) r)

  in_breadth : Throughout (Next (codes "breadth")) (child ∷ root ∷ [])
  in_breadth = cut_here (Next (codes "breadth")) child (root ∷ []) (breadth (first_child (Pending []) child_pending))
      (cut_here (λ taken i. Next (codes "breadth") (child ∷ taken) i) root [] (breadth (first_root (Pending (child ∷ [])) child_taken root_pending)) (cut_end _))

  in_newest : Throughout (Next (codes "newest")) (child ∷ root ∷ [])
  in_newest = cut_here (Next (codes "newest")) child (root ∷ []) (newest (first_child (IsBest Newer (Pending [])) (best_child Newer (le_itself (time child)))))
      (cut_here (λ taken i. Next (codes "newest") (child ∷ taken) i) root [] (newest (first_root (IsBest Newer (Pending (child ∷ []))) (λ b. child_taken b.0) (best_root Newer (le_itself (time root))))) (cut_end _))

  in_oldest : Throughout (Next (codes "oldest")) (child ∷ root ∷ [])
  in_oldest = cut_here (Next (codes "oldest")) child (root ∷ []) (oldest (first_child (IsBest Older (Pending [])) (best_child Older (le_itself (time child)))))
      (cut_here (λ taken i. Next (codes "oldest") (child ∷ taken) i) root [] (oldest (first_root (IsBest Older (Pending (child ∷ []))) (λ b. child_taken b.0) (best_root Older (le_itself (time root))))) (cut_end _))

  child_shown : IsShown parents followed time (child ∷ []) [] child
  child_shown = (child_in, unhidden child)

  root_shown : IsShown parents followed time (child ∷ []) [] root
  root_shown = (root_in, unhidden root)

  -- the whole list
  pub begun : (by : List ℕ) → Throughout (Next by) (child ∷ root ∷ []) → Begins parents followed time (child ∷ []) [] by (child ∷ root ∷ [])
  begun by follows = (
    All-cons (IsShown parents followed time (child ∷ []) []) child (root ∷ []) child_shown (All-cons (IsShown parents followed time (child ∷ []) []) root [] root_shown (All-nil _)),
    pair_apart child root (λ e. differ (sym e)),
    follows,
  )

  -- and the first of it
  pub begun_one : Begins parents followed time (child ∷ []) [] (codes "newest") (child ∷ [])
  begun_one = (
    All-cons (IsShown parents followed time (child ∷ []) []) child [] child_shown (All-nil _),
    AllPairs-cons (λ i j. i ≢ j) child [] (All-nil _) (λ i j d l m. absurd (omega (arith, m))),
    cut_here (Next (codes "newest")) child [] (newest (first_child (IsBest Newer (Pending [])) (best_child Newer (le_itself (time child))))) (cut_end _),
  )

  nothing_next : (i : I) → Next (codes "newest") (child ∷ root ∷ []) i → ⊥
  nothing_next i (newest (before, after, is, none, best)) = none_pending i best.0

  pub newest_whole : IsWhole parents followed time (child ∷ []) [] (codes "newest") (child ∷ root ∷ [])
  newest_whole = (nothing_next, λ acyclic i s. reached i s.0)

  pub newest_begun : Begins parents followed time (child ∷ []) [] (codes "newest") (child ∷ root ∷ [])
  newest_begun = begun (codes "newest") in_newest

  -- SKEWED CLOCKS: the parent never comes first, though it be the newer
  pub parent_is_not_first : Begins parents followed time (child ∷ []) [] (codes "newest") (root ∷ child ∷ []) → ⊥
  parent_is_not_first (shown, apart, next) = go root refl (next [] (child ∷ []) root refl)
    where
      go : (i : I) → root ≡ i → Next (codes "newest") [] i → ⊥
      go i e (newest (before, after, is, none, best)) = differ (e ∙ sym (only_child i best.0))

  -- and the child alone is not all of it
  pub one_is_not_whole : IsWhole parents followed time (child ∷ []) [] (codes "newest") (child ∷ []) → ⊥
  one_is_not_whole (stops, all) = stops root (newest (first_root (IsBest Newer (Pending (child ∷ []))) (λ b. child_taken b.0) (best_root Newer (le_itself (time root)))))

-- EQUAL TIMES: of two tips of one time, which name no parents, the one that was given first comes first.
module _ {I : Type 0} (one two : I) (differ : one ≢ two) (time : I → ℤ) (same : time one ≡ time two) where
  abbrev pub none : I → List I
  none i = []

  abbrev pub Tips : List I
  Tips = one ∷ two ∷ []

  abbrev Left : List I → I → Type 0
  Left = IsPending none none time Tips []

  unhid : (i : I) → Reaches none [] i → ⊥
  unhid i (start s) = no_member i s
  unhid i (parent {child = c} r m) = no_member i m

  one_left : Left [] one
  one_left = (Contains-here one (two ∷ []), no_member one, unhid one)

  as_new : (i : I) → Left [] i → time i ≤ℤ time one
  as_new i p = ⊎_elim
      (λ e. subst (λ j. time j ≤ℤ time one) e (le_itself (time one)))
      (λ n. ⊎_elim (λ e. subst (λ j. time j ≤ℤ time one) e (subst (λ t. t ≤ℤ time one) same (le_itself (time one)))) (λ o. absurd (no_member i o)) (Contains-cons_cases i two [] n))
      (Contains-cons_cases i one (two ∷ []) p.0)

  pub first_given_first : IsNext none none time Tips [] [] one (codes "newest")
  first_given_first = newest ([], two ∷ [], refl, All-nil (λ j. IsBest (λ a b. time b ≤ℤ time a) (Left []) j → ⊥), (one_left, as_new))

  pub second_not_first : IsNext none none time Tips [] [] two (codes "newest") → ⊥
  second_not_first (newest ([], after, is, none_before, best)) = let e : one ≡ two = cc in differ e
  second_not_first (newest (x ∷ before, after, is, none_before, best)) =
      let e : one ≡ x = cc in
      subst (λ y. IsBest (λ a b. time b ≤ℤ time a) (Left []) y → ⊥) (sym e) (none_before 0 x (omega arith)) (one_left, as_new)
