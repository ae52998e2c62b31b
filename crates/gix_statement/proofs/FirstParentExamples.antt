-- FIRST PARENTS ALONE: a merge whose second parent is on no other line. `topo` and `date` list the merge and its first parent, whatever the
-- times are, and never the second parent; and a merge that is hidden hides both.
use Rattle.std.proofs.Common.{◌≡◌, ◌≢◌, ◌≤ℤ◌, ℕ, ℤ, List, [], ◌∷◌, take, Contains, codes, refl, sym, ap, subst, ◌∙◌, arith, ⊎_elim}
use Rattle.std.proofs.lemmas.Int.{ints}
use Rattle.std.proofs.lemmas.List.Elements.{All-cons, All-nil}
use Rattle.gix_hash.proofs.Ids.Membership.{Contains-cons_cases, Contains-here, Contains-there, no_member}
use Rattle.gix_statement.specs.WholeStatement.{AreMadeReady, Begins, Follows, IsBest, IsNext, IsReady, IsShown, IsWhole, Keeps, Reaches, date, empty, first, kept, parent, start, topo}
use Rattle.gix_statement.proofs.OrderExamples.{Throughout, cut_end, cut_here, pair_apart}

module _ {I : Type 0} (merge one two : I) (apart : one ≢ merge) (other : two ≢ merge) (differ : two ≢ one) (parents : I → List I) (time : I → ℤ) (merge_names : parents merge ≡ one ∷ two ∷ []) (one_names : parents one ≡ []) where
  abbrev followed : I → List I
  followed i = take 1 (parents i)

  merge_follows : followed merge ≡ one ∷ []
  merge_follows = ap (take 1) merge_names

  one_follows : followed one ≡ []
  one_follows = ap (take 1) one_names

  unhidden : (i : I) → Reaches parents [] i → ⊥
  unhidden i (start s) = no_member i s
  unhidden i (parent {child = c} r m) = unhidden c r

  abbrev both : List I
  both = merge ∷ one ∷ []

  -- what is followed from the merge
  reached : (i : I) → Reaches followed (merge ∷ []) i → Contains both i
  reached i (start s) = ⊎_elim (λ e. subst (Contains both) e (Contains-here merge (one ∷ []))) (λ n. absurd (no_member i n)) (Contains-cons_cases i merge [] s)
  reached i (parent {child = c} r m) = ⊎_elim
      (λ e. let n : Contains (one ∷ []) i = subst (λ names. Contains names i) (ap followed (sym e) ∙ merge_follows) m in Contains-there i merge (one ∷ []) n)
      (λ n. ⊎_elim
      (λ e. absurd (no_member i (subst (λ names. Contains names i) (ap followed (sym e) ∙ one_follows) m)))
      (λ o. absurd (no_member c o))
      (Contains-cons_cases c one [] n))
      (Contains-cons_cases c merge (one ∷ []) (reached c r))

  abbrev Shown : I → Type 0
  Shown = IsShown parents followed time (merge ∷ []) []

  abbrev Ready : List I → I → Type 0
  Ready = IsReady parents followed time (merge ∷ []) []

  shown_merge : Shown merge
  shown_merge = (start (Contains-here merge []), unhidden merge)

  shown_one : Shown one
  shown_one = (parent (start (Contains-here merge [])) (subst (λ names. Contains names one) (sym merge_follows) (Contains-here one [])), unhidden one)

  second_is_not_shown : Shown two → ⊥
  second_is_not_shown s = ⊎_elim (λ e. other (sym e)) (λ n. ⊎_elim (λ e. differ (sym e)) (no_member two) (Contains-cons_cases two one [] n)) (Contains-cons_cases two merge (one ∷ []) (reached two s.0))

  -- only the merge names anything, and that is the first parent
  named : (child i : I) → Shown child → Contains (followed child) i → (merge ≡ child) × (one ≡ i)
  named child i s m = ⊎_elim
      (λ e. (e, ⊎_elim (λ n. n) (λ o. absurd (no_member i o)) (Contains-cons_cases i one [] (subst (λ names. Contains names i) (ap followed (sym e) ∙ merge_follows) m))))
      (λ n. ⊎_elim
      (λ e. absurd (no_member i (subst (λ names. Contains names i) (ap followed (sym e) ∙ one_follows) m)))
      (λ o. absurd (no_member child o))
      (Contains-cons_cases child one [] n))
      (Contains-cons_cases child merge (one ∷ []) (reached child s.0))

  ready_merge : Ready [] merge
  ready_merge = (shown_merge, no_member merge, λ child s m. absurd (apart (named child merge s m).1))

  ready_one : Ready (merge ∷ []) one
  ready_one = (
    shown_one,
    λ c. ⊎_elim (λ e. apart (sym e)) (no_member one) (Contains-cons_cases one merge [] c),
    λ child s m. subst (Contains (merge ∷ [])) (named child one s m).0 (Contains-here merge []),
  )

  only_merge : (i : I) → Ready [] i → merge ≡ i
  only_merge i (s, untaken, children) = ⊎_elim
      (λ e. e)
      (λ n. ⊎_elim
      (λ e. absurd (no_member merge (children merge shown_merge (subst (λ j. Contains (followed merge) j) e (subst (λ names. Contains names one) (sym merge_follows) (Contains-here one []))))))
      (λ o. absurd (no_member i o))
      (Contains-cons_cases i one [] n))
      (Contains-cons_cases i merge (one ∷ []) (reached i s.0))

  only_one : (i : I) → Ready (merge ∷ []) i → one ≡ i
  only_one i (s, untaken, children) = ⊎_elim
      (λ e. absurd (untaken (subst (Contains (merge ∷ [])) e (Contains-here merge []))))
      (λ n. ⊎_elim (λ e. e) (λ o. absurd (no_member i o)) (Contains-cons_cases i one [] n))
      (Contains-cons_cases i merge (one ∷ []) (reached i s.0))

  none_ready : (i : I) → Ready both i → ⊥
  none_ready i (s, untaken, children) = untaken (reached i s.0)

  abbrev Made : List I → List I → Type 0
  Made = AreMadeReady parents followed time (merge ∷ []) []

  made_merge : Made [] (merge ∷ [])
  made_merge = (merge ∷ [], kept (ready_merge, no_member merge) empty, refl)

  made_one : Made (merge ∷ []) both
  made_one = (
    merge ∷ [],
    one ∷ [],
    made_merge,
    refl,
    subst (λ names. Keeps (λ before i after. Ready (merge ∷ []) i × (Contains after i → ⊥)) [] names (one ∷ [])) (sym merge_follows) (kept (ready_one, no_member one) empty),
  )

  abbrev Newest : (I → Type 0) → I → Type 0
  Newest = IsBest (λ a b. time b ≤ℤ time a)

  newest_merge : Newest (Ready []) merge
  newest_merge = (ready_merge, λ j r. subst (λ i. time i ≤ℤ time merge) (only_merge j r) (omega (arith, ints)))

  newest_one : Newest (Ready (merge ∷ [])) one
  newest_one = (ready_one, λ j r. subst (λ i. time i ≤ℤ time one) (only_one j r) (omega (arith, ints)))

  taken_merge : Ready (merge ∷ []) merge → ⊥
  taken_merge r = r.1 (Contains-here merge [])

  abbrev Next : List ℕ → List I → I → Type 0
  Next by taken i = IsNext parents followed time (merge ∷ []) [] taken i by

  in_topo : Throughout (Next (codes "topo")) both
  in_topo = cut_here (Next (codes "topo")) merge (one ∷ []) (topo (merge ∷ []) made_merge ([], [], refl, All-nil _, ready_merge))
      (cut_here (λ taken i. Next (codes "topo") (merge ∷ taken) i) one [] (topo both made_one ([], merge ∷ [], refl, All-nil _, ready_one)) (cut_end _))

  in_date : Throughout (Next (codes "date")) both
  in_date = cut_here (Next (codes "date")) merge (one ∷ []) (date (merge ∷ []) made_merge ([], [], refl, All-nil _, newest_merge))
      (cut_here (λ taken i. Next (codes "date") (merge ∷ taken) i) one [] (date both made_one (merge ∷ [], [], refl, All-cons (λ j. Newest (Ready (merge ∷ [])) j → ⊥) merge [] (λ b. taken_merge b.0) (All-nil _), newest_one)) (cut_end _))

  begun : (by : List ℕ) → Throughout (Next by) both → Begins parents followed time (merge ∷ []) [] by both
  begun by next = (All-cons Shown merge (one ∷ []) shown_merge (All-cons Shown one [] shown_one (All-nil _)), pair_apart merge one (λ e. apart (sym e)), next)

  topo_ends : (i : I) → Next (codes "topo") both i → ⊥
  topo_ends i (topo ready made (before, after, is, none, r)) = none_ready i r

  date_ends : (i : I) → Next (codes "date") both i → ⊥
  date_ends i (date ready made (before, after, is, none, b)) = none_ready i b.0

  -- these are the lists, of what `--first-parent` follows
  topo_list : Begins parents followed time (merge ∷ []) [] (codes "topo") both × IsWhole parents followed time (merge ∷ []) [] (codes "topo") both × Follows parents time (merge ∷ []) (codes "topo") (codes "--first-parent" ∷ []) followed (merge ∷ [])
  topo_list = (begun (codes "topo") in_topo, (topo_ends, λ acyclic i s. reached i s.0), first (1, omega arith, refl))

  date_list : Begins parents followed time (merge ∷ []) [] (codes "date") both × IsWhole parents followed time (merge ∷ []) [] (codes "date") both × Follows parents time (merge ∷ []) (codes "date") (codes "--first-parent" ∷ []) followed (merge ∷ [])
  date_list = (begun (codes "date") in_date, (date_ends, λ acyclic i s. reached i s.0), first (2, omega arith, refl))

  -- the second parent is hidden through a merge, though it isn't followed
  hidden_through_all : (tips : List I) → IsShown parents followed time tips (merge ∷ []) two → ⊥
  hidden_through_all tips (r, out) = out (parent (start (Contains-here merge [])) (subst (λ names. Contains names two) (sym merge_names) (Contains-there two one (two ∷ []) (Contains-here two []))))
