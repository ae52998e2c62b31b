-- A list that a limit cuts off before anything below a line is met: it is the same in all of the history.
use Rattle.std.proofs.Common.{◌≡◌, ◌⊎◌, ◌≤◌, ◌-◌, ℕ, suc, ℤ, Bool, true, cond, List, [], ◌∷◌, ◌++◌, Contains, length, filter, drop, flat_map, refl, sym, ap, subst, inl, inr, ◌∙◌, ⊎_elim, arith, append-nil}
use Rattle.std.proofs.lemmas.List.{length-drop}
use Rattle.std.proofs.lemmas.List.Elements.{All-contains, Contains-append_cases, Contains-append_left, Contains-append_right}
use Rattle.gix_hash.proofs.Ids.Membership.{Contains-cons_cases, no_member}
use Rattle.gix_hash.specs.declared.ObjectId.{ObjectId}
use Rattle.gix_statement.specs.WholeStatement.{Allows, Begins, Choice, chosen, IsNext, IsPending, IsReady, IsShown, start, parent, breadth, newest, oldest, date, topo}
use Rattle.gix_history_cut.specs.Cut.{BeginsAbove}
use Rattle.gix_history_cut.proofs.AlikeSides.{AlikeFor, begins_for, reach_more}
use Rattle.gix_history_cut.proofs.BelowLine.{AreFollowed, IsCut, down, down_by, known_same, option_within, up}
use Rattle.gix_history_cut.proofs.NextOnce.{is_front}
use Rattle.gix_statement.proofs.EachHistory.{namer}
use Rattle.gix_statement.proofs.OneAnswer.{split}

all_kept : {I : Type 0} (p : I → Bool) (xs : List I) → ((i : I) → p i ≡ true) → filter p xs ≡ xs
all_kept p [] h = refl
all_kept p (x ∷ xs) h = (λ k. cond (h x k) (x ∷ filter p xs) (filter p xs)) ∙ ap (λ ys. x ∷ ys) (all_kept p xs h)

-- MET: a start, or followed from a commit of these
abbrev IsMet : {I : Type 0} → (I → List I) → List I → List I → I → Type 0
IsMet {I} follow starts taken i = Contains starts i ⊎ ((c : I) × Contains taken c × Contains (follow c) i)

names_in : {I : Type 0} (names : I → List I) (ids : List I) (c i : I) → Contains ids c → Contains (names c) i → Contains (flat_map names ids) i
names_in names [] c i m n = absurd (no_member c m)
names_in names (x ∷ ids) c i m n = ⊎_elim
    (λ e. Contains-append_left (names x) (flat_map names ids) i (subst (λ z. Contains (names z) i) (sym e) n))
    (λ r. Contains-append_right (names x) (flat_map names ids) i (names_in names ids c i r n))
    (Contains-cons_cases c x ids m)

met_named : {I : Type 0} (follow : I → List I) (starts ids : List I) (i : I) → IsMet follow starts ids i → Contains (starts ++ flat_map follow ids) i
met_named follow starts ids i = ⊎_elim
    (Contains-append_left starts (flat_map follow ids) i)
    (λ n. Contains-append_right starts (flat_map follow ids) i (names_in follow ids n.0 i n.1 n.2))

-- what is pending, ready or next has been met, if what is followed is a parent
module _ {I : Type 0} (one follow : I → List I) (time : I → ℤ) (starts hidden taken : List I) (among : (c i : I) → Contains (follow c) i → Contains (one c) i) (i : I) where
  pending_met : IsPending one follow time starts hidden taken i → IsMet follow starts taken i
  pending_met p = ⊎_elim (λ s. inl s) (λ n. inr (namer follow taken i n)) (Contains-append_cases starts (flat_map follow taken) i p.0)

  ready_met : IsReady one follow time starts hidden taken i → IsMet follow starts taken i
  ready_met ((start s, out), untaken, children) = inl s
  ready_met ((parent {child = c} r m, out), untaken, children) = inr (c, children c (r, λ h. out (parent h (among c i m))) m, m)

  waits_met : IsPending one follow time starts hidden taken i ⊎ IsReady one follow time starts hidden taken i → IsMet follow starts taken i
  waits_met = ⊎_elim pending_met ready_met

  next_met : (by : List ℕ) → IsNext one follow time starts hidden taken i by → IsMet follow starts taken i
  next_met by (breadth (before, after, is, none, p)) = pending_met p
  next_met by (newest (before, after, is, none, p)) = pending_met p.0
  next_met by (oldest (before, after, is, none, p)) = pending_met p.0
  next_met by (date ready made (before, after, is, none, p)) = ready_met p.0
  next_met by (topo ready made (before, after, is, none, p)) = ready_met p

module _ (Below : ObjectId → Type 0) (parents known : ObjectId → List ObjectId) (cut : IsCut Below parents known) (time : ObjectId → ℤ) (tips hidden starts : List ObjectId) (by : List ℕ) (option : List (List ℕ))
    (followed : ObjectId → List ObjectId) (f : AreFollowed parents known time tips by option followed starts) where
  -- a list of which all that is met is above the line
  module _ (ids : List ObjectId) (begins : Begins known followed time starts hidden by ids) (above : (i : ObjectId) → IsMet followed starts ids i → Below i → ⊥) where
    abbrev AreAmong : List ObjectId → Type 0
    AreAmong taken = (c : ObjectId) → Contains taken c → Contains ids c

    met_above : (taken : List ObjectId) → AreAmong taken → (i : ObjectId) → IsMet followed starts taken i → Below i → ⊥
    met_above taken among i m = above i (⊎_elim (λ s. inl s) (λ n. inr (n.0, among n.0 n.1, n.2)) m)

    listed_above : (c : ObjectId) → Contains ids c → Below c → ⊥
    listed_above c m =
        let s = split ids c m in
        met_above s.0 (λ j n. subst (λ all. Contains all j) (sym s.2) (Contains-append_left s.0 (c ∷ s.1) j n)) c
        (next_met known followed time starts hidden s.0 f.known_among c by (begins.2 s.0 s.1 c s.2))

    met_too_above : (taken : List ObjectId) → AreAmong taken → (i : ObjectId) → IsMet f.follows starts taken i → Below i → ⊥
    met_too_above taken among i m = met_above taken among i (⊎_elim
        (λ s. inl s)
        (λ n. inr (n.0, n.1, subst (λ ps. Contains ps i) (sym (f.same n.0 (known_same Below parents known cut n.0 (listed_above n.0 (among n.0 n.1))))) n.2))
        m)

    within : (c i : ObjectId) → Contains (followed c) i → Contains (f.follows c) i
    within = option_within Below parents known cut time tips by option followed starts f

    alike_above : AlikeFor known parents followed f.follows time starts hidden (λ i. Below i → ⊥) ids
    alike_above = record {
      there = λ i dry s. (reach_more followed f.follows starts starts within (λ j m. m) i s.0, λ r. s.1 (down Below parents known cut hidden i r dry));
      back = λ i dry s. (down_by Below parents known cut followed f.follows f.same f.among starts i s.0 dry, λ r. s.1 (up Below parents known cut hidden i r));
      same = λ c dry. f.same c (known_same Below parents known cut c dry);
      child = λ c i dry s m b. dry (cut.down c i b (f.among c i (within c i m)));
      child_too = λ c i dry s m b. dry (cut.down c i b (f.among c i m));
      listed = listed_above;
      shown = λ c m. All-contains (IsShown known followed time starts hidden) ids c begins.0 m;
      met = λ taken among i w. met_above taken among i (waits_met known followed time starts hidden taken f.known_among i w);
      met_too = λ taken among i w. met_too_above taken among i (waits_met parents f.follows time starts hidden taken f.among i w);
    }

    begins_above : Begins parents f.follows time starts hidden by ids
    begins_above = begins_for known parents followed f.follows time starts hidden (λ i. Below i → ⊥) ids alike_above by begins

  -- a list that the limit allows is the front of the one at the limit
  module _ (c : Choice) (l : BeginsAbove Below known followed time starts hidden by c) (ids : List ObjectId) (begins : Begins known followed time starts hidden by ids) (allows : Allows c.limit (length (chosen known time c ids))) where
    length_chosen : length (chosen known time c ids) ≡ length ids - c.skip
    length_chosen = ap (λ xs. length (drop c.skip xs)) (all_kept (λ i. c.keeps (length (known i)) (time i)) ids (λ i. l.all (length (known i)) (time i))) ∙ length-drop c.skip ids

    few : length ids ≤ length l.ids
    few =
        let most : length (chosen known time c ids) ≤ l.most = subst (λ limit. Allows limit (length (chosen known time c ids))) l.limit allows in
        omega (arith, most, length_chosen, l.enough)

    front : (rest : List ObjectId) × (l.ids ≡ ids ++ rest)
    front = is_front known followed time starts hidden by ids l.ids begins l.begins few

    front_met_above : (i : ObjectId) → IsMet followed starts ids i → Below i → ⊥
    front_met_above i m = l.above i (met_named followed starts l.ids i (⊎_elim
        (λ s. inl s)
        (λ n. inr (n.0, subst (λ all. Contains all n.0) (sym front.1) (Contains-append_left ids front.0 n.0 n.1), n.2))
        m))

    pub limit_above : (i : ObjectId) → Contains ids i → Below i → ⊥
    limit_above = listed_above ids begins front_met_above

    pub limit_begins : Begins parents f.follows time starts hidden by ids
    limit_begins = begins_above ids begins front_met_above

    -- one comes next, if the limit allows one more
    pub limit_goes_on : Allows c.limit (suc (length (chosen known time c ids))) → ((i : ObjectId) → IsNext known followed time starts hidden ids i by → ⊥) → ⊥
    limit_goes_on more ended = go front.0 front.1
      where
        go : (rest : List ObjectId) → l.ids ≡ ids ++ rest → ⊥
        go [] e =
            let most : suc (length (chosen known time c ids)) ≤ l.most = subst (λ limit. Allows limit (suc (length (chosen known time c ids)))) l.limit more in
            let as_long : length l.ids ≡ length ids = ap length (e ∙ append-nil ids) in
            omega (arith, most, length_chosen, l.enough, as_long)
        go (x ∷ rest) e = ended x (l.begins.2 ids rest x e)
