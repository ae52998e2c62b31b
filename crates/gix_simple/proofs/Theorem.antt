-- The first step, which paints; and the theorem over a whole walk, and over one drawn as far as one likes.
use Rattle.std.proofs.Common.{◌≡◌, ◌≢◌, ◌⊎◌, List, [], ◌∷◌, ◌++◌, filter, Bool, true, false, not, ◌||◌, cond, Option, Some, None, Result, Err, Contains, All, refl, sym, ap, subst, inl}
use Rattle.std.proofs.Common.{inr, ⊎_elim, ◌∙◌, append-nil, arith, true≢false}
use Rattle.gix_simple.proofs.Common.{All-head, false≢true, false_from_ne_true, and_parts, not-true, AllZip, Drains, Yields, ObjectId, id_cmp, is_same, is_among, kind_of, Objects, GraphRow, Info, Error}
use Rattle.gix_simple.proofs.Common.{IsHistory, IsHiddenFault, Paints, IsAtBoundary, Reaches, start, step, Tells, IsAgreeing, time_of, parents_of, commit_of_object, walked_parents, ReadsWhole, Pending, SimpleWalk, time_order, cutoff}
use Rattle.gix_simple.proofs.Common.{Steps, painted, FirstStep, unhidden, Next, initial, later, ids_of, AreDistinct, itself, AnswersBy, IsFresh, IsNoRefusal, IsBeginningBy, IsListBy, IsNextOne, IsGivenBy, MeetsWhole, GivesInOrder, GivesBeginning}
use Rattle.gix_simple.proofs.Common.{starts_of, next_of, kept_of, is_kept, commit_items, own_history, same_is, among_from, among_is, Contains-here, Contains-there, no_member, fresh, among-filter, walked_within, no_fault}
use Rattle.gix_simple.proofs.Common.{filter_within, filter_all}
use Rattle.std.specs.FinSet as set
use Rattle.gix_simple.specs.declared.Error.TheVariants as error
use Rattle.gix_paint.specs.declared.Hidden.{Hidden}
use Rattle.gix_paint.specs.declared.Hidden.TheVariants as hidden_by
use Rattle.gix_simple.specs.Walk.{paints, faulty_history, no_memory}
use Rattle.gix_revwalk.proofs.Beginnings.{begins_empty}
use Rattle.gix_revwalk.proofs.Drained.{at_end}
use Rattle.gix_revwalk.proofs.Committer.{fault_unread}
use Rattle.gix_simple.proofs.Treated.{Setting}
use Rattle.gix_simple.proofs.OneStep.{reads_whole, whole_well}
use Rattle.gix_simple.proofs.PendingIs.{IsQueue}
use Rattle.gix_simple.proofs.WholeWalk.{Known, Runs, RunsTo, none_yet, begun_run, next_steps, ended_run}

pub Contains-filter : (p : ObjectId → Bool) (xs : List ObjectId) (i : ObjectId) → Contains (filter p xs) i → Contains xs i × (p i ≡ true)
Contains-filter p xs i h =
    let e : (p i ≡ true) × (is_among i xs ≡ true) = and_parts (p i) (is_among i xs) (sym (among-filter i p xs) ∙ among_from i _ h) in
    (among_is i xs e.1, e.0)

distinct-filter : (p : ObjectId → Bool) (xs : List ObjectId) → AreDistinct xs → AreDistinct (filter p xs)
distinct-filter p [] d = tt
distinct-filter p (x ∷ xs) d =
    elim (p x) as (λ b. AreDistinct (cond b (x ∷ filter p xs) (filter p xs))) [ true ↦ (λ c. d.0 (Contains-filter p xs x c).0, distinct-filter p xs d.1) | false ↦ distinct-filter p xs d.1 ]

-- distinct ids that aren't old are all new
fresh_distinct : (old : ObjectId → Bool) (xs : List ObjectId) → AreDistinct xs → ((i : ObjectId) → Contains xs i → old i ≡ false) → xs ≡ fresh old xs
fresh_distinct old [] d h = refl
fresh_distinct old (x ∷ xs) d h =
    ap (λ ys. x ∷ ys) (fresh_distinct (λ j. is_same j x || old j) xs d.1 (λ i c. Rattle.std.proofs.lemmas.Bool.or_from (is_same i x) (old i) (false_from_ne_true _ (λ e. d.0 (subst (λ y. Contains xs y) (same_is i x e) c))) (h i (Contains-there i x xs c))))
    ∙ ap (λ b. cond b (fresh old xs) (x ∷ fresh (λ j. is_same j x || old j) xs)) (sym (h x (Contains-here x xs)))

queue_starts : (starts : List ObjectId) → AreDistinct starts → IsQueue (starts ++ []) [] starts
queue_starts starts d = fresh_distinct (λ j. false) starts d (λ i c. refl) ∙ ap (fresh (λ j. false)) (sym (append-nil starts))

-- where an id is reached there is a start
pub no_start : (next : ObjectId → List ObjectId) (starts : List ObjectId) (i : ObjectId) → Reaches next starts i → starts ≢ []
no_start next starts i (start s) = λ e. no_member i (subst (λ xs. Contains xs i) e s)
no_start next starts i (step {c = c} r n) = no_start next starts c r

ids-filter : (p q : ObjectId → Bool) (ps : List Pending) → ((i : ObjectId) → Contains (ids_of ps) i → p i ≡ q i) → ids_of (filter (λ x. not (p x.id)) ps) ≡ filter (λ i. not (q i)) (ids_of ps)
ids-filter p q [] h = refl
ids-filter p q (x ∷ ps) h = let here : p x.id ≡ q x.id = h x.id (Contains-here x.id (ids_of ps)) in grind (arith, ids-filter p q ps (λ i c. h i (Contains-there i x.id (ids_of ps) c)))

-- a walk before its first step, with hidden ids and the parents that commits name
module _ {F P : Type 0} (objects : F → Objects) (faulty : F → ObjectId → Type 0) (answers : P → ObjectId → Bool → P → Type 0) (w : SimpleWalk F P) (accepts hides : ObjectId → Bool) (named : ObjectId → List ObjectId)
    (by_test : AnswersBy answers w.predicate accepts) (is_fresh : IsFresh objects w accepts) (agreeing : IsAgreeing (objects w.store) w.rows) where
  abbrev pub set_up : set.FinSet id_cmp → Setting objects faulty answers
  set_up marks = record { store = w.store; predicate = w.predicate; rows = w.rows; parents = w.parents; named = named; sorting = w.sorting; begun = true; marks = marks; accepts = accepts; hidden = hides; starts = starts_of w hides; by_test = by_test; agreeing = agreeing }

  seen_starts : (i : ObjectId) → is_kept (objects w.store) accepts hides (cutoff w.parents w.sorting) i ≡ true → set.contains w.seen i ≡ is_among i (starts_of w hides ++ [])
  seen_starts i k =
      let starts = among-filter i (λ j. not (hides j)) (ids_of w.pending) in
      let from_seen : set.contains w.seen i ≡ true → (is_among i (ids_of w.pending) ≡ true) ⊎ (accepts i ≡ false) = λ e. ⊎_elim (λ c. inl (among_from i _ c)) inr (is_fresh.seen i e) in
      let from_pending : is_among i (ids_of w.pending) ≡ true → set.contains w.seen i ≡ true = λ e. is_fresh.pending_seen i (among_is i _ e) in
      rw append-nil (grind arith)

  -- a walk whose first step is made, and what is known of it
  pub record Begins (Allowed : Result Info Error → Type 0) (o : Option (Result Info Error)) (new : SimpleWalk F P) : Type 0 where
    pub marks : set.FinSet id_cmp
    pub mid : SimpleWalk F P
    pub known : Known objects faulty answers (set_up marks) Allowed
    pub runs : Runs objects faulty answers (set_up marks) mid []
    pub steps : Steps objects faulty answers mid o new

  -- the first step leaves these pending commits and rows, and these hidden ids
  pub begins_at : {Allowed : Result Info Error → Type 0} (marks : set.FinSet id_cmp) (rows : List GraphRow) (pending : List Pending) → (rows ≡ w.rows) ⊎ (rows ≡ []) → ((p : Pending) → Contains pending p → Contains w.pending p) → ids_of pending ≡ starts_of w hides
      → Known objects faulty answers (set_up marks) Allowed → {o : Option (Result Info Error)} {new : SimpleWalk F P} → Steps objects faulty answers (record w { begun = true; hidden_tips = []; hidden = marks; rows = rows; pending = pending }) o new → Begins Allowed o new
  begins_at marks rows pending left within same known steps = record {
    marks = marks;
    mid = record w { begun = true; hidden_tips = []; hidden = marks; rows = rows; pending = pending };
    known = known;
    runs = record {
      rest = record { store = refl; parents = refl; sorting = refl; marks = refl; begun = refl; tips = refl; rows = left; asked_of = itself; remembered = is_fresh.remembered; timed = λ order e p m. is_fresh.timed order e p (within p m) };
      seen = λ i k. seen_starts i k;
      queue = subst (IsQueue (starts_of w hides ++ []) []) (sym same) (queue_starts (starts_of w hides) (distinct-filter _ (ids_of w.pending) is_fresh.distinct));
      reached = λ c m. absurd (no_member c m);
      within = λ c e. absurd (false≢true e);
    };
    steps = steps;
  }

  module _ {Allowed : Result Info Error → Type 0} (begins : (o : Option (Result Info Error)) (new : SimpleWalk F P) → ((answer : Result Info Error) → o ≡ Some answer → Allowed answer) → Next objects faulty answers w o new → Begins Allowed o new) where
    abbrev AreGiven : List (Result Info Error) → List ObjectId → Type 0
    AreGiven = AllZip (IsGivenBy (objects w.store) named w.rows w.parents (time_order w.parents w.sorting))

    abbrev next_kept : ObjectId → List ObjectId
    next_kept = kept_of (objects w.store) named w.parents accepts hides (cutoff w.parents w.sorting)

    ran : (marks : set.FinSet id_cmp) {list : List (Result Info Error)} {last new : SimpleWalk F P} → RunsTo objects faulty answers (set_up marks) [] list last → Steps objects faulty answers last None new
        → (ids : List ObjectId) × AreGiven list ids × IsListBy (IsNextOne (time_order w.parents w.sorting) (time_of (objects w.store)) next_kept (starts_of w hides)) ids
    ran marks r steps = (r.ids, r.given_as, record { begins = r.begins (begins_empty _); ends = ended_run objects faulty answers (set_up marks) [] r steps })

    first_of : {answer : Result Info Error} (left : List (Result Info Error)) {new : SimpleWalk F P} → All Allowed (answer ∷ left) → Next objects faulty answers w (Some answer) new → Begins Allowed (Some answer) new
    first_of {answer} left {new} ok n = begins (Some answer) new (λ a e. let same : answer ≡ a = cc in subst Allowed same (All-head Allowed answer left ok)) n

    -- the theorem
    pub all_given : (list : List (Result Info Error)) → All Allowed list → Drains (Next objects faulty answers) w list → (ids : List ObjectId) × AreGiven list ids × IsListBy (IsNextOne (time_order w.parents w.sorting) (time_of (objects w.store)) next_kept (starts_of w hides)) ids
    all_given [] ok drawn =
        let end = at_end (Next objects faulty answers) w drawn in
        let b : Begins Allowed None end.0 = begins None end.0 (λ a e. cc) end.1 in
        ran b.marks (none_yet objects faulty answers (set_up b.marks) [] b.mid b.runs) b.steps
    all_given (answer ∷ left) ok drawn =
        let b : Begins Allowed (Some answer) drawn.1.1.0 = first_of left ok drawn.1.1.1 in
        let r = begun_run objects faulty answers (set_up b.marks) b.known answer left b.mid drawn.1.1.0 drawn.1.0 [] b.runs ok b.steps drawn.1.1.2 in
        ran b.marks r (next_steps objects faulty answers drawn.1.0 (r.runs.rest.begun ∙ b.known.begun) drawn.1.2)

    -- and over a walk that is drawn as far as one likes
    pub some_given : (list : List (Result Info Error)) (last : SimpleWalk F P) → All Allowed list → Yields (Next objects faulty answers) w list last
        → (ids : List ObjectId) × AreGiven list ids × IsBeginningBy (IsNextOne (time_order w.parents w.sorting) (time_of (objects w.store)) next_kept (starts_of w hides)) ids
    some_given [] last ok drawn = ([], tt, begins_empty _)
    some_given (answer ∷ left) last ok drawn =
        let b : Begins Allowed (Some answer) drawn.0 = first_of left ok drawn.1 in
        let r = begun_run objects faulty answers (set_up b.marks) b.known answer left b.mid drawn.0 last [] b.runs ok b.steps drawn.2 in
        (r.ids, r.given_as, r.begins (begins_empty _))

module _ {F P : Type 0} (objects : F → Objects) (faulty : F → ObjectId → Type 0) (answers : P → ObjectId → Bool → P → Type 0) (w : SimpleWalk F P) (accepts hides : ObjectId → Bool)
    (by_test : AnswersBy answers w.predicate accepts) (is_fresh : IsFresh objects w accepts) (tells : Tells hides (Reaches (parents_of (objects w.store)) w.hidden_tips))
    (meets : MeetsWhole objects faulty w accepts hides) (agreeing : IsAgreeing (objects w.store) w.rows) where
  abbrev setting : set.FinSet id_cmp → Setting objects faulty answers
  setting = set_up objects faulty answers w accepts hides (parents_of (objects w.store)) by_test is_fresh agreeing

  own : IsHistory (objects w.store) w.rows (objects w.store)
  own = own_history (objects w.store) w.rows agreeing

  abbrev next_ids : ObjectId → List ObjectId
  next_ids = next_of objects w accepts hides

  -- what the pending tips reach, and not what is hidden
  outside : (c : ObjectId) → Reaches next_ids (starts_of w hides) c → Reaches (parents_of (objects w.store)) (ids_of w.pending) c × (hides c ≡ false)
  outside c (start s) = let h : Contains (ids_of w.pending) c × (not (hides c) ≡ true) = Contains-filter (λ i. not (hides i)) (ids_of w.pending) c s in (start h.0, not-true _ h.1)
  outside c (step {c = d} r n) =
      let h : Contains (walked_parents (objects w.store) w.parents d) c × (is_kept (objects w.store) accepts hides (cutoff w.parents w.sorting) c ≡ true) = Contains-filter _ (walked_parents (objects w.store) w.parents d) c n in
      (step (outside d r).0 (walked_within w.parents _ c h.0), not-true _ (and_parts _ _ (and_parts _ _ h.1).0).1)

  knows : (marks : set.FinSet id_cmp) → ((c i : ObjectId) → Reaches next_ids (starts_of w hides) c → Contains (parents_of (objects w.store) c) i → set.contains marks i ≡ hides i) → Known objects faulty answers (setting marks) IsNoRefusal
  knows marks marked = record {
    begun = refl;
    reads = λ i r. reads_whole objects faulty answers (setting marks) i refl (meets.given i r);
    marked = marked;
    commits = λ v p h r answer new takes ok. whole_well objects faulty answers (setting marks) v h p (meets.given p.id r) takes ok;
    unfailed = λ ok. ok.0 refl;
  }

  abbrev BeginsBy : Option (Result Info Error) → SimpleWalk F P → Type 0
  BeginsBy = Begins objects faulty answers w accepts hides (parents_of (objects w.store)) by_test is_fresh agreeing IsNoRefusal

  -- nothing is painted
  plain : (w.pending ≡ []) ⊎ (w.hidden_tips ≡ []) → {o : Option (Result Info Error)} {new : SimpleWalk F P} → Steps objects faulty answers (record w { begun = true; hidden_tips = [] }) o new → BeginsBy o new
  plain none steps =
      begins_at objects faulty answers w accepts hides (parents_of (objects w.store)) by_test is_fresh agreeing w.hidden w.rows w.pending (inl refl) (λ p m. m)
      (sym (filter_all (λ i. not (hides i)) (ids_of w.pending) (λ i c. ap not (⊎_elim (λ e. absurd (no_member i (subst (λ ps. Contains (ids_of ps) i) e c))) (λ e. shown e i) none))))
      (knows w.hidden (λ c i r n. is_fresh.shown i ∙ sym (⊎_elim (λ e. absurd (no_start next_ids (starts_of w hides) c r (ap (λ ps. filter (λ k. not (hides k)) (ids_of ps)) e))) (λ e. shown e i) none))) steps
    where
      shown : w.hidden_tips ≡ [] → (i : ObjectId) → hides i ≡ false
      shown e i = false_from_ne_true _ (λ h. no_start (parents_of (objects w.store)) w.hidden_tips i ((tells i).0 h) e)

  -- the hidden tips are painted
  painting : (marks : set.FinSet id_cmp) (rows : List GraphRow) → Paints (objects w.store) w.rows (ids_of w.pending) w.hidden_tips marks rows
      → {o : Option (Result Info Error)} {new : SimpleWalk F P} → Steps objects faulty answers (painted objects faulty answers (record w { begun = true }) marks rows) o new → BeginsBy o new
  painting marks rows paint steps =
      begins_at objects faulty answers w accepts hides (parents_of (objects w.store)) by_test is_fresh agreeing marks rows _ paint.rows_left (λ p m. filter_within _ w.pending p m) (ids-filter (set.contains marks) hides w.pending (λ i c. exact i (inl c)))
      (knows marks (λ c i r n. exact i (inr (c, (outside c r).0, (λ h. true≢false (sym ((tells c).1 h) ∙ (outside c r).1)), n)))) steps
    where
      exact : (i : ObjectId) → IsAtBoundary (parents_of (objects w.store)) (ids_of w.pending) w.hidden_tips i → set.contains marks i ≡ hides i
      exact i at =
          let sound : set.contains marks i ≡ true → hides i ≡ true = λ e. (tells i).1 ((paint.marked (objects w.store) own).sound i e) in
          let whole : hides i ≡ true → set.contains marks i ≡ true = λ e. (paint.marked (objects w.store) own).whole i at ((tells i).0 e) in
          grind arith

  no_hidden_fault : w.pending ≢ [] → w.hidden_tips ≢ [] → (why : Hidden) → IsNoRefusal (Err (error.HiddenGraph why)) → IsHiddenFault (objects w.store) (faulty w.store) w.rows (ids_of w.pending) w.hidden_tips why → ⊥
  no_hidden_fault some hidden (hidden_by.Find e) ok fault =
      let whole : ReadsWhole (objects w.store) fault.id = meets.painted some hidden fault.id (fault.reached (objects w.store) own) in
      ok.2 (ap (λ x. Err (error.HiddenGraph (hidden_by.Find x))) (no_fault (objects w.store) (faulty w.store) fault.id whole.commit e whole.stored fault.fault))
  no_hidden_fault some hidden (hidden_by.ObjectDecode e) ok fault =
      let whole : ReadsWhole (objects w.store) fault.id = meets.painted some hidden fault.id (fault.reached (objects w.store) own) in
      let n : None ≡ Some whole.commit = sym (ap (commit_of_object fault.id) fault.fault.1 ∙ fault_unread (commit_items (kind_of fault.id) fault.fault.0) e fault.fault.2) ∙ whole.stored in cc

  first_begins : {o : Option (Result Info Error)} {new : SimpleWalk F P} → ((answer : Result Info Error) → o ≡ Some answer → IsNoRefusal answer) → FirstStep objects faulty answers (record w { begun = true }) o new → BeginsBy o new
  first_begins ok (unhidden none steps) = plain none steps
  first_begins ok (paints {marks = marks} {rows = rows} some hidden paint steps) = painting marks rows paint steps
  first_begins ok (faulty_history {why = why} some hidden left fault) = absurd (no_hidden_fault some hidden why (ok (Err (error.HiddenGraph why)) refl) fault)
  first_begins ok (no_memory some hidden left) = absurd ((ok (Err error.Memory) refl).0 refl)

  begins : (o : Option (Result Info Error)) (new : SimpleWalk F P) → ((answer : Result Info Error) → o ≡ Some answer → IsNoRefusal answer) → Next objects faulty answers w o new → BeginsBy o new
  begins o new ok (initial fresh s) = first_begins ok s
  begins o new ok (later b s) = absurd (true≢false (sym b ∙ is_fresh.unbegun))

  pub gives_in_order : (list : List (Result Info Error)) → All IsNoRefusal list → Drains (Next objects faulty answers) w list → GivesInOrder objects w accepts hides list
  gives_in_order list ok drawn = let r = all_given objects faulty answers w accepts hides (parents_of (objects w.store)) by_test is_fresh agreeing begins list ok drawn in record { ids = r.0; given = r.1; in_order = r.2 }

  pub gives_beginning : (list : List (Result Info Error)) (last : SimpleWalk F P) → All IsNoRefusal list → Yields (Next objects faulty answers) w list last → GivesBeginning objects w accepts hides list
  gives_beginning list last ok drawn = let r = some_given objects faulty answers w accepts hides (parents_of (objects w.store)) by_test is_fresh agreeing begins list last ok drawn in record { ids = r.0; given = r.1; begins = r.2 }
