-- The generations that a walk gives are the generations of its rows, up to where a corrupt row drops the rows.
use Rattle.std.proofs.Common.{◌≡◌, ◌⊎◌, ℕ, ℤ, List, [], ◌∷◌, Bool, true, false, not, Option, Some, None, Result, Ok, Err, All, Contains, option_map, refl, sym, ap, subst, inl, inr, ⊎_elim, ◌∙◌, true≢false}
use Rattle.gix_simple.proofs.Common.{transport, All-nil, All-cons, Yields, ObjectId, commit_items, id_cmp, kind_of, Objects, GraphRow, row_of, Info, Error, Pending, IsAgreeing, ReadsWhole, by_mode, Reaches, start, step, SimpleWalk}
use Rattle.gix_simple.proofs.Common.{Treated, StoreFails, store_fails, TreatsAll, Concludes, given, broken, Takes, by_row, by_store, not_found, Steps, took, painted, FirstStep, unhidden, Next, initial, later, scanned, text_next, next_in}
use Rattle.gix_simple.proofs.Common.{ids_at, rows_if, kept_rows, IsUnrowed, ids_of, Contains-here, Contains-there, Contains-cons_cases, own_history, row_stands, row_parents, corrupt_row}
use Rattle.std.specs.FinMap as map_of
use Rattle.std.specs.FinSet as set
use Rattle.gix_object.specs.declared.Kind.TheVariants as object
use Rattle.gix_object.specs.declared.decode.Error.{Error as DecodeError}
use Rattle.gix_object.specs.declared.find.existing_iter.Error.TheVariants as existing
use Rattle.gix_simple.specs.declared.Error.TheVariants as error
use Rattle.gix_simple.specs.Walk.{no_memory, paints, faulty_history}
use Rattle.gix_simple.specs.Runs.{IsTold, IsUntold, IsAbout, HasCorruptRow, PaintingDrops, TellsGenerations}
use Rattle.gix_revwalk.proofs.TextParents.{text_whole}
use Rattle.gix_simple.proofs.Moves.{scan_by, Fewer, fewer_same, fewer_then, fewer_filter, fewer_within, Asking, rests, asks, asking, kept, Follows, IsGivenAs, concludes, fewer_chosen, next_moves, moves_pend}
use Rattle.gix_revwalk.proofs.Reached.{reaches_from}

module _ {F P : Type 0} (objects : F → Objects) (faulty : F → ObjectId → Type 0) (answers : P → ObjectId → Bool → P → Type 0) where
  -- the parents that are walked, as texts name them
  abbrev text_walked : SimpleWalk F P → ObjectId → List ObjectId
  text_walked w i = by_mode w.parents (text_next (objects w.store) i)

  -- the walk reads the same, and what became pending is Named
  record Grows (Named : ObjectId → Type 0) (w v : SimpleWalk F P) : Type 0 where
    store : v.store ≡ w.store
    rows : v.rows ≡ w.rows
    parents : v.parents ≡ w.parents
    begun : v.begun ≡ w.begun
    pending : (i : ObjectId) → Contains (ids_of v.pending) i → Contains (ids_of w.pending) i ⊎ Named i

  asked_pending : {Named : ObjectId → Type 0} {how : Treated} {w v : SimpleWalk F P} → Asking objects faulty answers Named w how v
      → (i : ObjectId) → Contains (ids_of v.pending) i → Contains (ids_of w.pending) i ⊎ Named i
  asked_pending (rests f) i m = inl m
  asked_pending {Named} {w = w} (asks {p = p} n is_new a f rest) i m =
      ⊎_elim (λ k. ⊎_elim (λ e. inr (subst Named e n)) inl (Contains-cons_cases i p.id (ids_of w.pending) (fewer_within f i k))) inr (asked_pending rest i m)

  grown : {Named : ObjectId → Type 0} {how : Treated} {w v new : SimpleWalk F P} → Asking objects faulty answers Named w how v → Follows objects faulty answers v new → new.rows ≡ v.rows → Grows Named w new
  grown asked f rows =
      let e = f.same in
      let k = kept objects faulty answers asked in
      record {
        store = ap (λ x. x.store) e ∙ ap (λ x. x.store) k;
        rows = rows ∙ ap (λ x. x.rows) k;
        parents = ap (λ x. x.parents) e ∙ ap (λ x. x.parents) k;
        begun = ap (λ x. x.begun) e ∙ ap (λ x. x.begun) k;
        pending = λ i m. asked_pending asked i (fewer_within f.fewer i m);
      }

  told_as : (rows : List GraphRow) (i : ObjectId) (generation : Option ℕ) (answer : Result Info Error) → option_map (λ row. row.generation) (row_of rows i) ≡ generation → IsGivenAs i generation answer → IsTold rows answer
  told_as rows i generation (Ok info) e g = g.1 ∙ sym e ∙ ap (λ j. option_map (λ row. row.generation) (row_of rows j)) (sym g.0)
  told_as rows i generation (Err x) e g = tt

  -- without rows no generation is given
  told_none : (answer : Result Info Error) → IsTold [] answer → IsUntold answer
  told_none (Ok info) e = e
  told_none (Err x) e = tt

  -- the store failed at a parent
  store_failed : {Named : ObjectId → Type 0} {w v : SimpleWalk F P} → Asking objects faulty answers Named w StoreFails v → (i : ObjectId) × Named i × faulty w.store i
  store_failed (rests f) = f refl
  store_failed (asks n is_new a f rest) = store_failed rest

  -- what is pending afterwards is reached
  record Descends (w new : SimpleWalk F P) : Type 0 where
    parents : new.parents ≡ w.parents
    begun : new.begun ≡ true
    reached : IsAgreeing (objects w.store) w.rows → (i : ObjectId) → Contains (ids_of new.pending) i → Reaches (text_walked w) (ids_of w.pending) i

  -- a step keeps the rows and gives their generation, or drops them for a corrupt row, or fails and is the last
  data Tells (w : SimpleWalk F P) : Result Info Error → SimpleWalk F P → Type 0 where
    keeps : {answer : Result Info Error} {new : SimpleWalk F P} → new.store ≡ w.store → new.rows ≡ w.rows → Descends w new → IsTold w.rows answer → Tells w answer new
    loses : {answer : Result Info Error} {new : SimpleWalk F P} → new.store ≡ w.store → new.rows ≡ [] → IsUntold answer
        → (IsAgreeing (objects w.store) w.rows → HasCorruptRow objects faulty w answer ⊎ PaintingDrops objects w) → Tells w answer new
    ends : {e : Error} {new : SimpleWalk F P} → new.pending ≡ [] → Tells w (Err e) new

  -- a row that names no ids is corrupt
  corrupt : (w : SimpleWalk F P) (i : ObjectId) (row : GraphRow) (answer : Result Info Error) → row_of w.rows i ≡ Some row → ids_at w.rows row.parents ≡ None → Contains (ids_of w.pending) i → IsAbout (objects w.store) (faulty w.store) w.parents i answer → IsAgreeing (objects w.store) w.rows → HasCorruptRow objects faulty w answer
  corrupt w i row answer e n m about agrees =
      let c : Contains w.rows row × (i ≡ row.id) = row_stands w.rows i row e in
      record {
        row = row;
        present = subst (λ j. row_of w.rows j ≡ Some row) c.1 e;
        corrupt = corrupt_row (objects w.store) w.rows agrees row c.0 n;
        reached = start (subst (Contains (ids_of w.pending)) c.1 m);
        about = subst (λ j. IsAbout (objects w.store) (faulty w.store) w.parents j answer) c.1 about;
      }

  -- the commit that is taken, and the commits that its text names
  abbrev Reached : SimpleWalk F P → ObjectId → Type 0
  Reached w i = IsAgreeing (objects w.store) w.rows → Reaches (text_walked w) (ids_of w.pending) i

  -- a commit is taken from a walk in which no more is pending
  module _ (w : SimpleWalk F P) (begun : Bool) (is_begun : begun ≡ true) (tips : List ObjectId) (marks : set.FinSet id_cmp) (p : Pending) (others : List Pending)
      (chosen : (i : ObjectId) → Contains (p.id ∷ ids_of others) i → Contains (ids_of w.pending) i) where
    -- what is left, with these rows
    abbrev left : List GraphRow → SimpleWalk F P
    left rows = record w { rows = rows; pending = others; begun = begun; hidden_tips = tips; hidden = marks }

    descends : (rows : List GraphRow) {new : SimpleWalk F P} → Grows (Reached w) (left rows) new → Descends w new
    descends rows g = record {
      parents = g.parents;
      begun = g.begun ∙ is_begun;
      reached = λ agrees i m. ⊎_elim (λ c. start (chosen i (Contains-there i p.id (ids_of others) c))) (λ n. n agrees) (g.pending i m);
    }

    -- a commit without a row that can be read
    unrowed_tells : (answer : Result Info Error) {new : SimpleWalk F P} → IsUnrowed w.rows p.id → IsGivenAs p.id None answer → IsAbout (objects w.store) (faulty w.store) w.parents p.id answer → Grows (Reached w) (left (kept_rows w.rows (row_of w.rows p.id))) new → Tells w answer new
    unrowed_tells answer {new} unread g about grows = go (row_of w.rows p.id) refl
      where
        go : (o : Option GraphRow) → row_of w.rows p.id ≡ o → Tells w answer new
        go None e = keeps grows.store (grows.rows ∙ ap (kept_rows w.rows) e) (descends _ grows) (told_as w.rows p.id None answer (ap (option_map (λ row. row.generation)) e) g)
        go (Some row) e =
            let n : ids_at w.rows row.parents ≡ None = unread row e in
            loses grows.store (grows.rows ∙ ap (kept_rows w.rows) e ∙ ap (rows_if w.rows) n) (told_none answer (told_as [] p.id None answer refl g)) (λ agrees. inl (corrupt w p.id row answer e n (chosen p.id (Contains-here p.id (ids_of others))) about agrees))

    reached_next : (i : ObjectId) → Contains (text_walked w p.id) i → Reached w i
    reached_next i m agrees = step (start (chosen p.id (Contains-here p.id (ids_of others)))) m

    named_by_text : (bytes : List ℕ) → map_of.get (objects w.store) p.id ≡ Some (record { kind = object.Commit; bytes = bytes }) → (scanned w.parents (commit_items (kind_of p.id) bytes)).0 ≡ text_walked w p.id
    named_by_text bytes e = scan_by w.parents (commit_items (kind_of p.id) bytes) ∙ ap (by_mode w.parents) (sym (ap (next_in p.id) e))

    -- what is pending after the parents that a text names were treated
    concluded_after : (bytes : List ℕ) → map_of.get (objects w.store) p.id ≡ Some (record { kind = object.Commit; bytes = bytes }) → {how : Treated} {walk new : SimpleWalk F P} {generation : Option ℕ} {time : Option ℤ} {fault : Option DecodeError} {answer : Result Info Error}
        → TreatsAll objects faulty answers false (left (kept_rows w.rows (row_of w.rows p.id))) (scanned w.parents (commit_items (kind_of p.id) bytes)).0 how walk
        → Concludes objects faulty answers p.id (scanned w.parents (commit_items (kind_of p.id) bytes)).0 generation time bytes fault walk how answer new → Grows (Reached w) (left (kept_rows w.rows (row_of w.rows p.id))) new
    concluded_after bytes e treats c =
        let k = concludes objects faulty answers c in
        grown (asking objects faulty answers (λ i m. reached_next i (subst (λ ids. Contains ids i) (named_by_text bytes e) m)) treats) k.0 k.1

    takes_tells : {answer : Result Info Error} {new : SimpleWalk F P} → Takes objects faulty answers (left w.rows) p answer new → Tells w answer new
    takes_tells {answer} (by_row {row = row} {ids = ids} r e treats c) =
        let k = concludes objects faulty answers c in
        let g = grown (asking objects faulty answers named treats) k.0 k.1 in
        keeps g.store g.rows (descends _ g) (told_as w.rows p.id (Some row.generation) answer (ap (option_map (λ row. row.generation)) r) k.2)
      where
        named : (i : ObjectId) → Contains (by_mode w.parents ids) i → Reached w i
        named i m agrees =
            let k : Contains w.rows row × (p.id ≡ row.id) = row_stands w.rows p.id row r in
            let whole : ReadsWhole (objects w.store) p.id = subst (ReadsWhole (objects w.store)) (sym k.1) (agrees row k.0).whole in
            reached_next i (subst (λ those. Contains (by_mode w.parents those) i) (row_parents (objects w.store) w.rows agrees p.id row ids r e ∙ text_whole (objects w.store) p.id whole) m) agrees
    takes_tells (by_store {bytes = bytes} u e treats (given {info = info} f is)) = unrowed_tells (Ok info) u (is.same_id, is.same_generation) is.same_id (concluded_after bytes e treats (given f is))
    takes_tells (by_store {bytes = bytes} u e treats (broken {e = x} f)) = unrowed_tells (Err (error.ObjectDecode x)) u tt (bytes, e, f) (concluded_after bytes e {generation = None} {time = None} treats (broken f))
    takes_tells (by_store {bytes = bytes} u e treats store_fails) =
        let k = store_failed (asking objects faulty answers {Named = Contains (text_walked w p.id)} (λ i m. subst (λ ids. Contains ids i) (named_by_text bytes e) m) treats) in
        unrowed_tells (Err (error.Find existing.Store)) u tt (inr (refl, k.0, k.1, k.2)) (concluded_after bytes e {generation = None} {time = None} {fault = None} treats store_fails)
    takes_tells (by_store u e treats no_memory) = ends refl
    takes_tells (not_found {e = x} u fault) = unrowed_tells (Err (error.Find x)) u tt (inl fault) (record { store = refl; rows = refl; parents = refl; begun = refl; pending = λ j m. inl m })
    takes_tells (no_memory left) = ends refl

  steps_tells : (w : SimpleWalk F P) (begun : Bool) → begun ≡ true → (tips : List ObjectId) (marks : set.FinSet id_cmp) (ps : List Pending) → Fewer ps w.pending → {answer : Result Info Error} {new : SimpleWalk F P}
      → Steps objects faulty answers (record w { pending = ps; begun = begun; hidden_tips = tips; hidden = marks }) (Some answer) new → Tells w answer new
  steps_tells w begun is_begun tips marks ps fewer (no_memory some) = ends refl
  steps_tells w begun is_begun tips marks ps fewer (took {taken = p} {others = others} chooses takes) =
      takes_tells w begun is_begun tips marks p others (fewer_within (fewer_then (fewer_chosen objects faulty answers _ p others chooses) fewer)) takes

  -- without rows none is given from here on
  rowless : {w : SimpleWalk F P} {answer : Result Info Error} {new : SimpleWalk F P} → w.rows ≡ [] → Tells w answer new → IsUntold answer × ((new.rows ≡ []) ⊎ (new.pending ≡ []))
  rowless {answer = answer} empty (keeps store rows below told) = (told_none answer (subst (λ rs. IsTold rs answer) empty told), inl (rows ∙ empty))
  rowless empty (loses store rows untold why) = (untold, inl rows)
  rowless empty (ends gone) = (tt, inr gone)

  first_tells : (w : SimpleWalk F P) {answer : Result Info Error} {new : SimpleWalk F P} → w.begun ≡ false → FirstStep objects faulty answers (record w { begun = true }) (Some answer) new → Tells w answer new
  first_tells w fresh (unhidden unpainted steps) = steps_tells w true refl [] w.hidden w.pending (fewer_same w.pending) steps
  first_tells w {answer} {new} fresh (paints {marks = marks} {rows = rows} some tips_given paint steps) = ⊎_elim same (λ e. go w.rows refl e) paint.rows_left
    where
      v : SimpleWalk F P
      v = painted objects faulty answers (record w { begun = true }) marks rows

      same : rows ≡ w.rows → Tells w answer new
      same e = steps_tells w true refl [] marks _ (fewer_filter (λ p. not (set.contains marks p.id)) w.pending)
          (subst (λ rs. Steps objects faulty answers (painted objects faulty answers (record w { begun = true }) marks rs) (Some answer) new) e steps)

      after : {a : Result Info Error} {n : SimpleWalk F P} → rows ≡ [] → (IsAgreeing (objects w.store) w.rows → PaintingDrops objects w) → Tells v a n → Tells w a n
      after {a} empty why (keeps store left below told) = loses store (left ∙ empty) (told_none a (subst (λ rs. IsTold rs a) empty told)) (λ agrees. inr (why agrees))
      after empty why (loses store left untold other) = loses store left untold (λ agrees. inr (why agrees))
      after empty why (ends gone) = ends gone

      go : (those : List GraphRow) → w.rows ≡ those → rows ≡ [] → Tells w answer new
      go [] f e = same (e ∙ sym f)
      go (row ∷ those) f e = after e (λ agrees. (fresh, tips_given, (paint.marked (objects w.store) (own_history (objects w.store) w.rows agrees)).drops (λ same. let bad : [] ≡ row ∷ those = sym e ∙ same ∙ f in cc)))
          (steps_tells v true refl [] marks v.pending (fewer_same v.pending) steps)
  first_tells w fresh (faulty_history some tips_given left fault) = ends refl
  first_tells w fresh (no_memory some tips_given left) = ends refl

  next_tells : (w : SimpleWalk F P) {answer : Result Info Error} {new : SimpleWalk F P} → Next objects faulty answers w (Some answer) new → Tells w answer new
  next_tells w (initial fresh s) = first_tells w fresh s
  next_tells w (later begun s) = steps_tells w w.begun begun w.hidden_tips w.hidden w.pending (fewer_same w.pending) s

  -- nothing follows a walk with no pending commits
  nothing_more : (list : List (Result Info Error)) (w new : SimpleWalk F P) → Yields (Next objects faulty answers) w list new → w.pending ≡ [] → list ≡ []
  nothing_more [] w new d empty = refl
  nothing_more (answer ∷ list) w new d empty = absurd (moves_pend objects faulty answers (next_moves objects faulty answers d.1) empty)

  all_untold : (list : List (Result Info Error)) (w new : SimpleWalk F P) → Yields (Next objects faulty answers) w list new → w.rows ≡ [] → All IsUntold list
  all_untold [] w new d empty = All-nil IsUntold
  all_untold (answer ∷ list) w new d empty =
      let k = rowless empty (next_tells w d.1) in
      All-cons IsUntold answer list k.0 (⊎_elim (λ r. all_untold list d.0 new d.2 r) (λ gone. subst (All IsUntold) (sym (nothing_more list d.0 new d.2 gone)) (All-nil IsUntold)) k.1)

  -- the law
  pub tells_generations : (list : List (Result Info Error)) (w new : SimpleWalk F P) → Yields (Next objects faulty answers) w list new → TellsGenerations objects faulty w list
  tells_generations [] w new d = record { before = []; behind = []; parts = refl; told = All-nil (IsTold w.rows); untold = All-nil IsUntold; dropped = λ a rest e agrees. cc }
  tells_generations (answer ∷ list) w new d = go (next_tells w d.1) (tells_generations list d.0 new d.2)
    where
      go : {answer : Result Info Error} → Tells w answer d.0 → TellsGenerations objects faulty d.0 list → TellsGenerations objects faulty w (answer ∷ list)
      go {answer} (keeps store rows below told) rest =
          record {
            before = answer ∷ rest.before;
            behind = rest.behind;
            parts = ap (λ xs. answer ∷ xs) rest.parts;
            told = All-cons (IsTold w.rows) answer rest.before told (subst (λ rs. All (IsTold rs) rest.before) rows rest.told);
            untold = rest.untold;
            dropped = λ a more e agrees. inl (⊎_elim (carried agrees a) (λ painting. absurd (true≢false (sym below.begun ∙ painting.1.0))) (rest.dropped a more e (transport (λ k. IsAgreeing (objects (sym store k)) (sym rows k)) agrees)));
          }
        where
          carried : IsAgreeing (objects w.store) w.rows → (a : Result Info Error) → HasCorruptRow objects faulty d.0 a → HasCorruptRow objects faulty w a
          carried agrees a c = record {
            row = c.row;
            present = subst (λ rs. row_of rs c.row.id ≡ Some c.row) rows c.present;
            corrupt = c.corrupt;
            reached = reaches_from (text_walked w) (ids_of d.0.pending) (ids_of w.pending) (below.reached agrees) c.row.id (transport (λ k. Reaches (λ j. by_mode (below.parents k) (text_next (objects (store k)) j)) (ids_of d.0.pending) c.row.id) c.reached);
            about = transport (λ k. IsAbout (objects (store k)) (faulty (store k)) (below.parents k) c.row.id a) c.about;
          }
      go {answer} (loses store rows untold why) r =
          record {
            before = [];
            behind = answer ∷ list;
            parts = refl;
            told = All-nil (IsTold w.rows);
            untold = All-cons IsUntold answer list untold (all_untold list d.0 new d.2 rows);
            dropped = λ a rest e agrees. ⊎_elim (λ c. inl (subst (HasCorruptRow objects faulty w) (let same : answer ≡ a = cc in same) c)) (λ painting. inr (refl, painting)) (why agrees);
          }
      go {answer} (ends gone) r =
          record {
            before = answer ∷ [];
            behind = [];
            parts = ap (λ xs. answer ∷ xs) (nothing_more list d.0 new d.2 gone);
            told = All-cons (IsTold w.rows) answer [] tt (All-nil (IsTold w.rows));
            untold = All-nil IsUntold;
            dropped = λ a rest e agrees. cc;
          }
