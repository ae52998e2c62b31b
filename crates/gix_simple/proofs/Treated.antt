-- The parents of a commit, treated in order: what becomes pending and seen.
use Rattle.std.proofs.Common.{ℕ, ◌≡◌, ◌⊎◌, ℤ, pos, List, [], ◌∷◌, ◌++◌, filter, Bool, true, false, not, ◌&&◌, ◌||◌, Option, Some, None, Ok, Contains, IsPermutation, refl, sym, ap, subst, ⊎_elim, ◌∙◌, append_assoc, append-nil, arith}
use Rattle.gix_simple.proofs.Common.{map-append, IsPermutation-map, IsPermutation-middle, filter-append, Contains-append_cases, and_left, and_right, and_parts, not_from_true, ObjectId, id_cmp, is_same, is_among}
use Rattle.gix_simple.proofs.Common.{Objects, GraphRow, row_of, Parents, CommitTimeOrder, Sorting, IsAgreeing, time_of, Pending, SimpleWalk, Treated, GoesOn, TakesBest, time_order, cutoff, is_older, row_time, Asks, remembers, ReadsTime}
use Rattle.gix_simple.proofs.Common.{unasked, from_row, from_store, Enqueues, dropped, enqueued, Treats, hidden, refused, accepted, TreatsAll, stops, ids_of, Becomes, further, AnswersBy, is_kept, id_total, same_is, among-one}
use Rattle.gix_simple.proofs.Common.{Contains-here, Contains-there, no_member, fresh, fresh_agree, fresh-append, times_moved, among-filter, row_says_time, only_member}
use Rattle.std.specs.FinSet as set
use Rattle.gix_simple.specs.Walk.{asks, asked as asked_walk, known, none, more}
use Rattle.gix_revwalk.proofs.NewIds.{times}

-- the one that is taken by time, and the others
pub best_moved : {order : CommitTimeOrder} {pending : List Pending} {taken : Pending} {others : List Pending} → TakesBest order pending taken others → IsPermutation pending (taken ∷ others)
best_moved {taken = taken} {others = others} h =
    subst (λ ps. IsPermutation ps (taken ∷ others)) (sym h.place) (subst (λ ps. IsPermutation (h.before ++ taken ∷ h.behind) (taken ∷ ps)) (sym h.left) (IsPermutation-middle h.before taken h.behind))

-- pending commits in another order
pub times-permutation : (i : ObjectId) (ps qs : List Pending) → IsPermutation ps qs → times i (ids_of qs) ≡ times i (ids_of ps)
times-permutation i ps qs h = times_moved i (ids_of ps) (ids_of qs) (IsPermutation-map (λ p. p.id) ps qs h)

-- where no order by time is in force, there is no cutoff either
pub no_cutoff : (m : Parents) (s : Sorting) → time_order m s ≡ None → cutoff m s ≡ None
no_cutoff m s e = grind arith

module _ {F P : Type 0} (objects : F → Objects) (faulty : F → ObjectId → Type 0) (answers : P → ObjectId → Bool → P → Type 0) where
  -- what a walk was given, and what holds of it
  pub record Setting : Type 0 where
    pub store : F
    pub predicate : P
    pub rows : List GraphRow
    pub parents : Parents
    -- the parents that a commit names
    pub named : ObjectId → List ObjectId
    pub sorting : Sorting
    pub begun : Bool
    pub marks : set.FinSet id_cmp
    pub accepts : ObjectId → Bool
    pub hidden : ObjectId → Bool
    pub starts : List ObjectId
    pub by_test : AnswersBy answers predicate accepts
    pub agreeing : IsAgreeing (objects store) rows

  abbrev pub order_of : Setting → Option CommitTimeOrder
  order_of s = time_order s.parents s.sorting

  abbrev pub limit_of : Setting → Option ℤ
  limit_of s = cutoff s.parents s.sorting

  abbrev pub keep : Setting → ObjectId → Bool
  keep s i = is_kept (objects s.store) s.accepts s.hidden (limit_of s) i

  -- what holds of a walk at any moment
  pub record Stands (s : Setting) (w : SimpleWalk F P) : Type 0 where
    pub store : w.store ≡ s.store
    pub parents : w.parents ≡ s.parents
    pub sorting : w.sorting ≡ s.sorting
    pub marks : w.hidden ≡ s.marks
    pub begun : w.begun ≡ s.begun
    pub tips : w.hidden_tips ≡ []
    pub rows : (w.rows ≡ s.rows) ⊎ (w.rows ≡ [])
    pub asked_of : Becomes answers s.predicate w.predicate
    pub remembered : (i : ObjectId) → set.contains w.remembered i ≡ true → s.accepts i ≡ true
    pub timed : (order : CommitTimeOrder) → order_of s ≡ Some order → (p : Pending) → Contains w.pending p → p.time ≡ time_of (objects s.store) p.id

  -- what the treatment of parents does
  pub record Did (s : Setting) (ids : List ObjectId) (old new : SimpleWalk F P) : Type 0 where
    pub rest : Stands s new
    pub same_rows : new.rows ≡ old.rows
    pub seen : (i : ObjectId) → keep s i ≡ true → set.contains new.seen i ≡ (is_among i ids || set.contains old.seen i)
    pub pending : ids_of new.pending ≡ ids_of old.pending ++ fresh (set.contains old.seen) (filter (keep s) ids)

  -- what is known of an id before it is treated
  pub record IsReady (s : Setting) (old : SimpleWalk F P) (by_row : Bool) (i : ObjectId) : Type 0 where
    pub marked : set.contains s.marks i ≡ s.hidden i
    pub rowed : by_row ≡ true → (row : GraphRow) × (row_of old.rows i ≡ Some row)

  asked_test : (s : Setting) (w : SimpleWalk F P) → Stands s w → (i : ObjectId) {b : Bool} {q : P} → Asks objects faulty answers w i b q → (b ≡ s.accepts i) × Becomes answers s.predicate q
  asked_test s w h i (remembers e) = (sym (h.remembered i e), h.asked_of)
  asked_test s w h i (asks {answer = b} {predicate = q} e a) = (s.by_test w.predicate q i b h.asked_of a, further h.asked_of a)

  -- an id that isn't kept adds nothing
  passed_over : (s : Setting) (i : ObjectId) (xs : List ObjectId) (old : ObjectId → Bool) → keep s i ≡ false → xs ≡ xs ++ fresh old (filter (keep s) (i ∷ []))
  passed_over s i xs old e = grind (arith, append-nil xs)

  -- the rows that are left agree
  pub rows_agree : (s : Setting) (w : SimpleWalk F P) → Stands s w → IsAgreeing (objects s.store) w.rows
  rows_agree s w h = ⊎_elim (λ e. subst (λ rows. IsAgreeing (objects s.store) rows) (sym e) s.agreeing) (λ e. subst (λ rows. IsAgreeing (objects s.store) rows) (sym e) (λ row n. absurd (no_member row n))) h.rows

  older_alike : (s : Setting) (w : SimpleWalk F P) → Stands s w → (by_row : Bool) (i : ObjectId) (time : ℤ) → (by_row ≡ true → (row : GraphRow) × (row_of w.rows i ≡ Some row)) → ReadsTime objects faulty answers w by_row i (Ok time) → ((order : CommitTimeOrder) → order_of s ≡ Some order → time ≡ time_of (objects s.store) i) × (is_older time (limit_of s) ≡ is_older (time_of (objects s.store) i) (limit_of s))
  older_alike s w h by_row i time rowed (unasked e) =
      let none : order_of s ≡ None = (λ k. time_order (sym h.parents k) (sym h.sorting k)) ∙ e in
      (λ order some. cc, ap (is_older (pos 0)) (no_cutoff s.parents s.sorting none) ∙ sym (ap (is_older (time_of (objects s.store) i)) (no_cutoff s.parents s.sorting none)))
  older_alike s w h by_row i time rowed (from_row e b) =
      let r : (row : GraphRow) × (row_of w.rows i ≡ Some row) = rowed b in
      let t : row_time (row_of w.rows i) ≡ time_of (objects s.store) i = ap row_time r.1 ∙ row_says_time (objects s.store) w.rows (rows_agree s w h) i r.0 r.1 in
      (λ order some. t, ap (λ n. is_older n (limit_of s)) t)
  older_alike s w h by_row i time rowed (from_store e b) =
      let t : time_of (objects w.store) i ≡ time_of (objects s.store) i = ap (λ f. time_of (objects f) i) h.store in
      (λ order some. t, ap (λ n. is_older n (limit_of s)) t)

  -- also where pending commits and rows are others, and what is seen and remembered
  pub stands_with : (s : Setting) (w : SimpleWalk F P) → Stands s w → (rows : List GraphRow) (pending : List Pending) (seen remembered : set.FinSet id_cmp) (q : P) (text : List ℕ) (current : Option ObjectId) → (rows ≡ s.rows) ⊎ (rows ≡ []) → Becomes answers s.predicate q
      → ((i : ObjectId) → set.contains remembered i ≡ true → s.accepts i ≡ true) → ((order : CommitTimeOrder) → order_of s ≡ Some order → (p : Pending) → Contains pending p → p.time ≡ time_of (objects s.store) p.id)
      → Stands s (record w { predicate = q; rows = rows; pending = pending; seen = seen; remembered = remembered; text = text; current = current })
  stands_with s w h rows pending seen remembered q text current left becomes yes_kept timed = record {
    store = h.store;
    parents = h.parents;
    sorting = h.sorting;
    marks = h.marks;
    begun = h.begun;
    tips = h.tips;
    rows = left;
    asked_of = becomes;
    remembered = yes_kept;
    timed = timed;
  }

  timed_on : (s : Setting) (w : SimpleWalk F P) → Stands s w → (i : ObjectId) (time : ℤ) (ps : List Pending) → ((order : CommitTimeOrder) → order_of s ≡ Some order → time ≡ time_of (objects s.store) i) → ps ≡ w.pending ++ record { id = i; time = time } ∷ [] → (order : CommitTimeOrder) → order_of s ≡ Some order → (p : Pending) → Contains ps p → p.time ≡ time_of (objects s.store) p.id
  timed_on s w h i time ps t last order some p n =
      let new : Pending = record { id = i; time = time } in
      ⊎_elim (λ m. h.timed order some p m)
      (λ m. subst (λ x. x.time ≡ time_of (objects s.store) x.id) (only_member new p m) (t order some))
      (Contains-append_cases w.pending (new ∷ []) p (subst (λ those. Contains those p) last n))

  -- the id was asked about, and is seen now
  asked_did : (s : Setting) (w : SimpleWalk F P) → Stands s w → (i : ObjectId) (q : P) (ps : List Pending) → Becomes answers s.predicate q → ((order : CommitTimeOrder) → order_of s ≡ Some order → (p : Pending) → Contains ps p → p.time ≡ time_of (objects s.store) p.id)
      → ids_of ps ≡ ids_of w.pending ++ fresh (set.contains w.seen) (filter (keep s) (i ∷ [])) → Did s (i ∷ []) w (asked_walk objects faulty answers w i q ps)
  asked_did s w h i q ps becomes timed joins = record {
    rest = stands_with s w h w.rows ps _ _ q w.text w.current h.rows becomes (λ j e. h.remembered j (and_parts (not (is_same j i)) (set.contains w.remembered j) (sym (set.contains-remove id_total w.remembered i j) ∙ e)).1) timed;
    same_rows = refl;
    seen = λ j k. set.contains-insert id_total w.seen i j ∙ ap (λ b. b || set.contains w.seen j) (sym (among-one j i));
    pending = joins;
  }

  one : (s : Setting) (w : SimpleWalk F P) → Stands s w → (by_row : Bool) (i : ObjectId) → IsReady s w by_row i → {v : SimpleWalk F P} → Treats objects faulty answers w by_row i GoesOn v → Did s (i ∷ []) w v
  one s w h by_row i ready (hidden e) =
      let hid : s.hidden i ≡ true = sym ready.marked ∙ ap (λ m. set.contains m i) (sym h.marks) ∙ e in
      let out : keep s i ≡ false = and_left _ _ (and_right (s.accepts i) _ (not_from_true _ hid)) in
      record { rest = h; same_rows = refl; seen = λ j k. let same : is_same j i ≡ true → keep s j ≡ keep s i = λ t. ap (keep s) (same_is j i t) in let one = among-one j i in grind arith; pending = passed_over s i _ _ out }
  one s w h by_row i ready (known e) = record {
    rest = h;
    same_rows = refl;
    seen = λ j k. let same : is_same j i ≡ true → set.contains w.seen j ≡ set.contains w.seen i = λ t. ap (set.contains w.seen) (same_is j i t) in let one = among-one j i in grind arith;
    pending = grind (arith, append-nil (ids_of w.pending));
  }
  one s w h by_row i ready (refused {predicate = q} is_new a) =
      let t : (false ≡ s.accepts i) × Becomes answers s.predicate q = asked_test s w h i a in
      asked_did s w h i q w.pending t.1 h.timed (passed_over s i _ _ (and_left _ _ (and_left _ _ (sym t.0))))
  one s w h by_row i ready (accepted {predicate = q} {time = time} {pending = ps} is_new a reads queues) =
      let t : (true ≡ s.accepts i) × Becomes answers s.predicate q = asked_test s w h i a in
      let o : ((order : CommitTimeOrder) → order_of s ≡ Some order → time ≡ time_of (objects s.store) i) × (is_older time (limit_of s) ≡ is_older (time_of (objects s.store) i) (limit_of s)) = older_alike s w h by_row i time ready.rowed reads in
      let shown : s.hidden i ≡ false = sym ready.marked ∙ ap (λ m. set.contains m i) (sym h.marks) ∙ is_new.open_to in
      let decided : (b : Bool) → is_older time (cutoff w.parents w.sorting) ≡ b → keep s i ≡ not b = λ b e. let yes = t.0 in let older = o.1 in let limit : cutoff w.parents w.sorting ≡ limit_of s = λ k. cutoff (h.parents k) (h.sorting k) in grind arith in
      go t.1 o.0 decided queues
    where
      go : Becomes answers s.predicate q → ((order : CommitTimeOrder) → order_of s ≡ Some order → time ≡ time_of (objects s.store) i) → ((b : Bool) → is_older time (cutoff w.parents w.sorting) ≡ b → keep s i ≡ not b) → {ps' : List Pending} → Enqueues objects faulty answers (cutoff w.parents w.sorting) w.pending i time ps' → Did s (i ∷ []) w (asked_walk objects faulty answers w i q ps')
      go becomes t decided (dropped e) = asked_did s w h i q w.pending becomes h.timed (passed_over s i (ids_of w.pending) (set.contains w.seen) (decided true e))
      go becomes t decided (enqueued {new = new} e last) =
          asked_did s w h i q new becomes (timed_on s w h i time new t last) (ap ids_of last ∙ map-append (λ p. p.id) w.pending (record { id = i; time = time } ∷ []) ∙ (let kept = decided false e in let unseen = is_new.unseen in grind arith))

  joined : (s : Setting) (i : ObjectId) (ids : List ObjectId) (w mid : SimpleWalk F P) → Did s (i ∷ []) w mid →
      fresh (set.contains w.seen) (filter (keep s) (i ∷ [])) ++ fresh (set.contains mid.seen) (filter (keep s) ids) ≡ fresh (set.contains w.seen) (filter (keep s) (i ∷ ids))
  joined s i ids w mid d =
      ap (λ xs. fresh (set.contains w.seen) (filter (keep s) (i ∷ [])) ++ xs) (fresh_agree _ _ (filter (keep s) ids) alike)
      ∙ sym (fresh-append (set.contains w.seen) (filter (keep s) (i ∷ [])) (filter (keep s) ids))
      ∙ ap (fresh (set.contains w.seen)) (sym (filter-append (keep s) (i ∷ []) ids))
    where
      alike : (j : ObjectId) → is_among j (filter (keep s) ids) ≡ true → set.contains mid.seen j ≡ (is_among j (filter (keep s) (i ∷ [])) || set.contains w.seen j)
      alike j n =
          let k : keep s j ≡ true = (and_parts (keep s j) (is_among j ids) (sym (among-filter j (keep s) ids) ∙ n)).0 in
          d.seen j k ∙ ap (λ b. b || set.contains w.seen j) (sym (among-filter j (keep s) (i ∷ []) ∙ ap (λ b. b && is_among j (i ∷ [])) k))

  -- one after the other
  both : (s : Setting) (i : ObjectId) (ids : List ObjectId) (w mid v : SimpleWalk F P) → Did s (i ∷ []) w mid → Did s ids mid v → Did s (i ∷ ids) w v
  both s i ids w mid v d e = record {
    rest = e.rest;
    same_rows = e.same_rows ∙ d.same_rows;
    seen = λ j k. let after = e.seen j k in let before = d.seen j k in grind arith;
    pending = e.pending ∙ ap (λ xs. xs ++ fresh (set.contains mid.seen) (filter (keep s) ids)) d.pending ∙ append_assoc (ids_of w.pending) _ _ ∙ ap (λ xs. ids_of w.pending ++ xs) (joined s i ids w mid d);
  }

  pub all_treated : (s : Setting) (by_row : Bool) {w v : SimpleWalk F P} {ids : List ObjectId} {how : Treated} → TreatsAll objects faulty answers by_row w ids how v → how ≡ GoesOn → Stands s w → ((i : ObjectId) → Contains ids i → IsReady s w by_row i) → Did s ids w v
  all_treated s by_row (none {old = w}) e h ready = record { rest = h; same_rows = refl; seen = λ j k. refl; pending = sym (append-nil _) }
  all_treated s by_row (more {old = w} {mid = mid} {new = v} {i = i} {ids = ids} t ts) e h ready =
      let d : Did s (i ∷ []) w mid = one s w h by_row i (ready i (Contains-here i ids)) t in
      both s i ids w mid v d (all_treated s by_row ts e d.rest (λ j n. let r : IsReady s w by_row j = ready j (Contains-there j i ids n) in record { marked = r.marked; rowed = λ b. subst (λ rows. (row : GraphRow) × (row_of rows j ≡ Some row)) (sym d.same_rows) (r.rowed b) }))
  all_treated s by_row (stops ne t) e h ready = absurd (ne e)
