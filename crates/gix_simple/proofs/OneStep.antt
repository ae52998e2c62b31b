-- One step of a walk whose hidden tips are painted.
use Rattle.std.proofs.Common.{◌≡◌, ◌≢◌, ◌⊎◌, ℕ, ℤ, List, [], ◌++◌, filter, Bool, true, false, ◌||◌, Option, Some, None, Result, Err, Contains, refl, sym, ap, subst, inl, ⊎_elim, ◌∙◌, arith}
use Rattle.gix_simple.proofs.Common.{false≢true, ObjectId, is_among, kind_of, Objects, commit_items, GraphRow, row_of, Info, CommitTimeOrder, Error, by_mode, time_of, parents_of, parents_in, commit_at, commit_of_object, ReadsWhole}
use Rattle.gix_simple.proofs.Common.{Pending, SimpleWalk, Treated, GoesOn, time_order, time_if, given_time, unrowed, Concludes, given, broken, store_fails, Takes, by_row, by_store, not_found, ids_of, scanned, next_in, text_next, kept_of}
use Rattle.gix_simple.proofs.Common.{IsGivenBy, IsNoRefusal, ReadsParents, fresh, scan_is, row_parents, row_stands, parent_has_row, walked_within, no_fault}
use Rattle.std.specs.FinMap as map_of
use Rattle.std.specs.FinSet as set
use Rattle.gix_object.specs.declared.Kind.TheVariants as object
use Rattle.gix_object.specs.declared.decode.Error.{Error as DecodeError}
use Rattle.gix_object.specs.declared.find.existing_iter.Error.TheVariants as existing
use Rattle.gix_object.specs.CommitText.{read_commit}
use Rattle.gix_simple.specs.declared.Error.TheVariants as error
use Rattle.gix_simple.specs.Walk.{no_memory}
use Rattle.gix_revwalk.specs.Infos.{IsRowGeneration}
use Rattle.gix_revwalk.proofs.TextParents.{text_whole, commit_stored}
use Rattle.gix_simple.proofs.Moves.{scan_by, rows_then}
use Rattle.gix_simple.proofs.Treated.{Setting, order_of, limit_of, keep, Stands, Did, all_treated, rows_agree, stands_with}
use Rattle.gix_revwalk.proofs.Rows.{kept_either}

-- the answer is no fault
abbrev pub IsCommit : Result Info Error → Type 0
IsCommit answer = (e : Error) → answer ≢ Err e

module _ {F P : Type 0} (objects : F → Objects) (faulty : F → ObjectId → Type 0) (answers : P → ObjectId → Bool → P → Type 0) where
  abbrev pub walked : Setting objects faulty answers → ObjectId → List ObjectId
  walked s i = by_mode s.parents (s.named i)

  abbrev pub next : Setting objects faulty answers → ObjectId → List ObjectId
  next s = kept_of (objects s.store) s.named s.parents s.accepts s.hidden (limit_of objects faulty answers s)

  -- a row and a text say of a commit the parents that it names
  pub record Reads (s : Setting objects faulty answers) (i : ObjectId) : Type 0 where
    pub by_row : ReadsWhole (objects s.store) i → s.named i ≡ parents_of (objects s.store) i
    pub by_text : (bytes : List ℕ) → map_of.get (objects s.store) i ≡ Some (record { kind = object.Commit; bytes = bytes }) → (scanned s.parents (commit_items (kind_of i) bytes)).0 ≡ walked s i

  -- so it is where a commit names its parents, and reads whole
  pub reads_whole : (s : Setting objects faulty answers) (i : ObjectId) → s.named i ≡ parents_of (objects s.store) i → ReadsWhole (objects s.store) i → Reads s i
  reads_whole s i same whole = record {
    by_row = λ w. same;
    by_text = λ bytes e. ap (λ t. t.0) (scan_is (kind_of i) bytes whole.commit (sym (ap (commit_of_object i) e) ∙ whole.stored) s.parents) ∙ ap (by_mode s.parents) (sym (ap parents_in whole.stored) ∙ sym same);
  }

  -- and where it names the parents that its text names
  pub reads_text : (s : Setting objects faulty answers) (i : ObjectId) → s.named i ≡ text_next (objects s.store) i → Reads s i
  reads_text s i same = record {
    by_row = λ w. same ∙ sym (text_whole (objects s.store) i w);
    by_text = λ bytes e. scan_by s.parents (commit_items (kind_of i) bytes) ∙ ap (by_mode s.parents) (sym (ap (next_in i) e) ∙ sym same);
  }

  -- what reads whole is stored as a commit, and no fault is in its text
  whole_parents : (s : Setting objects faulty answers) (i : ObjectId) → ReadsWhole (objects s.store) i → ReadsParents (objects s.store) s.parents i
  whole_parents s i whole =
      let t = commit_stored (objects s.store) i whole in
      record { bytes = t.0; stored = t.1; unbroken = ap (λ t. t.1) (scan_is (kind_of i) t.0 whole.commit t.2 s.parents) }

  -- what a step does to a walk from which i was taken
  pub record Took (s : Setting objects faulty answers) (i : ObjectId) (old : SimpleWalk F P) (answer : Result Info Error) (new : SimpleWalk F P) : Type 0 where
    pub given_as : IsGivenBy (objects s.store) s.named s.rows s.parents (order_of objects faulty answers s) answer i
    pub rest : Stands objects faulty answers s new
    pub seen : (j : ObjectId) → keep objects faulty answers s j ≡ true → set.contains new.seen j ≡ (is_among j (walked s i) || set.contains old.seen j)
    pub pending : ids_of new.pending ≡ ids_of old.pending ++ fresh (set.contains old.seen) (next s i)

  -- also where rows and pending commits are gone
  pub stands_left : (s : Setting objects faulty answers) (w : SimpleWalk F P) (rows : List GraphRow) (pending : List Pending) (text : List ℕ) (current : Option ObjectId) → Stands objects faulty answers s w
      → (rows ≡ w.rows) ⊎ (rows ≡ []) → ((p : Pending) → Contains pending p → Contains w.pending p) → Stands objects faulty answers s (record w { rows = rows; pending = pending; text = text; current = current })
  stands_left s w rows pending text current h left within = stands_with objects faulty answers s w h rows pending w.seen w.remembered w.predicate text current (rows_then h.rows left) h.asked_of h.remembered (λ order e p m. h.timed order e p (within p m))

  concluded : (s : Setting objects faulty answers) (w : SimpleWalk F P) (i : ObjectId) (ps : List ObjectId) (generation : Option ℕ) (time : Option ℤ) (text : List ℕ) (fault : Option DecodeError) (walk : SimpleWalk F P) {how : Treated} {answer : Result Info Error} {new : SimpleWalk F P} →
      ps ≡ walked s i → (fault ≡ None → ReadsParents (objects s.store) s.parents i) → IsRowGeneration s.rows i generation → time ≡ time_if (order_of objects faulty answers s) (time_of (objects s.store) i) → (how ≡ GoesOn → Did objects faulty answers s ps w walk) →
      Concludes objects faulty answers i ps generation time text fault walk how answer new → IsCommit answer → Took s i w answer new
  concluded s w i ps generation time text fault walk same read row when did (given {info = info} f is) ok =
      let d : Did objects faulty answers s ps w walk = did refl in
      record {
        given_as = record { generation = generation; by_row = row; info_is = record { same_id = is.same_id; same_parents = is.same_parents ∙ same; same_generation = is.same_generation; same_time = is.same_time ∙ when }; read = read f };
        rest = stands_left s walk walk.rows walk.pending text (Some i) d.rest (inl refl) (λ p m. m);
        seen = λ j k. d.seen j k ∙ ap (λ xs. is_among j xs || set.contains w.seen j) same;
        pending = d.pending ∙ ap (λ xs. ids_of w.pending ++ fresh (set.contains w.seen) (filter (keep objects faulty answers s) xs)) same;
      }
  concluded s w i ps generation time text fault walk same read row when did (broken {e = e} f) ok = absurd (ok (error.ObjectDecode e) refl)
  concluded s w i ps generation time text fault walk same read row when did store_fails ok = absurd (ok (error.Find existing.Store) refl)
  concluded s w i ps generation time text fault walk same read row when did no_memory ok = absurd (ok error.Memory refl)

  row_generation : (s : Setting objects faulty answers) (w : SimpleWalk F P) → Stands objects faulty answers s w → (i : ObjectId) (row : GraphRow) → row_of w.rows i ≡ Some row → row_of s.rows i ≡ Some row
  row_generation s w h i row e = ⊎_elim (λ r. ap (λ rows. row_of rows i) (sym r) ∙ e) (λ r. let n : None ≡ Some row = ap (λ rows. row_of rows i) (sym r) ∙ e in cc) h.rows

  time_given : (s : Setting objects faulty answers) (w : SimpleWalk F P) → Stands objects faulty answers s w → (p : Pending) → ((order : CommitTimeOrder) → order_of objects faulty answers s ≡ Some order → p.time ≡ time_of (objects s.store) p.id) → given_time w p ≡ time_if (order_of objects faulty answers s) (time_of (objects s.store) p.id)
  time_given s w h p t = (λ k. time_if (time_order (h.parents k) (h.sorting k)) p.time) ∙ (grind (arith, t))

  -- a commit with a row that agrees reads whole
  row_whole : (s : Setting objects faulty answers) (w : SimpleWalk F P) → Stands objects faulty answers s w → (i : ObjectId) (row : GraphRow) → row_of w.rows i ≡ Some row → ReadsWhole (objects s.store) i
  row_whole s w h i row r =
      let k : Contains w.rows row × (i ≡ row.id) = row_stands w.rows i row r in
      subst (ReadsWhole (objects s.store)) (sym k.1) (rows_agree objects faulty answers s w h row k.0).whole

  pub took_well : (s : Setting objects faulty answers) (w : SimpleWalk F P) → Stands objects faulty answers s w → (p : Pending) →
      Reads s p.id → ((i : ObjectId) → Contains (s.named p.id) i → set.contains s.marks i ≡ s.hidden i) → ((order : CommitTimeOrder) → order_of objects faulty answers s ≡ Some order → p.time ≡ time_of (objects s.store) p.id) →
      {answer : Result Info Error} {new : SimpleWalk F P} → Takes objects faulty answers w p answer new → IsCommit answer → Took s p.id w answer new
  took_well s w h p reads marked timed (by_row {row = row} {ids = ids} {how = how} {walk = walk} r e treats concludes) ok =
      let whole : ReadsWhole (objects s.store) p.id = row_whole s w h p.id row r in
      let says : ids ≡ parents_of (objects s.store) p.id = row_parents (objects s.store) w.rows (rows_agree objects faulty answers s w h) p.id row ids r e in
      let is : ids ≡ s.named p.id = says ∙ sym (reads.by_row whole) in
      let same : by_mode w.parents ids ≡ walked s p.id = λ k. by_mode (h.parents k) (is k) in
      concluded s w p.id (by_mode w.parents ids) (Some row.generation) (given_time w p) [] None walk same (λ f. whole_parents s p.id whole) (row, row_generation s w h p.id row r, refl) (time_given s w h p timed)
      (λ on. all_treated objects faulty answers s true treats on h (λ i n.
      let m : Contains ids i = walked_within w.parents ids i n in
      record { marked = marked i (subst (λ xs. Contains xs i) is m); rowed = λ b. parent_has_row (objects s.store) w.rows (rows_agree objects faulty answers s w h) p.id row i r (subst (λ xs. Contains xs i) says m) }))
      concludes ok
  took_well s w h p reads marked timed (by_store {bytes = bytes} {how = how} {walk = walk} u e treats concludes) ok =
      let stored : map_of.get (objects s.store) p.id ≡ Some (record { kind = object.Commit; bytes = bytes }) = sym (ap (λ f. map_of.get (objects f) p.id) h.store) ∙ e in
      let same : (scanned w.parents (commit_items (kind_of p.id) bytes)).0 ≡ walked s p.id = (λ k. (scanned (h.parents k) (commit_items (kind_of p.id) bytes)).0) ∙ reads.by_text bytes stored in
      let h' : Stands objects faulty answers s (unrowed w p.id) = stands_left s w _ w.pending w.text w.current h (kept_either w.rows (row_of w.rows p.id)) (λ q m. m) in
      let t : Took s p.id (unrowed w p.id) _ _ =
      concluded s (unrowed w p.id) p.id _ None (given_time w p) bytes _ walk same
      (λ f. record { bytes = bytes; stored = stored; unbroken = (λ k. (scanned (sym h.parents k) (commit_items (kind_of p.id) bytes)).1) ∙ f }) tt (time_given s w h p timed)
      (λ on. all_treated objects faulty answers s false treats on h' (λ i n.
      record { marked = marked i (walked_within s.parents _ i (subst (λ xs. Contains xs i) same n)); rowed = λ b. absurd (false≢true b) }))
      concludes ok in
      record { given_as = t.given_as; rest = t.rest; seen = t.seen; pending = t.pending }
  took_well s w h p reads marked timed (not_found {e = e} u fault) ok = absurd (ok (error.Find e) refl)
  took_well s w h p reads marked timed (no_memory left) ok = absurd (ok error.Memory refl)

  -- where a commit reads whole, an answer is no fault that is no refusal
  concludes_well : {i : ObjectId} {ps : List ObjectId} {generation : Option ℕ} {time : Option ℤ} {text : List ℕ} {fault : Option DecodeError} {walk : SimpleWalk F P} {how : Treated} {answer : Result Info Error} {new : SimpleWalk F P} →
      Concludes objects faulty answers i ps generation time text fault walk how answer new → fault ≡ None → IsNoRefusal answer → IsCommit answer
  concludes_well (given f is) none ok = λ e s. cc
  concludes_well (broken {e = e} f) none ok = λ x s. let n : None ≡ Some e = sym none ∙ f in cc
  concludes_well store_fails none ok = absurd (ok.1 refl)
  concludes_well no_memory none ok = absurd (ok.0 refl)

  pub whole_well : (s : Setting objects faulty answers) (w : SimpleWalk F P) → Stands objects faulty answers s w → (p : Pending) → ReadsWhole (objects s.store) p.id → {answer : Result Info Error} {new : SimpleWalk F P} → Takes objects faulty answers w p answer new → IsNoRefusal answer → IsCommit answer
  whole_well s w h p whole (by_row r e treats concludes) ok = concludes_well concludes refl ok
  whole_well s w h p whole (by_store {bytes = bytes} u e treats concludes) ok =
      let reads : read_commit (kind_of p.id) bytes ≡ Some whole.commit = sym (ap (commit_of_object p.id) e) ∙ ap (λ f. commit_at (objects f) p.id) h.store ∙ whole.stored in
      concludes_well concludes (ap (λ t. t.1) (scan_is (kind_of p.id) bytes whole.commit reads w.parents)) ok
  whole_well s w h p whole (not_found {e = e} u fault) ok = absurd (ok.1 (ap (λ x. Err (error.Find x)) (no_fault (objects w.store) (faulty w.store) p.id whole.commit e (ap (λ f. commit_at (objects f) p.id) h.store ∙ whole.stored) fault)))
  whole_well s w h p whole (no_memory left) ok = absurd (ok.0 refl)
