-- What holds along a walk over what others reach and one doesn't: what it gives has the parents of its commit, and a fault is one of a commit
-- that one or others reach.
use Rattle.std.proofs.Common.{◌≡◌, ◌≢◌, ◌⊎◌, ℕ, ℤ, List, [], ◌∷◌, ◌++◌, Bool, true, false, Option, Some, None, Result, Ok, Err, Contains, refl, sym, ap, subst, inl, inr, ⊎_elim, ◌∙◌, true≢false}
use Rattle.std.specs.Iterator.{Yields, YieldsThen}
use Rattle.std.specs.FinSet as set
use Rattle.std.proofs.lemmas.List.Elements.{Contains-append_left, Contains-append_right, Contains-append_cases}
use Rattle.std.proofs.lemmas.List.Sorted.{Contains-permutation, IsPermutation-sym}
use Rattle.gix_hash.specs.declared.ObjectId.{ObjectId}
use Rattle.gix_hash.specs.Id.{id_cmp, kind_of}
use Rattle.gix_hash.specs.Reach.{Reaches, start, step}
use Rattle.gix_hash.proofs.Ids.Membership.{Contains-here, Contains-there, Contains-cons_cases, no_member}
use Rattle.gix_hash.proofs.Lists.{filter_within, only_member}
use Rattle.gix_object.specs.declared.Kind.TheVariants as object
use Rattle.gix_object.specs.declared.decode.Error.{Error as DecodeError}
use Rattle.gix_object.specs.declared.find.existing_iter.Error.TheVariants as existing
use Rattle.gix_object.specs.CommitItems.{commit_items}
use Rattle.gix_object.specs.CommitText.{read_commit}
use Rattle.gix_object.specs.Find.{IsExistingFault}
use Rattle.gix_object.specs.Object.{Objects}
use Rattle.gix_commitgraph.specs.Rows.{GraphRow, row_of}
use Rattle.gix_paint.specs.declared.Hidden.{Hidden}
use Rattle.gix_paint.specs.declared.Hidden.TheVariants as hidden_by
use Rattle.gix_paint.specs.Painting.{Paints, IsFaultAt}
use Rattle.gix_paint.proofs.Invariant.{own_history}
use Rattle.gix_simple.specs.declared.Error.{Error as WalkError}
use Rattle.gix_simple.specs.declared.Error.TheVariants as walk_error
use Rattle.gix_simple.specs.Walk.{SimpleWalk, Treated, StoreFails, Treats, hidden, known, refused, accepted, store_fails, no_memory, no_memory_after, TreatsAll, none, more, stops, Enqueues, dropped, enqueued}
use Rattle.gix_simple.specs.Walk.{Concludes, given, broken, Takes, by_row, by_store, not_found, Chooses, first, best, Steps, ended, took, FirstStep, unhidden, paints, faulty_history, Next, initial, later, unrowed}
use Rattle.gix_simple.proofs.Moves.{Asking, rests, asks, asking}
use Rattle.gix_simple.proofs.Difference.{whole_from}
use Rattle.gix_simple.proofs.Treated.{best_moved}
use Rattle.gix_contained.specs.Contained.{error_of}
use Rattle.gix_merge_base.specs.Errors.{error_of_walk}
use Rattle.gix_revwalk.specs.Infos.{given as all_given}
use Rattle.gix_revwalk.specs.declared.Info.{Info}
use Rattle.gix_revwalk.specs.declared.Parents.TheVariants as mode
use Rattle.gix_revwalk.specs.Agreeing.{IsAgreeing}
use Rattle.gix_revwalk.specs.Commits.{ReadsWhole, by_mode, commit_at, commit_of_object, parents_in, parents_of}
use Rattle.gix_revwalk.specs.Ids.{ids_of}
use Rattle.gix_revwalk.specs.Pending.{Pending}
use Rattle.gix_revwalk.specs.Texts.{scanned}
use Rattle.gix_revwalk.proofs.ReadsWhole.{row_parents, row_stands, scan_is}
use Rattle.gix_revwalk.proofs.Reached.{reach_more}
use Rattle.gix_revwalk.proofs.Rows.{none_agree, kept_either}

pub in_ids : (ps : List Pending) (p : Pending) → Contains ps p → Contains (ids_of ps) p.id
in_ids [] p c = absurd (no_member p c)
in_ids (q ∷ ps) p c = ⊎_elim (λ e. subst (λ i. Contains (q.id ∷ ids_of ps) i) (ap (λ x. x.id) e) (Contains-here q.id (ids_of ps))) (λ m. Contains-there p.id q.id (ids_of ps) (in_ids ps p m)) (Contains-cons_cases p q ps c)

pub each_id : (P : ObjectId → Type 0) (ps : List Pending) → ((p : Pending) → Contains ps p → P p.id) → (i : ObjectId) → Contains (ids_of ps) i → P i
each_id P [] f i c = absurd (no_member i c)
each_id P (q ∷ ps) f i c = ⊎_elim (λ e. subst P e (f q (Contains-here q ps))) (λ m. each_id P ps (λ p n. f p (Contains-there p q ps n)) i m) (Contains-cons_cases i q.id (ids_of ps) c)

module _ {F P : Type 0} (objects : F → Objects) (faulty : F → ObjectId → Type 0) (answers : P → ObjectId → Bool → P → Type 0) (store : F) (one : ObjectId) (others : List ObjectId) where
  abbrev parents : ObjectId → List ObjectId
  parents = parents_of (objects store)

  abbrev IsMet : ObjectId → Type 0
  IsMet i = Reaches parents others i

  -- the fault is one of a commit that one or others reach
  pub record IsFaultBelow (e : WalkError) : Type 0 where
    pub why : Hidden
    pub is : error_of_walk e ≡ error_of why
    pub id : ObjectId
    pub fault : IsFaultAt (objects store) (faulty store) id why
    pub reached : Reaches parents (one ∷ others) id

  met_below : (i : ObjectId) → IsMet i → Reaches parents (one ∷ others) i
  met_below i r = reach_more parents others (one ∷ others) (λ j m. Contains-there j one others m) i r

  -- what the walk keeps from its first step on
  pub record Stands (w : SimpleWalk F P) : Type 0 where
    pub same_store : w.store ≡ store
    pub begun : w.begun ≡ true
    pub rows : IsAgreeing (objects store) w.rows
    pub all : w.parents ≡ mode.All
    pub whole : (i : ObjectId) → IsMet i → ReadsWhole (objects store) i
    pub met : (p : Pending) → Contains w.pending p → IsMet p.id

  left_agree : (rows left : List GraphRow) → IsAgreeing (objects store) rows → (left ≡ rows) ⊎ (left ≡ []) → IsAgreeing (objects store) left
  left_agree rows left agreeing either = ⊎_elim (λ e. subst (IsAgreeing (objects store)) (sym e) agreeing) (λ e. none_agree (objects store) left e) either

  joined : (w : SimpleWalk F P) (i : ObjectId) (time : ℤ) (pending : List Pending) (limit : Option ℤ) → Stands w → IsMet i → Enqueues objects faulty answers limit w.pending i time pending → (p : Pending) → Contains pending p → IsMet p.id
  joined w i time pending limit s m (dropped old) p c = s.met p c
  joined w i time pending limit s m (enqueued new last) p c =
      ⊎_elim (s.met p) (λ n. subst IsMet (ap (λ x. x.id) (only_member _ p n)) m) (Contains-append_cases w.pending _ p (subst (λ ps. Contains ps p) last c))

  -- with other pending commits
  pended : {w : SimpleWalk F P} (v : SimpleWalk F P) → Stands w → v.store ≡ w.store → v.begun ≡ w.begun → v.rows ≡ w.rows → v.parents ≡ w.parents → ((p : Pending) → Contains v.pending p → IsMet p.id) → Stands v
  pended v s e b r m met = record { same_store = e ∙ s.same_store; begun = b ∙ s.begun; rows = subst (IsAgreeing (objects store)) (sym r) s.rows; all = m ∙ s.all; whole = s.whole; met = met }

  -- one parent is treated, and all of them
  treated : {w : SimpleWalk F P} {told : Bool} {i : ObjectId} {how : Treated} {v : SimpleWalk F P} → Treats objects faulty answers w told i how v → Stands w → IsMet i → Stands v
  treated (hidden h) s m = s
  treated (known h) s m = s
  treated (refused n a) s m = pended _ s refl refl refl refl s.met
  treated {w} {i = i} (accepted {time = time} {pending = pending} n a r q) s m = pended _ s refl refl refl refl (joined w i time pending _ s m q)
  treated (store_fails n a r) s m = pended _ s refl refl refl refl s.met
  treated no_memory s m = s
  treated (no_memory_after n a p) s m = pended _ s refl refl refl refl (λ q c. ⊎_elim (λ e. s.met q (subst (λ ps. Contains ps q) e c)) (λ e. absurd (no_member q (subst (λ ps. Contains ps q) e c))) p)

  all_treated : {told : Bool} {w v : SimpleWalk F P} {ids : List ObjectId} {how : Treated} → TreatsAll objects faulty answers told w ids how v → Stands w → ((i : ObjectId) → Contains ids i → IsMet i) → Stands v
  all_treated none s m = s
  all_treated (more {i = i} {ids = ids} t h) s m = all_treated h (treated t s (m i (Contains-here i ids))) (λ j c. m j (Contains-there j i ids c))
  all_treated (stops {i = i} {ids = ids} n t) s m = treated t s (m i (Contains-here i ids))

  -- where the store failed at a parent
  failed_at : {Named : ObjectId → Type 0} {how : Treated} {w v : SimpleWalk F P} → Asking objects faulty answers Named w how v → how ≡ StoreFails → (i : ObjectId) × Named i × faulty w.store i
  failed_at (rests f) e = f e
  failed_at (asks n is_new a f rest) e = failed_at rest e

  failed_below : {told : Bool} {w v : SimpleWalk F P} {ids : List ObjectId} {how : Treated} → TreatsAll objects faulty answers told w ids how v → w.store ≡ store → ((i : ObjectId) → Contains ids i → IsMet i) → how ≡ StoreFails → IsFaultBelow (walk_error.Find existing.Store)
  failed_below {w = w} t same m e =
      let f = failed_at (asking objects faulty answers m t) e in
      record { why = hidden_by.Find existing.Store; is = refl; id = f.0; fault = subst (λ s. faulty s f.0) same f.2; reached = met_below f.0 f.1 }

  -- what follows of an answer
  abbrev pub IsGood : Option (Result Info WalkError) → SimpleWalk F P → Type 0
  IsGood None new = Unit {0}
  IsGood (Some (Ok info)) new = Stands new × (info.parent_ids.items ≡ parents info.id)
  IsGood (Some (Err e)) new = e ≢ walk_error.Memory → IsFaultBelow e

  concluded : {i : ObjectId} {ps : List ObjectId} {generation : Option ℕ} {time : Option ℤ} {text : List ℕ} {read : Option DecodeError} {w : SimpleWalk F P} {how : Treated} {answer : Result Info WalkError} {new : SimpleWalk F P}
      → Concludes objects faulty answers i ps generation time text read w how answer new → read ≡ None → ps ≡ parents i → (how ≡ StoreFails → IsFaultBelow (walk_error.Find existing.Store)) → Stands w → IsGood (Some answer) new
  concluded (given f is) e named fails s = (pended _ s refl refl refl refl s.met, is.same_parents ∙ named ∙ ap parents (sym is.same_id))
  concluded (broken f) e named fails s = let n : None ≡ Some _ = sym e ∙ f in cc
  concluded store_fails e named fails s = λ ne. fails refl
  concluded no_memory e named fails s = λ ne. absurd (ne refl)

  met_parents : (i : ObjectId) (ps : List ObjectId) → ps ≡ parents i → IsMet i → (j : ObjectId) → Contains ps j → IsMet j
  met_parents i ps named m j n = step m (subst (λ xs. Contains xs j) named n)

  taken : {w : SimpleWalk F P} {p : Pending} {answer : Result Info WalkError} {new : SimpleWalk F P} → Takes objects faulty answers w p answer new → Stands w → IsMet p.id → IsGood (Some answer) new
  taken {w} {p} (by_row {row = row} {ids = ids} r e t c) s m =
      let named : by_mode w.parents ids ≡ parents p.id = ap (λ x. by_mode x ids) s.all ∙ row_parents (objects store) w.rows s.rows p.id row ids r e in
      let met = met_parents p.id (by_mode w.parents ids) named m in
      concluded c refl named (failed_below t s.same_store met) (all_treated t s met)
  taken {w} {p} (by_store {bytes = bytes} u e t c) s m =
      let reads : ReadsWhole (objects store) p.id = s.whole p.id m in
      let text : read_commit (kind_of p.id) bytes ≡ Some reads.commit = sym (ap (commit_of_object p.id) e) ∙ ap (λ o. commit_at (objects o) p.id) s.same_store ∙ reads.stored in
      let scan = scan_is (kind_of p.id) bytes reads.commit text w.parents in
      let named : (scanned w.parents (commit_items (kind_of p.id) bytes)).0 ≡ parents p.id = ap (λ x. x.0) scan ∙ ap (λ x. by_mode x reads.commit.parents) s.all ∙ sym (ap parents_in reads.stored) in
      let left : Stands (unrowed w p.id) = record { same_store = s.same_store; begun = s.begun; rows = left_agree w.rows _ s.rows (kept_either w.rows (row_of w.rows p.id)); all = s.all; whole = s.whole; met = s.met } in
      let met = met_parents p.id (scanned w.parents (commit_items (kind_of p.id) bytes)).0 named m in
      concluded c (ap (λ x. x.1) scan) named (failed_below t s.same_store met) (all_treated t left met)
  taken {w} {p} (not_found {e = e} u f) s m = λ ne. record {
    why = hidden_by.Find e;
    is = refl;
    id = p.id;
    fault = subst (λ o. IsExistingFault (objects o) (faulty o) p.id object.Commit e) s.same_store f;
    reached = met_below p.id m;
  }
  taken (no_memory r) s m = λ ne. absurd (ne refl)

  chosen : {w : SimpleWalk F P} {p : Pending} {ps : List Pending} → Chooses objects faulty answers w p ps → (q : Pending) → Contains (p ∷ ps) q → Contains w.pending q
  chosen (first t is) q c = subst (λ xs. Contains xs q) (sym is) c
  chosen {w} {p} {ps} (best t those) q c = Contains-permutation (p ∷ ps) w.pending q (IsPermutation-sym w.pending (p ∷ ps) (best_moved those)) c

  stepped : {w : SimpleWalk F P} {o : Option (Result Info WalkError)} {new : SimpleWalk F P} → Steps objects faulty answers w o new → Stands w → IsGood o new
  stepped (ended e) s = tt
  stepped (no_memory some) s = λ ne. absurd (ne refl)
  stepped {w} (took {taken = p} {others = ps} c t) s = taken t (pended _ s refl refl refl refl (λ q m. s.met q (chosen c q (Contains-there q p ps m)))) (s.met p (chosen c p (Contains-here p ps)))

  -- a walk without pending commits ends
  ended_at_once : {w : SimpleWalk F P} {o : Option (Result Info WalkError)} {new : SimpleWalk F P} → Steps objects faulty answers w o new → w.pending ≡ [] → IsGood o new
  ended_at_once (ended e) empty = tt
  ended_at_once (no_memory some) empty = absurd (some empty)
  ended_at_once (took {taken = p} {others = ps} c t) empty = absurd (no_member p (subst (λ xs. Contains xs p) empty (chosen c p (Contains-here p ps))))

  -- a walk before its first step
  pub record IsReady (w : SimpleWalk F P) : Type 0 where
    pub same_store : w.store ≡ store
    pub unbegun : w.begun ≡ false
    pub rows : IsAgreeing (objects store) w.rows
    pub all : w.parents ≡ mode.All
    pub hides : w.hidden_tips ≡ one ∷ []
    pub tips : (i : ObjectId) → Contains others i → Contains (ids_of w.pending) i
    pub met : (i : ObjectId) → Contains (ids_of w.pending) i → Contains others i

  abbrev starts_of : SimpleWalk F P → List ObjectId
  starts_of w = ids_of w.pending ++ w.hidden_tips

  -- what is painted is what one and others reach
  starts_below : (w : SimpleWalk F P) → IsReady w → (i : ObjectId) → Reaches parents (starts_of w) i → Reaches parents (one ∷ others) i
  starts_below w r =
      reach_more parents (starts_of w) (one ∷ others)
      (λ j m. ⊎_elim (λ c. Contains-there j one others (r.met j c)) (λ c. subst (Contains (one ∷ others)) (only_member one j (subst (λ xs. Contains xs j) r.hides c)) (Contains-here one others)) (Contains-append_cases (ids_of w.pending) w.hidden_tips j m))

  pub below_starts : (w : SimpleWalk F P) → IsReady w → (i : ObjectId) → Reaches parents (one ∷ others) i → Reaches parents (starts_of w) i
  below_starts w r = reach_more parents (one ∷ others) (starts_of w) (λ j m. ⊎_elim (λ e. Contains-append_right (ids_of w.pending) w.hidden_tips j (subst (λ xs. Contains xs j) (sym r.hides) (subst (λ x. Contains (one ∷ []) x) e (Contains-here one [])))) (λ c. Contains-append_left (ids_of w.pending) w.hidden_tips j (r.tips j c)) (Contains-cons_cases j one others m))

  -- a painting has read all of it
  painted_whole : (w : SimpleWalk F P) → IsReady w → (marks : set.FinSet id_cmp) (left : List GraphRow) → Paints (objects w.store) w.rows (ids_of w.pending) w.hidden_tips marks left → (i : ObjectId) → Reaches parents (one ∷ others) i → ReadsWhole (objects store) i
  painted_whole w r marks left p i n = go (row_of w.rows i) refl
    where
      agrees : IsAgreeing (objects w.store) w.rows
      agrees = subst (λ s. IsAgreeing (objects s) w.rows) (sym r.same_store) r.rows

      there : Reaches (parents_of (objects w.store)) (starts_of w) i
      there = subst (λ s. Reaches (parents_of (objects s)) (starts_of w) i) (sym r.same_store) (below_starts w r i n)

      go : (o : Option GraphRow) → row_of w.rows i ≡ o → ReadsWhole (objects store) i
      go None e = subst (λ s. ReadsWhole (objects s) i) r.same_store (whole_from (objects w.store) i (p.rowless (objects w.store) (own_history (objects w.store) w.rows agrees) i there e))
      go (Some row) e = let k : Contains w.rows row × (i ≡ row.id) = row_stands w.rows i row e in subst (ReadsWhole (objects store)) (sym k.1) (r.rows row k.0).whole

  first_called : (w : SimpleWalk F P) → IsReady w → {o : Option (Result Info WalkError)} {new : SimpleWalk F P} → FirstStep objects faulty answers (record w { begun = true }) o new → IsGood o new
  first_called w r (unhidden (inl e) s) = ended_at_once s e
  first_called w r (unhidden (inr e) s) = let n : one ∷ [] ≡ [] = sym r.hides ∙ e in cc
  first_called w r (paints {marks = marks} {rows = rows} some behind paint s) = stepped s (record {
    same_store = r.same_store;
    begun = refl;
    rows = left_agree w.rows rows r.rows paint.rows_left;
    all = r.all;
    whole = λ i m. painted_whole w r marks rows paint i (met_below i m);
    met = λ p c. start (r.met p.id (in_ids w.pending p (filter_within _ w.pending p c)));
  })
  first_called w r (faulty_history {why = why} some behind left f) = λ ne. record {
    why = why;
    is = refl;
    id = f.id;
    fault = subst (λ s. IsFaultAt (objects s) (faulty s) f.id why) r.same_store f.fault;
    reached = starts_below w r f.id (subst (λ s. Reaches (parents_of (objects s)) (starts_of w) f.id) r.same_store (f.reached (objects w.store) (own_history (objects w.store) w.rows (subst (λ s. IsAgreeing (objects s) w.rows) (sym r.same_store) r.rows))));
  }
  first_called w r (no_memory some behind left) = λ ne. absurd (ne refl)

  abbrev Answers : SimpleWalk F P → Option (Result Info WalkError) → SimpleWalk F P → Type 0
  Answers = Next objects faulty answers

  called : {w : SimpleWalk F P} {o : Option (Result Info WalkError)} {new : SimpleWalk F P} → Answers w o new → Stands w → IsGood o new
  called (initial b made) s = absurd (true≢false (sym s.begun ∙ b))
  called (later b made) s = stepped made s

  called_first : (w : SimpleWalk F P) → IsReady w → {o : Option (Result Info WalkError)} {new : SimpleWalk F P} → Answers w o new → IsGood o new
  called_first w r (initial b made) = first_called w r made
  called_first w r (later b made) = absurd (true≢false (sym b ∙ r.unbegun))

  abbrev HaveParents : List Info → Type 0
  HaveParents infos = (info : Info) → Contains infos info → info.parent_ids.items ≡ parents info.id

  one_more : (info : Info) (infos : List Info) → info.parent_ids.items ≡ parents info.id → HaveParents infos → HaveParents (info ∷ infos)
  one_more info infos e h x c = ⊎_elim (λ s. subst (λ (y : Info). y.parent_ids.items ≡ parents y.id) s e) (h x) (Contains-cons_cases x info infos c)

  drawn : (infos : List Info) (w at : SimpleWalk F P) → Yields Answers w (all_given infos) at → Stands w → Stands at × HaveParents infos
  drawn [] w at h s = (subst Stands h s, λ info c. absurd (no_member info c))
  drawn (info ∷ infos) w at h s =
      let good : Stands h.0 × (info.parent_ids.items ≡ parents info.id) = called h.1 s in
      let rest = drawn infos h.0 at h.2 good.0 in
      (rest.0, one_more info infos good.1 rest.1)

  -- the commits that a walk gave have their parents
  pub have_parents : (w at : SimpleWalk F P) → IsReady w → (infos : List Info) → Yields Answers w (all_given infos) at → HaveParents infos
  have_parents w at r [] h = λ info c. absurd (no_member info c)
  have_parents w at r (info ∷ infos) h =
      let good : Stands h.0 × (info.parent_ids.items ≡ parents info.id) = called_first w r h.1 in
      one_more info infos good.1 (drawn infos h.0 at h.2 good.0).1

  -- its fault is one of a commit that one or others reach
  pub fault_below : (w last : SimpleWalk F P) → IsReady w → (infos : List Info) (e : WalkError) → YieldsThen Answers w (all_given infos) (Some (Err e)) last → e ≢ walk_error.Memory → IsFaultBelow e
  fault_below w last r [] e h = called_first w r (subst (λ x. Answers x (Some (Err e)) last) (sym h.1) h.2)
  fault_below w last r (info ∷ infos) e h =
      let good : Stands h.1.0 × (info.parent_ids.items ≡ parents info.id) = called_first w r h.1.1 in
      called h.2 (drawn infos h.1.0 h.0 h.1.2 good.0).0
