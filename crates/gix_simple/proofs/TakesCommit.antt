-- How a walk takes a commit.
use Rattle.std.proofs.Common.{◌≡◌, ◌≢◌, ℕ, ℤ, List, [], Bool, true, false, Option, Some, None, Result, Ok, Err, refl, sym, ap, subst, inl, inr, ◌∙◌}
use Rattle.gix_simple.proofs.Common.{transport, ObjectId, kind_of, Objects, row_of, commit_items, Info, CommitTimeOrder, Error, Pending, by_mode, IsChosen, TakesOut, SimpleWalk, failed, given_time, time_order, how_ended, GoesOn}
use Rattle.gix_simple.proofs.Common.{StoreFails, NoMemory, unrowed, Treated, TreatsAll, Concludes, given, broken, store_fails, Takes, by_row, by_store, not_found, Chooses, first, best, Steps, ended, took, scanned, kept_rows, IsUnrowed}
use Rattle.gix_object.specs.declared.Kind.TheVariants as object
use Rattle.gix_object.specs.declared.decode.Error.{Error as DecodeError}
use Rattle.gix_object.specs.declared.find.existing_iter.Error.{Error as ExistingError}
use Rattle.gix_object.specs.declared.find.existing_iter.Error.TheVariants as existing
use Rattle.gix_object.specs.Find.{FindsKindInto}
use Rattle.gix_simple.specs.declared.Error.TheVariants as error
use Rattle.gix_revwalk.specs.declared.row.RowRead.{RowRead}
use Rattle.gix_simple.specs.declared.step.Stop.{Stop}
use Rattle.gix_simple.specs.declared.step.Stop.TheVariants as stop
use Rattle.gix_simple.specs.Errors.{error_of_find, error_of_stop}
use Rattle.gix_revwalk.specs.Reading.{RowSays}
use Rattle.gix_simple.specs.Walk.{no_memory}
use Rattle.gix_revwalk.specs.Infos.{IsInfo}
use Rattle.gix_simple.proofs.LentText.{treats_all_with, concludes_with}
use Rattle.gix_simple.proofs.Moves.{treated_same}

-- a walk that lends another text
abbrev with_text : {F P : Type 0} → SimpleWalk F P → List ℕ → Option ObjectId → SimpleWalk F P
with_text walk text current = record walk { text = text; current = current }

module _ {F P : Type 0} (objects : F → Objects) (faulty : F → ObjectId → Type 0) (answers : P → ObjectId → Bool → P → Type 0) (old : SimpleWalk F P) (taken : Pending) where
  -- a sound row gives the commit
  pub takes_by_row : (read : RowRead) (named : List ObjectId) (cleared : SimpleWalk F P) → RowSays old.rows taken.id read → named ≡ by_mode old.parents read.parent_ids.items → cleared ≡ with_text old [] old.current → (ids : List ObjectId) → ids ≡ named → (how : Treated) (walk : SimpleWalk F P) → TreatsAll objects faulty answers true cleared ids how walk
      → (answer : Result Info Error) (new : SimpleWalk F P) → Concludes objects faulty answers taken.id named (Some read.generation) (given_time walk taken) walk.text None walk how answer new → Takes objects faulty answers old taken answer new
  takes_by_row read named cleared says is_named is_cleared ids same_ids how walk treats answer new c =
      let t : TreatsAll objects faulty answers true (with_text old [] old.current) (by_mode old.parents read.parent_ids.items) how walk = subst (λ xs. TreatsAll objects faulty answers true (with_text old [] old.current) xs how walk) (same_ids ∙ is_named) (subst (λ w. TreatsAll objects faulty answers true w ids how walk) is_cleared treats) in
      let same = treated_same objects faulty answers t in
      let d : Concludes objects faulty answers taken.id (by_mode old.parents read.parent_ids.items) (Some says.row.generation) (given_time old taken) [] None walk how answer new =
      transport (λ k. Concludes objects faulty answers taken.id (is_named k) (Some (says.generation k)) (given_time (same k) taken) ((same k).text) None walk how answer new) c in
      by_row says.there says.parents (treats_all_with objects faulty answers (λ x. old.text) (λ x. old.current) (λ x. x) t)
      (concludes_with objects faulty answers (λ x. old.text) (λ x. old.current) (λ x. x) d)

  -- there is no memory to read it
  pub takes_no_memory : (walk new : SimpleWalk F P) (answer : Error) → walk ≡ with_text old walk.text walk.current → answer ≡ error.Memory → new ≡ failed taken.id error.Memory walk → Takes objects faulty answers old taken (Err answer) new
  takes_no_memory walk new answer w a n = subst (λ e. Takes objects faulty answers old taken (Err e) new) (sym a) (subst (Takes objects faulty answers old taken (Err error.Memory)) (sym (n ∙ ap (failed taken.id error.Memory) w)) (no_memory (inl refl)))

  -- the rows don't say anything of it
  module _ (rowless : row_of old.rows taken.id ≡ None) (walk : SimpleWalk F P) (is_read : walk ≡ with_text old walk.text walk.current) where
    unrowed_is : IsUnrowed old.rows taken.id
    unrowed_is = λ row e. cc

    stays : unrowed old taken.id ≡ old
    stays = λ j. record old { rows = kept_rows old.rows (rowless j) }

    read_so : walk ≡ with_text (unrowed old taken.id) walk.text walk.current
    read_so = is_read ∙ ap (λ w. with_text w walk.text walk.current) (sym stays)

    -- no commit is found
    pub takes_missing : (fault : ExistingError) → FindsKindInto (objects old.store) (faulty old.store) taken.id object.Commit (Err fault) walk.text → (e answer : Error) (new : SimpleWalk F P) → e ≡ error_of_find fault → answer ≡ e → new ≡ failed taken.id e walk → Takes objects faulty answers old taken (Err answer) new
    takes_missing fault f e answer new w a n = go fault f (a ∙ w) (n ∙ ap (λ e. failed taken.id e walk) w)
      where
        missed : (k : ExistingError) (x : Error) → x ≡ error.Find k → (k ≢ existing.Memory) → FindsKindInto (objects old.store) (faulty old.store) taken.id object.Commit (Err k) walk.text → answer ≡ x → new ≡ failed taken.id x walk → Takes objects faulty answers old taken (Err answer) new
        missed k x is other f a n =
            let gone : new ≡ failed taken.id (error.Find k) (unrowed old taken.id) = n ∙ ap (λ y. failed taken.id y walk) is ∙ ap (failed taken.id (error.Find k)) read_so in
            subst (λ e. Takes objects faulty answers old taken (Err e) new) (sym (a ∙ is)) (subst (Takes objects faulty answers old taken (Err (error.Find k))) (sym gone) (not_found unrowed_is (f other)))

        go : (k : ExistingError) → FindsKindInto (objects old.store) (faulty old.store) taken.id object.Commit (Err k) walk.text → answer ≡ error_of_find k → new ≡ failed taken.id (error_of_find k) walk → Takes objects faulty answers old taken (Err answer) new
        go existing.Store f a n = missed existing.Store _ refl (λ e. cc) f a n
        go (existing.NotFound oid) f a n = missed (existing.NotFound oid) _ refl (λ e. cc) f a n
        go (existing.ObjectKind oid expected actual) f a n = missed (existing.ObjectKind oid expected actual) _ refl (λ e. cc) f a n
        go existing.Memory f a n = takes_no_memory walk new answer is_read a n

    -- it is found and read
    pub takes_by_store : FindsKindInto (objects old.store) (faulty old.store) taken.id object.Commit (Ok tt) walk.text → (ids shown : List ObjectId) (fault : Option DecodeError) → ids ≡ shown → (shown, fault) ≡ scanned old.parents (commit_items (kind_of taken.id) walk.text) → (how : Treated) (then : SimpleWalk F P) → TreatsAll objects faulty answers false walk ids how then
        → (answer : Result Info Error) (new : SimpleWalk F P) → Concludes objects faulty answers taken.id shown None (given_time then taken) then.text fault then how answer new → Takes objects faulty answers old taken answer new
    takes_by_store there ids shown fault same_ids read how then treats answer new c =
        let start : SimpleWalk F P = unrowed old taken.id in
        let t : TreatsAll objects faulty answers false (with_text start walk.text walk.current) shown how then = subst (λ w. TreatsAll objects faulty answers false w shown how then) read_so (subst (λ xs. TreatsAll objects faulty answers false walk xs how then) same_ids treats) in
        let same = treated_same objects faulty answers t in
        let back : TreatsAll objects faulty answers false start shown how (with_text then start.text start.current) = treats_all_with objects faulty answers (λ x. start.text) (λ x. start.current) (λ x. x) t in
        let d : Concludes objects faulty answers taken.id shown None (given_time old taken) walk.text fault (with_text then start.text start.current) how answer new =
        concludes_with objects faulty answers (λ x. start.text) (λ x. start.current) (λ x. x)
        (transport (λ k. Concludes objects faulty answers taken.id shown None (given_time (same k) taken) ((same k).text) fault then how answer new) c) in
        by_store unrowed_is there (subst (λ xs. TreatsAll objects faulty answers false start xs how (with_text then start.text start.current)) (ap (λ r. r.0) read) back)
        (subst (λ r. Concludes objects faulty answers taken.id r.0 None (given_time old taken) walk.text r.1 (with_text then start.text start.current) how answer new) read d)

  -- where the rows were dropped, or have no row of the commit, it is taken as from the walk before
  pub takes_unrowed : IsUnrowed old.rows taken.id → (mid : SimpleWalk F P) → mid ≡ unrowed old taken.id → row_of mid.rows taken.id ≡ None → (answer : Result Info Error) (new : SimpleWalk F P) → Takes objects faulty answers mid taken answer new → Takes objects faulty answers old taken answer new
  takes_unrowed u mid m rowless answer new t = go (subst (λ w. row_of w.rows taken.id ≡ None) m rowless) (subst (λ w. Takes objects faulty answers w taken answer new) m t)
    where
      go : row_of (unrowed old taken.id).rows taken.id ≡ None → {answer : Result Info Error} {new : SimpleWalk F P} → Takes objects faulty answers (unrowed old taken.id) taken answer new → Takes objects faulty answers old taken answer new
      go none (by_row r e treats c) = cc
      go none (by_store {bytes = bytes} {how = how} {walk = walk} v e treats c) = by_store u e (subst (λ w. TreatsAll objects faulty answers false w (scanned old.parents (commit_items (kind_of taken.id) bytes)).0 how walk) (twice none) treats) c
        where
          twice : row_of (unrowed old taken.id).rows taken.id ≡ None → unrowed (unrowed old taken.id) taken.id ≡ unrowed old taken.id
          twice n = λ j. record old { rows = kept_rows (unrowed old taken.id).rows (n j) }
      go none (not_found {e = e} v f) = subst (λ rows. Takes objects faulty answers old taken (Err (error.Find e)) (record old { rows = rows; text = []; current = Some taken.id })) (λ j. kept_rows (unrowed old taken.id).rows (sym none j)) (not_found u f)
      go none (no_memory {rows = rows} (inl e)) = no_memory (inr e)
      go none (no_memory {rows = rows} (inr e)) = no_memory (inr (e ∙ (λ j. kept_rows (unrowed old taken.id).rows (none j))))

  -- the commit whose turn it is, is taken
  pub steps_taken : (mid : SimpleWalk F P) → TakesOut (time_order old.parents old.sorting) old.pending (Some taken) mid.pending → mid ≡ record old { pending = mid.pending } → (answer : Result Info Error) (new : SimpleWalk F P) → Takes objects faulty answers mid taken answer new → Steps objects faulty answers old (Some answer) new
  steps_taken mid out m answer new t = took (chosen (time_order old.parents old.sorting) refl mid.pending out) (subst (λ w. Takes objects faulty answers w taken answer new) m t)
    where
      chosen : (o : Option CommitTimeOrder) → time_order old.parents old.sorting ≡ o → (others : List Pending) → IsChosen o old.pending taken others → Chooses objects faulty answers old taken others
      chosen None e others h = first e h
      chosen (Some order) e others h = best e h

module _ {F P : Type 0} (objects : F → Objects) (faulty : F → ObjectId → Type 0) (answers : P → ObjectId → Bool → P → Type 0) where
  -- nothing is pending
  pub steps_ended : (old mid : SimpleWalk F P) → old.pending ≡ [] → mid.pending ≡ [] → mid ≡ record old { pending = mid.pending } → Steps objects faulty answers old None mid
  steps_ended old mid none left m = subst (Steps objects faulty answers old None) (sym (m ∙ (λ j. record old { pending = (left ∙ sym none) j }))) (ended none)

module _ {F P : Type 0} (objects : F → Objects) (faulty : F → ObjectId → Type 0) (answers : P → ObjectId → Bool → P → Type 0) (id : ObjectId) (parents : List ObjectId) (generation : Option ℕ) (time : Option ℤ) (fault : Option DecodeError) (old : SimpleWalk F P) (treated : Result (Unit {0}) Stop) where
  abbrev Concluded : Result Info Error → SimpleWalk F P → Type 0
  Concluded answer new = Concludes objects faulty answers id parents generation time old.text fault old (how_ended treated) answer new

  concluded_so : (how : Treated) → how_ended treated ≡ how → (e answer : Error) (new : SimpleWalk F P) → answer ≡ e → new ≡ failed id e old → Concludes objects faulty answers id parents generation time old.text fault old how (Err e) (failed id e old) → Concluded (Err answer) new
  concluded_so how h e answer new a n c = transport (λ k. Concludes objects faulty answers id parents generation time old.text fault old (sym h k) (Err (sym a k)) (sym n k)) c

  -- a parent's treatment stopped
  pub concludes_stopped : (why : Stop) → treated ≡ Err why → (e answer : Error) (new : SimpleWalk F P) → e ≡ error_of_stop why → answer ≡ e → new ≡ failed id e old → Concluded (Err answer) new
  concludes_stopped why t e answer new w a n = go why t (a ∙ w) (n ∙ ap (λ e. failed id e old) w)
    where
      go : (why : Stop) → treated ≡ Err why → answer ≡ error_of_stop why → new ≡ failed id (error_of_stop why) old → Concluded (Err answer) new
      go stop.Store t a n = concluded_so StoreFails (ap how_ended t) (error.Find existing.Store) answer new a n store_fails
      go stop.Memory t a n = concluded_so NoMemory (ap how_ended t) error.Memory answer new a n no_memory

  -- what follows the parents is broken
  pub concludes_broken : (u : Unit {0}) → treated ≡ Ok u → (e : DecodeError) → fault ≡ Some e → (answer : Error) (new : SimpleWalk F P) → answer ≡ error.ObjectDecode e → new ≡ failed id (error.ObjectDecode e) old → Concluded (Err answer) new
  concludes_broken u t e f answer new a n = concluded_so GoesOn (ap how_ended t) (error.ObjectDecode e) answer new a n (broken f)

  -- the commit is given
  pub concludes_given : (u : Unit {0}) → treated ≡ Ok u → fault ≡ None → (info : Info) → IsInfo info id parents generation time → (inside : SimpleWalk F P) → inside ≡ old → (given_id : ObjectId) → given_id ≡ id → Concluded (Ok info) (record inside { current = Some given_id })
  concludes_given u t f info i inside is given_id same = transport (λ k. Concludes objects faulty answers id parents generation time old.text fault old (how_ended (sym t k)) (Ok info) (record (sym is k) { current = Some (sym same k) })) (given f i)
