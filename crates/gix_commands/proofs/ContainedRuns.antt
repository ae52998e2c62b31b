-- What a run of `contains` writes, by what commits reach.
use Rattle.std.proofs.Common.{◌≡◌, ◌≢◌, ℕ, List, [], ◌∷◌, ◌++◌, Option, Some, None, Result, Ok, Contains, IsSome, refl, sym, ap, subst, ⊎_elim, ◌∙◌}
use Rattle.gix_commands.proofs.Common.{Appends, Contains-append_left, Contains-append_right, Contains-append_cases, ObjectId, Contains-here, Contains-there, Contains-cons_cases, only_member, Objects, GraphRow}
use Rattle.gix_commands.proofs.Common.{row_of, IsAgreeing, RowAgrees, commit_at, parents_of, reach_more, row_stands, whole_from, Fault, fault_of_search, AreWhole, EndsWell}
use Rattle.gix_commands.proofs.Common.{ContainsSucceeds, selected, not_selected, never_faulty, Contained}
use Rattle.gix_contained.specs.Contained.{AreContained}
use Rattle.gix_hash.specs.Reach.{Reaches}
use Rattle.gix_contained.proofs.Faultless.{store_alone}
use Rattle.gix_paint.specs.Painting.{IsHistory}
use Rattle.gix_paint.proofs.Invariant.{own_history}
use Rattle.gix_commands.specs.Run.{Serves}
use Rattle.gix_commands.proofs.CommitRuns.{ends_whole}
use Rattle.gix_commands.proofs.InternalFacts.{contained_sound}
use Rattle.gix_commands.proofs.ListedCommits.{lines_of_ids}

module _ (tip : ObjectId) (ids : List ObjectId) where
  among : (i : ObjectId) → Contains (tip ∷ ids) i → Contains (ids ++ tip ∷ []) i
  among i c = ⊎_elim
      (λ e. Contains-append_right ids (tip ∷ []) i (subst (Contains (tip ∷ [])) e (Contains-here tip [])))
      (λ m. Contains-append_left ids (tip ∷ []) i m) (Contains-cons_cases i tip ids c)

  among_back : (i : ObjectId) → Contains (ids ++ tip ∷ []) i → Contains (tip ∷ ids) i
  among_back i c = ⊎_elim
      (λ m. Contains-there i tip ids m)
      (λ m. subst (Contains (tip ∷ ids)) (only_member tip i m) (Contains-here tip ids)) (Contains-append_cases ids (tip ∷ []) i c)

  module _ (objects : Objects) (rows : List GraphRow) (agreeing : IsAgreeing objects rows) where
    own : IsHistory objects rows objects
    own = own_history objects rows agreeing

    -- a commit is whole that was read or has a row, which agrees
    whole_by : (i : ObjectId) → (row_of rows i ≡ None → IsSome (commit_at objects i)) → IsSome (commit_at objects i)
    whole_by i read = go (row_of rows i) refl
      where
        go : (o : Option GraphRow) → row_of rows i ≡ o → IsSome (commit_at objects i)
        go None e = read e
        go (Some row) e =
            let h : Contains rows row × (i ≡ row.id) = row_stands rows i row e in
            let a : RowAgrees objects rows row = agreeing row h.0 in
            subst IsSome (sym (ap (commit_at objects) h.1 ∙ a.whole.stored)) refl

    -- what was written, and which commits are whole
    pub record IsSelected (old new : Option (List ℕ)) : Type 0 where
      pub those : List ObjectId
      pub exact : AreContained (parents_of objects) (tip ∷ []) ids those
      pub there : (i : ObjectId) → Contains (tip ∷ ids) i → IsSome (commit_at objects i)
      pub whole : (a : ObjectId) → Contains ids a → (Reaches (parents_of objects) (tip ∷ []) a → ⊥) → AreWhole objects (tip ∷ [])
      pub written : Appends old new (lines_of_ids those)

    pub selected_so : {Stored : ObjectId → Type 0} → (old new : Option (List ℕ)) → ids ≢ [] → Serves Stored objects rows old (Contained tip ids) (Ok tt) new → IsSelected old new
    selected_so old new some (selected those s written) = record {
      those = those;
      exact = s.exact objects own;
      there = λ i c. whole_by i (s.read objects own (λ n. cc) some i (among i c));
      whole = λ a c n i r. whole_by i (s.read_all objects own (λ e. cc) a c n i r);
      written = written;
    }

    -- where all that is reached is whole no commit is a fault
    pub selects_well : {Stored : ObjectId → Type 0} → {old : Option (List ℕ)} → AreWhole objects (tip ∷ ids) → (answer : Result (Unit {0}) Fault) (new : Option (List ℕ)) → Serves Stored objects rows old (Contained tip ids) answer new → EndsWell answer
    selects_well whole answer new (not_selected e f) =
        absurd
        (contained_sound objects rows (tip ∷ []) ids e f
        (ap fault_of_search (store_alone objects (never_faulty objects) rows (tip ∷ []) ids e agreeing (λ i r. whole_from objects i (whole i (reach_more (parents_of objects) (ids ++ tip ∷ []) (tip ∷ ids) among_back i r))) f)))
    selects_well whole answer new s = tt

pub contains_succeeds : ContainsSucceeds
contains_succeeds words input records tip ids answer old new asked are whole =
    ends_whole words input records (Contained tip ids) (tip ∷ ids) answer old new asked are whole (λ Stored objects rows each agreeing all given left. selects_well tip ids objects rows agreeing all given left)
