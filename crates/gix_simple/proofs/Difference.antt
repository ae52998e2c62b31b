-- A walk through all parents, without a cutoff, whose predicate accepts all, gives what its tips reach and its hidden tips don't.
use Rattle.std.proofs.Common.{◌≡◌, ◌≢◌, ◌↔◌, ℤ, List, [], ◌∷◌, ◌++◌, Bool, true, false, Option, Some, None, Result, Ok, Err, Contains, All, IsSome, cond, refl, sym, ap, subst, inl, inr, ⊎_elim, ◌∙◌, true≢false}
use Rattle.gix_simple.proofs.Common.{Drains, AllZip, transport, false≢true, false_from_ne_true, Contains-append_left, Contains-append_right, Contains-append_cases, All-weaker, ObjectId, Objects, GraphRow, row_of, Info, Parents}
use Rattle.gix_simple.proofs.Common.{CommitTimeOrder, Error, Reaches, start, step, Tells, IsAgreeing, AnswersBy, ReadsWhole, commit_at, parents_of, walked_parents, AreDistinct, ids_of, new_ids, IsBuilt, IsUncut, recent, timed, IsFresh}
use Rattle.gix_simple.proofs.Common.{IsGiven, IsNoRefusal, IsWholeRun, GivesInOrder, GivesDifference, given_ids, kept_parents, next_of, starts_of, SimpleWalk, FirstStep, unhidden, Next, initial, later, cutoff, time_order, among_from}
use Rattle.gix_simple.proofs.Common.{among_is, Contains-here, Contains-cons_cases, no_member, filter_within, filter_all, own_history, times_among, times-fresh, row_stands, walked_within}
use Rattle.gix_object.specs.CommitText.{Commit}
use Rattle.gix_object.specs.declared.find.existing_iter.Error.TheVariants as existing
use Rattle.gix_revwalk.specs.declared.Parents.TheVariants as mode
use Rattle.gix_simple.specs.declared.Error.TheVariants as error
use Rattle.gix_paint.specs.declared.Hidden.TheVariants as hidden_by
use Rattle.gix_simple.specs.Building.{made, breadth_first, by_time, hides, walks, reads}
use Rattle.gix_simple.specs.Walk.{paints, faulty_history, no_memory}
use Rattle.gix_revwalk.proofs.Drained.{at_end, at_first}
use Rattle.gix_revwalk.proofs.Reached.{reach_more}
use Rattle.gix_simple.proofs.Builders.{recent_ids, built}
use Rattle.gix_simple.proofs.Corollaries.{all_kept, gives, gives_once, shown_reached, reached_shown}
pub use Rattle.gix_simple.proofs.Theorem.{no_start}
use Rattle.gix_simple.proofs.OneStep.{IsCommit}
use Rattle.gix_simple.proofs.Faultless.{only_commits}
use Rattle.gix_simple.proofs.MadeOfTips.{is_new_walk, fresh_among}
use Rattle.gix_simple.proofs.ReachDecided.{reach_test}

pub whole_from : (objects : Objects) (i : ObjectId) → IsSome (commit_at objects i) → ReadsWhole objects i
whole_from objects i h = go (commit_at objects i) refl h
  where
    go : (o : Option Commit) → commit_at objects i ≡ o → IsSome o → ReadsWhole objects i
    go None e n = absurd (false≢true n)
    go (Some commit) e n = record { commit = commit; stored = e }

module _ (objects : Objects) where
  -- what is reached through some of the parents is reached
  pub loosened : (m : Parents) (accepts shows : ObjectId → Bool) (limit : Option ℤ) (xs : List ObjectId) (i : ObjectId) → Reaches (kept_parents objects m accepts shows limit) xs i → Reaches (parents_of objects) xs i
  loosened m accepts shows limit xs i (start s) = start s
  loosened m accepts shows limit xs i (step {c = c} r n) = step (loosened m accepts shows limit xs c r) (walked_within m _ i (filter_within _ (walked_parents objects m c) i n))

  -- through all parents
  pub through_all : (xs : List ObjectId) (i : ObjectId) → Reaches (parents_of objects) xs i → Reaches (kept_parents objects mode.All (λ j. true) (λ j. false) None) xs i
  through_all xs i (start s) = start s
  through_all xs i (step {c = c} r n) = step (through_all xs c r) (subst (λ ys. Contains ys i) (sym (filter_all (λ i. true) (parents_of objects c) (λ i m. refl))) n)

  module _ (rows : List GraphRow) (parents : Parents) (order : Option CommitTimeOrder) where
    -- the answers are commits, and their ids are these
    commits : (list : List (Result Info Error)) (ids : List ObjectId) → AllZip (IsGiven objects rows parents order) list ids → (given_ids list ≡ ids) × ((e : Error) → Contains list (Err e) → ⊥)
    commits [] [] h = (refl, λ e c. no_member (Err e) c)
    commits [] (i ∷ ids) h = absurd h
    commits (a ∷ list) [] h = absurd h
    commits (Err e ∷ list) (i ∷ ids) h = absurd h.0
    commits (Ok info ∷ list) (i ∷ ids) h =
        let r : (given_ids list ≡ ids) × ((e : Error) → Contains list (Err e) → ⊥) = commits list ids h.1 in
        ((λ k. h.0.info_is.same_id k ∷ r.0 k), λ e c. ⊎_elim (λ s. cc) (r.1 e) (Contains-cons_cases (Err e) (Ok info) list c))

-- an answer that is no fault is no refusal
unrefused : (list : List (Result Info Error)) → ((e : Error) → Contains list (Err e) → ⊥) → All IsNoRefusal list
unrefused list h = All-weaker IsCommit IsNoRefusal (λ answer c. (c error.Memory, c (error.Find existing.Store), c (error.HiddenGraph (hidden_by.Find existing.Store)))) list (only_commits list h)

module _ {F P : Type 0} (objects : F → Objects) (faulty : F → ObjectId → Type 0) (answers : P → ObjectId → Bool → P → Type 0) where
  -- a first step that gives no fault has read all that tips and hidden tips reach, by rows that agree or from the store
  painted_whole : (walk : SimpleWalk F P) {o : Option (Result Info Error)} {new : SimpleWalk F P} → IsAgreeing (objects walk.store) walk.rows → walk.pending ≢ [] → walk.hidden_tips ≢ [] → FirstStep objects faulty answers walk o new → ((e : Error) → o ≢ Some (Err e))
      → (i : ObjectId) → Reaches (parents_of (objects walk.store)) (ids_of walk.pending ++ walk.hidden_tips) i → ReadsWhole (objects walk.store) i
  painted_whole walk agreeing some behind (unhidden (inl e) s) good i r = absurd (some e)
  painted_whole walk agreeing some behind (unhidden (inr e) s) good i r = absurd (behind e)
  painted_whole walk agreeing some behind (paints p h painting s) good i r = go (row_of walk.rows i) refl
    where
      go : (o : Option GraphRow) → row_of walk.rows i ≡ o → ReadsWhole (objects walk.store) i
      go None e = whole_from (objects walk.store) i (painting.rowless (objects walk.store) (own_history (objects walk.store) walk.rows agreeing) i r e)
      go (Some row) e = let k : Contains walk.rows row × (i ≡ row.id) = row_stands walk.rows i row e in subst (ReadsWhole (objects walk.store)) (sym k.1) (agreeing row k.0).whole
  painted_whole walk agreeing some behind (faulty_history {why = why} p h rows fault) good i r = absurd (good (error.HiddenGraph why) refl)
  painted_whole walk agreeing some behind (no_memory p h rows) good i r = absurd (good error.Memory refl)

  pub begun_whole : (walk : SimpleWalk F P) {o : Option (Result Info Error)} {new : SimpleWalk F P} → walk.begun ≡ false → IsAgreeing (objects walk.store) walk.rows → walk.pending ≢ [] → walk.hidden_tips ≢ [] → Next objects faulty answers walk o new → ((e : Error) → o ≢ Some (Err e))
      → (i : ObjectId) → Reaches (parents_of (objects walk.store)) (ids_of walk.pending ++ walk.hidden_tips) i → ReadsWhole (objects walk.store) i
  begun_whole walk fresh agreeing some behind (initial f s) good = painted_whole (record walk { begun = true }) agreeing some behind s good
  begun_whole walk fresh agreeing some behind (later begun s) good = absurd (true≢false (sym begun ∙ fresh))

  -- so has a walk that gives none
  pub drawn_whole : (walk : SimpleWalk F P) (list : List (Result Info Error)) → walk.begun ≡ false → IsAgreeing (objects walk.store) walk.rows → walk.pending ≢ [] → walk.hidden_tips ≢ [] → ((e : Error) → Contains list (Err e) → ⊥) → Drains (Next objects faulty answers) walk list
      → (i : ObjectId) → Reaches (parents_of (objects walk.store)) (ids_of walk.pending ++ walk.hidden_tips) i → ReadsWhole (objects walk.store) i
  drawn_whole walk [] fresh agreeing some behind good d = begun_whole walk fresh agreeing some behind (at_end (Next objects faulty answers) walk d).1 (λ e s. cc)
  drawn_whole walk (answer ∷ list) fresh agreeing some behind good d =
      begun_whole walk fresh agreeing some behind (at_first (Next objects faulty answers) walk answer list d).1
      (λ e s. let same : answer ≡ Err e = cc in good e (subst (λ x. Contains (x ∷ list) (Err e)) (sym same) (Contains-here (Err e) list)))

  module _ (store : F) (predicate : P) (tips : List ObjectId) (accepting : AnswersBy answers predicate (λ i. true)) where
    -- no call took a tip out, or set a cutoff
    uncut_all : {walk : SimpleWalk F P} (b : IsBuilt objects faulty answers store predicate tips walk) → IsUncut b → (ids_of walk.pending ≡ new_ids (λ i. false) tips) × (cutoff mode.All walk.sorting ≡ None)
    uncut_all (made {walk = walk} m) u =
        let new = is_new_walk objects faulty answers store predicate (λ i. true) tips walk accepting m in
        (new.pending ∙ ap (new_ids (λ i. false)) (filter_all (λ i. true) tips (λ i c. refl)), ap (cutoff mode.All) new.breadth_first)
    uncut_all (breadth_first b) u = ((uncut_all b u).0, refl)
    uncut_all (by_time {walk = walk} {by = by} b s) u =
        (ap ids_of s.pending ∙ ap (λ limit. ids_of (recent limit (timed (objects walk.store) walk.pending))) u.1 ∙ recent_ids (objects walk.store) None walk.pending ∙ all_kept (ids_of walk.pending) ∙ (uncut_all b u.0).0, ap (λ w. cutoff mode.All w.sorting) s.others ∙ u.1)
    uncut_all (hides b) u = uncut_all b u
    uncut_all (walks b) u = uncut_all b u
    uncut_all (reads b) u = uncut_all b u

    module _ (walk : SimpleWalk F P) (b : IsBuilt objects faulty answers store predicate tips walk) (uncut : IsUncut b) (all : walk.parents ≡ mode.All) where
      no_cutoff : cutoff walk.parents walk.sorting ≡ None
      no_cutoff = ap (λ m. cutoff m walk.sorting) all ∙ (uncut_all b uncut).1

      is_pending : (i : ObjectId) → Contains tips i → Contains (ids_of walk.pending) i
      is_pending i c = subst (λ xs. Contains xs i) (sym ((uncut_all b uncut).0)) (among_is i (new_ids (λ j. false) tips) (times_among i (new_ids (λ j. false) tips) 0 (times-fresh i (λ j. false) tips ∙ ap (λ b. cond b 1 0) (among_from i tips c))))

      is_tip : (i : ObjectId) → Contains (ids_of walk.pending) i → Contains tips i
      is_tip i c = among_is i tips (fresh_among i (λ j. false) tips (subst (λ xs. Contains xs i) ((uncut_all b uncut).0) c))

      is_fresh : IsFresh objects walk (λ i. true) × AnswersBy answers walk.predicate (λ i. true) × (walk.store ≡ store)
      is_fresh = built objects faulty answers (λ i. true) store predicate accepting tips walk b

      test : (tells : ObjectId → Bool) × Tells tells (Reaches (parents_of (objects walk.store)) walk.hidden_tips)
      test = reach_test (objects walk.store) walk.hidden_tips

      -- what is given is reached by pending commits
      from_pending : (i : ObjectId) → Reaches (next_of objects walk (λ j. true) test.0) (starts_of walk test.0) i → Reaches (parents_of (objects walk.store)) (ids_of walk.pending) i × (test.0 i ≡ false)
      from_pending i r =
          let both = reached_shown (objects walk.store) walk.parents (λ j. true) test.0 (cutoff walk.parents walk.sorting) (ids_of walk.pending) walk.hidden_tips test.1 i r in
          (loosened (objects walk.store) walk.parents (λ j. true) (λ j. false) (cutoff walk.parents walk.sorting) (ids_of walk.pending) i both.0, both.1)

      module _ (list : List (Result Info Error)) (agreeing : IsAgreeing (objects walk.store) walk.rows)
          (whole : walk.pending ≢ [] → (i : ObjectId) → Reaches (parents_of (objects walk.store)) (ids_of walk.pending ++ walk.hidden_tips) i → ReadsWhole (objects walk.store) i)
          (refuses_none : All IsNoRefusal list) (drawn : Drains (Next objects faulty answers) walk list) where
        run : IsWholeRun objects faulty answers walk (λ i. true) test.0 list
        run = record {
          by_test = is_fresh.1;
          fresh = is_fresh.0;
          tells = test.1;
          meets = record {
            given = λ i r.
                let p : Reaches (parents_of (objects walk.store)) (ids_of walk.pending) i = (from_pending i r).0 in
                whole (λ e. no_start _ _ i p (ap ids_of e)) i (reach_more (parents_of (objects walk.store)) (ids_of walk.pending) (ids_of walk.pending ++ walk.hidden_tips) (λ j c. Contains-append_left (ids_of walk.pending) walk.hidden_tips j c) i p);
            painted = λ some behind i r. whole some i r;
          };
          agreeing = agreeing;
          unrefused = refuses_none;
          drawn = drawn;
        }

        gave : GivesInOrder objects walk (λ i. true) test.0 list
        gave = gives objects faulty answers walk (λ i. true) test.0 list run

        each : AreDistinct gave.ids × ((i : ObjectId) → Contains gave.ids i ↔ Reaches (next_of objects walk (λ i. true) test.0) (starts_of walk test.0) i)
        each = gives_once objects faulty answers walk (λ i. true) test.0 list gave

        ids_are : given_ids list ≡ gave.ids
        ids_are = (commits (objects walk.store) walk.rows walk.parents (time_order walk.parents walk.sorting) list gave.ids gave.given).0

        reached : (i : ObjectId) → Reaches (parents_of (objects walk.store)) tips i → test.0 i ≡ false → Reaches (next_of objects walk (λ i. true) test.0) (starts_of walk test.0) i
        reached i r h =
            shown_reached (objects walk.store) walk.parents (λ j. true) test.0 (cutoff walk.parents walk.sorting) (ids_of walk.pending) walk.hidden_tips test.1 i
            (transport (λ k. Reaches (kept_parents (objects walk.store) (sym all k) (λ j. true) (λ j. false) (sym no_cutoff k)) (ids_of walk.pending) i) (through_all (objects walk.store) (ids_of walk.pending) i (reach_more (parents_of (objects walk.store)) tips (ids_of walk.pending) is_pending i r)))
            h

        gives_difference : GivesDifference (objects walk.store) tips walk.hidden_tips list
        gives_difference = record {
          commits = (commits (objects walk.store) walk.rows walk.parents (time_order walk.parents walk.sorting) list gave.ids gave.given).1;
          once = subst AreDistinct (sym ids_are) each.0;
          exact = λ i. (
            λ c. let p = from_pending i ((each.1 i).0 (subst (λ xs. Contains xs i) ids_are c)) in (reach_more (parents_of (objects walk.store)) (ids_of walk.pending) tips is_tip i p.0, λ h. true≢false (sym ((test.1 i).1 h) ∙ p.1)),
            λ s. subst (λ xs. Contains xs i) (sym ids_are) ((each.1 i).1 (reached i s.0 (false_from_ne_true (test.0 i) (λ e. s.1 ((test.1 i).0 e))))),
          );
        }

      -- pending commits are tips
      tips_more : (i : ObjectId) → Reaches (parents_of (objects walk.store)) (ids_of walk.pending ++ walk.hidden_tips) i → Reaches (parents_of (objects store)) (tips ++ walk.hidden_tips) i
      tips_more i r =
          subst (λ s. Reaches (parents_of (objects s)) (tips ++ walk.hidden_tips) i) is_fresh.2
          (reach_more (parents_of (objects walk.store)) (ids_of walk.pending ++ walk.hidden_tips) (tips ++ walk.hidden_tips) both i r)
        where
          both : (j : ObjectId) → Contains (ids_of walk.pending ++ walk.hidden_tips) j → Contains (tips ++ walk.hidden_tips) j
          both j c = ⊎_elim (λ t. Contains-append_left tips walk.hidden_tips j (is_tip j t)) (λ t. Contains-append_right tips walk.hidden_tips j t) (Contains-append_cases (ids_of walk.pending) walk.hidden_tips j c)

      -- the law, where all that is met reads whole
      pub difference : IsAgreeing (objects store) walk.rows → ((i : ObjectId) → Reaches (parents_of (objects store)) (tips ++ walk.hidden_tips) i → ReadsWhole (objects store) i) → (list : List (Result Info Error)) → All IsNoRefusal list → Drains (Next objects faulty answers) walk list → GivesDifference (objects store) tips walk.hidden_tips list
      difference agreeing whole list refuses_none drawn =
          subst (λ s. GivesDifference (objects s) tips walk.hidden_tips list) is_fresh.2
          (gives_difference list (subst (λ s. IsAgreeing (objects s) walk.rows) (sym is_fresh.2) agreeing) (λ some i r. subst (λ s. ReadsWhole (objects s) i) (sym is_fresh.2) (whole i (tips_more i r))) refuses_none drawn)

      -- the law, where no answer is a fault
      pub faultless_difference : IsAgreeing (objects store) walk.rows → walk.hidden_tips ≢ [] → (list : List (Result Info Error)) → ((e : Error) → Contains list (Err e) → ⊥) → Drains (Next objects faulty answers) walk list → GivesDifference (objects store) tips walk.hidden_tips list
      faultless_difference agreeing behind list good drawn =
          let agrees : IsAgreeing (objects walk.store) walk.rows = subst (λ s. IsAgreeing (objects s) walk.rows) (sym is_fresh.2) agreeing in
          subst (λ s. GivesDifference (objects s) tips walk.hidden_tips list) is_fresh.2
          (gives_difference list agrees (λ some i r. drawn_whole walk list is_fresh.0.unbegun agrees some behind good drawn i r) (unrefused list good) drawn)
