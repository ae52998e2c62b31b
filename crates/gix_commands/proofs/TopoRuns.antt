-- What a run of `topo` or `date` writes, by what commits reach.
use Rattle.std.proofs.Common.{◌≡◌, ℕ, List, [], ◌∷◌, ◌++◌, map, filter, true, Option, Some, None, Result, Ok, Err, Contains, IsSome, refl, sym, ap, subst, ⊎_elim, ◌∙◌}
use Rattle.gix_commands.proofs.Common.{kept_in, Shown, EndsBy, Yields, YieldsThen, Contains-append_left, Contains-append_right, ObjectId, IsExistingFault, id_cmp, Objects, GraphRow, Info, Parents, Commit, commit_at}
use Rattle.gix_commands.proofs.Common.{parents_in, parents_of, text_next, step, walked_within, no_member, Contains-cons_cases, TopoPlan, IsCommitRead, IsReached, IsFault, IsFirstReady, IsNextReady, IsAgreeing, Fault, Topo}
use Rattle.gix_commands.proofs.Common.{fault_of_topo_walk, AreWhole, TopoSucceeds, EndsWell, IsOutside, walked_down, not_built, IsBuiltFrom}
use Rattle.gix_commands.proofs.Common.{plan_from, Ends, finished, cut_short, enough, before, objects_of, never_faulty, accepts_all, Commits, whole_from, reach_more}
use Rattle.std.specs.List.{AllZip}
use Rattle.gix_hash.specs.Reach.{Reaches, start}
use Rattle.gix_revwalk.specs.Commits.{walked_parents}
use Rattle.std.specs.FinSet as set
use Rattle.gix_object.specs.declared.Kind.TheVariants as object
use Rattle.gix_object.specs.declared.find.existing_iter.Error.TheVariants as existing
use Rattle.gix_topo.specs.declared.Error.{Error}
use Rattle.gix_topo.specs.declared.Error.TheVariants as error
use Rattle.gix_topo.specs.declared.Sorting.{Sorting}
use Rattle.gix_topo.specs.Laws.{IsNextByText, IsTextGiven, GivesTextOrder}
use Rattle.gix_revwalk.specs.ListsByTurn.{IsListBy}
use Rattle.gix_topo.specs.Walk.{IsSound, ended, given, refused, failed}
use Rattle.gix_topo.proofs.Run.Corollaries.{each_by_text}
use Rattle.gix_topo.proofs.Run.Theorem.{gives_text}
use Rattle.gix_commands.specs.Run.{Serves}
use Rattle.gix_commands.specs.TopoWalked.{Walk, Answers, IsWalkFault}
use Rattle.gix_revwalk.specs.Infos.{given as all_given}
use Rattle.gix_commands.specs.Chosen.{HasText}
use Rattle.gix_commands.specs.Walked.{failed as fell, unstored}
use Rattle.gix_commands.proofs.CommitRuns.{ends_whole}
use Rattle.gix_commands.proofs.ListedCommits.{ListsDown, followed_down}

-- the plan stays
next_plan : {old new : Walk} {answer : Option (Result Info Error)} → Answers old answer new → new.plan ≡ old.plan
next_plan (ended e) = refl
next_plan (given t a i) = refl
next_plan (refused t a h) = next_plan h
next_plan (failed c others h f late) = refl

yields_plan : (walk at : Walk) (list : List (Result Info Error)) → Yields Answers walk list at → at.plan ≡ walk.plan
yields_plan walk at [] h = ap (λ w. w.plan) (sym h)
yields_plan walk at (answer ∷ list) h = yields_plan h.0 at list h.2 ∙ next_plan h.1

-- what an answer says of the plan
abbrev Says : TopoPlan Objects → Option (Result Info Error) → Type 0
Says plan None = Unit {0}
Says plan (Some (Ok info)) = Unit {0}
Says plan (Some (Err e)) = (taken : set.FinSet id_cmp) × (c : ObjectId) × IsFault objects_of never_faulty plan (IsNextReady objects_of plan taken c) e

next_says : {old new : Walk} {answer : Option (Result Info Error)} → Answers old answer new → Says old.plan answer
next_says (ended e) = tt
next_says (given t a i) = tt
next_says (refused t a h) = next_says h
next_says (failed {old = old} c others h f late) = (old.taken, c.id, f)

pub no_faults : (infos : List Info) (e : Error) → Contains (all_given infos) (Err e) → ⊥
no_faults [] e c = no_member (Err e) c
no_faults (info ∷ infos) e c = ⊎_elim (λ s. cc) (no_faults infos e) (Contains-cons_cases (Err e) (Ok info) (all_given infos) c)

pub same_read : (plan : TopoPlan Objects) (infos : List Info) (ids : List ObjectId) → AllZip (IsTextGiven objects_of plan) (all_given infos) (filter (λ i. true) ids) → map (λ info. info.id) infos ≡ ids
same_read plan [] [] h = refl
same_read plan [] (i ∷ ids) h = absurd h
same_read plan (info ∷ infos) [] h = absurd h
same_read plan (info ∷ infos) (i ∷ ids) h = (λ k. h.0.info_is.same_id k ∷ same_read plan infos ids h.1 k)

-- a walk that ended well, by the parents that texts name
module _ (objects : Objects) (rows : List GraphRow) (agree : IsAgreeing objects rows) (m : Parents) (by : Sorting) (tips ends : List ObjectId) (walk : Walk) (built : IsBuiltFrom objects rows m by tips ends (Ok walk)) where
  pub listed_read : {Has : ObjectId → Type 0} (infos : List Info) → Ends Answers IsWalkFault Has walk infos (Ok tt) → ListsDown objects (text_next objects) (followed_down objects m) by tips ends (map (λ info. info.id) infos)
  listed_read infos (finished new h) =
      let g : GivesTextOrder objects_of walk.plan (λ i. true) (all_given infos) =
      gives_text objects_of never_faulty accepts_all (λ i. true) walk (all_given infos) (λ mid last i answer b a. a.0) built.1 (subst (λ (plan : TopoPlan Objects). IsAgreeing plan.store plan.rows) (sym built.0.plan) agree) (no_faults infos) (new, h) in
      let order : IsListBy (IsNextByText objects_of (plan_from objects rows m by tips ends)) g.ids = subst (λ plan. IsListBy (IsNextByText objects_of plan) g.ids) built.0.plan g.in_order in
      let each = each_by_text objects_of (plan_from objects rows m by tips ends) g.ids order in
      subst (ListsDown objects (text_next objects) (followed_down objects m) by tips ends) (sym (same_read walk.plan infos g.ids g.given)) (record {
        once = each.0;
        shown = each.1;
        all = each.2;
        in_order = order;
      })

module _ (objects : Objects) (rows : List GraphRow) (agree : IsAgreeing objects rows) (m : Parents) (by : Sorting) (tips ends : List ObjectId) (whole : AreWhole objects (tips ++ ends)) where
  -- what is walked is reached
  walked_reaches : (i : ObjectId) → Reaches (walked_parents objects m) tips i → Reaches (parents_of objects) tips i
  walked_reaches i (start s) = start s
  walked_reaches i (step {c = c} r n) = step (walked_reaches c r) (walked_within m (parents_of objects c) i n)

  sound : IsSound objects_of never_faulty (plan_from objects rows m by tips ends)
  sound = record {
    agreeing = agree;
    tips_whole = λ i r. whole_from objects i (whole i (reach_more (parents_of objects) tips (tips ++ ends) (λ j c. Contains-append_left tips ends j c) i (walked_reaches i r)));
    parents_whole = λ c i r n. whole_from objects i (whole i (reach_more (parents_of objects) tips (tips ++ ends) (λ j c. Contains-append_left tips ends j c) i (step (walked_reaches c r) n)));
    ends_whole = λ i r. whole_from objects i (whole i (reach_more (parents_of objects) ends (tips ++ ends) (λ j c. Contains-append_right tips ends j c) i r));
  }

  -- over whole commits the only fault is out of memory
  outside : (BecomesReady : ObjectId → Type 0) (e : Error) → IsFault objects_of never_faulty (plan_from objects rows m by tips ends) BecomesReady e → IsOutside (fault_of_topo_walk e)
  outside Q error.MissingIndegreeUnexpected h = absurd (h agree)
  outside Q error.MissingStateUnexpected h = absurd h
  outside Q (error.ObjectDecode e) h = let same : error.ObjectDecode e ≡ error.Find existing.Store = h.2.store_fails sound in cc
  outside Q (error.Find e) h =
      let same : error.Find e ≡ error.Find existing.Store = h.2.store_fails sound in
      let store : e ≡ existing.Store = cc in
      absurd (subst (IsExistingFault objects (never_faulty objects) h.0 object.Commit) store h.1)
  outside Q error.Memory h = tt

  module _ (walk : Walk) (built : IsBuiltFrom objects rows m by tips ends (Ok walk)) where
    drawn_outside : {Has : ObjectId → Type 0} → ((infos : List Info) (info : Info) (new : Walk) → YieldsThen Answers walk (all_given infos) (Some (Ok info)) new → Has info.id) → (infos : List Info) (answer : Result (Unit {0}) Fault) → Ends Answers IsWalkFault Has walk infos answer → EndsWell answer
    drawn_outside each infos answer (finished new h) = tt
    drawn_outside each infos answer (fell e f new h is) =
        let says : (taken : set.FinSet id_cmp) × (c : ObjectId) × IsFault objects_of never_faulty (plan_from objects rows m by tips ends) (IsNextReady objects_of (plan_from objects rows m by tips ends) taken c) e =
        subst (λ plan. (taken : set.FinSet id_cmp) × (c : ObjectId) × IsFault objects_of never_faulty plan (IsNextReady objects_of plan taken c) e) (yields_plan walk h.0 (all_given infos) h.1 ∙ built.0.plan) (next_says h.2) in
        subst IsOutside (sym is) (outside (IsNextReady objects_of (plan_from objects rows m by tips ends) says.0 says.1) e says.2)
    drawn_outside each infos answer (cut_short info new h) = tt
    drawn_outside each infos answer (unstored info new h lacks) = absurd (lacks (each infos info new h))

  module _ (Stored : ObjectId → Type 0) (old : Option (List ℕ)) where
    -- where each commit that is given has a text, if there is a format
    abbrev pub GiveTexts : Shown → Type 0
    GiveTexts shown = (walk : Walk) → IsBuiltFrom objects rows m by tips ends (Ok walk) → (infos : List Info) (info : Info) (new : Walk) → YieldsThen Answers walk (all_given infos) (Some (Ok info)) new → HasText Stored shown info.id

    pub well : (shown : Shown) → GiveTexts shown → (answer : Result (Unit {0}) Fault) (new : Option (List ℕ)) → Serves Stored objects rows old (Commits (Topo m by) shown tips ends) answer new → EndsWell answer
    well shown texts answer new (walked_down walk infos built drawn have written) = go shown.limit answer drawn
      where
        go : (limit : Option ℕ) (answer : Result (Unit {0}) Fault) → EndsBy Answers IsWalkFault (HasText Stored shown) (kept_in objects shown) limit walk infos answer → EndsWell answer
        go None answer drawn = drawn_outside walk built (texts walk built) infos answer drawn
        go (Some n) answer (enough at h e) = tt
        go (Some n) answer (before drawn less) = drawn_outside walk built (texts walk built) infos answer drawn
    well shown texts answer new (not_built e h) = outside (IsFirstReady objects_of (plan_from objects rows m by tips ends)) e h.1
    well shown texts answer new s = tt

pub named_whole : (objects : Objects) (c i : ObjectId) → Contains (parents_of objects c) i → IsSome (commit_at objects c)
named_whole objects c i n = go (commit_at objects c) n
  where
    go : (o : Option Commit) → Contains (parents_in o) i → IsSome o
    go None n = absurd (no_member i n)
    go (Some commit) n = refl

module _ (objects : Objects) (m : Parents) (by : Sorting) (tips ends : List ObjectId) where
  -- a walk that was built without rows has read all that tips and ends reach
  pub was_read : (walk : Walk) → IsBuiltFrom objects [] m by tips ends (Ok walk) → (i : ObjectId) → IsReached objects_of (plan_from objects [] m by tips ends) i → IsCommitRead objects i
  was_read walk built = subst (λ plan. plan.rows ≡ [] → (i : ObjectId) → IsReached objects_of plan i → IsCommitRead plan.store i) built.0.plan built.1.read refl

pub topo_succeeds : TopoSucceeds
topo_succeeds words input records m by shown tips ends answer old new asked are whole =
    ends_whole words input records (Commits (Topo m by) shown tips ends) (tips ++ ends) answer old new asked are whole (λ Stored objects rows each agreeing all. well objects rows agreeing m by tips ends all Stored old shown (λ walk built infos info new h e. each info.id))
