-- The laws of topological walks that follow from the order alone; and what a walk through all parents gives, by the store over a sound history, and by the texts where no fault comes.
use Rattle.gix_revwalk.specs.declared.Parents.TheVariants as mode
use Rattle.std.proofs.Common.{◌≡◌, ◌↔◌, List, [], Bool, filter, Result, Contains, ◌++◌, ℤ, ◌∷◌, true, Ok, Err, All, subst, refl, sym, ap, ◌∙◌}
use Rattle.std.specs.List.{AllZip}
use Rattle.gix_topo.proofs.Common.{ObjectId, Objects, GraphRow, Info, Sorting, Error, parents_of, time_of, ReadsWhole, walked_parents, by_mode, IsAcyclicIn, IsChild, IsInWalk, AreDistinct, TopoPlan, TopoWalk, walked_of}
use Rattle.gix_topo.proofs.Common.{IsMember, text_walked, IsTextMember, IsStarted, Next, IsBeginningBy, IsListBy, IsNextBy, IsNextByText, IsNextTaken, IsGiven, GivesInOrder, IsWholeRun, IsNoRefusal, IsTextGiven, GivesTextOrder, GivesDifference}
use Rattle.gix_topo.proofs.Common.{GivesTextDifference, given_ids, Drains, Contains-append_left, Contains-append_right, Parents, Reaches, step, IsAgreeing, filter_all}
use Rattle.gix_revwalk.specs.Infos.{given}
use Rattle.gix_revwalk.specs.Texts.{text_next}
use Rattle.gix_topo.proofs.Run.ReadyInTurn.{IsReadyNext, one_taken, same_set}
use Rattle.gix_topo.proofs.Reading.ReadsCommit.{text_has}
use Rattle.gix_topo.proofs.Run.EachOnce.{all_ready, each_by, first_by}
use Rattle.gix_topo.proofs.Run.Theorem.{gives, gives_text, run_faultless}
use Rattle.gix_revwalk.specs.Asking.{AnswersBy}
use Rattle.gix_revwalk.proofs.Beginnings.{one_list}
use Rattle.gix_revwalk.proofs.Reached.{reach_more}

module _ {F : Type 0} (objects : F → Objects) (plan : TopoPlan F) (ids : List ObjectId) where
  pub once : IsListBy (IsNextTaken objects plan) ids → AreDistinct ids × ((i : ObjectId) → Contains ids i → IsMember objects plan i) × (IsAcyclicIn (walked_of objects plan) (IsMember objects plan) → (i : ObjectId) → IsMember objects plan i → Contains ids i)
  once h =
      let e = each_by (objects plan.store) (parents_of (objects plan.store)) (text_has (objects plan.store)) plan.parents (time_of (objects plan.store)) plan.tips plan.ends ids plan.sorting h in
      (e.0, e.1, e.2)

  pub before_parents : IsListBy (IsNextTaken objects plan) ids → (taken rest : List ObjectId) (child parent : ObjectId) → ids ≡ taken ++ parent ∷ rest → Contains ids child → Contains (walked_of objects plan child) parent → Contains taken child
  before_parents h = (each_by (objects plan.store) (parents_of (objects plan.store)) (text_has (objects plan.store)) plan.parents (time_of (objects plan.store)) plan.tips plan.ends ids plan.sorting h).3

  -- the same by the texts
  pub each_by_text : IsListBy (IsNextByText objects plan) ids
      → AreDistinct ids × ((i : ObjectId) → Contains ids i → IsTextMember objects plan i) × (IsAcyclicIn (text_walked objects plan) (IsTextMember objects plan) → (i : ObjectId) → IsTextMember objects plan i → Contains ids i)
      × ((taken rest : List ObjectId) (child parent : ObjectId) → ids ≡ taken ++ parent ∷ rest → Contains ids child → Contains (text_walked objects plan child) parent → Contains taken child)
  each_by_text h = each_by (objects plan.store) (text_next (objects plan.store)) (λ c i n. n) plan.parents (time_of (objects plan.store)) plan.tips plan.ends ids plan.sorting h

  -- of the first commits that are taken
  pub first_once : IsBeginningBy (IsNextTaken objects plan) ids → AreDistinct ids × ((i : ObjectId) → Contains ids i → IsMember objects plan i) ×
      ((taken rest : List ObjectId) (d p : ObjectId) → ids ≡ taken ++ p ∷ rest → IsChild (walked_of objects plan) (IsMember objects plan) d p → Contains taken d)
  first_once h = first_by (objects plan.store) (parents_of (objects plan.store)) (text_has (objects plan.store)) plan.parents (time_of (objects plan.store)) plan.tips plan.ends ids plan.sorting h

pub with_rows : {F P : Type 0} (objects : F → Objects) (faulty : F → ObjectId → Type 0) (answers : P → ObjectId → Bool → P → Type 0) (walk other : TopoWalk F P) (rows : List GraphRow) (accepts : ObjectId → Bool) (list longer : List (Result Info Error)) → other.plan ≡ record walk.plan { rows = rows } →
    IsWholeRun objects faulty answers walk accepts list → IsWholeRun objects faulty answers other accepts longer →
    (ids : List ObjectId) × AllZip (IsGiven objects walk.plan) list (filter accepts ids) × AllZip (IsGiven objects other.plan) longer (filter accepts ids)
with_rows {F} objects faulty answers walk other rows accepts list longer same run run_other =
    let g : GivesInOrder objects walk.plan accepts list = gives objects faulty answers accepts walk list run in
    let h : GivesInOrder objects other.plan accepts longer = gives objects faulty answers accepts other longer run_other in
    let plan : TopoPlan F = walk.plan in
    let e : h.ids ≡ g.ids = one_list (IsNextTaken objects plan) (one_taken (time_of (objects plan.store)) (walked_of objects plan) (IsMember objects plan) plan.tips plan.sorting) h.ids g.ids (subst (λ p. IsListBy (IsNextTaken objects p) h.ids) same h.in_order) g.in_order in
    (g.ids, g.given, subst (λ ids. AllZip (IsGiven objects other.plan) longer (filter accepts ids)) e h.given)

abbrev DifferInGenerations : List (Result Info Error) → List (Result Info Error) → Type 0
DifferInGenerations list longer =
    (infos others : List Info) × (list ≡ given infos) × (longer ≡ given others) × AllZip (λ (a : Info) (b : Info). (a.id ≡ b.id) × (a.parent_ids.items ≡ b.parent_ids.items) × (a.commit_time ≡ b.commit_time)) infos others

-- answers that are the same commits, by rows that may differ, differ in generations alone
same_infos : {F : Type 0} (objects : F → Objects) (plan : TopoPlan F) (rows : List GraphRow) (list longer : List (Result Info Error)) (ids : List ObjectId) → AllZip (IsGiven objects plan) list ids → AllZip (IsGiven objects (record plan { rows = rows })) longer ids → DifferInGenerations list longer
same_infos objects plan rows [] [] [] g h = ([], [], refl, refl, tt)
same_infos objects plan rows [] [] (i ∷ ids) g h = absurd g
same_infos objects plan rows [] (b ∷ longer) [] g h = absurd h
same_infos objects plan rows [] (b ∷ longer) (i ∷ ids) g h = absurd g
same_infos objects plan rows (a ∷ list) longer [] g h = absurd g
same_infos objects plan rows (a ∷ list) [] (i ∷ ids) g h = absurd h
same_infos objects plan rows (Err e ∷ list) (b ∷ longer) (i ∷ ids) g h = absurd g.0
same_infos objects plan rows (Ok info ∷ list) (Err e ∷ longer) (i ∷ ids) g h = absurd h.0
same_infos objects plan rows (Ok info ∷ list) (Ok other ∷ longer) (i ∷ ids) g h =
    let rest : DifferInGenerations list longer = same_infos objects plan rows list longer ids g.1 h.1 in
    let one = g.0.info_is in
    let two = h.0.info_is in (
      info ∷ rest.0,
      other ∷ rest.1,
      ap (λ answers. Ok info ∷ answers) rest.2,
      ap (λ answers. Ok other ∷ answers) rest.3,
      ((one.same_id ∙ sym two.same_id, one.same_parents ∙ sym two.same_parents, one.same_time ∙ sym two.same_time), rest.4),
    )

pub differ_in_generations : {F P : Type 0} (objects : F → Objects) (faulty : F → ObjectId → Type 0) (answers : P → ObjectId → Bool → P → Type 0) (walk other : TopoWalk F P) (rows : List GraphRow) (accepts : ObjectId → Bool) (list longer : List (Result Info Error)) → other.plan ≡ record walk.plan { rows = rows } →
    IsWholeRun objects faulty answers walk accepts list → IsWholeRun objects faulty answers other accepts longer → DifferInGenerations list longer
differ_in_generations objects faulty answers walk other rows accepts list longer same run run_other =
    let both = with_rows objects faulty answers walk other rows accepts list longer same run run_other in
    same_infos objects walk.plan rows list longer (filter accepts both.0) both.1 (subst (λ plan. AllZip (IsGiven objects plan) longer (filter accepts both.0)) same both.2)

-- whatever the rows and the order: the same commits are taken
pub same_ids : {F P : Type 0} (objects : F → Objects) (faulty : F → ObjectId → Type 0) (answers : P → ObjectId → Bool → P → Type 0) (walk other : TopoWalk F P) (rows : List GraphRow) (sorting : Sorting) (accepts : ObjectId → Bool) (list longer : List (Result Info Error)) → other.plan ≡ record walk.plan { rows = rows; sorting = sorting } →
    IsWholeRun objects faulty answers walk accepts list → IsWholeRun objects faulty answers other accepts longer →
    (one : GivesInOrder objects walk.plan accepts list) × (two : GivesInOrder objects other.plan accepts longer) × ((i : ObjectId) → Contains one.ids i ↔ Contains two.ids i)
same_ids {F} objects faulty answers walk other rows sorting accepts list longer same run run_other =
    let plan : TopoPlan F = walk.plan in
    let g : GivesInOrder objects walk.plan accepts list = gives objects faulty answers accepts walk list run in
    let h : GivesInOrder objects other.plan accepts longer = gives objects faulty answers accepts other longer run_other in
    let b : IsListBy (IsNextTaken objects (record plan { rows = rows; sorting = sorting })) h.ids = subst (λ p. IsListBy (IsNextTaken objects p) h.ids) same h.in_order in
    let turns : (ids : List ObjectId) (s : Sorting) → IsListBy (IsNextBy s (time_of (objects plan.store)) (walked_of objects plan) (IsMember objects plan) plan.tips) ids → IsListBy (IsReadyNext (walked_of objects plan) (IsMember objects plan)) ids =
    λ ids s k. all_ready (objects plan.store) (parents_of (objects plan.store)) (text_has (objects plan.store)) plan.parents (time_of (objects plan.store)) plan.tips plan.ends ids s k in
    (g, h, same_set (walked_of objects plan) (IsMember objects plan) g.ids h.ids (turns g.ids plan.sorting g.in_order) (turns h.ids sorting b))

-- A walk through all parents, whose predicate accepts all: each once, what tips reach and ends don't, and all of it where no member is its own ancestor
abbrev IsDifference : (ObjectId → List ObjectId) → List ObjectId → List ObjectId → List ObjectId → Type 0
IsDifference next tips ends ids =
    AreDistinct ids × ((i : ObjectId) → Contains ids i → Reaches next tips i × (Reaches next ends i → ⊥))
    × (IsAcyclicIn next (IsInWalk next next tips ends) → (i : ObjectId) → Reaches next tips i → (Reaches next ends i → ⊥) → Contains ids i)

-- a list in order is that, where all parents are walked
in_order : (objects : Objects) (next : ObjectId → List ObjectId) → ((c i : ObjectId) → Contains (next c) i → Contains (text_next objects c) i) → (m : Parents) → m ≡ mode.All → (time : ObjectId → ℤ) (tips ends ids : List ObjectId) (s : Sorting) →
    IsListBy (IsNextBy s time (λ i. by_mode m (next i)) (IsInWalk (λ i. by_mode m (next i)) next tips ends) tips) ids → IsDifference next tips ends ids
in_order objects next named m all time tips ends ids s h =
    let e = each_by objects next named mode.All time tips ends ids s (subst (λ m. IsListBy (IsNextBy s time (λ i. by_mode m (next i)) (IsInWalk (λ i. by_mode m (next i)) next tips ends) tips) ids) all h) in
    (e.0, λ i c. ((e.1 i c).reached, (e.1 i c).outside), λ acyclic i r o. e.2 acyclic i (record { reached = r; outside = o }))

-- the answers are commits, and their ids are these
commit_ids : (G : Result Info Error → ObjectId → Type 0) → ((info : Info) (i : ObjectId) → G (Ok info) i → info.id ≡ i) → ((e : Error) (i : ObjectId) → G (Err e) i → ⊥) → (list : List (Result Info Error)) (ids : List ObjectId) → AllZip G list ids → given_ids list ≡ ids
commit_ids G same never [] [] h = refl
commit_ids G same never [] (i ∷ ids) h = absurd h
commit_ids G same never (a ∷ list) [] h = absurd h
commit_ids G same never (Ok info ∷ list) (i ∷ ids) h = λ k. same info i h.0 k ∷ commit_ids G same never list ids h.1 k
commit_ids G same never (Err e ∷ list) (i ∷ ids) h = absurd (never e i h.0)

module _ {F P : Type 0} (objects : F → Objects) (faulty : F → ObjectId → Type 0) (answers : P → ObjectId → Bool → P → Type 0) (walk : TopoWalk F P) (list : List (Result Info Error))
    (accepting : AnswersBy answers walk.predicate (λ i. true)) (started : IsStarted objects faulty answers walk) (all : walk.plan.parents ≡ mode.All) (agreeing : IsAgreeing (objects walk.plan.store) walk.plan.rows) where
  abbrev parents : ObjectId → List ObjectId
  parents = parents_of (objects walk.plan.store)

  module _ (whole : (i : ObjectId) → Reaches parents (walk.plan.tips ++ walk.plan.ends) i → ReadsWhole (objects walk.plan.store) i) (unrefused : All IsNoRefusal list) (drawn : Drains (Next objects faulty answers) walk list) where
    through_all : (i : ObjectId) → Reaches (walked_of objects walk.plan) walk.plan.tips i → Reaches parents walk.plan.tips i
    through_all i r = subst (λ m. Reaches (walked_parents (objects walk.plan.store) m) walk.plan.tips i) all r

    tips_whole : (i : ObjectId) → Reaches parents walk.plan.tips i → ReadsWhole (objects walk.plan.store) i
    tips_whole i r = whole i (reach_more parents walk.plan.tips (walk.plan.tips ++ walk.plan.ends) (λ j c. Contains-append_left walk.plan.tips walk.plan.ends j c) i r)

    run : IsWholeRun objects faulty answers walk (λ i. true) list
    run = record {
      by_test = accepting;
      started = started;
      sound = record {
        agreeing = agreeing;
        tips_whole = λ i r. tips_whole i (through_all i r);
        parents_whole = λ c i r n. tips_whole i (step (through_all c r) n);
        ends_whole = λ i r. whole i (reach_more parents walk.plan.ends (walk.plan.tips ++ walk.plan.ends) (λ j c. Contains-append_right walk.plan.tips walk.plan.ends j c) i r);
      };
      unrefused = unrefused;
      drawn = drawn;
    }

    -- the law
    pub difference : GivesDifference (objects walk.plan.store) walk.plan.tips walk.plan.ends list
    difference =
        let g : GivesInOrder objects walk.plan (λ i. true) list = gives objects faulty answers (λ i. true) walk list run in
        let same : given_ids list ≡ g.ids = commit_ids (IsGiven objects walk.plan) (λ info i k. k.info_is.same_id) (λ e i k. k) list g.ids (subst (AllZip (IsGiven objects walk.plan) list) (filter_all (λ i. true) g.ids (λ i c. refl)) g.given) in
        let d : IsDifference parents walk.plan.tips walk.plan.ends (given_ids list) = subst (IsDifference parents walk.plan.tips walk.plan.ends) (sym same)
        (in_order (objects walk.plan.store) parents (text_has (objects walk.plan.store)) walk.plan.parents all (time_of (objects walk.plan.store)) walk.plan.tips walk.plan.ends g.ids walk.plan.sorting g.in_order) in
        record { commits = run_faultless objects faulty answers (λ i. true) walk list run; once = d.0; shown = d.1; all = d.2 }

  -- the same by the texts
  pub text_difference : ((e : Error) → Contains list (Err e) → ⊥) → Drains (Next objects faulty answers) walk list → GivesTextDifference (objects walk.plan.store) walk.plan.tips walk.plan.ends list
  text_difference faultless drawn =
      let g : GivesTextOrder objects walk.plan (λ i. true) list = gives_text objects faulty answers (λ i. true) walk list accepting started agreeing faultless drawn in
      let same : given_ids list ≡ g.ids = commit_ids (IsTextGiven objects walk.plan) (λ info i k. k.info_is.same_id) (λ e i k. k) list g.ids (subst (AllZip (IsTextGiven objects walk.plan) list) (filter_all (λ i. true) g.ids (λ i c. refl)) g.given) in
      let d : IsDifference (text_next (objects walk.plan.store)) walk.plan.tips walk.plan.ends (given_ids list) = subst (IsDifference (text_next (objects walk.plan.store)) walk.plan.tips walk.plan.ends) (sym same)
      (in_order (objects walk.plan.store) (text_next (objects walk.plan.store)) (λ c i n. n) walk.plan.parents all (time_of (objects walk.plan.store)) walk.plan.tips walk.plan.ends g.ids walk.plan.sorting g.in_order) in
      record { once = d.0; shown = d.1; all = d.2 }
