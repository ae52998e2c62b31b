-- Two walks that were built by the same calls walk the same commits in the same order.
use Rattle.std.proofs.Common.{◌≡◌, ◌↔◌, ℤ, List, [], ◌∷◌, filter, Bool, false, not, Option, Result, Ok, Err, Contains, refl, sym, ap, subst, ◌∙◌, true≢false}
use Rattle.gix_simple.proofs.Common.{transport, AllZip, IsGiven, false_from_ne_true, ObjectId, Objects, GraphRow, Parents, CommitTimeOrder, Info, Error, parents_of, time_of, Reaches, Tells, SimpleWalk, time_order, cutoff, is_older, ids_of, AnswersBy, IsWholeRun, IsListBy, IsNextKept, IsNextOne, GivesInOrder}
use Rattle.gix_simple.proofs.Common.{kept_parents, next_of, starts_of}
use Rattle.gix_revwalk.specs.declared.Parents.TheVariants as mode
use Rattle.gix_simple.specs.Runs.{AreAlike, GiveTheSame, GivesUnhidden, AreBuiltAlike, made, breadth_first, by_time, walks, hides, reads}
use Rattle.gix_revwalk.specs.Infos.{given}
use Rattle.gix_revwalk.proofs.Beginnings.{one_list}
use Rattle.gix_revwalk.proofs.OneOrder.{one_next}
use Rattle.gix_simple.proofs.Builders.{recent_ids}
use Rattle.gix_simple.proofs.Corollaries.{gives, gives_once, no_tips, all_kept, shown_reached, reached_shown}
use Rattle.gix_simple.proofs.MadeOfTips.{is_new_walk}

abbrev DifferInGenerations : List (Result Info Error) → List (Result Info Error) → Type 0
DifferInGenerations list there =
    (infos others : List Info) × (list ≡ given infos) × (there ≡ given others) × AllZip (λ (a : Info) (b : Info). (a.id ≡ b.id) × (a.parent_ids.items ≡ b.parent_ids.items) × (a.commit_time ≡ b.commit_time)) infos others

-- answers that are the same commits, by rows that may differ, differ in generations alone
same_infos : (objects : Objects) (rows those : List GraphRow) (parents : Parents) (order : Option CommitTimeOrder) (list there : List (Result Info Error)) (ids : List ObjectId) → AllZip (IsGiven objects rows parents order) list ids → AllZip (IsGiven objects those parents order) there ids → DifferInGenerations list there
same_infos objects rows those parents order [] [] [] g h = ([], [], refl, refl, tt)
same_infos objects rows those parents order [] [] (i ∷ ids) g h = absurd g
same_infos objects rows those parents order [] (b ∷ there) [] g h = absurd h
same_infos objects rows those parents order [] (b ∷ there) (i ∷ ids) g h = absurd g
same_infos objects rows those parents order (a ∷ list) there [] g h = absurd g
same_infos objects rows those parents order (a ∷ list) [] (i ∷ ids) g h = absurd h
same_infos objects rows those parents order (Err e ∷ list) (b ∷ there) (i ∷ ids) g h = absurd g.0
same_infos objects rows those parents order (Ok info ∷ list) (Err e ∷ there) (i ∷ ids) g h = absurd h.0
same_infos objects rows those parents order (Ok info ∷ list) (Ok other ∷ there) (i ∷ ids) g h =
    let rest : DifferInGenerations list there = same_infos objects rows those parents order list there ids g.1 h.1 in
    let one = g.0.info_is in
    let two = h.0.info_is in (
      info ∷ rest.0,
      other ∷ rest.1,
      ap (λ answers. Ok info ∷ answers) rest.2,
      ap (λ answers. Ok other ∷ answers) rest.3,
      ((one.same_id ∙ sym two.same_id, one.same_parents ∙ sym two.same_parents, one.same_time ∙ sym two.same_time), rest.4),
    )

module _ {F P : Type 0} (objects : F → Objects) (faulty : F → ObjectId → Type 0) (answers : P → ObjectId → Bool → P → Type 0) where
  module _ (store : F) (predicate : P) (accepts : ObjectId → Bool) (tips : List ObjectId) (by_test : AnswersBy answers predicate accepts) where
    pub are_alike : {walk other : SimpleWalk F P} → AreBuiltAlike objects faulty answers store predicate tips walk other → AreAlike walk other
    are_alike (made {a = a} {b = b} m n) =
        let x = is_new_walk objects faulty answers store predicate accepts tips a by_test m in
        let y = is_new_walk objects faulty answers store predicate accepts tips b by_test n in
        record { same_store = y.same_store ∙ sym x.same_store; same_parents = y.all_parents ∙ sym x.all_parents; same_sorting = y.breadth_first ∙ sym x.breadth_first; same_pending = y.pending ∙ sym x.pending }
    are_alike (breadth_first h) = let k = are_alike h in record { same_store = k.same_store; same_parents = k.same_parents; same_sorting = refl; same_pending = k.same_pending }
    are_alike (by_time {a = a} {b = b} {c = c} {d = d} {by = by} h s t) =
        let k = are_alike h in
        record {
          same_store = ap (λ w. w.store) t.others ∙ k.same_store ∙ sym (ap (λ w. w.store) s.others);
          same_parents = ap (λ w. w.parents) t.others ∙ k.same_parents ∙ sym (ap (λ w. w.parents) s.others);
          same_sorting = ap (λ w. w.sorting) t.others ∙ sym (ap (λ w. w.sorting) s.others);
          same_pending =
              ap ids_of t.pending ∙ recent_ids (objects b.store) (cutoff mode.All by) b.pending
              ∙ (λ j. filter (λ i. not (is_older (time_of (objects (k.same_store j)) i) (cutoff mode.All by))) (k.same_pending j))
              ∙ sym (ap ids_of s.pending ∙ recent_ids (objects a.store) (cutoff mode.All by) a.pending);
        }
    are_alike (walks h) = let k = are_alike h in record { same_store = k.same_store; same_parents = refl; same_sorting = k.same_sorting; same_pending = k.same_pending }
    are_alike (hides h) = let k = are_alike h in record { same_store = k.same_store; same_parents = k.same_parents; same_sorting = k.same_sorting; same_pending = k.same_pending }
    are_alike (reads h) = let k = are_alike h in record { same_store = k.same_store; same_parents = k.same_parents; same_sorting = k.same_sorting; same_pending = k.same_pending }

  module _ (walk other : SimpleWalk F P) (accepts : ObjectId → Bool) (alike : AreAlike walk other) where
    -- what the other walk reaches, this one reaches
    reached_too : (hidden : ObjectId → Bool) (ids : List ObjectId) → ((i : ObjectId) → Contains ids i ↔ Reaches (next_of objects other accepts hidden) (starts_of other hidden) i) → (i : ObjectId) → Contains ids i ↔ Reaches (next_of objects walk accepts hidden) (starts_of walk hidden) i
    reached_too hidden ids = transport (λ k. (i : ObjectId) → Contains ids i ↔ Reaches (kept_parents (objects (alike.same_store k)) (alike.same_parents k) accepts hidden (cutoff (alike.same_parents k) (alike.same_sorting k))) (filter (λ j. not (hidden j)) (alike.same_pending k)) i)

    pub give_the_same : (hidden : ObjectId → Bool) (list there : List (Result Info Error)) → IsWholeRun objects faulty answers walk accepts hidden list → IsWholeRun objects faulty answers other accepts hidden there → GiveTheSame objects walk other list there
    give_the_same hidden list there run run_there =
        let g : GivesInOrder objects walk accepts hidden list = gives objects faulty answers walk accepts hidden list run in
        let h : GivesInOrder objects other accepts hidden there = gives objects faulty answers other accepts hidden there run_there in
        let other_order : IsListBy (IsNextKept objects walk accepts hidden) h.ids =
        transport (λ k.
        IsListBy (IsNextOne (time_order (alike.same_parents k) (alike.same_sorting k)) (time_of (objects (alike.same_store k))) (kept_parents (objects (alike.same_store k)) (alike.same_parents k) accepts hidden (cutoff (alike.same_parents k) (alike.same_sorting k)))
        (filter (λ j. not (hidden j)) (alike.same_pending k))) h.ids) h.in_order in
        let same : g.ids ≡ h.ids = one_list (IsNextKept objects walk accepts hidden) (one_next (time_order walk.parents walk.sorting) (time_of (objects walk.store)) (next_of objects walk accepts hidden) (starts_of walk hidden)) g.ids h.ids g.in_order other_order in
        record { ids = g.ids; given = g.given; given_there = subst (AllZip (IsGiven (objects other.store) other.rows other.parents (time_order other.parents other.sorting)) there) (sym same) h.given }

    pub differ_in_generations : (hidden : ObjectId → Bool) (list there : List (Result Info Error)) → IsWholeRun objects faulty answers walk accepts hidden list → IsWholeRun objects faulty answers other accepts hidden there → DifferInGenerations list there
    differ_in_generations hidden list there run run_there =
        let same : GiveTheSame objects walk other list there = give_the_same hidden list there run run_there in
        same_infos (objects walk.store) walk.rows other.rows walk.parents (time_order walk.parents walk.sorting) list there same.ids same.given
        (transport (λ k. AllZip (IsGiven (objects (alike.same_store k)) other.rows (alike.same_parents k) (time_order (alike.same_parents k) (alike.same_sorting k))) there same.ids) same.given_there)

    pub gives_unhidden : other.hidden_tips ≡ [] → (hidden shown : ObjectId → Bool) (list longer : List (Result Info Error)) → IsWholeRun objects faulty answers walk accepts hidden list → IsWholeRun objects faulty answers other accepts shown longer → GivesUnhidden objects walk other list longer
    gives_unhidden tipless hidden shown list longer run all =
        let g : GivesInOrder objects walk accepts hidden list = gives objects faulty answers walk accepts hidden list run in
        let h : GivesInOrder objects other accepts shown longer = gives objects faulty answers other accepts shown longer all in
        let none : shown ≡ (λ i. false) = no_tips objects other shown (transport (λ k. Tells shown (Reaches (parents_of (objects other.store)) (tipless k))) all.tells) in
        let limit : Option ℤ = cutoff walk.parents walk.sorting in
        let in_g : (i : ObjectId) → Contains g.ids i ↔ Reaches (next_of objects walk accepts hidden) (starts_of walk hidden) i = (gives_once objects faulty answers walk accepts hidden list g).1 in
        let in_h : (i : ObjectId) → Contains h.ids i ↔ Reaches (next_of objects walk accepts (λ j. false)) (ids_of walk.pending) i =
        transport (λ k. (i : ObjectId) → Contains h.ids i ↔ Reaches (next_of objects walk accepts (none k)) (all_kept (ids_of walk.pending) k) i)
        (transport (λ k. (i : ObjectId) → Contains h.ids i ↔ Reaches (next_of objects walk accepts shown) (filter (λ j. not (none k j)) (ids_of walk.pending)) i) (reached_too shown h.ids (gives_once objects faulty answers other accepts shown longer h).1)) in
        record {
          ids = g.ids;
          more = h.ids;
          given = g.given;
          given_there = h.given;
          unhidden = λ i. (
            λ c.
                let r : Reaches (next_of objects walk accepts (λ j. false)) (ids_of walk.pending) i × (hidden i ≡ false) = reached_shown (objects walk.store) walk.parents accepts hidden limit (ids_of walk.pending) walk.hidden_tips run.tells i ((in_g i).0 c) in
                ((in_h i).1 r.0, λ t. true≢false (sym ((run.tells i).1 t) ∙ r.1)),
            λ c. (in_g i).1 (shown_reached (objects walk.store) walk.parents accepts hidden limit (ids_of walk.pending) walk.hidden_tips run.tells i ((in_h i).0 c.0) (false_from_ne_true _ (λ t. c.1 ((run.tells i).0 t)))),
          );
        }
