-- What a simple walk over records gives up to a limit: the first commits of a list of what is reached.
use Rattle.std.proofs.Common.{◌≡◌, ◌≢◌, ◌≤◌, ◌-◌, ℕ, zero, suc, ⊎_elim, List, [], ◌∷◌, ◌++◌, length, map, take, filter, Bool, true, false, not, Option, Some, Ok, Contains, refl, sym, ap, subst, ◌∙◌, arith}
use Rattle.gix_commands.proofs.Common.{by_mode, ReadsParents, Yields, transport, false≢true, Contains-append_left, Contains-cons_cases, Contains-here, Contains-there, no_member, ObjectId, is_among, among_from, among_is, filter_within, Objects, GraphRow, CommitTimeOrder, Info, Parents, IsAgreeing, parents_of, time_of}
use Rattle.gix_commands.proofs.Common.{ids_of, new_ids, text_next, reach_more, reached_list, text_whole, GivesBeginning, IsBeginningBy, IsNextOne, IsBegunRun, time_order, all_kept, begun_once, begun_whole, no_start, whole_from, named_all}
use Rattle.gix_commands.proofs.Common.{reached_known, AreWhole, StartsFrom, objects_of, never_faulty, accepts_all}
use Rattle.std.proofs.lemmas.List.{length-map}
use Rattle.gix_hash.specs.Reach.{Reaches, Tells}
use Rattle.gix_simple.specs.declared.Sorting.{Sorting}
use Rattle.gix_simple.specs.Laws.{BeginsTextOrder}
use Rattle.gix_simple.proofs.Corollaries.{begins}
use Rattle.gix_simple.proofs.Faultless.{text_beginning}
use Rattle.gix_revwalk.specs.Infos.{given}
use Rattle.gix_commands.specs.Walked.{Walk, Answers}
use Rattle.gix_revwalk.proofs.Beginnings.{begins_empty}
use Rattle.gix_commands.proofs.GoesOn.{order_goes_on}
use Rattle.gix_commands.proofs.KeptLists.{followed_within, kept, list_of, starts_kept}
use Rattle.gix_commands.proofs.OtherParents.{by_texts}
use Rattle.gix_commands.proofs.TopoRuns.{named_whole}
use Rattle.gix_commands.proofs.SimpleRuns.{PaintedWhole, by_test, fresh, from_pending, given_for, left_whole, names_kept, no_faults, no_ids, opened, pending, same, same_ids, test, unrefused, was_read}
use Rattle.gix_commands.proofs.ListedCommits.{IsSimpleBy, ListsBy, followed, kept_tips}

-- the first of a list are among more of the first
pub take_less : (k n : ℕ) (xs : List ObjectId) (i : ObjectId) → k ≤ n → Contains (take k xs) i → Contains (take n xs) i
take_less zero n xs i less c = absurd (no_member i c)
take_less (suc k) zero xs i less c = absurd (omega arith)
take_less (suc k) (suc n) [] i less c = c
take_less (suc k) (suc n) (x ∷ xs) i less c = ⊎_elim (λ e. subst (λ y. Contains (x ∷ take n xs) y) e (Contains-here x (take n xs))) (λ m. Contains-there i x (take n xs) (take_less k n xs i (omega arith) m)) (Contains-cons_cases i x (take k xs) c)

-- all but the last
abbrev pub front : List ObjectId → List ObjectId
front ids = take (length ids - 1) ids

-- the ids are the first of such a list
abbrev pub AreFirstOf : (List ObjectId → Type 0) → List ObjectId → Type 0
AreFirstOf IsList ids = (whole : List ObjectId) × IsList whole × (take (length ids) whole ≡ ids)

-- what the first ids are by parents that texts name, where it is decided what is hidden
module _ (objects : Objects) (next follow : ObjectId → List ObjectId) (within : (c i : ObjectId) → Contains (follow c) i → Contains (next c) i) (named : (c i : ObjectId) → Contains (next c) i → Contains (text_next objects c) i) (order : Option CommitTimeOrder) (from hidden : List ObjectId) (hides : ObjectId → Bool) (tells : Tells hides (Reaches next hidden)) where
  abbrev through : ObjectId → List ObjectId
  through = kept objects next follow within from hidden hides tells

  abbrev begun_from : List ObjectId
  begun_from = starts_kept objects next follow within from hidden hides tells

  pub first_of : (ids : List ObjectId) → IsBeginningBy (IsNextOne order (time_of objects) through begun_from) ids → AreFirstOf (ListsBy objects next follow order from hidden) ids
  first_of ids h =
      let on = order_goes_on through begun_from (begun_from ++ named_all objects) (reached_known objects through begun_from (λ c i n. named c i (within c i (filter_within _ (follow c) i n)))) order (time_of objects) ids h in
      (on.0, list_of objects next follow within from hidden hides tells order on.0 on.1, on.2)

module _ (objects : Objects) (m : Parents) (by : Sorting) (tips hidden : List ObjectId) where
  abbrev texts : ObjectId → List ObjectId
  texts = followed objects (text_next objects) m by

  -- without hidden tips what begins a list by the parents that texts name begins such a list
  pub first_of_text : hidden ≡ [] → (ids : List ObjectId) → IsBeginningBy (IsNextOne (time_order m by) (time_of objects) texts (new_ids (λ i. false) (kept_tips objects by tips))) ids → AreFirstOf (IsSimpleBy objects (text_next objects) m by tips hidden) ids
  first_of_text none ids h =
      first_of objects (text_next objects) texts (followed_within objects (text_next objects) m by) (λ c i n. n) (time_order m by) (kept_tips objects by tips) hidden (λ i. false)
      (λ i. (λ e. absurd (false≢true e), λ r. absurd (no_start (text_next objects) hidden i r none))) ids
      (transport (λ k. IsBeginningBy (IsNextOne (time_order m by) (time_of objects) (λ c. sym (all_kept (texts c)) k) (sym (all_kept (new_ids (λ i. false) (kept_tips objects by tips))) k)) ids) h)

  -- no commit was asked for
  pub first_none : AreFirstOf (IsSimpleBy objects (text_next objects) m by tips hidden) []
  first_none =
      let below = reached_list (text_next objects) hidden (hidden ++ named_all objects) (reached_known objects (text_next objects) hidden (λ c i n. n)) in
      first_of objects (text_next objects) texts (followed_within objects (text_next objects) m by) (λ c i n. n) (time_order m by) (kept_tips objects by tips) hidden (λ i. is_among i below.0)
      (λ i. (λ e. (below.1 i).0 (among_is i below.0 e), λ r. among_from i below.0 ((below.1 i).1 r))) [] (begins_empty _)

module _ (objects : Objects) (rows : List GraphRow) (m : Parents) (by : Sorting) (tips hidden : List ObjectId) (walk : Walk) (starts : StartsFrom objects rows m by tips hidden walk) (agreeing : IsAgreeing objects rows) where
  abbrev before : Walk
  before = opened objects rows m by tips hidden walk starts

  is_before : walk ≡ before
  is_before = same objects rows m by tips hidden walk starts

  abbrev left : List ObjectId
  left = kept_tips objects by tips

  pending_tips : ids_of walk.pending ≡ new_ids (λ i. false) left
  pending_tips = pending objects rows m by tips hidden walk starts

  module _ (infos : List Info) (last : Walk) (drawn : Yields Answers walk (given infos) last) where
    abbrev ids : List ObjectId
    ids = map (λ info. info.id) infos

    drawn_so : Yields Answers before (given infos) last
    drawn_so = subst (λ w. Yields Answers w (given infos) last) is_before drawn

    -- without hidden tips, by the parents that texts name
    module _ (none : hidden ≡ []) where
      pub begun : BeginsTextOrder objects_of before (λ i. true) (given infos)
      begun =
          text_beginning objects_of never_faulty accepts_all before (λ i. true) (by_test objects rows m by tips hidden walk starts) (fresh objects rows m by tips hidden walk starts) none agreeing (given infos) last (no_faults infos) drawn_so

      text_ids : ids ≡ begun.ids
      text_ids = same_ids objects (text_next objects) rows m (time_order m by) infos begun.ids begun.given

      pub begun_text : IsBeginningBy (IsNextOne (time_order m by) (time_of objects) (followed objects (text_next objects) m by) (new_ids (λ i. false) left)) ids
      begun_text = transport (λ k. IsBeginningBy (IsNextOne (time_order m by) (time_of objects) (followed objects (text_next objects) m by) (pending_tips k)) (sym text_ids k)) begun.begins

      first_by_text : AreFirstOf (IsSimpleBy objects (text_next objects) m by tips hidden) ids
      first_by_text = first_of_text objects m by tips hidden none ids begun_text

      -- each but the last was read, and what is named behind it was given with it
      pub given_first : (c : ObjectId) → Contains (front ids) c → (info : Info) × Contains (take (length infos - 1) infos) info × (info.parent_ids.items ≡ by_mode m (text_next objects c))
      given_first c n = given_for objects (text_next objects) rows m (time_order m by) (length infos - 1) infos begun.ids begun.given c (subst (λ xs. Contains xs c) (λ k. take (length-map infos (λ (info : Info). info.id) k - 1) (text_ids k)) n)

      pub read_first : (c : ObjectId) → Contains ids c → ReadsParents objects m c
      read_first c n = was_read objects (text_next objects) rows m (time_order m by) infos begun.ids begun.given c (subst (λ xs. Contains xs c) text_ids n)

    -- with hidden tips, where the first answer was a commit, all that is painted was read
    module _ (met : PaintedWhole objects rows m by tips hidden walk starts) where
      abbrev hides : ObjectId → Bool
      hides = (test objects rows m by tips hidden walk starts).0

      tells : Tells hides (Reaches (parents_of objects) hidden)
      tells = (test objects rows m by tips hidden walk starts).1

      run : IsBegunRun objects_of never_faulty accepts_all before (λ i. true) hides (given infos) last
      run = record {
        by_test = by_test objects rows m by tips hidden walk starts;
        fresh = fresh objects rows m by tips hidden walk starts;
        tells = tells;
        meets = record {
          given = λ i r.
              let p : Reaches (parents_of objects) (ids_of walk.pending) i = from_pending objects rows m by tips hidden walk starts i r in
              met (λ e. no_start _ _ i p (λ k. ids_of (e k))) i (reach_more (parents_of objects) (ids_of walk.pending) (ids_of walk.pending ++ hidden) (λ j c. Contains-append_left (ids_of walk.pending) hidden j c) i p);
          painted = λ some behind i r. met some i r;
        };
        agreeing = agreeing;
        unrefused = unrefused infos;
        drawn = drawn_so;
      }

      pub gave : GivesBeginning objects_of before (λ i. true) hides (given infos)
      gave = begins objects_of never_faulty accepts_all before (λ i. true) hides (given infos) last run

      ids_are : ids ≡ gave.ids
      ids_are = same_ids objects (parents_of objects) rows m (time_order m by) infos gave.ids gave.given

      by_text : (c i : ObjectId) → Contains (parents_of objects c) i → Contains (text_next objects c) i
      by_text c i n = subst (λ xs. Contains xs i) (text_whole objects c (whole_from objects c (named_whole objects c i n))) n

      first_whole : AreWhole objects (left ++ hidden) → AreFirstOf (IsSimpleBy objects (text_next objects) m by tips hidden) ids
      first_whole all =
          let f = first_of objects (parents_of objects) (followed objects (parents_of objects) m by) (followed_within objects (parents_of objects) m by) by_text (time_order m by) left hidden hides tells ids
          (transport (λ k. IsBeginningBy (IsNextOne (time_order m by) (time_of objects) (names_kept objects rows m by tips hidden walk starts k) (filter (λ i. not (hides i)) (pending_tips k))) (sym ids_are k)) gave.begins) in
          (f.0, by_texts objects m by left hidden (time_order m by) f.0 all f.1, f.2)

      -- where no tip is left none was given
      pub none_given : left ≡ [] → ids ≡ []
      none_given none =
          let begun_at : filter (λ j. not (hides j)) (ids_of walk.pending) ≡ [] = ap (filter (λ j. not (hides j))) (pending_tips ∙ ap (new_ids (λ i. false)) none) in
          ids_are ∙ no_ids gave.ids (λ i c. no_start _ _ i ((begun_once (time_order m by) (time_of objects) _ _ gave.ids gave.begins).1 i c) begun_at)

  -- all that tips and hidden tips reach was read before the first commit was given
  pub met_before : (info : Info) (new : Walk) → Answers walk (Some (Ok info)) new → hidden ≢ [] → PaintedWhole objects rows m by tips hidden walk starts
  met_before info new answer behind some =
      begun_whole objects_of never_faulty accepts_all before (fresh objects rows m by tips hidden walk starts).unbegun agreeing some behind (subst (λ w. Answers w (Some (Ok info)) new) is_before answer) (λ e s. cc)

  -- what a walk gave that was drawn so far are the first commits of a list
  pub first_given : (infos : List Info) (last : Walk) → Yields Answers walk (given infos) last → AreFirstOf (IsSimpleBy objects (text_next objects) m by tips hidden) (map (λ info. info.id) infos)
  first_given [] last drawn = first_none objects m by tips hidden
  first_given (info ∷ infos) last drawn = go hidden refl left refl
    where
      go : (hs : List ObjectId) → hidden ≡ hs → (ls : List ObjectId) → left ≡ ls → AreFirstOf (IsSimpleBy objects (text_next objects) m by tips hidden) (map (λ info. info.id) (info ∷ infos))
      go [] e ls f = first_by_text (info ∷ infos) last drawn e
      go (j ∷ hs) e (l ∷ ls) f =
          let met : PaintedWhole objects rows m by tips hidden walk starts = met_before info drawn.0 drawn.1 (λ n. let c : [] ≡ j ∷ hs = sym n ∙ e in cc) in
          first_whole (info ∷ infos) last drawn met (left_whole objects rows m by tips hidden walk starts (λ n. let c : [] ≡ l ∷ ls = sym n ∙ f in cc) met)
      go (j ∷ hs) e [] f =
          let met : PaintedWhole objects rows m by tips hidden walk starts = met_before info drawn.0 drawn.1 (λ n. let c : [] ≡ j ∷ hs = sym n ∙ e in cc) in
          let no : info.id ∷ map (λ (other : Info). other.id) infos ≡ [] = none_given (info ∷ infos) last drawn met f in
          cc
