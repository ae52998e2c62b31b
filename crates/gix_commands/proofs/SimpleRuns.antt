-- What a simple walk over records gives that is drawn to its end, by what commits reach.
use Rattle.std.proofs.Common.{◌≡◌, ◌≢◌, ◌≤◌, ℕ, zero, suc, length, take, take_all, arith, List, [], ◌∷◌, ◌++◌, map, filter, Bool, true, false, not, Option, None, Ok, Err, Contains, All, IsSome, refl, sym, ap, subst, ◌∙◌, ⊎_elim}
use Rattle.gix_commands.proofs.Common.{All-contains, commit_at, Pending, Contains-there, Drains, Yields, transport, false≢true, All-nil, All-cons, Contains-append_left, Contains-append_right, Contains-append_cases, among_from, among_is, Contains-here, Contains-cons_cases, no_member}
use Rattle.gix_commands.proofs.Common.{ObjectId, is_among, Objects, GraphRow, Info, Parents, CommitTimeOrder, ReadsWhole, by_mode, parents_of, time_of, IsAgreeing, new_ids, ids_of, text_next, IsFresh, IsGivenBy, IsNewWalk}
use Rattle.gix_commands.proofs.Common.{ReadsParents, IsListBy, IsNextOne, next_of, is_older, cutoff, time_order, reached_list, all_kept, drawn_whole, loosened, no_start, named_all, reached_known, AreWhole}
use Rattle.gix_commands.proofs.Common.{StartsFrom, objects_of, never_faulty, accepts_all, filter_within, filter_all, reach_more}
use Rattle.std.specs.List.{AllZip}
use Rattle.std.proofs.lemmas.List.{length-map}
use Rattle.gix_revwalk.specs.declared.Parents.TheVariants as mode
use Rattle.gix_simple.specs.declared.Error.{Error}
use Rattle.gix_simple.specs.declared.Sorting.{Sorting}
use Rattle.gix_simple.specs.declared.Sorting.TheVariants as sorting
use Rattle.gix_hash.specs.Reach.{Reaches, Tells}
use Rattle.gix_simple.specs.Building.{IsBuilt, made, breadth_first, by_time, hides, reads, walks}
use Rattle.gix_revwalk.specs.Asking.{AnswersBy}
use Rattle.gix_simple.specs.Laws.{IsNoRefusal, IsWholeRun, GivesInOrder, GivesTextOrder}
use Rattle.gix_simple.proofs.Builders.{built}
use Rattle.gix_simple.proofs.Corollaries.{gives}
use Rattle.gix_simple.proofs.Faultless.{faultless}
use Rattle.gix_simple.proofs.ReachDecided.{reach_test}
use Rattle.gix_simple.proofs.MadeOfTips.{is_new_walk}
use Rattle.gix_revwalk.specs.Infos.{given}
use Rattle.gix_commands.specs.Walked.{Walk, Answers, IsSorted}
use Rattle.gix_commands.proofs.KeptLists.{empty_order, filter_both, followed_within, kept, kept_ids, list_of, new_kept}
use Rattle.gix_merge_base.proofs.Members.{new_within}
use Rattle.gix_commands.proofs.SameOrders.{new_in}
use Rattle.gix_commands.proofs.ListedCommits.{IsSimpleBy, followed, kept_tips}
use Rattle.gix_merge_base.proofs.Walked.{each_id}

pub unrefused : (infos : List Info) → All IsNoRefusal (given infos)
unrefused [] = All-nil IsNoRefusal
unrefused (info ∷ infos) = All-cons IsNoRefusal (Ok info) (given infos) ((λ e. cc), (λ e. cc), (λ e. cc)) (unrefused infos)

pub no_faults : (infos : List Info) (e : Error) → Contains (given infos) (Err e) → ⊥
no_faults [] e c = no_member (Err e) c
no_faults (info ∷ infos) e c = ⊎_elim (λ s. cc) (no_faults infos e) (Contains-cons_cases (Err e) (Ok info) (given infos) c)

module _ (objects : Objects) (named : ObjectId → List ObjectId) (rows : List GraphRow) (m : Parents) (order : Option CommitTimeOrder) where
  pub same_ids : (infos : List Info) (ids : List ObjectId) → AllZip (IsGivenBy objects named rows m order) (given infos) ids → map (λ info. info.id) infos ≡ ids
  same_ids [] [] h = refl
  same_ids [] (i ∷ ids) h = absurd h
  same_ids (info ∷ infos) [] h = absurd h
  same_ids (info ∷ infos) (i ∷ ids) h = (λ k. h.0.info_is.same_id k ∷ same_ids infos ids h.1 k)

  -- the commit that was given for one of the first ids
  pub given_for : (k : ℕ) (infos : List Info) (ids : List ObjectId) → AllZip (IsGivenBy objects named rows m order) (given infos) ids → (i : ObjectId) → Contains (take k ids) i → (info : Info) × Contains (take k infos) info × (info.parent_ids.items ≡ by_mode m (named i))
  given_for zero infos ids h i c = absurd (no_member i c)
  given_for (suc k) [] [] h i c = absurd (no_member i c)
  given_for (suc k) [] (j ∷ ids) h i c = absurd h
  given_for (suc k) (info ∷ infos) [] h i c = absurd h
  given_for (suc k) (info ∷ infos) (j ∷ ids) h i c =
      ⊎_elim (λ e. (info, Contains-here info (take k infos), h.0.info_is.same_parents ∙ ap (λ x. by_mode m (named x)) e))
      (λ t. let g : (one : Info) × Contains (take k infos) one × (one.parent_ids.items ≡ by_mode m (named i)) = given_for k infos ids h.1 i t in (g.0, Contains-there g.0 info (take k infos) g.1, g.2))
      (Contains-cons_cases i j (take k ids) c)

  -- each was read
  pub was_read : (infos : List Info) (ids : List ObjectId) → AllZip (IsGivenBy objects named rows m order) (given infos) ids → (i : ObjectId) → Contains ids i → ReadsParents objects m i
  was_read [] [] h i c = absurd (no_member i c)
  was_read [] (j ∷ ids) h i c = absurd h
  was_read (info ∷ infos) [] h i c = absurd h
  was_read (info ∷ infos) (j ∷ ids) h i c = ⊎_elim (λ e. subst (ReadsParents objects m) e h.0.read) (was_read infos ids h.1 i) (Contains-cons_cases i j ids c)

-- what sorting leaves
record Follows (by : Sorting) (first sorted : Walk) : Type 0 where
  store : sorted.store ≡ first.store
  sorting : sorted.sorting ≡ by
  pending : ids_of sorted.pending ≡ filter (λ i. not (is_older (time_of first.store i) (cutoff mode.All by))) (ids_of first.pending)

follows : (by : Sorting) (first sorted : Walk) → IsSorted first by sorted → Follows by first sorted
follows sorting.BreadthFirst first sorted e = record { store = ap (λ w. w.store) e; sorting = ap (λ w. w.sorting) e; pending = ap (λ w. ids_of w.pending) e ∙ sym (all_kept (ids_of first.pending)) }
follows (sorting.ByCommitTime order) first sorted s = record {
  store = ap (λ w. w.store) s.others;
  sorting = ap (λ w. w.sorting) s.others;
  pending = ap ids_of s.pending ∙ kept_ids first.store (cutoff mode.All (sorting.ByCommitTime order)) first.pending;
}
follows (sorting.ByCommitTimeCutoff order seconds) first sorted s = record {
  store = ap (λ w. w.store) s.others;
  sorting = ap (λ w. w.sorting) s.others;
  pending = ap ids_of s.pending ∙ kept_ids first.store (cutoff mode.All (sorting.ByCommitTimeCutoff order seconds)) first.pending;
}

pub none_left : (ids : List ObjectId) → ids ≢ [] → ((i : ObjectId) → Contains ids i → ⊥) → ⊥
none_left [] some none = some refl
none_left (i ∷ ids) some none = none i (Contains-here i ids)

pub no_ids : (ids : List ObjectId) → ((i : ObjectId) → Contains ids i → ⊥) → ids ≡ []
no_ids [] none = refl
no_ids (i ∷ ids) none = absurd (none i (Contains-here i ids))

-- where no tip is left, the list of nothing is right
pub none_listed : (objects : Objects) (m : Parents) (by : Sorting) (tips hidden : List ObjectId) → kept_tips objects by tips ≡ [] → IsSimpleBy objects (text_next objects) m by tips hidden []
none_listed objects m by tips hidden none =
    let texts = text_next objects in
    let below = reached_list texts hidden (hidden ++ named_all objects) (reached_known objects texts hidden (λ c i n. n)) in
    let hidden_so : ObjectId → Bool = (λ i. is_among i below.0) in
    list_of objects texts (followed objects texts m by) (followed_within objects texts m by) (kept_tips objects by tips) hidden hidden_so (λ i. (λ e. (below.1 i).0 (among_is i below.0 e), λ r. among_from i below.0 ((below.1 i).1 r))) (time_order m by) []
    (transport (λ k. IsListBy (IsNextOne (time_order m by) (time_of objects) (λ c. filter (λ i. not (hidden_so i)) (followed objects texts m by c)) (filter (λ i. not (hidden_so i)) (new_ids (λ i. false) (sym none k)))) [])
    (empty_order (time_order m by) (time_of objects) (λ c. filter (λ i. not (hidden_so i)) (followed objects texts m by c))))

-- by time the tips were read
read_tips : (by : Sorting) (first sorted : Walk) → IsSorted first by sorted → by ≢ sorting.BreadthFirst → (i : ObjectId) → Contains (ids_of first.pending) i → IsSome (commit_at first.store i)
read_tips sorting.BreadthFirst first sorted s other i c = absurd (other refl)
read_tips (sorting.ByCommitTime order) first sorted s other i c = each_id (λ j. IsSome (commit_at first.store j)) first.pending (λ p m. All-contains (λ (q : Pending). IsSome (commit_at first.store q.id)) first.pending p s.read m) i c
read_tips (sorting.ByCommitTimeCutoff order seconds) first sorted s other i c = each_id (λ j. IsSome (commit_at first.store j)) first.pending (λ p m. All-contains (λ (q : Pending). IsSome (commit_at first.store q.id)) first.pending p s.read m) i c

module _ (objects : Objects) (rows : List GraphRow) (m : Parents) (by : Sorting) (tips hidden : List ObjectId) (walk : Walk) (starts : StartsFrom objects rows m by tips hidden walk) where
  -- the walk before its first step, its options written out
  abbrev pub opened : Walk
  opened = record walk { store = objects; rows = rows; parents = m; sorting = by; hidden_tips = hidden }

  new_walk : IsNewWalk objects_of accepts_all objects (λ i. true) tips starts.made
  new_walk = is_new_walk objects_of never_faulty accepts_all objects (record {}) (λ i. true) tips starts.made (λ mid new i answer b h. h.0) starts.makes

  sorted_so : Follows by starts.made starts.sorted
  sorted_so = follows by starts.made starts.sorted starts.sorts

  pub same : walk ≡ opened
  same =
      let s : walk.store ≡ objects = ap (λ w. w.store) starts.hides ∙ sorted_so.store ∙ new_walk.same_store in
      let r : walk.rows ≡ rows = ap (λ w. w.rows) starts.hides in
      let p : walk.parents ≡ m = ap (λ w. w.parents) starts.hides in
      let b : walk.sorting ≡ by = ap (λ w. w.sorting) starts.hides ∙ sorted_so.sorting in
      let h : walk.hidden_tips ≡ hidden = ap (λ w. w.hidden_tips) starts.hides in
      (λ k. record walk { store = s k; rows = r k; parents = p k; sorting = b k; hidden_tips = h k })

  -- the tips that a cutoff leaves
  abbrev pub left : List ObjectId
  left = kept_tips objects by tips

  pub pending : ids_of walk.pending ≡ new_ids (λ i. false) left
  pending =
      let first : ids_of starts.made.pending ≡ new_ids (λ i. false) tips = new_walk.pending ∙ ap (new_ids (λ i. false)) (filter_all (λ i. true) tips (λ i c. refl)) in
      ap (λ w. ids_of w.pending) starts.hides ∙ sorted_so.pending
      ∙ (λ k. filter (λ i. not (is_older (time_of (new_walk.same_store k) i) (cutoff mode.All by))) (first k))
      ∙ new_kept (λ i. not (is_older (time_of objects i) (cutoff mode.All by))) (λ i. false) (λ i. false) tips (λ i k. refl)

  pub tips_read : by ≢ sorting.BreadthFirst → (i : ObjectId) → Contains tips i → IsSome (commit_at objects i)
  tips_read other i c =
      let first : ids_of starts.made.pending ≡ new_ids (λ i. false) tips = new_walk.pending ∙ ap (new_ids (λ i. false)) (filter_all (λ i. true) tips (λ i c. refl)) in
      subst (λ o. IsSome (commit_at o i)) new_walk.same_store (read_tips by starts.made starts.sorted starts.sorts other i (subst (λ xs. Contains xs i) (sym first) (new_in tips i c)))

  is_left : (i : ObjectId) → Contains (ids_of walk.pending) i → Contains left i
  is_left i c = new_within (λ j. false) left i (subst (λ xs. Contains xs i) pending c)

  pub is_tip : (i : ObjectId) → Contains (ids_of walk.pending) i → Contains tips i
  is_tip i c = filter_within _ tips i (is_left i c)

  is_pending : (i : ObjectId) → Contains left i → Contains (ids_of walk.pending) i
  is_pending i c = subst (λ xs. Contains xs i) (sym pending) (new_in left i c)

  some_pending : left ≢ [] → walk.pending ≢ []
  some_pending some e = none_left left some (λ j c. no_member j (subst (λ xs. Contains (ids_of xs) j) e (is_pending j c)))

  both_pending : (j : ObjectId) → Contains (left ++ hidden) j → Contains (ids_of walk.pending ++ hidden) j
  both_pending j c = ⊎_elim (λ t. Contains-append_left (ids_of walk.pending) hidden j (is_pending j t)) (λ t. Contains-append_right (ids_of walk.pending) hidden j t) (Contains-append_cases left hidden j c)

  -- how it was built
  abbrev Made : Walk → Type 0
  Made = IsBuilt objects_of never_faulty accepts_all objects (record {}) tips

  sorted_built : (order : Sorting) (first sorted : Walk) → Made first → IsSorted first order sorted → Made sorted
  sorted_built sorting.BreadthFirst first sorted b e = subst Made (sym e) (breadth_first b)
  sorted_built (sorting.ByCommitTime order) first sorted b s = by_time b s
  sorted_built (sorting.ByCommitTimeCutoff order seconds) first sorted b s = by_time b s

  is_built : Made walk
  is_built = subst Made (sym starts.hides) (reads {rows = rows} (hides {ids = hidden} (walks {parents = m} (sorted_built by starts.made starts.sorted (made starts.makes) starts.sorts))))

  is_fresh : IsFresh objects_of walk (λ i. true) × AnswersBy accepts_all walk.predicate (λ i. true) × (walk.store ≡ objects)
  is_fresh = built objects_of never_faulty accepts_all (λ i. true) objects (record {}) (λ mid new i answer b h. h.0) tips walk is_built

  pub fresh : IsFresh objects_of opened (λ i. true)
  fresh = subst (λ w. IsFresh objects_of w (λ i. true)) same is_fresh.0

  pub by_test : AnswersBy accepts_all opened.predicate (λ i. true)
  by_test = is_fresh.1

  pub test : (tells : ObjectId → Bool) × Tells tells (Reaches (parents_of objects) hidden)
  test = reach_test objects hidden

  -- what is followed, without what is hidden, is what a walk names
  abbrev pub parents_kept : ObjectId → List ObjectId
  parents_kept = kept objects (parents_of objects) (followed objects (parents_of objects) m by) (followed_within objects (parents_of objects) m by) left hidden test.0 test.1

  pub names_kept : next_of objects_of opened (λ i. true) test.0 ≡ parents_kept
  names_kept = λ k c. sym (filter_both (λ i. not (test.0 i)) (λ i. not (is_older (time_of objects i) (cutoff m by))) (by_mode m (parents_of objects c))) k

  -- what is given is reached by pending commits
  pub from_pending : (i : ObjectId) → Reaches (next_of objects_of opened (λ j. true) test.0) (filter (λ j. not (test.0 j)) (ids_of walk.pending)) i → Reaches (parents_of objects) (ids_of walk.pending) i
  from_pending i r = reach_more (parents_of objects) _ (ids_of walk.pending) (λ j c. filter_within _ (ids_of walk.pending) j c) i (loosened objects m (λ j. true) test.0 (cutoff m by) _ i r)

  -- all that is painted reads whole
  abbrev pub PaintedWhole : Type 0
  PaintedWhole = walk.pending ≢ [] → (i : ObjectId) → Reaches (parents_of objects) (ids_of walk.pending ++ hidden) i → ReadsWhole objects i

  pub left_whole : left ≢ [] → PaintedWhole → AreWhole objects (left ++ hidden)
  left_whole some whole i r = let w : ReadsWhole objects i = whole (some_pending some) i (reach_more (parents_of objects) (left ++ hidden) (ids_of walk.pending ++ hidden) both_pending i r) in subst IsSome (sym w.stored) refl

  module _ (agreeing : IsAgreeing objects rows) (infos : List Info) (at new : Walk) (drawn : Yields Answers walk (given infos) at) (ended : Answers at None new) where
    abbrev ids : List ObjectId
    ids = map (λ info. info.id) infos

    drained : Drains Answers opened (given infos)
    drained = subst (λ w. Drains Answers w (given infos)) same (new, (at, drawn, ended))

    -- with hidden tips it is a list by the parents of commits
    module _ (behind : hidden ≢ []) where
      met : PaintedWhole
      met some = drawn_whole objects_of never_faulty accepts_all opened (given infos) is_fresh.0.unbegun agreeing some behind (no_faults infos) drained

      -- where a tip is left, all that tips and hidden tips reach was read
      pub all_read : left ≢ [] → AreWhole objects (left ++ hidden)
      all_read some = left_whole some met

      run : IsWholeRun objects_of never_faulty accepts_all opened (λ i. true) test.0 (given infos)
      run = record {
        by_test = by_test;
        fresh = fresh;
        tells = test.1;
        meets = record {
          given = λ i r.
              let p : Reaches (parents_of objects) (ids_of walk.pending) i = from_pending i r in
              met (λ e. no_start _ _ i p (ap ids_of e)) i (reach_more (parents_of objects) (ids_of walk.pending) (ids_of walk.pending ++ hidden) (λ j c. Contains-append_left (ids_of walk.pending) hidden j c) i p);
          painted = λ some behind i r. met some i r;
        };
        agreeing = agreeing;
        unrefused = unrefused infos;
        drawn = drained;
      }

      gave : GivesInOrder objects_of opened (λ i. true) test.0 (given infos)
      gave = gives objects_of never_faulty accepts_all opened (λ i. true) test.0 (given infos) run

      ids_are : ids ≡ gave.ids
      ids_are = same_ids objects (parents_of objects) rows m (time_order m by) infos gave.ids gave.given

      pub listed_whole : IsSimpleBy objects (parents_of objects) m by tips hidden ids
      listed_whole =
          list_of objects (parents_of objects) (followed objects (parents_of objects) m by) (followed_within objects (parents_of objects) m by) left hidden test.0 test.1 (time_order m by) ids
          (transport (λ k. IsListBy (IsNextOne (time_order m by) (time_of objects) (names_kept k) (filter (λ i. not (test.0 i)) (pending k))) (sym ids_are k)) gave.in_order)

      -- where no tip is left nothing is listed
      pub listed_none : left ≡ [] → IsSimpleBy objects (text_next objects) m by tips hidden ids
      listed_none none = subst (IsSimpleBy objects (text_next objects) m by tips hidden) (sym (no_ids ids (λ i c. no_start _ left i ((listed_whole.exact i).0 c).reached none))) (none_listed objects m by tips hidden none)

    -- without hidden tips it is one by the parents that texts name
    module _ (none : hidden ≡ []) where
      told : GivesTextOrder objects_of opened (λ i. true) (given infos)
      told = faultless objects_of never_faulty accepts_all opened (λ i. true) (given infos)
          (record { by_test = by_test; fresh = fresh; open_to = none; agreeing = agreeing; commits = no_faults infos; drawn = drained })

      told_ids : ids ≡ told.ids
      told_ids = same_ids objects (text_next objects) rows m (time_order m by) infos told.ids told.given

      abbrev through : ObjectId → List ObjectId
      through = followed objects (text_next objects) m by

      starts_are : ids_of walk.pending ≡ filter (λ i. not false) (new_ids (λ i. false) left)
      starts_are = pending ∙ sym (all_kept (new_ids (λ i. false) left))

      pub listed_text : IsSimpleBy objects (text_next objects) m by tips hidden ids
      listed_text =
          list_of objects (text_next objects) through (followed_within objects (text_next objects) m by) left hidden (λ i. false)
          (λ i. (λ e. absurd (false≢true e), λ r. absurd (no_start (text_next objects) hidden i r none))) (time_order m by) ids
          (transport (λ k. IsListBy (IsNextOne (time_order m by) (time_of objects) (λ c. sym (all_kept (through c)) k) (starts_are k)) (sym told_ids k)) told.in_order)

      -- what is named behind a commit was given with it
      pub given_with : (c : ObjectId) → Reaches through left c → (info : Info) × Contains infos info × (info.parent_ids.items ≡ by_mode m (text_next objects c))
      given_with c r =
          let listed : Contains told.ids c = (told.reached c).1 (reach_more through left (ids_of walk.pending) is_pending c r) in
          let g = given_for objects (text_next objects) rows m (time_order m by) (length infos) infos told.ids told.given c (subst (λ xs. Contains xs c) (sym (take_all (length infos) told.ids same_length)) listed) in
          (g.0, subst (λ xs. Contains xs g.0) (take_all (length infos) infos (omega arith)) g.1, g.2)
        where
          same_length : length told.ids ≤ length infos
          same_length = let same : length ids ≡ length told.ids = ap length told_ids in let mapped : length ids ≡ length infos = length-map infos (λ (info : Info). info.id) in omega (arith, same, mapped)
