-- A simple walk that reaches whole commits alone fails for memory alone.
use Rattle.std.proofs.Common.{◌≡◌, ◌≢◌, ℕ, ℤ, List, [], ◌∷◌, ◌++◌, ◌⊎◌, Bool, true, Option, Some, None, Result, Ok, Err, Contains, refl, sym, ap, subst, ◌∙◌, ⊎_elim}
use Rattle.gix_commands.proofs.Common.{kept_in, Shown, EndsBy, Yields, Contains-append_left, Contains-append_right, Contains-append_cases, ObjectId, read_commit, IsExistingFault, kind_of, Objects, GraphRow, row_of, IsAgreeing, among_is, Contains-here}
use Rattle.gix_commands.proofs.Common.{by_mode, Contains-there, Contains-cons_cases, no_member, Info, Parents, Pending, ReadsWhole, commit_at, commit_of_object, parents_in, parents_of, step, Treated, Enqueues, dropped, enqueued}
use Rattle.gix_commands.proofs.Common.{Treats, hidden, known, accepted, store_fails, no_memory_after, TreatsAll, none, more, stops, Concludes, broken, Takes, by_row, by_store, Chooses, Steps, took, FirstStep, unhidden, paints}
use Rattle.gix_commands.proofs.Common.{faulty_history, initial, later, unrowed, ids_of, scan_is, no_fault, row_parents, walked_within, none_agree, kept_either, Fault, Simple, fault_of_walk, AreWhole, EndsWell, IsOutside, SimpleSucceeds}
use Rattle.gix_commands.proofs.Common.{walked, not_walked, StartsFrom, FailsAtStart, Ends, finished, cut_short, enough, before, objects_of, never_faulty, accepts_all}
use Rattle.gix_commands.proofs.Common.{Commits, whole_from, filter_within, only_member, reaches_from, reach_more}
use Rattle.std.proofs.lemmas.List.Sorted.{Contains-permutation, IsPermutation-sym}
use Rattle.gix_object.specs.declared.Kind.TheVariants as object
use Rattle.gix_object.specs.declared.decode.Error.{Error as DecodeError}
use Rattle.gix_object.specs.declared.find.existing_iter.Error.{Error as ExistingError}
use Rattle.gix_object.specs.CommitItems.{commit_items}
use Rattle.gix_simple.specs.declared.Error.{Error}
use Rattle.gix_simple.specs.declared.Error.TheVariants as error
use Rattle.gix_paint.specs.declared.Hidden.{Hidden}
use Rattle.gix_paint.specs.declared.Hidden.TheVariants as hidden_by
use Rattle.gix_simple.specs.declared.Sorting.{Sorting}
use Rattle.gix_hash.specs.Reach.{Reaches, start}
use Rattle.gix_simple.specs.Building.{IsTipFault}
use Rattle.gix_paint.specs.Painting.{IsFaultAt}
use Rattle.gix_simple.specs.Walk.{refused, no_memory, given, not_found, first, best, ended}
use Rattle.gix_revwalk.proofs.Committer.{fault_unread}
use Rattle.gix_simple.proofs.MadeOfTips.{is_new_walk, pending_is}
use Rattle.gix_words.specs.declared.fault.Fault.TheVariants as fault
use Rattle.gix_revwalk.specs.Texts.{scanned}
use Rattle.gix_commands.specs.Checked.{first_lost}
use Rattle.gix_commands.specs.Run as run
use Rattle.gix_commands.specs.Run.{Serves}
use Rattle.gix_revwalk.specs.Infos.{given as all_given}
use Rattle.gix_commands.specs.Walked.{Walk, Answers, IsWalkFault, failed, unstored}
use Rattle.gix_commands.specs.Chosen.{HasText}
use Rattle.gix_commands.proofs.CommitRuns.{ends_whole}
use Rattle.gix_commands.proofs.InternalFacts.{next_sound}
use Rattle.gix_commands.proofs.LostParents.{all_there}
use Rattle.gix_commands.proofs.MemoryFaults.{failed_so}
use Rattle.gix_commands.proofs.SimpleRuns.{is_tip, same}
use Rattle.gix_paint.proofs.Invariant.{own_history}
use Rattle.gix_simple.proofs.Treated.{best_moved}
use Rattle.gix_merge_base.proofs.Walked.{each_id, in_ids}

module _ (objects : Objects) (tips hiders : List ObjectId) (whole : AreWhole objects (tips ++ hiders)) where
  abbrev IsMet : ObjectId → Type 0
  IsMet i = Reaches (parents_of objects) tips i

  met_whole : (i : ObjectId) → IsMet i → ReadsWhole objects i
  met_whole i r = whole_from objects i (whole i (reach_more (parents_of objects) tips (tips ++ hiders) (λ j c. Contains-append_left tips hiders j c) i r))

  -- what a walk keeps, whose history is whole
  record Stands (w : Walk) : Type 0 where
    store : w.store ≡ objects
    rows : IsAgreeing objects w.rows
    behind : (i : ObjectId) → Contains w.hidden_tips i → Contains hiders i
    met : (p : Pending) → Contains w.pending p → IsMet p.id

  -- rows that are dropped agree
  left_agree : (rows left : List GraphRow) → IsAgreeing objects rows → (left ≡ rows) ⊎ (left ≡ []) → IsAgreeing objects left
  left_agree rows left agreeing either = ⊎_elim (λ e. subst (IsAgreeing objects) (sym e) agreeing) (λ e. none_agree objects left e) either

  no_find : (i : ObjectId) (e : ExistingError) → ReadsWhole objects i → IsExistingFault objects (never_faulty objects) i object.Commit e → ⊥
  no_find i e reads f = subst (IsExistingFault objects (never_faulty objects) i object.Commit) (no_fault objects (never_faulty objects) i reads.commit e reads.stored f) f

  no_fault_at : (i : ObjectId) (why : Hidden) → ReadsWhole objects i → IsFaultAt objects (never_faulty objects) i why → ⊥
  no_fault_at i (hidden_by.Find e) reads f = no_find i e reads f
  no_fault_at i (hidden_by.ObjectDecode e) reads f =
      let n : None ≡ Some reads.commit = sym (ap (commit_of_object i) f.1 ∙ fault_unread (commit_items (kind_of i) f.0) e f.2) ∙ reads.stored in cc

  joined : (w : Walk) (i : ObjectId) (time : ℤ) (pending : List Pending) (limit : Option ℤ) → Stands w → IsMet i → Enqueues objects_of never_faulty accepts_all limit w.pending i time pending → (p : Pending) → Contains pending p → IsMet p.id
  joined w i time pending limit s m (dropped old) p c = s.met p c
  joined w i time pending limit s m (enqueued new last) p c =
      ⊎_elim (s.met p) (λ n. subst IsMet (ap (λ x. x.id) (only_member _ p n)) m) (Contains-append_cases w.pending _ p (subst (λ ps. Contains ps p) last c))

  -- one parent is treated, and all of them
  treated : {w : Walk} {told : Bool} {i : ObjectId} {how : Treated} {v : Walk} → Treats objects_of never_faulty accepts_all w told i how v → Stands w → IsMet i → Stands v
  treated (hidden h) s m = s
  treated (known h) s m = s
  treated (refused n a) s m = record { store = s.store; rows = s.rows; behind = s.behind; met = s.met }
  treated {w} {i} (accepted {time = time} {pending = pending} n a r q) s m = record { store = s.store; rows = s.rows; behind = s.behind; met = joined w i time pending _ s m q }
  treated (store_fails n a r) s m = record { store = s.store; rows = s.rows; behind = s.behind; met = s.met }
  treated no_memory s m = s
  treated (no_memory_after n a p) s m = record { store = s.store; rows = s.rows; behind = s.behind; met = λ q c. ⊎_elim (λ e. s.met q (subst (λ ps. Contains ps q) e c)) (λ e. absurd (no_member q (subst (λ ps. Contains ps q) e c))) p }

  all_treated : {told : Bool} {w v : Walk} {ids : List ObjectId} {how : Treated} → TreatsAll objects_of never_faulty accepts_all told w ids how v → Stands w → ((i : ObjectId) → Contains ids i → IsMet i) → Stands v
  all_treated none s m = s
  all_treated (more {i = i} {ids = ids} t h) s m = all_treated h (treated t s (m i (Contains-here i ids))) (λ j c. m j (Contains-there j i ids c))
  all_treated (stops {i = i} {ids = ids} n t) s m = treated t s (m i (Contains-here i ids))

  -- what follows of an answer
  abbrev IsGood : Option (Result Info Error) → Walk → Type 0
  IsGood None new = Unit {0}
  IsGood (Some (Ok info)) new = Stands new × ((i : ObjectId) → Contains info.parent_ids.items i → IsMet i) × IsMet info.id
  IsGood (Some (Err e)) new = fault_of_walk e ≢ fault.Internal → IsOutside (fault_of_walk e)

  texted : (w : Walk) (text : List ℕ) (i : ObjectId) → Stands w → Stands (record w { text = text; current = Some i })
  texted w text i s = record { store = s.store; rows = s.rows; behind = s.behind; met = s.met }

  concluded : {i : ObjectId} {ps : List ObjectId} {generation : Option ℕ} {time : Option ℤ} {text : List ℕ} {read : Option DecodeError} {w : Walk} {how : Treated} {answer : Result Info Error} {new : Walk}
      → Concludes objects_of never_faulty accepts_all i ps generation time text read w how answer new → read ≡ None → ((j : ObjectId) → Contains ps j → IsMet j) → Stands w → IsMet i → IsGood (Some answer) new
  concluded {i} {text = text} {w = w} (given f is) e m s own = (texted w text i s, (λ j c. m j (subst (λ xs. Contains xs j) is.same_parents c)), subst IsMet (sym is.same_id) own)
  concluded (broken f) e m s own = let n : None ≡ Some _ = sym e ∙ f in cc
  concluded store_fails e m s own = λ ne. absurd (ne refl)
  concluded no_memory e m s own = λ ne. tt

  taken : {w : Walk} {p : Pending} {answer : Result Info Error} {new : Walk} → Takes objects_of never_faulty accepts_all w p answer new → Stands w → IsMet p.id → IsGood (Some answer) new
  taken {w} {p} (by_row {row = row} {ids = ids} r e t c) s m =
      let met : (i : ObjectId) → Contains (by_mode w.parents ids) i → IsMet i = λ i n. step m (subst (λ xs. Contains xs i) (row_parents objects w.rows s.rows p.id row ids r e) (walked_within w.parents ids i n)) in
      concluded c refl met (all_treated t s met) m
  taken {w} {p} (by_store {bytes = bytes} u e t c) s m =
      let reads : ReadsWhole objects p.id = met_whole p.id m in
      let text : read_commit (kind_of p.id) bytes ≡ Some reads.commit = sym (ap (commit_of_object p.id) e) ∙ ap (λ o. commit_at o p.id) s.store ∙ reads.stored in
      let scan = scan_is (kind_of p.id) bytes reads.commit text w.parents in
      let named : reads.commit.parents ≡ parents_of objects p.id = sym (ap parents_in reads.stored) in
      let left : Stands (unrowed w p.id) = record { store = s.store; rows = left_agree w.rows _ s.rows (kept_either w.rows (row_of w.rows p.id)); behind = s.behind; met = s.met } in
      let met : (i : ObjectId) → Contains (scanned w.parents (commit_items (kind_of p.id) bytes)).0 i → IsMet i = λ i n. step m (subst (λ xs. Contains xs i) named (walked_within w.parents reads.commit.parents i (subst (λ xs. Contains xs i) (ap (λ x. x.0) scan) n))) in
      concluded c (ap (λ x. x.1) scan) met (all_treated t left met) m
  taken {w} {p} (not_found {e = e} u f) s m = absurd (no_find p.id e (met_whole p.id m) (subst (λ o. IsExistingFault o (never_faulty o) p.id object.Commit e) s.store f))
  taken (no_memory r) s m = λ ne. tt

  chosen : {w : Walk} {p : Pending} {others : List Pending} → Chooses objects_of never_faulty accepts_all w p others → (q : Pending) → Contains (p ∷ others) q → Contains w.pending q
  chosen (first t is) q c = subst (λ ps. Contains ps q) (sym is) c
  chosen {w} {p} {others} (best t those) q c = Contains-permutation (p ∷ others) w.pending q (IsPermutation-sym w.pending (p ∷ others) (best_moved those)) c

  stepped : {w : Walk} {o : Option (Result Info Error)} {new : Walk} → Steps objects_of never_faulty accepts_all w o new → Stands w → IsGood o new
  stepped (ended e) s = tt
  stepped (no_memory some) s = λ ne. tt
  stepped {w} (took {taken = p} {others = others} c t) s =
      taken t (record { store = s.store; rows = s.rows; behind = s.behind; met = λ q m. s.met q (chosen c q (Contains-there q p others m)) }) (s.met p (chosen c p (Contains-here p others)))

  -- the first call, and any call
  first_called : {w : Walk} {o : Option (Result Info Error)} {new : Walk} → FirstStep objects_of never_faulty accepts_all w o new → Stands w → IsGood o new
  first_called (unhidden e steps) s = stepped steps (record { store = s.store; rows = s.rows; behind = λ i c. absurd (no_member i c); met = s.met })
  first_called {w} (paints {marks = marks} {rows = rows} some hides paint steps) s =
      stepped steps (record { store = s.store; rows = left_agree w.rows _ s.rows paint.rows_left; behind = λ i c. absurd (no_member i c); met = λ p c. s.met p (filter_within _ w.pending p c) })
  first_called {w} (faulty_history {why = why} some hides left f) s = λ ne. absurd (no_fault_at f.id why (whole_from objects f.id (whole f.id reached)) (subst (λ o. IsFaultAt o (never_faulty o) f.id why) s.store f.fault))
    where
      both : (i : ObjectId) → Contains (ids_of w.pending ++ w.hidden_tips) i → Reaches (parents_of objects) (tips ++ hiders) i
      both i c =
          ⊎_elim
          (λ m. reach_more (parents_of objects) tips (tips ++ hiders) (λ j n. Contains-append_left tips hiders j n) i (each_id IsMet w.pending s.met i m))
          (λ m. start (Contains-append_right tips hiders i (s.behind i m)))
          (Contains-append_cases (ids_of w.pending) w.hidden_tips i c)

      reached : Reaches (parents_of objects) (tips ++ hiders) f.id
      reached = reaches_from (parents_of objects) (ids_of w.pending ++ w.hidden_tips) (tips ++ hiders) both f.id (subst (λ o. Reaches (parents_of o) (ids_of w.pending ++ w.hidden_tips) f.id) s.store (f.reached w.store (own_history w.store w.rows (subst (λ o. IsAgreeing o w.rows) (sym s.store) s.rows))))
  first_called (no_memory some hides left) s = λ ne. tt

  called : {w : Walk} {o : Option (Result Info Error)} {new : Walk} → Answers w o new → Stands w → IsGood o new
  called (initial b made) s = first_called made (record { store = s.store; rows = s.rows; behind = s.behind; met = s.met })
  called (later b made) s = stepped made s

  drawn : (infos : List Info) (w at : Walk) → Yields Answers w (all_given infos) at → Stands w → Stands at
  drawn [] w at h s = subst Stands h s
  drawn (info ∷ infos) w at h s = drawn infos h.0 at h.2 (called h.1 s).0

  -- the parents of each commit given are met
  named_met : (infos : List Info) (w at : Walk) → Yields Answers w (all_given infos) at → Stands w → (info : Info) → Contains infos info → (i : ObjectId) → Contains info.parent_ids.items i → IsMet i
  named_met [] w at h s info c i n = absurd (no_member info c)
  named_met (one ∷ infos) w at h s info c i n =
      let good = called h.1 s in
      ⊎_elim (λ e. good.1 i (subst (λ (x : Info). Contains x.parent_ids.items i) (sym e) n)) (λ m. named_met infos h.0 at h.2 good.0 info m i n) (Contains-cons_cases info one infos c)

  begins : (rows : List GraphRow) → IsAgreeing objects rows → (ms : Parents) (by : Sorting) (walk : Walk) → StartsFrom objects rows ms by tips hiders walk → Stands walk
  begins rows agreeing ms by walk starts =
      let is = same objects rows ms by tips hiders walk starts in
      record {
        store = ap (λ w. w.store) is;
        rows = subst (IsAgreeing objects) (sym (ap (λ w. w.rows) is)) agreeing;
        behind = λ i c. subst (λ xs. Contains xs i) (ap (λ w. w.hidden_tips) is) c;
        met = λ p c. start (is_tip objects rows ms by tips hiders walk starts p.id (in_ids walk.pending p c));
      }

  -- no parent is lost of the commits that a walk gave which was started so
  pub none_lost : (rows : List GraphRow) → IsAgreeing objects rows → (ms : Parents) (by : Sorting) (walk : Walk) → StartsFrom objects rows ms by tips hiders walk → (infos : List Info) (at : Walk) → Yields Answers walk (all_given infos) at → (info : Info) → Contains infos info → first_lost objects rows info.parent_ids.items ≡ None
  none_lost rows agreeing ms by walk starts infos at h info c = all_there objects rows info.parent_ids.items (λ i n. met_whole i (named_met infos walk at h (begins rows agreeing ms by walk starts) info c i n))

  -- a walk that was started so
  pub drawn_well : {Has : ObjectId → Type 0} → ((i : ObjectId) → IsMet i → Has i) → (rows : List GraphRow) → IsAgreeing objects rows → (ms : Parents) (by : Sorting) (walk : Walk) → StartsFrom objects rows ms by tips hiders walk → (infos : List Info) (answer : Result (Unit {0}) Fault) → Ends Answers IsWalkFault Has walk infos answer → EndsWell answer
  drawn_well each rows agreeing ms by walk starts infos answer (finished new h) = tt
  drawn_well each rows agreeing ms by walk starts infos answer (failed e f new h is) = subst IsOutside (sym is) (called h.2 (drawn infos walk h.0 h.1 (begins rows agreeing ms by walk starts)) (next_sound h.2))
  drawn_well each rows agreeing ms by walk starts infos answer (cut_short info new h) = tt
  drawn_well each rows agreeing ms by walk starts infos answer (unstored info new h lacks) = absurd (lacks (each info.id (called h.2 (drawn infos walk h.0 h.1 (begins rows agreeing ms by walk starts))).2))

  pub started_well : (by : Sorting) (e : Error) → FailsAtStart objects by tips e → IsOutside (fault_of_walk e)
  started_well by e f = go e f.fails.fault
    where
      stored_so : f.made.store ≡ objects
      stored_so = (is_new_walk objects_of never_faulty accepts_all objects (record {}) (λ i. true) tips f.made (λ mid last i answer b h. h.0) f.makes).same_store

      among : Contains f.made.pending f.fails.tip
      among = subst (λ ps. Contains ps f.fails.tip) (sym f.fails.place) (Contains-append_right f.fails.before (f.fails.tip ∷ f.fails.behind) f.fails.tip (Contains-here f.fails.tip f.fails.behind))

      reads : ReadsWhole objects f.fails.tip.id
      reads = met_whole f.fails.tip.id (start (among_is f.fails.tip.id tips (pending_is objects_of never_faulty accepts_all objects (record {}) (λ i. true) tips f.made (λ mid last i answer b h. h.0) f.makes f.fails.tip.id (in_ids f.made.pending f.fails.tip among)).1))

      go : (e : Error) → IsTipFault f.made.store (never_faulty f.made.store) f.fails.tip.id e → IsOutside (fault_of_walk e)
      go (error.Find x) h = absurd (no_fault_at f.fails.tip.id (hidden_by.Find x) reads (subst (λ o. IsFaultAt o (never_faulty o) f.fails.tip.id (hidden_by.Find x)) stored_so h))
      go (error.ObjectDecode x) h = absurd (no_fault_at f.fails.tip.id (hidden_by.ObjectDecode x) reads (subst (λ o. IsFaultAt o (never_faulty o) f.fails.tip.id (hidden_by.ObjectDecode x)) stored_so h))
      go (error.HiddenGraph x) h = absurd h
      go error.Memory h = tt

module _ (Stored : ObjectId → Type 0) (objects : Objects) (rows : List GraphRow) (agreeing : IsAgreeing objects rows) (old : Option (List ℕ)) where
  pub well : (ms : Parents) (by : Sorting) (shown : Shown) (tips hiders : List ObjectId) → AreWhole objects (tips ++ hiders) → ((i : ObjectId) → Reaches (parents_of objects) tips i → HasText Stored shown i) → (answer : Result (Unit {0}) Fault) (new : Option (List ℕ)) → Serves Stored objects rows old (Commits (Simple ms by) shown tips hiders) answer new → EndsWell answer
  well ms by shown tips hiders whole texts answer new (walked walk infos starts ends have parents written) = go shown.limit answer ends
    where
      go : (limit : Option ℕ) (answer : Result (Unit {0}) Fault) → EndsBy Answers IsWalkFault (HasText Stored shown) (kept_in objects shown) limit walk infos answer → EndsWell answer
      go None answer ends = drawn_well objects tips hiders whole texts rows agreeing ms by walk starts infos answer ends
      go (Some n) answer (enough at h e) = tt
      go (Some n) answer (before ends less) = drawn_well objects tips hiders whole texts rows agreeing ms by walk starts infos answer ends
  well ms by shown tips hiders whole texts answer new (run.lost walk at infos {why = why} other starts h less l have written) =
      let last : Contains infos l.last = subst (λ xs. Contains xs l.last) (sym l.place) (Contains-append_right l.before (l.last ∷ []) l.last (Contains-here l.last [])) in
      failed_so EndsWell tt (Err why) why refl (λ not_memory. let no : None ≡ Some why = sym (none_lost objects tips hiders whole rows agreeing ms by walk starts infos at h l.last last) ∙ l.lacks not_memory in cc)
  well ms by shown tips hiders whole texts answer new (not_walked e f) = started_well objects tips hiders whole by e f
  well ms by shown tips hiders whole texts answer new s = tt

pub simple_succeeds : SimpleSucceeds
simple_succeeds words input records ms by shown tips hiders answer old new asked are whole =
    ends_whole words input records (Commits (Simple ms by) shown tips hiders) (tips ++ hiders) answer old new asked are whole (λ Stored objects rows each agreeing all. well Stored objects rows agreeing old ms by shown tips hiders all (λ i r e. each i))
