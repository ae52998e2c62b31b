-- What the search tells in the end, and why it fails.
use Rattle.std.proofs.Common.{◌≡◌, ◌≢◌, ◌⊎◌, ◌+◌, ◌-◌, ◌^◌, ◌≤◌, ℕ, suc, List, [], ◌∷◌, ◌++◌, map, length, Bool, true, false, ◌||◌, Some, None, Contains, IsPermutation, flat_map, refl, sym, ap, subst, inl, inr, ⊎_elim, ◌∙◌, arith}
use Rattle.std.specs.FinMap as map_of
use Rattle.std.specs.FinSet as set
use Rattle.std.proofs.lemmas.Bool.{false≢true, or_left, or_right}
use Rattle.std.proofs.lemmas.List.Sorted.{Contains-permutation, IsPermutation-sym, length_permutation}
use Rattle.gix_hash.specs.declared.ObjectId.{ObjectId}
use Rattle.gix_hash.specs.Id.{is_among}
use Rattle.gix_hash.specs.Reach.{Reaches, start, step}
use Rattle.gix_hash.proofs.Ids.Membership.{among-append, among_from, Contains-here, Contains-there, no_member}
use Rattle.gix_object.specs.Object.{Object, Objects}
use Rattle.gix_commitgraph.specs.Rows.{GraphRow, row_of}
use Rattle.gix_contained.specs.declared.search.Search.{Search}
use Rattle.gix_contained.specs.declared.waiting.Waiting.{Waiting}
use Rattle.gix_contained.specs.Contained.{DropsBy}
use Rattle.gix_paint.specs.Reading.{by_row, by_store, drops, IsPassed, Reads}
use Rattle.gix_contained.specs.Inside.Search.{AreAsked, brings, Decides, FollowFails, Follows, GivesParents, brought, looked_up, IsLowest, MeetFails, Meets, AskedId, SearchFails, Queued, room}
use Rattle.gix_contained.proofs.Holding.{Holds, blank, dropped_for, given_there, met, passed_by, popped, unreached, all_read}
use Rattle.gix_paint.specs.declared.Hidden.{Hidden}
use Rattle.gix_revwalk.specs.Infos.{generation_in}
use Rattle.gix_paint.specs.Painting.{IsFaultAt, IsHistory}
use Rattle.gix_revwalk.specs.Agreeing.{rows_of}
use Rattle.gix_revwalk.specs.Commits.{commit_of_object, parents_in, parents_of}
use Rattle.gix_revwalk.specs.Ids.{new_ids}
use Rattle.gix_revwalk.specs.Reading.{DropsRows}
use Rattle.gix_revwalk.proofs.NewIds.{among_flat}
use Rattle.gix_revwalk.proofs.Rows.{found_entry, ids_in_rows}

-- the ids that rows and stored commits name
abbrev pub names : Objects → List GraphRow → List ObjectId
names objects rows = map (λ row. row.id) rows ++ flat_map (λ entry. parents_of objects entry.0) (map_of.entries objects)

pub among_stored : (objects : Objects) (c : ObjectId) (ids : List ObjectId) → Reads objects c ids → (i : ObjectId) → Contains ids i → is_among i (flat_map (λ entry. parents_of objects entry.0) (map_of.entries objects)) ≡ true
among_stored objects c ids r i m = go (map_of.get objects c) refl r.1
  where
    go : (o : Rattle.std.proofs.Common.Option Object) → map_of.get objects c ≡ o → commit_of_object c (map_of.get objects c) ≡ Some r.0 → is_among i (flat_map (λ entry. parents_of objects entry.0) (map_of.entries objects)) ≡ true
    go None e f = let bad : None ≡ Some r.0 = sym (ap (commit_of_object c) e) ∙ f in cc
    go (Some o) e f =
        among_flat (λ entry. parents_of objects entry.0) (map_of.entries objects) (c, o) i (found_entry (map_of.entries objects) c o (sym (map_of.get-entries objects c) ∙ e))
        (among_from i _ (subst (λ xs. Contains xs i) (r.2 ∙ sym (ap parents_in r.1)) m))

among_names : (objects : Objects) (rows : List GraphRow) {in_use after : Bool} {w : Waiting} {ids : List ObjectId} → ((those : List ObjectId) → brings w ≡ Some those → Reads objects w.id those) → GivesParents objects rows in_use w ids after
    → (i : ObjectId) → Contains ids i → is_among i (names objects rows) ≡ true
among_names objects rows {w = w} {ids = ids} bring gives i m = go gives
  where
    by_text : Reads objects w.id ids → is_among i (names objects rows) ≡ true
    by_text r = among-append i (map (λ row. row.id) rows) _ ∙ or_right (is_among i (map (λ row. row.id) rows)) _ (among_stored objects w.id ids r i m)

    go : {used later : Bool} → GivesParents objects rows used w ids later → is_among i (names objects rows) ≡ true
    go (brought e) = by_text (bring ids e)
    go (looked_up (by_row {row = row} u e f)) = among-append i (map (λ row. row.id) rows) _ ∙ or_left _ _ (ids_in_rows rows row.parents ids f i m)
    go (looked_up (by_store n r)) = by_text r
    go (looked_up (drops u d r)) = by_text r

module _ {F : Type 0} (objects : F → Objects) (faulty : F → ObjectId → Type 0) (store : F) (rows : List GraphRow) where
  -- what holds whatever the rows say
  pub record IsSafe (s : Search F) : Type 0 where
    pub same_store : s.source.objects.now ≡ store
    pub same_rows : rows_of s.source.graph ≡ rows
    pub bring : (q : Queued) → Contains s.queue q → (ids : List ObjectId) → brings q.1 ≡ Some ids → Reads (objects store) q.1.id ids

  pub safe_meets : {ids : List ObjectId} {s new : Search F} → IsSafe s → Meets objects ids s new → IsSafe new
  safe_meets {s = s} h m = record {
    same_store = ap (λ o. o.now) m.objects_stay ∙ h.same_store;
    same_rows = ap rows_of m.graph_stays ∙ h.same_rows;
    bring = λ q c ids e. ⊎_elim (λ o. h.bring q o ids e) (λ n. subst (λ o. Reads (objects o) q.1.id ids) h.same_store (n.1.brought ids e)) (m.adds q c);
  }

  module _ (tips : List ObjectId) (asked : List AskedId) where
    -- what holds while the search goes on
    pub record Goes (remaining : List AskedId) (s : Search F) : Type 0 where
      pub safe : IsSafe s
      pub left : (q : AskedId) → Contains asked q → (set.contains s.met q.1 ≡ true) ⊎ Contains remaining q
      pub within : (q : AskedId) → Contains remaining q → Contains asked q
      pub started : (i : ObjectId) → Contains tips i → set.contains s.met i ≡ true
      pub holds : (ids : List ObjectId) → AreAsked rows ids asked → (history : Objects) (known : IsHistory (objects store) rows history) → Holds (objects store) history rows known tips ids [] s

    -- at the start the tips are met
    module _ (first : Search F) (same_store : first.source.objects.now ≡ store) (same_rows : rows_of first.source.graph ≡ rows) (none_met : first.met ≡ set.empty) (none_waits : first.queue ≡ []) (used : first.source.in_use ≡ true) where
      pub goes_start : {new : Search F} → Meets objects tips first new → Goes asked new
      goes_start {new} m = record {
        safe = safe_meets (record { same_store = same_store; same_rows = same_rows; bring = λ q c. absurd (no_member q (subst (λ qs. Contains qs q) none_waits c)) }) m;
        left = λ q c. inr c;
        within = λ q c. c;
        started = λ i c. m.met i ∙ or_left (is_among i tips) (set.contains first.met i) (among_from i tips c);
        holds = λ ids are history known.
            met (objects store) history rows known tips ids tips first new objects (ap objects same_store) same_rows m (λ i c. start c) (blank (objects store) history rows known tips ids first none_met none_waits used);
      }

      -- a tip can't be read
      pub start_fails : (why : Hidden) → MeetFails objects faulty tips first why → (ids : List ObjectId) → AreAsked rows ids asked → SearchFails (objects store) (faulty store) rows tips ids why
      start_fails why f ids are n =
          let k = f n in
          record {
            id = k.0;
            fault = subst (λ s. IsFaultAt (objects s) (faulty s) k.0 why) same_store k.3;
            reached = λ history known. inr (start k.1);
            unrowed = λ history known. ⊎_elim (λ r. inl (ap (λ rs. row_of rs k.0) (sym same_rows) ∙ r)) (λ u. absurd (false≢true (sym u ∙ used))) k.2;
          }

    -- a turn: the lowest of the ids that are left is known, and a commit is taken from the queue
    module _ (remaining now : List AskedId) (s mid : Search F) (goes : Goes remaining s)
        (left : (q : AskedId) → Contains remaining q → (set.contains s.met q.1 ≡ true) ⊎ Contains now q) (within : (q : AskedId) → Contains now q → Contains remaining q)
        (lowest : ℕ) (is_lowest : IsLowest now s.met lowest) (q : Queued) (source : mid.source ≡ s.source) (same_met : mid.met ≡ s.met) (queue : IsPermutation s.queue (q ∷ mid.queue)) where
      there : Contains s.queue q
      there = Contains-permutation _ _ q (IsPermutation-sym _ _ queue) (Contains-here q mid.queue)

      safe_mid : IsSafe mid
      safe_mid = record {
        same_store = ap (λ x. x.objects.now) source ∙ goes.safe.same_store;
        same_rows = ap (λ x. rows_of x.graph) source ∙ goes.safe.same_rows;
        bring = λ w c. goes.safe.bring w (Contains-permutation _ _ w (IsPermutation-sym _ _ queue) (Contains-there w q mid.queue c));
      }

      module _ (ids : List ObjectId) (are : AreAsked rows ids asked) where
        key_of : (p : AskedId) → Contains now p → p.0.0 ≡ generation_in (row_of rows p.1)
        key_of p c = (are.keyed p (goes.within p (within p c))).1

        low : (a : ObjectId) → Contains ids a → set.contains s.met a ≡ false → lowest ≤ generation_in (row_of rows a)
        low a m e =
            let p = are.covers a m in
            let unmet : set.contains s.met p.0.1 ≡ true → ⊥ = λ t. false≢true (sym e ∙ ap (set.contains s.met) (sym p.2) ∙ t) in
            ⊎_elim (λ t. absurd (unmet t)) (λ c. ⊎_elim (λ t. absurd (unmet t)) (λ d. subst (λ j. lowest ≤ generation_in (row_of rows j)) p.2 (subst (λ n. lowest ≤ n) (key_of p.0 d) (is_lowest.1 p.0 d))) (left p.0 c)) (goes.left p.0 p.1)

        -- an id that has the lowest generation
        abbrev bound : ObjectId
        bound = is_lowest.0.0.1

        bound_asked : Contains ids bound
        bound_asked = let p = is_lowest.0 in (are.keyed p.0 (goes.within p.0 (within p.0 p.1))).0

        bound_low : generation_in (row_of rows bound) ≡ lowest
        bound_low = let p = is_lowest.0 in sym (key_of p.0 p.1) ∙ p.3

      -- the commit is too low
      pub goes_by : suc q.0.generation ≤ lowest → Goes now mid
      goes_by less = record {
        safe = safe_mid;
        left = λ p c. ⊎_elim (λ e. inl (still p.1 e)) (λ d. ⊎_elim (λ e. inl (still p.1 e)) (λ k. inr k) (left p d)) (goes.left p c);
        within = λ p c. goes.within p (within p c);
        started = λ i c. still i (goes.started i c);
        holds = λ ids are history known.
            passed_by (objects store) history rows known tips ids s mid q same_met queue (goes.holds ids are history known) (ap (λ x. x.in_use) source)
            (λ a m e. let le : lowest ≤ generation_in (row_of rows a) = low ids are a m e in omega arith);
      }
        where
          still : (i : ObjectId) → set.contains s.met i ≡ true → set.contains mid.met i ≡ true
          still i e = ap (λ k. set.contains k i) same_met ∙ e

      pub by_less : suc (room (names (objects store) rows) mid) ≤ room (names (objects store) rows) s
      by_less =
          let one : length s.queue ≡ suc (length mid.queue) = sym (length_permutation _ _ queue) in
          let same : room (names (objects store) rows) mid ≡ length (new_ids (set.contains s.met) (names (objects store) rows)) + length mid.queue = ap (λ k. length (new_ids (set.contains k) (names (objects store) rows)) + length mid.queue) same_met in
          omega arith

      -- its parents are met
      module _ (high : lowest ≤ q.0.generation) where
        given : {ids : List ObjectId} {after : Bool} → GivesParents (objects mid.source.objects.now) (rows_of mid.source.graph) mid.source.in_use q.1 ids after → GivesParents (objects store) rows s.source.in_use q.1 ids after
        given {ids} {after} g =
            subst (λ b. GivesParents (objects store) rows b q.1 ids after) (ap (λ x. x.in_use) source)
            (subst (λ rs. GivesParents (objects store) rs mid.source.in_use q.1 ids after) safe_mid.same_rows (subst (λ o. GivesParents (objects o) (rows_of mid.source.graph) mid.source.in_use q.1 ids after) safe_mid.same_store g))

        module _ (ids : List ObjectId) (are : AreAsked rows ids asked) (history : Objects) (known : IsHistory (objects store) rows history) where
          reach : {named : List ObjectId} {after : Bool} → GivesParents (objects store) rows s.source.in_use q.1 named after → (i : ObjectId) → Contains named i → Reaches (parents_of history) tips i
          reach g i m = step ((goes.holds ids are history known).waiting q there) (subst (λ xs. Contains xs i) (given_there (objects store) history rows known (goes.safe.bring q there) g) m)

          held : (given_search : Search F) (named : List ObjectId) → given_search.met ≡ mid.met → given_search.queue ≡ mid.queue → GivesParents (objects store) rows s.source.in_use q.1 named given_search.source.in_use → Holds (objects store) history rows known tips ids named given_search
          held g named m k gives =
              popped (objects store) history rows known tips ids s g q (m ∙ same_met) (subst (λ qs. IsPermutation s.queue (q ∷ qs)) (sym k) queue) (goes.holds ids are history known) named (goes.safe.bring q there) gives
              (bound ids are) (bound_asked ids are) (subst (λ n. n ≤ q.0.generation) (sym (bound_low ids are)) high)

        module _ {new : Search F} (f : Follows objects q.1 mid new) where
          safe_given : IsSafe f.mid
          safe_given = record {
            same_store = ap (λ o. o.now) f.objects_stay ∙ safe_mid.same_store;
            same_rows = ap rows_of f.graph_stays ∙ safe_mid.same_rows;
            bring = λ w c. safe_mid.bring w (subst (λ qs. Contains qs w) f.queue_stays c);
          }

          pub goes_on : Goes now new
          goes_on = record {
            safe = safe_meets safe_given f.meets;
            left = λ p c. ⊎_elim (λ e. inl (grown p.1 e)) (λ d. ⊎_elim (λ e. inl (grown p.1 e)) (λ k. inr k) (left p d)) (goes.left p c);
            within = λ p c. goes.within p (within p c);
            started = λ i c. grown i (goes.started i c);
            holds = λ ids are history known.
                met (objects store) history rows known tips ids f.ids f.mid new objects (ap objects safe_given.same_store) safe_given.same_rows f.meets
                (reach ids are history known (given f.gives)) (held ids are history known f.mid f.ids f.met_stays f.queue_stays (given f.gives));
          }
            where
              grown : (i : ObjectId) → set.contains s.met i ≡ true → set.contains new.met i ≡ true
              grown i e = f.meets.met i ∙ or_right (is_among i f.ids) (set.contains f.mid.met i) (ap (λ k. set.contains k i) (f.met_stays ∙ same_met) ∙ e)

          pub on_less : suc (room (names (objects store) rows) new) ≤ room (names (objects store) rows) s
          on_less =
              let less : room (names (objects store) rows) new ≤ room (names (objects store) rows) f.mid = f.meets.spends (names (objects store) rows) (among_names (objects store) rows (goes.safe.bring q there) (given f.gives)) in
              let same : room (names (objects store) rows) f.mid ≡ room (names (objects store) rows) mid =
              (λ k. length (new_ids (set.contains (f.met_stays k)) (names (objects store) rows)) + length (f.queue_stays k)) in
              let one = by_less in
              omega arith

        -- it can't be read, or one of its parents
        pub turn_fails : (why : Hidden) → FollowFails objects faulty q.1 mid why → (ids : List ObjectId) → AreAsked rows ids asked → SearchFails (objects store) (faulty store) rows tips ids why
        turn_fails why f ids are n = ⊎_elim
            (λ k. record {
              id = q.1.id;
              fault = subst (λ o. IsFaultAt (objects o) (faulty o) q.1.id why) safe_mid.same_store k.1;
              reached = λ history known. inr ((goes.holds ids are history known).waiting q there);
              unrowed = λ history known. passed history known k.0;
            })
            (λ k. let w = k.3 in record {
              id = w.0;
              fault = subst (λ o. IsFaultAt (objects o) (faulty o) w.0 why) safe_mid.same_store w.3;
              reached = λ history known. inr (reach ids are history known (given k.2) w.0 w.1);
              unrowed = λ history known. ⊎_elim (λ r. inl (ap (λ rs. row_of rs w.0) (sym safe_mid.same_rows) ∙ r))
                  (λ u. inr ((held ids are history known (record mid { source = record mid.source { in_use = k.1 } }) k.0 refl refl (given k.2)).dropped u)) w.2;
            }) (f n)
          where
            passed : (history : Objects) (known : IsHistory (objects store) rows history) → IsPassed (rows_of mid.source.graph) mid.source.in_use q.1.id → (row_of rows q.1.id ≡ None) ⊎ DropsBy (parents_of history) rows tips ids
            passed history known (inl r) = inl (ap (λ rs. row_of rs q.1.id) (sym safe_mid.same_rows) ∙ r)
            passed history known (inr (inl u)) = inr ((goes.holds ids are history known).dropped (sym (ap (λ x. x.in_use) source) ∙ u))
            passed history known (inr (inr d)) =
                inr (dropped_for (objects store) history rows known tips ids s mid q same_met queue (goes.holds ids are history known) (bound ids are) (bound_asked ids are)
                (subst (λ n. n ≤ q.0.generation) (sym (bound_low ids are)) high) (subst (λ rs. DropsRows rs q.1.id) safe_mid.same_rows d))

    -- in the end all ids were met, or nothing waits
    pub decided : {remaining : List AskedId} {s : Search F} → Goes remaining s → ((q : AskedId) → Contains remaining q → set.contains s.met q.1 ≡ true) ⊎ (s.queue ≡ []) → (ids : List ObjectId) → AreAsked rows ids asked → Decides (objects store) rows tips ids s.met
    decided {remaining} {s} goes done ids are = record {
      sound = λ history known i e. (goes.holds ids are history known).sound i e;
      whole = λ history known i c r. whole history known i c r (set.contains s.met i) refl;
      read = λ history known a c e. ⊎_elim (λ all. absurd (false≢true (sym e ∙ all_met all a c)))
          (λ none. all_read (objects store) history rows known tips ids s (goes.holds ids are history known) goes.started none a c e) done;
      tips_read = λ history known i c. (goes.holds ids are history known).read i (goes.started i c);
    }
      where
        all_met : ((q : AskedId) → Contains remaining q → set.contains s.met q.1 ≡ true) → (i : ObjectId) → Contains ids i → set.contains s.met i ≡ true
        all_met all i c = let p = are.covers i c in ap (set.contains s.met) (sym p.2) ∙ ⊎_elim (λ e. e) (λ d. all p.0 d) (goes.left p.0 p.1)

        whole : (history : Objects) (known : IsHistory (objects store) rows history) (i : ObjectId) → Contains ids i → Reaches (parents_of history) tips i → (b : Bool) → set.contains s.met i ≡ b → set.contains s.met i ≡ true
        whole history known i c r true e = e
        whole history known i c r false e = ⊎_elim (λ all. all_met all i c)
            (λ none. absurd (unreached (objects store) history rows known tips ids s (goes.holds ids are history known) goes.started none i c e r)) done
