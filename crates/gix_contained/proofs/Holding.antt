-- What holds while the search goes on, of each history that agrees with the rows and has the store's commits.
use Rattle.std.proofs.Common.{◌≡◌, ◌⊎◌, ◌-◌, ◌^◌, ◌<◌, ◌≤◌, ℕ, List, [], ◌∷◌, Bool, true, false, Option, Some, None, Contains, IsPermutation, IsSome, refl, sym, ap, subst, inl, inr, ⊎_elim, ◌∙◌, le_refl, arith}
use Rattle.std.specs.FinSet as set
use Rattle.std.proofs.lemmas.Bool.{false≢true, or_left, or_right}
use Rattle.std.proofs.lemmas.List.Sorted.{Contains-permutation, IsPermutation-sym}
use Rattle.gix_hash.specs.declared.ObjectId.{ObjectId}
use Rattle.gix_hash.specs.Id.{id_cmp, is_among}
use Rattle.gix_hash.specs.Reach.{Reaches, start, step}
use Rattle.gix_hash.proofs.Ids.Membership.{among_from, among_is, Contains-cons_cases, Contains-here, Contains-there, no_member}
use Rattle.gix_object.specs.Object.{Objects}
use Rattle.gix_commitgraph.specs.Rows.{GraphRow, row_of}
use Rattle.gix_contained.specs.declared.search.Search.{Search}
use Rattle.gix_contained.specs.Contained.{DropsBy}
use Rattle.gix_contained.specs.declared.waiting.Waiting.{Waiting}
use Rattle.gix_paint.specs.Reading.{by_row, by_store, drops, Reads}
use Rattle.gix_contained.specs.Inside.Search.{brings, GivesParents, brought, looked_up, Knows, Meets, Queued, generation_if}
use Rattle.gix_revwalk.specs.Infos.{generation_in}
use Rattle.gix_paint.specs.Painting.{IsHistory}
use Rattle.gix_revwalk.specs.Agreeing.{RowAgrees, rows_of}
use Rattle.gix_revwalk.specs.Commits.{commit_at, parents_in, parents_of}
use Rattle.gix_revwalk.specs.Reading.{DropsRows}
use Rattle.gix_revwalk.proofs.ReadsWhole.{corrupt_row, parent_below, row_parents, row_stands}

module _ (objects history : Objects) (rows : List GraphRow) (known : IsHistory objects rows history) where
  abbrev height : ObjectId → ℕ
  height i = generation_in (row_of rows i)

  -- infinity is the greatest generation
  pub finite : (i : ObjectId) → height i ≤ 2 ^ 32 - 1
  finite i = go (row_of rows i) refl
    where
      go : (o : Option GraphRow) → row_of rows i ≡ o → generation_in o ≤ 2 ^ 32 - 1
      go None e = le_refl _
      go (Some row) e =
          let stands : Contains rows row × (i ≡ row.id) = row_stands rows i row e in
          let agrees : RowAgrees history rows row = known.agreeing row stands.0 in
          let less : row.generation < 2 ^ 32 - 1 = agrees.finite in
          omega arith

  -- generations don't rise from a commit to its parents
  pub falls : (c i : ObjectId) → Contains (parents_of history c) i → height i ≤ height c
  falls c i m = go (row_of rows c) refl
    where
      go : (o : Option GraphRow) → row_of rows c ≡ o → height i ≤ generation_in o
      go None e = finite i
      go (Some row) e =
          let below : (r : GraphRow) × (row_of rows i ≡ Some r) × (r.generation < row.generation) = parent_below history rows known.agreeing c row i e m in
          let less : below.0.generation < row.generation = below.2 in
          let is : height i ≡ below.0.generation = ap generation_in below.1 in
          omega arith

  -- a generation by which a commit waits isn't below its row's
  pub not_below : (i : ObjectId) (in_use : Bool) → height i ≤ generation_if in_use (row_of rows i)
  not_below i true = le_refl _
  not_below i false = finite i

  of_store : (i : ObjectId) (ids : List ObjectId) → Reads objects i ids → ids ≡ parents_of history i
  of_store i ids r = r.2 ∙ sym (ap parents_in (known.read i r.0 r.1))

  -- the parents that are given are those of the history
  pub given_there : {in_use after : Bool} {w : Waiting} {ids : List ObjectId} → ((those : List ObjectId) → brings w ≡ Some those → Reads objects w.id those) → GivesParents objects rows in_use w ids after → ids ≡ parents_of history w.id
  given_there {w = w} bring (brought e) = of_store w.id _ (bring _ e)
  given_there {w = w} bring (looked_up (by_row {row = row} u e f)) = row_parents history rows known.agreeing w.id row _ e f
  given_there {w = w} bring (looked_up (by_store n r)) = of_store w.id _ r
  given_there {w = w} bring (looked_up (drops u d r)) = of_store w.id _ r

  module _ (tips ids : List ObjectId) where
    -- rows are dropped for a reason
    pub drops_by : (i : ObjectId) → Reaches (parents_of history) tips i → DropsRows rows i → (a : ObjectId) → Contains ids a → height a ≤ height i → DropsBy (parents_of history) rows tips ids
    drops_by i reach d a asked deep =
        let stands : Contains rows d.0 × (i ≡ d.0.id) = row_stands rows i d.0 d.1 in
        let is : height i ≡ d.0.generation = ap generation_in d.1 in
        record {
          row = d.0;
          present = ap (row_of rows) (sym stands.1) ∙ d.1;
          corrupt = corrupt_row history rows known.agreeing d.0 stands.0 d.2;
          reached = subst (Reaches (parents_of history) tips) stands.1 reach;
          bound = a;
          asked = asked;
          no_deeper = subst (λ n. height a ≤ n) is deep;
        }

  module _ (tips ids : List ObjectId) {F : Type 0} where
    -- the commit of an id waits
    abbrev Waits : Search F → ObjectId → Type 0
    Waits s i = (q : Queued) × Contains s.queue q × (q.1.id ≡ i)

    abbrev AreMet : Search F → ObjectId → Type 0
    AreMet s i = (c : ObjectId) → Contains (parents_of history i) c → set.contains s.met c ≡ true

    -- an id is below each one that is left
    abbrev IsBelow : Search F → ObjectId → Type 0
    IsBelow s i = (a : ObjectId) → Contains ids a → set.contains s.met a ≡ false → height i < height a

    -- what became of an id that was met: it waits, or its parents were met or are to be, or it is below
    abbrev Fate : List ObjectId → Search F → ObjectId → Type 0
    Fate busy s i = Waits s i ⊎ AreMet s i ⊎ IsBelow s i ⊎ ((c : ObjectId) → Contains (parents_of history i) c → Contains busy c)

    -- what holds while some ids are still to be met
    pub record Holds (busy : List ObjectId) (s : Search F) : Type 0 where
      pub sound : (i : ObjectId) → set.contains s.met i ≡ true → Reaches (parents_of history) tips i
      pub waiting : (q : Queued) → Contains s.queue q → Reaches (parents_of history) tips q.1.id
      pub not_lower : (q : Queued) → Contains s.queue q → height q.1.id ≤ q.0.generation
      pub exact : (q : Queued) → Contains s.queue q → s.source.in_use ≡ true → q.0.generation ≡ height q.1.id
      pub followed : (i : ObjectId) → set.contains s.met i ≡ true → Fate busy s i
      pub dropped : s.source.in_use ≡ false → DropsBy (parents_of history) rows tips ids
      pub read : (i : ObjectId) → set.contains s.met i ≡ true → row_of rows i ≡ None → IsSome (commit_at objects i)

    -- before the tips are met nothing is
    pub blank : (s : Search F) → s.met ≡ set.empty → s.queue ≡ [] → s.source.in_use ≡ true → Holds tips s
    blank s met queue used = record {
      sound = λ i e. absurd (unmet i e);
      waiting = λ q c. absurd (none q c);
      not_lower = λ q c. absurd (none q c);
      exact = λ q c. absurd (none q c);
      followed = λ i e. absurd (unmet i e);
      dropped = λ e. absurd (false≢true (sym e ∙ used));
      read = λ i e. absurd (unmet i e);
    }
      where
        unmet : (i : ObjectId) → set.contains s.met i ≡ true → ⊥
        unmet i e = false≢true (sym (ap (λ m. set.contains m i) met ∙ set.contains-empty id_cmp i) ∙ e)

        none : (q : Queued) → Contains s.queue q → ⊥
        none q c = no_member q (subst (λ qs. Contains qs q) queue c)

    -- a commit is taken from the queue
    module _ (s mid : Search F) (q : Queued) (met : mid.met ≡ s.met) (queue : IsPermutation s.queue (q ∷ mid.queue)) (h : Holds [] s) where
      was : (i : ObjectId) → set.contains mid.met i ≡ true → set.contains s.met i ≡ true
      was i e = ap (λ m. set.contains m i) (sym met) ∙ e

      back : (w : Queued) → Contains mid.queue w → Contains s.queue w
      back w c = Contains-permutation _ _ w (IsPermutation-sym _ _ queue) (Contains-there w q mid.queue c)

      pub taken_there : Contains s.queue q
      taken_there = Contains-permutation _ _ q (IsPermutation-sym _ _ queue) (Contains-here q mid.queue)

      -- if the commit of the queue has this fate, all have one
      fates : (busy : List ObjectId) → Fate busy mid q.1.id → (i : ObjectId) → Fate [] s i → Fate busy mid i
      fates busy f i (inl w) = ⊎_elim (λ e. subst (Fate busy mid) (ap (λ x. x.1.id) e ∙ w.2) f) (λ o. inl (w.0, o, w.2)) (Contains-cons_cases w.0 q mid.queue (Contains-permutation _ _ w.0 queue w.1))
      fates busy f i (inr (inl d)) = inr (inl (λ c m. ap (λ k. set.contains k c) met ∙ d c m))
      fates busy f i (inr (inr (inl b))) = inr (inr (inl (λ a m e. b a m (ap (λ k. set.contains k a) (sym met) ∙ e))))
      fates busy f i (inr (inr (inr n))) = inr (inl (λ c m. absurd (no_member c (n c m))))

      taken : (busy : List ObjectId) → Fate busy mid q.1.id → (mid.source.in_use ≡ true → s.source.in_use ≡ true) → (mid.source.in_use ≡ false → DropsBy (parents_of history) rows tips ids) → Holds busy mid
      taken busy f used drop = record {
        sound = λ i e. h.sound i (was i e);
        waiting = λ w c. h.waiting w (back w c);
        not_lower = λ w c. h.not_lower w (back w c);
        exact = λ w c e. h.exact w (back w c) (used e);
        followed = λ i e. fates busy f i (h.followed i (was i e));
        dropped = drop;
        read = λ i e. h.read i (was i e);
      }

      -- it is too low to be followed
      pub passed_by : mid.source.in_use ≡ s.source.in_use → ((a : ObjectId) → Contains ids a → set.contains s.met a ≡ false → q.0.generation < height a) → Holds [] mid
      passed_by same low = taken [] (inr (inr (inl (λ a m e. (
          let less : q.0.generation < height a = low a m (ap (λ k. set.contains k a) (sym met) ∙ e) in
          let le : height q.1.id ≤ q.0.generation = h.not_lower q taken_there in
          omega arith
          ))))) (λ e. sym same ∙ e) (λ e. h.dropped (sym same ∙ e))

      -- its row is corrupt, and not too low
      pub dropped_for : (a : ObjectId) → Contains ids a → height a ≤ q.0.generation → DropsRows rows q.1.id → DropsBy (parents_of history) rows tips ids
      dropped_for a asked deep d = go s.source.in_use refl
        where
          go : (b : Bool) → s.source.in_use ≡ b → DropsBy (parents_of history) rows tips ids
          go true e = drops_by tips ids q.1.id (h.waiting q taken_there) d a asked (subst (λ n. height a ≤ n) (h.exact q taken_there e) deep)
          go false e = h.dropped e

      -- its parents are given
      pub popped : (named : List ObjectId) → ((those : List ObjectId) → brings q.1 ≡ Some those → Reads objects q.1.id those) → GivesParents objects rows s.source.in_use q.1 named mid.source.in_use
          → (a : ObjectId) → Contains ids a → height a ≤ q.0.generation → Holds named mid
      popped named bring gives a asked deep =
          taken named (inr (inr (inr (λ c m. subst (λ xs. Contains xs c) (sym (given_there bring gives)) m)))) (used gives) (drop gives)
        where
          used : {after : Bool} → GivesParents objects rows s.source.in_use q.1 named after → after ≡ true → s.source.in_use ≡ true
          used (brought e) t = t
          used (looked_up (by_row u e f)) t = t
          used (looked_up (by_store n r)) t = t
          used (looked_up (drops u d r)) t = absurd (false≢true t)

          drop : {after : Bool} → GivesParents objects rows s.source.in_use q.1 named after → after ≡ false → DropsBy (parents_of history) rows tips ids
          drop (brought e) f = h.dropped f
          drop (looked_up (by_row u e g)) f = h.dropped f
          drop (looked_up (by_store n r)) f = h.dropped f
          drop (looked_up (drops u d r)) f = dropped_for a asked deep d

    -- ids that the tips reach are met
    module _ (busy : List ObjectId) (s new : Search F) (objects_of : F → Objects) (store : objects_of s.source.objects.now ≡ objects) (graph : rows_of s.source.graph ≡ rows) (m : Meets objects_of busy s new)
        (reach : (i : ObjectId) → Contains busy i → Reaches (parents_of history) tips i) where
      knows : (i : ObjectId) (q : Queued) → Knows (objects_of s.source.objects.now) (rows_of s.source.graph) s.source.in_use i q → Knows objects rows s.source.in_use i q
      knows i q h = subst (λ o. Knows o rows s.source.in_use i q) store (subst (λ rs. Knows (objects_of s.source.objects.now) rs s.source.in_use i q) graph h)

      -- an id that was met is old, or waits
      split : (i : ObjectId) → set.contains new.met i ≡ true → (set.contains s.met i ≡ true) ⊎ (Contains busy i × ((q : Queued) × Contains new.queue q × Knows objects rows s.source.in_use i q))
      split i e = go (set.contains s.met i) refl
        where
          go : (b : Bool) → set.contains s.met i ≡ b → (set.contains s.met i ≡ true) ⊎ (Contains busy i × ((q : Queued) × Contains new.queue q × Knows objects rows s.source.in_use i q))
          go true k = inl k
          go false k =
              let now = m.met i in
              let among : is_among i busy ≡ true = grind arith in
              let c : Contains busy i = among_is i busy among in
              let w = m.waits i c k in
              inr (c, (w.0, w.1, knows i w.0 w.2))

      stays : (i : ObjectId) → set.contains s.met i ≡ true → set.contains new.met i ≡ true
      stays i e = m.met i ∙ or_right (is_among i busy) (set.contains s.met i) e

      was_unmet : (i : ObjectId) → set.contains new.met i ≡ false → set.contains s.met i ≡ false
      was_unmet i e = go (set.contains s.met i) refl
        where
          go : (b : Bool) → set.contains s.met i ≡ b → set.contains s.met i ≡ false
          go true k = absurd (false≢true (sym e ∙ stays i k))
          go false k = k

      pub met : Holds busy s → Holds [] new
      met h = record {
        sound = λ i e. ⊎_elim (λ o. h.sound i o) (λ n. reach i n.0) (split i e);
        waiting = λ q c. ⊎_elim (λ o. h.waiting q o) (λ n. reach q.1.id n.0) (m.adds q c);
        not_lower = λ q c. ⊎_elim (λ o. h.not_lower q o) (λ n. subst (λ k. height q.1.id ≤ k) (sym (knows q.1.id q n.1).generation) (not_below q.1.id s.source.in_use)) (m.adds q c);
        exact = λ q c e. ⊎_elim (λ o. h.exact q o (sym m.use_stays ∙ e)) (λ n. (knows q.1.id q n.1).generation ∙ ap (λ b. generation_if b (row_of rows q.1.id)) (sym m.use_stays ∙ e)) (m.adds q c);
        followed = λ i e. ⊎_elim (λ o. old i (h.followed i o)) (λ n. inl (n.1.0, n.1.1, n.1.2.of_id)) (split i e);
        dropped = λ e. h.dropped (sym m.use_stays ∙ e);
        read = λ i e none. ⊎_elim (λ o. h.read i o none) (λ n. n.1.2.read none) (split i e);
      }
        where
          old : (i : ObjectId) → Fate busy s i → Fate [] new i
          old i (inl w) = inl (w.0, m.keeps w.0 w.1, w.2)
          old i (inr (inl d)) = inr (inl (λ c k. stays c (d c k)))
          old i (inr (inr (inl b))) = inr (inr (inl (λ a k e. b a k (was_unmet a e))))
          old i (inr (inr (inr n))) = inr (inl (λ c k. m.met c ∙ or_left (is_among c busy) (set.contains s.met c) (among_from c busy (n c k))))

    -- where nothing waits, an id that wasn't met is above all that was met, and what tips reach was met or is below it
    module _ (s : Search F) (h : Holds [] s) (started : (i : ObjectId) → Contains tips i → set.contains s.met i ≡ true) (queue : s.queue ≡ []) (a : ObjectId) (asked : Contains ids a) (unmet : set.contains s.met a ≡ false) where
      met_or_below : (i : ObjectId) → Reaches (parents_of history) tips i → (set.contains s.met i ≡ true) ⊎ (height i < height a)
      met_or_below i (start m) = inl (started i m)
      met_or_below i (step {c = c} r m) = ⊎_elim
          (λ e. onward (h.followed c e))
          (λ l. inr (let fall : height i ≤ height c = falls c i m in omega arith)) (met_or_below c r)
        where
          onward : Fate [] s c → (set.contains s.met i ≡ true) ⊎ (height i < height a)
          onward (inl w) = absurd (no_member w.0 (subst (λ qs. Contains qs w.0) queue w.1))
          onward (inr (inl d)) = inl (d i m)
          onward (inr (inr (inl b))) = inr (let less : height c < height a = b a asked unmet in let fall : height i ≤ height c = falls c i m in omega arith)
          onward (inr (inr (inr n))) = absurd (no_member i (n i m))

      pub unreached : Reaches (parents_of history) tips a → ⊥
      unreached r = ⊎_elim (λ e. false≢true (sym unmet ∙ e)) (λ l. omega arith) (met_or_below a r)

      pub all_read : (i : ObjectId) → Reaches (parents_of history) tips i → row_of rows i ≡ None → IsSome (commit_at objects i)
      all_read i r none = ⊎_elim (λ e. h.read i e none)
          (λ l. absurd (let is : height i ≡ 2 ^ 32 - 1 = ap generation_in none in let most : height a ≤ 2 ^ 32 - 1 = finite a in omega arith)) (met_or_below i r)
