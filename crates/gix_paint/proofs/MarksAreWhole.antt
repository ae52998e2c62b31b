-- Where painting begins and ends: the marks are whole.
use Rattle.std.proofs.Common.{◌≡◌, ◌≢◌, ◌⊎◌, ◌<◌, ◌≤◌, ℕ, List, [], ◌∷◌, ◌++◌, Bool, true, false, ◌&&◌, Option, Some, None, Contains, IsSome, is_some, if◌then◌else◌, refl, sym, ap, subst, inl, inr, ⊎_elim, ◌∙◌, arith}
use Rattle.gix_paint.proofs.Common.{Contains-append_cases, ObjectId, id_cmp, Objects, GraphRow, row_of, Side, Told, Infinite, QueueEntry, Painter, IsHistory, IsOpenBelow, IsRead, shown_commit, hidden_commit, generation_in, Paints, parents_of}
use Rattle.gix_paint.proofs.Common.{IsAtBoundary, Reaches, start, step, bits_of, hidden_of, mark_of, side_at, side_by, IsWaiting, IsSettled, is_told, Meets, no_member, Contains-here}
use Rattle.std.specs.FinMap as map_of
use Rattle.std.specs.FinSet as set
use Rattle.gix_paint.specs.declared.Side.TheVariants as side
use Rattle.gix_paint.specs.declared.queue.Generation.{Generation}
use Rattle.gix_revwalk.specs.Agreeing.{IsCorrupt}
use Rattle.gix_revwalk.specs.Commits.{commit_at}
use Rattle.gix_paint.specs.Inside.Painter.{rows_of}
use Rattle.gix_paint.proofs.Invariant.{contains-hidden, later, nobody, RowsInUse, IsOutside, WasRead, IsSafe, Fact, Stands, IsStarted, stands_meets, safe_meets}
use Rattle.gix_paint.proofs.BeforeTurn.{HasGeneration, one_generation, told_row, hidden_from, falls, below, waits_above}
use Rattle.gix_paint.proofs.Order.{IsAbove, IsOrdered, HoldsOf, ordered_start}
use Rattle.gix_revwalk.proofs.ReadsWhole.{row_stands}
use Rattle.gix_revwalk.proofs.Rows.{IsSoundRow}

module _ {F : Type 0} (objects : F → Objects) (store : F) (history : Objects) (rows : List GraphRow) (tips hidden_tips : List ObjectId) where
  abbrev Holds : Painter F → Type 0
  Holds p = Stands objects store history rows tips hidden_tips nobody p

  abbrev Started : Painter F → Type 0
  Started p = IsStarted objects store history rows tips hidden_tips p

  -- a painter that has marked nothing
  pub record IsBlank (p : Painter F) : Type 0 where
    pub same_store : p.source.objects.now ≡ store
    pub same_rows : rows_of p.source.graph ≡ rows
    pub in_use : RowsInUse objects store rows p
    pub marks : p.marks ≡ map_of.empty
    pub frontier : p.frontier ≡ set.empty
    pub queue : p.queue ≡ []

  module _ {p : Painter F} (blank : IsBlank p) where
    none_queued : {P : Type 0} (q : QueueEntry) → Contains p.queue q → P
    none_queued q c = absurd (no_member q (subst (λ qs. Contains qs q) blank.queue c))

    pub safe_blank : IsSafe objects store rows p
    safe_blank = record { same_store = blank.same_store; same_rows = blank.same_rows; queued = λ r q c. none_queued q c }

    unmet : (i : ObjectId) → mark_of p i ≡ None
    unmet i = ap (λ m. side_at m i) blank.marks ∙ ap (λ marks. side_by (bits_of marks)) (map_of.get-empty id_cmp i)

    pub stands_blank : Holds p
    stands_blank = record {
      facts = λ i. subst (Fact objects store history rows tips hidden_tips nobody p i) (sym (unmet i)) tt;
      tidy = λ i c. let none : true ≡ false = sym c ∙ ap (λ f. set.contains f i) blank.frontier ∙ set.contains-empty id_cmp i in cc;
      reached = λ q c. none_queued q c;
      waits = λ q c. none_queued q c;
      border = λ q c. none_queued q c;
      dropped = λ n. absurd (n blank.in_use);
    }

    -- the visible tips are met first, and then the hidden ones
    module _ {mid new : Painter F} (shows : Meets side.Visible tips p mid) (covers : Meets side.Hidden hidden_tips mid new) where
      pub safe_start : IsSafe objects store rows new
      safe_start = safe_meets objects store rows covers (safe_meets objects store rows shows safe_blank)

      pub stands_start : Holds new
      stands_start =
          stands_meets objects store history rows tips hidden_tips covers nobody
          (stands_meets objects store history rows tips hidden_tips shows nobody stands_blank (λ i c. start c) (λ e r i c. inl c) (λ t i b. absurd b))
          (λ i c. start c) (λ e. cc) (λ t i b. absurd b)

      pub holds_start : HoldsOf objects store history rows tips hidden_tips new
      holds_start = (
        stands_start,
        record { shown = λ i c. (later (covers.marks i)).met_stays ((later (shows.marks i)).met_now c); hidden = λ i c. (later (covers.marks i)).hidden_now refl c },
        ordered_start objects store history rows tips hidden_tips unmet shows covers,
      )

  module _ (p : Painter F) (safe : IsSafe objects store rows p) (settled : IsSettled p) where
    abbrev Known : ObjectId → Option Side → Type 0
    Known = Fact objects store history rows tips hidden_tips nobody p

    -- no visible id waits any more
    shown_none : (i : ObjectId) → IsWaiting p side.Visible i → ⊥
    shown_none i w =
        ⊎_elim (λ none. no_member w.entry (subst (λ qs. Contains qs w.entry) none w.queued))
        (λ s. let none : true ≡ false = sym (w.in_frontier refl (s.2 w.entry w.queued)) ∙ ap (λ f. set.contains f i) (set.empty_of_len p.frontier s.1) ∙ set.contains-empty id_cmp i in cc) settled

    -- an id that was read for visible tips, and the parents of which are met
    abbrev IsReadOnce : ObjectId → Type 0
    IsReadOnce i = (mark_of p i ≡ Some side.Visible) × Reaches (parents_of history) tips i × ((c : ObjectId) → Contains (parents_of history i) c → mark_of p c ≢ None) × (RowsInUse objects store rows p → IsOutside objects store history rows tips hidden_tips i)
        × WasRead objects store history rows tips hidden_tips i

    -- what is met was read, or is hidden
    settled_mark : Holds p → (i : ObjectId) → mark_of p i ≢ None → IsReadOnce i ⊎ ((mark_of p i ≡ Some side.Hidden) × Known i (Some side.Hidden))
    settled_mark h i met = go (mark_of p i) refl (h.facts i)
      where
        go : (m : Option Side) → mark_of p i ≡ m → Known i m → IsReadOnce i ⊎ ((mark_of p i ≡ Some side.Hidden) × Known i (Some side.Hidden))
        go None e k = absurd (met e)
        go (Some side.Visible) e k = inl (⊎_elim (λ w. absurd (shown_none i w)) (λ r. (e, k.0, ⊎_elim (λ b. absurd b) (λ all. all) r.0, r.1, r.2)) k.1)
        go (Some side.Hidden) e k = inr (e, k)

    module _ (known : IsHistory (objects store) rows history) (h : Holds p) (started : Started p) where
      -- what waits has a row, and what it reaches has one
      rowed : (q i : ObjectId) → IsWaiting p side.Hidden q → Reaches (parents_of history) (q ∷ []) i → RowsInUse objects store rows p × (row : GraphRow) × (row_of rows i ≡ Some row)
      rowed q i w path =
          ⊎_elim (λ none. absurd (no_member w.entry (subst (λ qs. Contains qs w.entry) none w.queued))) (λ s.
          let k : (n : ℕ) × (w.entry.0 ≡ Told n) = told_some w.entry.0 (s.2 w.entry w.queued) in
          let b = below objects store history rows tips hidden_tips known q k.0 (subst (λ j. HasGeneration rows j k.0) w.of_id (told_row rows w.entry (safe.queued s.0 w.entry w.queued) k.0 k.1)) i path in
          (s.0, b.1.0, b.1.1)) settled
        where
          told_some : (g : Generation) → is_told g ≡ true → (n : ℕ) × (g ≡ Told n)
          told_some (Told n) e = (n, refl)
          told_some Infinite e = cc

      -- an id without a row doesn't wait
      unrowed_none : (i : ObjectId) → row_of rows i ≡ None → IsWaiting p side.Hidden i → ⊥
      unrowed_none i e w = let k = rowed i i w (start (Contains-here i [])) in let bad : None ≡ Some k.1 = sym e ∙ k.2 in cc

      -- a met id that hidden tips reach is hidden
      all_hidden : (i : ObjectId) → mark_of p i ≢ None → Reaches (parents_of history) hidden_tips i → mark_of p i ≡ Some side.Hidden
      all_hidden i met hidden =
          ⊎_elim (λ k. absurd (⊎_elim (λ d. let bad : Some side.Visible ≡ Some side.Hidden = sym k.0 ∙ d.0 in cc) (λ q. let row = rowed q.0 i q.1 q.2 in k.3 row.0 row.1 row.2 hidden) (hidden_from objects store history rows tips hidden_tips p h started i hidden))) (λ k. k.0)
          (settled_mark h i met)

      -- what tips reach outside what is hidden is met, and so are its parents
      all_met : (c : ObjectId) → Reaches (parents_of history) tips c → (Reaches (parents_of history) hidden_tips c → ⊥) → (mark_of p c ≢ None) × ((i : ObjectId) → Contains (parents_of history c) i → mark_of p i ≢ None)
      all_met c r out = (met c r out, λ i m. onward c (met c r out) out i m)
        where
          onward : (c : ObjectId) → mark_of p c ≢ None → (Reaches (parents_of history) hidden_tips c → ⊥) → (i : ObjectId) → Contains (parents_of history c) i → mark_of p i ≢ None
          onward c met out i m = ⊎_elim (λ k. k.2 i m) (λ k. absurd (out k.1.0)) (settled_mark h c met)

          met : (c : ObjectId) → Reaches (parents_of history) tips c → (Reaches (parents_of history) hidden_tips c → ⊥) → mark_of p c ≢ None
          met c (start m) out = started.shown c m
          met c (step {c = d} r m) out = onward d (met d r (λ hidden. out (step hidden m))) (λ hidden. out (step hidden m)) c m

      at_met : (i : ObjectId) → IsAtBoundary (parents_of history) tips hidden_tips i → mark_of p i ≢ None
      at_met i at = ⊎_elim (λ t. started.shown i t) (λ b. (all_met b.0 b.1 b.2).1 i b.3) at

      pub whole : (i : ObjectId) → IsAtBoundary (parents_of history) tips hidden_tips i → Reaches (parents_of history) hidden_tips i → set.contains (hidden_of p.marks) i ≡ true
      whole i at hidden = let marked = contains-hidden p.marks i in let e : mark_of p i ≡ Some side.Hidden = all_hidden i (at_met i at) hidden in grind arith

      pub sound : (i : ObjectId) → set.contains (hidden_of p.marks) i ≡ true → Reaches (parents_of history) hidden_tips i
      sound i c =
          let e : mark_of p i ≡ Some side.Hidden = (let marked = contains-hidden p.marks i in grind arith) in
          (subst (Known i) e (h.facts i)).0

      -- all without a row is met
      unrowed_met : (i : ObjectId) → Reaches (parents_of history) (tips ++ hidden_tips) i → row_of rows i ≡ None → mark_of p i ≢ None
      unrowed_met i (start m) e = ⊎_elim (λ t. started.shown i t) (λ t. subst (λ s. s ≢ None) (sym (started.hidden i t)) (λ k. cc)) (Contains-append_cases tips hidden_tips i m)
      unrowed_met i (step {c = c} r m) e =
          ⊎_elim (λ k. k.2 i m)
          (λ k. ⊎_elim (λ w. absurd (unrowed_none c unrowed w)) (λ o. ⊎_elim (λ b. absurd b) (λ all. subst (λ s. s ≢ None) (sym (all i m)) (λ k. cc)) o.0) k.1.1) (settled_mark h c (unrowed_met c r unrowed))
        where
          -- what names an id without a row has none itself
          unrowed : row_of rows c ≡ None
          unrowed = go (row_of rows c) refl
            where
              go : (o : Option GraphRow) → row_of rows c ≡ o → row_of rows c ≡ None
              go None f = f
              go (Some row) f = let k = falls objects store history rows tips hidden_tips known c i row.generation (row, f, refl) m in let bad : None ≡ Some k.1.0 = sym e ∙ k.1.1 in cc

      -- and all of it was read
      pub all_read : (i : ObjectId) → Reaches (parents_of history) (tips ++ hidden_tips) i → row_of rows i ≡ None → IsSome (commit_at (objects store) i)
      all_read i r e = ⊎_elim (λ k. k.4 e) (λ k. ⊎_elim (λ w. absurd (unrowed_none i e w)) (λ o. o.1 e) k.1.1) (settled_mark h i (unrowed_met i r e))

      -- rows that are left had no corrupt one among those that had to be read
      module _ (ordered : IsOrdered objects store history rows tips hidden_tips p) (stands : RowsInUse objects store rows p) where
        -- an id below the greatest that waits wasn't taken
        not_above : (i : ObjectId) (row : GraphRow) → row_of rows i ≡ Some row → (q : ObjectId) → IsWaiting p side.Hidden q → Reaches (parents_of history) (q ∷ []) i
            → (bound : ObjectId) → generation_in (row_of rows bound) < row.generation → IsAbove objects store history rows tips hidden_tips p bound → ⊥
        not_above i row e q w path bound lower above = go (row_of rows bound) refl
          where
            go : (o : Option GraphRow) → row_of rows bound ≡ o → ⊥
            go None f = let finite = (known.agreeing row (row_stands rows i row e).0).finite in let l : generation_in None < row.generation = subst (λ o. generation_in o < row.generation) f lower in omega arith
            go (Some other) f =
                let under : (m : ℕ) × HasGeneration rows i m × (m ≤ other.generation) × ((q ≡ i) ⊎ (m < other.generation)) = waits_above objects store history rows tips hidden_tips known p safe stands other.generation (above stands other f) side.Hidden q i w path in
                let same : under.0 ≡ row.generation = one_generation rows i under.1 e in
                let l : other.generation < row.generation = subst (λ o. generation_in o < row.generation) f lower in
                let most : under.0 ≤ other.generation = under.2 in
                omega arith

        -- what was read for visible tips is above what waits, and has no corrupt row
        shown : (i : ObjectId) → mark_of p i ≡ Some side.Visible → IsAbove objects store history rows tips hidden_tips p i × (RowsInUse objects store rows p → IsSoundRow rows i)
        shown i e = ⊎_elim (λ w. absurd (shown_none i w)) (λ k. k) (ordered.shown i e)

        not_open : (i : ObjectId) (row : GraphRow) → row_of rows i ≡ Some row → (q : ObjectId) → IsWaiting p side.Hidden q → Reaches (parents_of history) (q ∷ []) i → (bound : ObjectId) → IsOpenBelow (parents_of history) rows tips hidden_tips row.generation bound → ⊥
        not_open i row e q w path bound opened =
            ⊎_elim (λ k. not_above i row e q w path bound opened.below (shown bound k.0).0)
            (λ k. ⊎_elim opened.no_tip (λ c. not_above i row e q w path c.0 (opened.children_below c.0 c.1 c.2) c.3) (ordered.hidden bound k.0)) (settled_mark h bound (at_met bound opened.at_boundary))

        keeps : (i : ObjectId) (row : GraphRow) → row_of rows i ≡ Some row → IsRead (parents_of history) rows tips hidden_tips i row.generation → IsCorrupt row → ⊥
        keeps i row e (shown_commit reached out) corrupt = ⊎_elim (λ k. (shown i k.0).1 stands row e corrupt) (λ k. out k.1.0) (settled_mark h i (all_met i reached out).0)
        keeps i row e (hidden_commit {bound = bound} reached opened) corrupt =
            ⊎_elim (λ d. ⊎_elim (λ w. not_open i row e i w (start (Contains-here i [])) bound opened) (λ sound. sound stands row e corrupt) (ordered.sound i d.0)) (λ q. not_open i row e q.0 q.1 q.2 bound opened)
            (hidden_from objects store history rows tips hidden_tips p h started i reached)

module _ {F : Type 0} (objects : F → Objects) (store : F) (rows : List GraphRow) (tips hidden_tips : List ObjectId) (p : Painter F) (safe : IsSafe objects store rows p) (settled : IsSettled p) where
  -- what painting gives
  pub paints : (b : Bool) → b ≡ (p.source.in_use && is_some p.source.graph) → ((history : Objects) → IsHistory (objects store) rows history → HoldsOf objects store history rows tips hidden_tips p)
      → Paints (objects store) rows tips hidden_tips (hidden_of p.marks) (if b then rows else [])
  paints b told holds = record {
    rows_left = either_rows b;
    rowless = λ history known i r e.
        let k = holds history known in
        all_read objects store history rows tips hidden_tips p safe settled known k.0 k.1 i r e;
    marked = λ history known.
        let k = holds history known in
        record {
          sound = sound objects store history rows tips hidden_tips p safe settled known k.0 k.1;
          whole = whole objects store history rows tips hidden_tips p safe settled known k.0 k.1;
          drops = λ gone. k.0.dropped (λ used. gone (left b p.source.graph refl (told ∙ ap (λ u. u && is_some p.source.graph) used)));
          keeps = λ kept i row e. keeps objects store history rows tips hidden_tips p safe settled known k.0 k.1 k.2 (used b told kept i row e p.source.in_use refl) i row e;
        };
  }
    where
      either_rows : (b : Bool) → ((if b then rows else []) ≡ rows) ⊎ ((if b then rows else []) ≡ [])
      either_rows b = grind arith

      left : (b : Bool) (graph : Option (List GraphRow)) → p.source.graph ≡ graph → b ≡ is_some p.source.graph → (if b then rows else []) ≡ rows
      left b None e told = ap (λ b. if b then rows else []) (told ∙ ap is_some e) ∙ sym (ap rows_of e) ∙ safe.same_rows
      left b (Some graph) e told = ap (λ b. if b then rows else []) (told ∙ ap is_some e)

      -- rows that are left and have a row are in use
      used : (b : Bool) → b ≡ (p.source.in_use && is_some p.source.graph) → (if b then rows else []) ≡ rows → (i : ObjectId) (row : GraphRow) → row_of rows i ≡ Some row → (u : Bool) → p.source.in_use ≡ u → p.source.in_use ≡ true
      used b told kept i row e true u = u
      used b told kept i row e false u =
          let none : [] ≡ rows = sym (ap (λ b. if b then rows else []) (told ∙ ap (λ u. u && is_some p.source.graph) u)) ∙ kept in
          let bad : None ≡ Some row = ap (λ rs. row_of rs i) none ∙ e in cc
