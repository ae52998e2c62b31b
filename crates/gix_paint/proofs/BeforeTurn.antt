-- What holds before an entry's turn, and why its row may drop the rows.
use Rattle.std.proofs.Common.{◌≡◌, ◌≢◌, ◌⊎◌, ◌<◌, ◌≤◌, ℕ, List, [], ◌∷◌, ◌++◌, true, Option, Some, None, Contains, suc, refl, sym, ap, subst, inl, inr, ⊎_elim, ◌∙◌, arith}
use Rattle.std.specs.List.{list_any}
use Rattle.std.specs.Ordering.{eq_by_cmp}
use Rattle.std.proofs.lemmas.Bool.{or_left}
use Rattle.gix_paint.proofs.Common.{Contains-append_left, Contains-append_right, Contains-permutation, IsPermutation-sym, ObjectId, id_cmp, Objects, GraphRow, row_of, Side, Told, Infinite, QueueEntry, Painter, DropsBy}
use Rattle.gix_paint.proofs.Common.{generation_in, generation_told, IsHistory, mark_of, IsQueued, IsWaiting, IsSettled, is_told, AreAllBelow, IsNoneAbove, Pops, parents_of, Reaches, start, step, ids_at, id_total, id_apart, same_itself}
use Rattle.gix_paint.proofs.Common.{Contains-here}
use Rattle.std.specs.FinSet as set
use Rattle.gix_paint.specs.declared.Side.TheVariants as side
use Rattle.gix_paint.proofs.Invariant.{nobody, starts_of, RowsInUse, IsSafe, IsOutside, IsBorder, Fact, Stands, IsStarted}
use Rattle.gix_revwalk.proofs.ReadsWhole.{row_stands, parent_below, corrupt_row}
use Rattle.gix_revwalk.proofs.Reached.{done_or_waits}
use Rattle.gix_paint.proofs.Search.{told_below}

-- a set that isn't empty has a member
pub member_of : (s : set.FinSet id_cmp) → (set.len s ≡ 0 → ⊥) → (i : ObjectId) × (set.contains s i ≡ true)
member_of s some = go (set.items s) refl
  where
    go : (items : List ObjectId) → set.items s ≡ items → (i : ObjectId) × (set.contains s i ≡ true)
    go [] e =
        let none : s ≡ set.empty = set.same_set id_total id_apart s set.empty (λ q. set.contains-items s q ∙ ap (list_any (eq_by_cmp id_cmp q)) e ∙ sym (set.contains-empty id_cmp q)) in
        absurd (some (ap set.len none ∙ set.len-empty id_cmp))
    go (x ∷ items) e = (x, set.contains-items s x ∙ ap (list_any (eq_by_cmp id_cmp x)) e ∙ or_left _ _ (same_itself x))

abbrev pub HasGeneration : List GraphRow → ObjectId → ℕ → Type 0
HasGeneration rows i n = (row : GraphRow) × (row_of rows i ≡ Some row) × (row.generation ≡ n)

pub one_generation : (rows : List GraphRow) (i : ObjectId) {m : ℕ} {row : GraphRow} → HasGeneration rows i m → row_of rows i ≡ Some row → m ≡ row.generation
one_generation rows i {row = row} a e = let same : a.0 ≡ row = (let s : Some a.0 ≡ Some row = sym a.1 ∙ e in cc) in sym a.2 ∙ ap (λ row. row.generation) same

-- an id waits by its row's generation
pub told_key : (rows : List GraphRow) (q : QueueEntry) {m : ℕ} → IsQueued rows q → HasGeneration rows q.1.id m → q.0 ≡ Told m
told_key rows q k g = k ∙ ap generation_told g.1 ∙ ap Told g.2

pub told_row : (rows : List GraphRow) (q : QueueEntry) → IsQueued rows q → (n : ℕ) → q.0 ≡ Told n → HasGeneration rows q.1.id n
told_row rows q k n e = go (row_of rows q.1.id) refl
  where
    go : (o : Option GraphRow) → row_of rows q.1.id ≡ o → HasGeneration rows q.1.id n
    go None f = let bad : Infinite ≡ Told n = sym (k ∙ ap generation_told f) ∙ e in cc
    go (Some row) f = let same : Told row.generation ≡ Told n = sym (k ∙ ap generation_told f) ∙ e in (row, f, cc)

pub popped_there : {F : Type 0} {old new : Painter F} {top : QueueEntry} → Pops old top new → Contains old.queue top
popped_there {new = new} {top = top} pops = Contains-permutation _ _ top (IsPermutation-sym _ _ pops.queue) (Contains-here top new.queue)

module _ {F : Type 0} (objects : F → Objects) (store : F) (history : Objects) (rows : List GraphRow) (tips hidden_tips : List ObjectId) where
  pub reaches_either : (s : Side) (i : ObjectId) → Reaches (parents_of history) (starts_of objects store history rows tips hidden_tips s) i → Reaches (parents_of history) (tips ++ hidden_tips) i
  reaches_either side.Visible i (start m) = start (Contains-append_left tips hidden_tips i m)
  reaches_either side.Hidden i (start m) = start (Contains-append_right tips hidden_tips i m)
  reaches_either s i (step {c = c} q m) = step (reaches_either s c q) m

  -- a hidden id all of whose parents are
  abbrev IsDone : Painter F → ObjectId → Type 0
  IsDone p i = (mark_of p i ≡ Some side.Hidden) × ((c : ObjectId) → Contains (parents_of history i) c → mark_of p c ≡ Some side.Hidden)

  hidden_so : (p : Painter F) → Stands objects store history rows tips hidden_tips nobody p → (i : ObjectId) → mark_of p i ≡ Some side.Hidden → IsDone p i ⊎ IsWaiting p side.Hidden i
  hidden_so p h i e =
      let f : Fact objects store history rows tips hidden_tips nobody p i (Some side.Hidden) = subst (Fact objects store history rows tips hidden_tips nobody p i) e (h.facts i) in
      ⊎_elim (λ w. inr w) (λ r. ⊎_elim (λ b. absurd b) (λ all. inl (e, all)) r.0) f.1

  pub hidden_from : (p : Painter F) → Stands objects store history rows tips hidden_tips nobody p → IsStarted objects store history rows tips hidden_tips p → (i : ObjectId) → Reaches (parents_of history) hidden_tips i
      → IsDone p i ⊎ ((q : ObjectId) × IsWaiting p side.Hidden q × Reaches (parents_of history) (q ∷ []) i)
  hidden_from p h started = done_or_waits (parents_of history) hidden_tips (IsWaiting p side.Hidden) (IsDone p) (λ i m. hidden_so p h i (started.hidden i m)) (λ c i d m. hidden_so p h i (d.1 i m))

  module _ (known : IsHistory (objects store) rows history) where
    pub falls : (c i : ObjectId) (n : ℕ) → HasGeneration rows c n → Contains (parents_of history c) i → (m : ℕ) × HasGeneration rows i m × (m < n)
    falls c i n h m =
        let p : (r : GraphRow) × (row_of rows i ≡ Some r) × (r.generation < h.0.generation) = parent_below history rows known.agreeing c h.0 i h.1 m in
        (p.0.generation, (p.0, p.1, refl), (let e : h.0.generation ≡ n = h.2 in let l : p.0.generation < h.0.generation = p.2 in omega arith))

    pub below : (q : ObjectId) (n : ℕ) → HasGeneration rows q n → (i : ObjectId) → Reaches (parents_of history) (q ∷ []) i → (m : ℕ) × HasGeneration rows i m × (m ≤ n) × ((q ≡ i) ⊎ (m < n))
    below = told_below (parents_of history) (HasGeneration rows) falls

    -- before an entry's turn
    module _ (w : Painter F) (safe : IsSafe objects store rows w) where
      -- what a waiting id reaches has a row, and isn't above what waits
      pub waits_above : RowsInUse objects store rows w → (n : ℕ) → AreAllBelow w.queue n → (s : Side) (q i : ObjectId) → IsWaiting w s q → Reaches (parents_of history) (q ∷ []) i → (m : ℕ) × HasGeneration rows i m × (m ≤ n) × ((q ≡ i) ⊎ (m < n))
      waits_above r n low s q i waits path =
          let k : (m : ℕ) × (waits.entry.0 ≡ Told m) × (m ≤ n) = low waits.entry waits.queued in
          let under : (m : ℕ) × HasGeneration rows i m × (m ≤ k.0) × ((q ≡ i) ⊎ (m < k.0)) = below q k.0 (subst (λ j. HasGeneration rows j k.0) waits.of_id (told_row rows waits.entry (safe.queued r waits.entry waits.queued) k.0 k.1)) i path in
          let most : k.0 ≤ n = k.2 in
          (under.0, under.1, (let le : under.0 ≤ k.0 = under.2 in omega arith), ⊎_elim (λ e. inl e) (λ l. inr (let lt : under.0 < k.0 = l in omega arith)) under.3)

      module _ (h : Stands objects store history rows tips hidden_tips nobody w) (started : IsStarted objects store history rows tips hidden_tips w) (r : RowsInUse objects store rows w)
          (top : QueueEntry) (there : Contains w.queue top) (greatest : IsNoneAbove top.0 w.queue) where
        -- nothing that waits is above the row of the entry that is taken
        pub all_below : (row : GraphRow) → row_of rows top.1.id ≡ Some row → AreAllBelow w.queue row.generation
        all_below row e = greatest row.generation (told_key rows top (safe.queued r top there) (row, e, refl))

        -- no id is taken that an unread id above it would hide
        pub taken_outside : mark_of w top.1.id ≢ Some side.Hidden → IsOutside objects store history rows tips hidden_tips top.1.id
        taken_outside unhidden row e hidden =
            ⊎_elim (λ d. unhidden d.0) (λ q.
            let under = waits_above r row.generation (all_below row e) side.Hidden q.0 top.1.id q.1 q.2 in
            let same : under.0 ≡ row.generation = one_generation rows top.1.id under.1 e in
            ⊎_elim (λ s. unhidden (ap (mark_of w) (sym (q.1.of_id ∙ s)) ∙ h.waits q.1.entry q.1.queued q.1.on_side)) (λ l. absurd (let lt : under.0 < row.generation = l in omega arith)) under.3)
            (hidden_from w h started top.1.id hidden)

        -- rows are dropped for the row of a greatest generation, while a visible id waits below
        pub drop_reason : (IsSettled w → ⊥) → (row : GraphRow) → row_of rows top.1.id ≡ Some row → ids_at rows row.parents ≡ None → DropsBy (parents_of history) rows tips hidden_tips
        drop_reason unsettled row e corrupt =
            let x : (i : ObjectId) × (set.contains w.frontier i ≡ true) = member_of w.frontier (λ none. unsettled (inr (r, none, λ q c. ap is_told (all_below row e q c).1))) in
            let opened = h.tidy x.0 x.1 in
            let low : (m : ℕ) × HasGeneration rows x.0 m × (m ≤ row.generation) × ((x.0 ≡ x.0) ⊎ (m < row.generation)) =
            waits_above r row.generation (all_below row e) side.Visible x.0 x.0 (record { entry = opened.1; queued = opened.2; on_side = opened.3; of_id = opened.4; in_frontier = λ v told. x.1 }) (start (Contains-here x.0 [])) in
            let border = subst (IsBorder objects store history rows tips hidden_tips) opened.4 (h.border opened.1 opened.2 opened.3 r) in
            let stands : Contains rows row × (top.1.id ≡ row.id) = row_stands rows top.1.id row e in
            record {
              row = row;
              present = ap (row_of rows) (sym stands.1) ∙ e;
              corrupt = corrupt_row history rows known.agreeing row stands.0 corrupt;
              reached = subst (Reaches (parents_of history) (tips ++ hidden_tips)) stands.1 (reaches_either top.1.side top.1.id (h.reached top there));
              bound = x.0;
              no_deeper = record {
                at_boundary = ⊎_elim (λ t. inl t) (λ b. inr (b.0, b.1, (λ hidden. let k = over x.0 opened.0 b.0 hidden b.3 in b.2 k.1.0 k.1.1 hidden), b.3)) border;
                no_tip = λ m. let bad : Some side.Visible ≡ Some side.Hidden = sym opened.0 ∙ started.hidden x.0 m in cc;
                below = under_row x.0 (low.0, low.1, low.2);
                children_below = λ c reached m. under_row c (over x.0 opened.0 c reached m);
              };
            }
          where
            under_row : (c : ObjectId) → (m : ℕ) × HasGeneration rows c m × (m ≤ row.generation) → generation_in (row_of rows c) < suc row.generation
            under_row c k = let told_as : generation_in (row_of rows c) ≡ k.0 = ap generation_in k.1.1 ∙ k.1.2 in let le : k.0 ≤ row.generation = k.2 in omega arith

            -- a hidden commit over a visible id waits, or is below what waits
            over : (x : ObjectId) → mark_of w x ≡ Some side.Visible → (c : ObjectId) → Reaches (parents_of history) hidden_tips c → Contains (parents_of history c) x → (m : ℕ) × HasGeneration rows c m × (m ≤ row.generation)
            over x waits c reached m =
                ⊎_elim (λ d. let bad : Some side.Visible ≡ Some side.Hidden = sym waits ∙ d.1 x m in cc) (λ q. let k = waits_above r row.generation (all_below row e) side.Hidden q.0 c q.1 q.2 in (k.0, k.1, k.2)) (hidden_from w h started c reached)
