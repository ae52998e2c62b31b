-- A turn of the painting: an entry is taken, its commit is read, and its parents are met.
use Rattle.std.proofs.Common.{◌≡◌, ◌≢◌, ◌⊎◌, List, [], Bool, true, false, not, ◌&&◌, Option, Some, None, Contains, is_some, refl, sym, ap, subst, inl, inr, ⊎_elim, ◌∙◌, arith}
use Rattle.gix_paint.proofs.Common.{Contains-permutation, IsPermutation-sym, ObjectId, id_cmp, is_same, Objects, GraphRow, Side, QueueEntry, Painter, IsHistory, DropsBy, AllMarks, generation_told, hides, is_hidden, is_told, mark_of, side_at}
use Rattle.gix_paint.proofs.Common.{ReadsParents, by_row, by_store, drops, IsWaiting, IsSettled, WaitsWithRow, Takes, is_turn, is_of_frontier, frontier_without, Meets, TreatsEntry, skips, reads, Pops}
use Rattle.gix_paint.proofs.Common.{parents_of, Reaches, step, id_total, same_is, same_itself, Contains-there, Contains-cons_cases, no_member}
use Rattle.std.specs.FinSet as set
use Rattle.gix_paint.specs.declared.Side.TheVariants as side
use Rattle.gix_paint.specs.Inside.Painter.{rows_of}
use Rattle.gix_revwalk.specs.Reading.{DropsRows}
use Rattle.std.proofs.Math.Path.{transport}
use Rattle.gix_paint.proofs.Invariant.{in_history, reads_parents, nobody, starts_of, RowsInUse, IsSafe, IsOutside, WasRead, Fact, Stands, IsStarted, stands_meets, safe_meets, started_meets}
use Rattle.gix_paint.proofs.BeforeTurn.{popped_there, taken_outside, drop_reason}
use Rattle.gix_revwalk.proofs.ReadsWhole.{row_parents}
use Rattle.gix_paint.proofs.Meets.{meets_none}

-- whether rows are in use after the parents of an id were read: as before, or not any more for its corrupt row
abbrev pub IsReread : List GraphRow → Bool → ObjectId → Bool → Type 0
IsReread rows old i new = (new ≡ old) ⊎ ((new ≡ false) × DropsRows rows i)

given_use : {objects : Objects} {rows : List GraphRow} {old new : Bool} {i : ObjectId} {ids : List ObjectId} → ReadsParents objects rows old i ids new → IsReread rows old i new
given_use (by_row u e f) = inl refl
given_use (by_store n r) = inl refl
given_use (drops u d r) = inr (refl, d)

-- whether an entry that is taken leaves the frontier, and is of this id
abbrev leaves : QueueEntry → ObjectId → Bool
leaves top i = is_of_frontier top && is_same i top.1.id

-- what an entry that was taken leaves of the frontier
contains_without : (top : QueueEntry) (f : set.FinSet id_cmp) (i : ObjectId) → set.contains (frontier_without top f) i ≡ (not (leaves top i) && set.contains f i)
contains_without top f i = let without = set.contains-remove id_total f top.1.id i in grind arith

-- an entry is read if its id isn't hidden, or if it is of the hidden side
pub turn_visible : (marks : AllMarks) (top : QueueEntry) → is_hidden marks top.1.id ≡ false → is_turn marks top ≡ true
turn_visible marks top e = grind arith

pub turn_hidden : (marks : AllMarks) (top : QueueEntry) → side.Hidden ≡ top.1.side → is_turn marks top ≡ true
turn_hidden marks top on = let hidden : hides (Some top.1.side) ≡ true = ap (λ s. hides (Some s)) (sym on) in grind arith

module _ {F : Type 0} (objects : F → Objects) {w v : Painter F} (top : QueueEntry) (pops : Pops w top v) where
  -- an entry is taken, and where it is its turn, its parents are met
  pub record IsTurn (new : Painter F) : Type 0 where
    pub mid : Painter F
    pub ids : List ObjectId
    pub takes : Takes v top mid
    pub gives : ((is_turn w.marks top ≡ true) × ReadsParents (objects v.source.objects.now) (rows_of v.source.graph) v.source.in_use top.1.id ids mid.source.in_use)
        ⊎ ((is_turn w.marks top ≡ false) × (ids ≡ []) × (mid.source.in_use ≡ v.source.in_use))
    pub met : Meets top.1.side ids mid new

  pub turn_of : {new : Painter F} → TreatsEntry objects v top new → IsTurn new
  turn_of {new} (skips idle takes same) = record { mid = new; ids = []; takes = takes; gives = inr (ap (λ marks. is_turn marks top) (sym pops.marks) ∙ idle, refl, same); met = meets_none top.1.side new }
  turn_of (reads {mid = mid} {ids = ids} turn takes gives met) = record { mid = mid; ids = ids; takes = takes; gives = inl (ap (λ marks. is_turn marks top) (sym pops.marks) ∙ turn, gives); met = met }

module _ {F : Type 0} (objects : F → Objects) (store : F) (history : Objects) (rows : List GraphRow) (tips hidden_tips : List ObjectId) where
  abbrev Known : (Side → ObjectId → Type 0) → Painter F → ObjectId → Option Side → Type 0
  Known = Fact objects store history rows tips hidden_tips

  abbrev InUse : Painter F → Type 0
  InUse = RowsInUse objects store rows

  module _ {w v mid : Painter F} (top : QueueEntry) (pops : Pops w top v) (takes : Takes v top mid) where
    abbrev pub turn : Bool
    turn = is_turn w.marks top

    -- whose parents are still to be met
    abbrev Busy : Side → ObjectId → Type 0
    Busy s i = (turn ≡ true) × (s ≡ top.1.side) × (i ≡ top.1.id)

    pub within : (q : QueueEntry) → Contains mid.queue q → Contains w.queue q
    within q c = Contains-permutation _ _ q (IsPermutation-sym _ _ pops.queue) (Contains-there q top v.queue (subst (λ qs. Contains qs q) takes.queue_stays c))

    -- all other entries wait still
    others : (q : QueueEntry) → Contains w.queue q → (top ≡ q) ⊎ Contains mid.queue q
    others q c = ⊎_elim (λ e. inl e) (λ there. inr (subst (λ qs. Contains qs q) (sym takes.queue_stays) there)) (Contains-cons_cases q top v.queue (Contains-permutation _ _ q pops.queue c))

    frontier_now : (i : ObjectId) → set.contains mid.frontier i ≡ (not (leaves top i) && set.contains w.frontier i)
    frontier_now i = ap (λ f. set.contains f i) takes.frontier ∙ contains_without top v.frontier i ∙ ap (λ f. not (leaves top i) && set.contains f i) pops.frontier

    pub waits_still : (s : Side) (i : ObjectId) → IsWaiting w s i → IsWaiting mid s i ⊎ ((s ≡ top.1.side) × (i ≡ top.1.id))
    waits_still s i q =
        ⊎_elim (λ e. inr (sym q.on_side ∙ ap (λ x. x.1.side) (sym e), sym q.of_id ∙ ap (λ x. x.1.id) (sym e))) (λ c. go s refl c (leaves top i) refl) (others q.entry q.queued)
      where
        go : (t : Side) → s ≡ t → Contains mid.queue q.entry → (b : Bool) → leaves top i ≡ b → IsWaiting mid s i ⊎ ((s ≡ top.1.side) × (i ≡ top.1.id))
        go t on c false e = inl (record { entry = q.entry; queued = c; on_side = q.on_side; of_id = q.of_id; in_frontier = λ v told. let now = frontier_now i in let was = q.in_frontier v told in grind arith })
        go side.Visible on c true e = inr (on ∙ (grind arith), same_is i top.1.id (grind arith))
        go side.Hidden on c true e = inl (record { entry = q.entry; queued = c; on_side = q.on_side; of_id = q.of_id; in_frontier = λ v. let bad : side.Visible ≡ side.Hidden = sym v ∙ on in cc })

    pub marks_now : (i : ObjectId) → mark_of mid i ≡ mark_of w i
    marks_now i = ap (λ m. side_at m i) (takes.marks_stay ∙ pops.marks)

    pub started_takes : IsStarted objects store history rows tips hidden_tips w → IsStarted objects store history rows tips hidden_tips mid
    started_takes s = record { shown = λ i c. subst (λ m. m ≢ None) (sym (marks_now i)) (s.shown i c); hidden = λ i c. marks_now i ∙ s.hidden i c }

    pub safe_takes : IsSafe objects store rows w → (InUse mid → InUse w) → IsSafe objects store rows mid
    safe_takes safe back = record {
      same_store = ap (λ o. o.now) (takes.objects_stay ∙ ap (λ s. s.objects) pops.source) ∙ safe.same_store;
      same_rows = ap rows_of (takes.graph_stays ∙ ap (λ s. s.graph) pops.source) ∙ safe.same_rows;
      queued = λ r q c. safe.queued (back r) q (within q c);
    }

    pub stands_takes : Stands objects store history rows tips hidden_tips nobody w → (InUse mid → InUse w) → ((InUse mid → ⊥) → DropsBy (parents_of history) rows tips hidden_tips)
        → (InUse w → mark_of w top.1.id ≢ Some side.Hidden → IsOutside objects store history rows tips hidden_tips top.1.id)
        → (turn ≡ true → WasRead objects store history rows tips hidden_tips top.1.id)
        → Stands objects store history rows tips hidden_tips Busy mid
    stands_takes h back dropped outside found = record {
      facts = λ i. subst (Known Busy mid i) (sym (marks_now i)) (same i (mark_of w i) refl (h.facts i));
      tidy = λ i c. let now = frontier_now i in still_waits i (h.tidy i (grind arith)) (grind arith);
      reached = λ q c. h.reached q (within q c);
      waits = λ q c e. marks_now q.1.id ∙ h.waits q (within q c) e;
      border = λ q c e r. h.border q (within q c) e (back r);
      dropped = dropped;
    }
      where
        still_waits : (i : ObjectId) → WaitsWithRow w i → leaves top i ≡ false → WaitsWithRow mid i
        still_waits i a stays = (marks_now i ∙ a.0, a.1, ⊎_elim (λ e. absurd (left (sym e))) (λ there. there) (others a.1 a.2), a.3, a.4, a.5)
          where
            left : a.1 ≡ top → ⊥
            left e =
                let gone : leaves a.1 i ≡ true = (let told = a.5 in let visible : hides (Some a.1.1.side) ≡ false = ap (λ s. hides (Some s)) a.3 in let same : is_same i a.1.1.id ≡ true = ap (is_same i) a.4 ∙ same_itself i in grind arith) in
                let bad : true ≡ false = sym gone ∙ ap (λ q. leaves q i) e ∙ stays in cc

        same : (i : ObjectId) (m : Option Side) → mark_of w i ≡ m → Known nobody w i m → Known Busy mid i m
        same i None e k = tt
        same i (Some side.Visible) e k = (
          k.0,
          ⊎_elim (λ q. ⊎_elim (λ waits. inl waits) (λ t.
              let acts : turn ≡ true = turn_visible w.marks top (ap hides (ap (mark_of w) (sym t.1) ∙ e)) in
              inr (
                inl (acts, t.0, t.1),
                (λ r. subst (IsOutside objects store history rows tips hidden_tips) (sym t.1) (outside (back r) (λ hidden. let bad : Some side.Visible ≡ Some side.Hidden = sym e ∙ ap (mark_of w) t.1 ∙ hidden in cc))),
                subst (WasRead objects store history rows tips hidden_tips) (sym t.1) (found acts),
              )) (waits_still side.Visible i q))
              (λ r. inr (⊎_elim (λ b. absurd b) (λ all. inr (λ c n. subst (λ m. m ≢ None) (sym (marks_now c)) (all c n))) r.0, (λ u. r.1 (back u)), r.2)) k.1,
        )
        same i (Some side.Hidden) e k = (
          k.0,
          ⊎_elim (λ q. ⊎_elim (λ waits. inl waits) (λ t.
              let acts : turn ≡ true = turn_hidden w.marks top t.0 in
              inr (inl (acts, t.0, t.1), subst (WasRead objects store history rows tips hidden_tips) (sym t.1) (found acts))) (waits_still side.Hidden i q))
              (λ r. inr (⊎_elim (λ b. absurd b) (λ all. inr (λ c n. marks_now c ∙ all c n)) r.0, r.1)) k.1,
        )

  module _ {w v : Painter F} (top : QueueEntry) (pops : Pops w top v) (safe : IsSafe objects store rows w) where
    -- what was read, of these rows and of this store
    abbrev Given : List ObjectId → Bool → Type 0
    Given = ReadsParents (objects store) rows w.source.in_use top.1.id

    pub given : {new : Painter F} (t : IsTurn objects top pops new) → ((is_turn w.marks top ≡ true) × Given t.ids t.mid.source.in_use) ⊎ ((is_turn w.marks top ≡ false) × (t.ids ≡ []) × (t.mid.source.in_use ≡ w.source.in_use))
    given t = ⊎_elim (λ g. inl (g.0, transport (λ k. ReadsParents (objects (stored k)) (those k) (pops.source k).in_use top.1.id t.ids t.mid.source.in_use) g.1)) (λ n. inr (n.0, n.1, n.2 ∙ ap (λ s. s.in_use) pops.source)) t.gives
      where
        stored : v.source.objects.now ≡ store
        stored = ap (λ s. s.objects.now) pops.source ∙ safe.same_store

        those : rows_of v.source.graph ≡ rows
        those = ap (λ s. rows_of s.graph) pops.source ∙ safe.same_rows

    pub reread : {new : Painter F} (t : IsTurn objects top pops new) → IsReread rows w.source.in_use top.1.id t.mid.source.in_use
    reread t = ⊎_elim (λ g. given_use g.1) (λ n. inl n.2) (given t)

    -- rows are in use after the reading only if they were in use before
    pub used_before : {after : Bool} → IsReread rows w.source.in_use top.1.id after → after ≡ true → InUse w
    used_before (inl e) r = sym e ∙ r
    used_before (inr d) r = let bad : false ≡ true = sym d.0 ∙ r in cc

    pub was_read : {after : Bool} {ids : List ObjectId} → Given ids after → WasRead objects store history rows tips hidden_tips top.1.id
    was_read (by_row {row = row} u e f) none = let bad : None ≡ Some row = sym none ∙ e in cc
    was_read (by_store n r) none = ap is_some r.1
    was_read (drops u d r) none = ap is_some r.1

    module _ (known : IsHistory (objects store) rows history) where
      -- the parents that are read are the commit's
      pub given_parents : {after : Bool} {ids : List ObjectId} → Given ids after → ids ≡ parents_of history top.1.id
      given_parents {ids = ids} (by_row {row = row} u e f) = row_parents history rows known.agreeing top.1.id row ids e f
      given_parents {ids = ids} (by_store n r) = reads_parents history top.1.id ids (in_history known top.1.id ids r)
      given_parents {ids = ids} (drops u d r) = reads_parents history top.1.id ids (in_history known top.1.id ids r)

      -- rows that aren't in use were dropped for a reason
      pub dropped_so : {after : Bool} (h : Stands objects store history rows tips hidden_tips nobody w) → IsStarted objects store history rows tips hidden_tips w → (IsSettled w → ⊥)
          → IsReread rows w.source.in_use top.1.id after → (after ≡ true → ⊥) → DropsBy (parents_of history) rows tips hidden_tips
      dropped_so h started unsettled (inl e) gone = h.dropped (λ r. gone (e ∙ r))
      dropped_so h started unsettled (inr d) gone = go w.source.in_use refl
        where
          go : (b : Bool) → w.source.in_use ≡ b → DropsBy (parents_of history) rows tips hidden_tips
          go true r = drop_reason objects store history rows tips hidden_tips known w safe h started r top (popped_there pops) pops.greatest unsettled d.1.0 d.1.1 d.1.2
          go false r = h.dropped (λ u. let bad : false ≡ true = sym r ∙ u in cc)

      module _ {new : Painter F} (t : IsTurn objects top pops new) where
        -- what is met are the commit's parents, and all of them where it is the entry's turn
        pub named : (i : ObjectId) → Contains t.ids i → (is_turn w.marks top ≡ true) × Contains (parents_of history top.1.id) i
        named i c = ⊎_elim (λ g. (g.0, subst (λ xs. Contains xs i) (given_parents g.1) c)) (λ n. absurd (no_member i (subst (λ xs. Contains xs i) n.1 c))) (given t)

        all_named : is_turn w.marks top ≡ true → (i : ObjectId) → Contains (parents_of history top.1.id) i → Contains t.ids i
        all_named acts i c = ⊎_elim (λ g. subst (λ xs. Contains xs i) (sym (given_parents g.1)) c) (λ n. let bad : true ≡ false = sym acts ∙ n.0 in cc) (given t)

        found : is_turn w.marks top ≡ true → WasRead objects store history rows tips hidden_tips top.1.id
        found acts = ⊎_elim (λ g. was_read g.1) (λ n. let bad : true ≡ false = sym acts ∙ n.0 in cc) (given t)

        -- a turn keeps what holds
        pub stands_turn : Stands objects store history rows tips hidden_tips nobody w → IsStarted objects store history rows tips hidden_tips w → (IsSettled w → ⊥)
            → Stands objects store history rows tips hidden_tips nobody new × IsStarted objects store history rows tips hidden_tips new
        stands_turn h started unsettled =
            let back = used_before (reread t) in
            let outside = λ (r : InUse w) (u : mark_of w top.1.id ≢ Some side.Hidden). taken_outside objects store history rows tips hidden_tips known w safe h started r top (popped_there pops) pops.greatest u in (
              stands_meets objects store history rows tips hidden_tips t.met (Busy top pops t.takes)
                  (stands_takes top pops t.takes h back (dropped_so h started unsettled (reread t)) outside found)
                  (λ i c. step (h.reached top (popped_there pops)) (named i c).1)
                  (λ on r i c. inr (
                    top.1.id,
                    subst (λ s. Reaches (parents_of history) (starts_of objects store history rows tips hidden_tips s) top.1.id) on (h.reached top (popped_there pops)),
                    outside_read (back r) (named i c).0 on,
                    (named i c).1,
                  ))
                  (λ s i b. (b.1, λ c m. all_named b.0 c (subst (λ j. Contains (parents_of history j) c) b.2 m))),
              started_meets objects store history rows tips hidden_tips t.met (started_takes top pops t.takes started),
            )
          where
            -- a visible entry that is read and has a row isn't hidden
            outside_read : InUse w → is_turn w.marks top ≡ true → top.1.side ≡ side.Visible → IsOutside objects store history rows tips hidden_tips top.1.id
            outside_read r acts on row e =
                let told : is_told top.0 ≡ true = ap is_told (safe.queued r top (popped_there pops) ∙ ap generation_told e) in
                let visible : hides (Some top.1.side) ≡ false = ap (λ s. hides (Some s)) on in
                taken_outside objects store history rows tips hidden_tips known w safe h started r top (popped_there pops) pops.greatest (λ hidden. let mark : hides (mark_of w top.1.id) ≡ true = ap hides hidden in let bad : true ≡ false = grind arith in cc) row e

    pub safe_turn : {new : Painter F} → IsTurn objects top pops new → IsSafe objects store rows new
    safe_turn t = safe_meets objects store rows t.met (safe_takes top pops t.takes safe (used_before (reread t)))
