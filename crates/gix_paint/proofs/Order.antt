-- Painting takes what has the greatest generation first: nothing that waits is above what was taken. Rows in use had no fault where they were read.
use Rattle.std.proofs.Common.{Bool, ◌≡◌, ◌⊎◌, ◌<◌, ◌≤◌, ℕ, List, true, false, Option, Some, None, Contains, sym, ap, subst, inl, inr, ⊎_elim, ◌∙◌, arith}
use Rattle.gix_paint.proofs.Common.{ObjectId, Objects, GraphRow, row_of, Side, Told, QueueEntry, AreAllBelow, Painter, parents_of, Reaches, IsHistory, mark_of, rows_used, by_row, by_store, drops, IsQueued, IsWaiting, Meets, IsSettled, ReadsParents, is_turn, Pops, hides, ids_at}
use Rattle.gix_paint.specs.declared.Side.TheVariants as side
use Rattle.gix_paint.proofs.Invariant.{later, nobody, starts_of, waiting_stays, RowsInUse, IsSafe, Stands, IsStarted, still_stand, used}
use Rattle.gix_revwalk.proofs.Rows.{IsSoundRow, unread_fault}
use Rattle.gix_paint.proofs.BeforeTurn.{HasGeneration, told_key, told_row, falls, all_below, popped_there}
use Rattle.gix_paint.proofs.Turn.{IsTurn, turn_hidden, turn_visible, given, reread, safe_takes, within, waits_still, marks_now, used_before, named, stands_turn}

-- parents were read, and the rows are in use: the row has no fault
given_sound : {objects : Objects} {rows : List GraphRow} {old new : Bool} {i : ObjectId} {ids : List ObjectId} → ReadsParents objects rows old i ids new → new ≡ true → IsSoundRow rows i
given_sound {rows = rows} {ids = ids} (by_row {row = other} u e f) now row k corrupt =
    let it : other ≡ row = (let same : Some other ≡ Some row = sym e ∙ k in cc) in
    unread_fault rows row.parents ids (ap (λ r. ids_at rows r.parents) (sym it) ∙ f) corrupt
given_sound (by_store n r) now row k corrupt = ⊎_elim (λ none. let bad : None ≡ Some row = sym none ∙ k in cc) (λ unused. let bad : false ≡ true = sym unused ∙ now in cc) n
given_sound (drops u d r) now row k corrupt = cc

module _ {F : Type 0} (objects : F → Objects) (store : F) (history : Objects) (rows : List GraphRow) (tips hidden_tips : List ObjectId) where
  abbrev InUse : Painter F → Type 0
  InUse = RowsInUse objects store rows

  -- nothing that waits is above the row of an id
  abbrev pub IsAbove : Painter F → ObjectId → Type 0
  IsAbove p i = InUse p → (row : GraphRow) → row_of rows i ≡ Some row → AreAllBelow p.queue row.generation

  pub record IsOrdered (p : Painter F) : Type 0 where
    pub shown : (i : ObjectId) → mark_of p i ≡ Some side.Visible → IsWaiting p side.Visible i ⊎ (IsAbove p i × (InUse p → IsSoundRow rows i))
    -- what made an id hidden
    pub hidden : (i : ObjectId) → mark_of p i ≡ Some side.Hidden → Contains hidden_tips i ⊎ ((c : ObjectId) × Reaches (parents_of history) hidden_tips c × Contains (parents_of history c) i × IsAbove p c)
    pub sound : (i : ObjectId) → mark_of p i ≡ Some side.Hidden → IsWaiting p side.Hidden i ⊎ (InUse p → IsSoundRow rows i)

  -- at the start the hidden tips alone are hidden, and nothing was read
  pub ordered_start : {p mid new : Painter F} → ((i : ObjectId) → mark_of p i ≡ None) → Meets side.Visible tips p mid → Meets side.Hidden hidden_tips mid new → IsOrdered new
  ordered_start {p} {mid} {new} blank shows covers = record {
    shown = λ i e. inl (waiting_stays covers side.Visible i (λ v hidden. let bad : Some side.Visible ≡ Some side.Hidden = sym e ∙ hidden in cc) (shown i (⊎_elim (λ m. m) (λ k. let bad : side.Hidden ≡ side.Visible = k.0 in cc) ((later (covers.marks i)).was_visible e))));
    hidden = λ i e. inl (tip i e).0;
    sound = λ i e. inl (tip i e).1;
  }
    where
      shown : (i : ObjectId) → mark_of mid i ≡ Some side.Visible → IsWaiting mid side.Visible i
      shown i e = ⊎_elim (λ m. let bad : None ≡ Some side.Visible = sym (blank i) ∙ m in cc) (λ k. k.2) ((later (shows.marks i)).was_visible e)

      tip : (i : ObjectId) → mark_of new i ≡ Some side.Hidden → Contains hidden_tips i × IsWaiting new side.Hidden i
      tip i e =
          ⊎_elim (λ m. ⊎_elim (λ u. let bad : None ≡ Some side.Hidden = sym (blank i) ∙ u in cc) (λ k. let bad : side.Visible ≡ side.Hidden = k.0 in cc) ((later (shows.marks i)).was_hidden m)) (λ k. (k.1, k.2)) ((later (covers.marks i)).was_hidden e)

  module _ (known : IsHistory (objects store) rows history) {w v : Painter F} (top : QueueEntry) (pops : Pops w top v) (safe : IsSafe objects store rows w)
      (h : Stands objects store history rows tips hidden_tips nobody w) (started : IsStarted objects store history rows tips hidden_tips w) (o : IsOrdered w) where
    pub ordered_turn : {new : Painter F} → IsTurn objects top pops new → IsOrdered new
    ordered_turn {new} t = record {
      shown = λ i e.
          ⊎_elim (λ m. ⊎_elim (λ q. ⊎_elim (λ s. inl (waiting_stays t.met side.Visible i (λ v hidden. let bad : Some side.Visible ≡ Some side.Hidden = sym e ∙ hidden in cc) s)) (λ k. inr (taken i k.1 (visible i k (before i (Some side.Visible) m))))
          (waits_still objects store history rows tips hidden_tips top pops t.takes side.Visible i q)) (λ f. inr (lower i f.0, λ r. f.1 (back r))) (o.shown i (before i (Some side.Visible) m)))
          (λ k. inl (subst (λ s. IsWaiting new s i) k.0 k.2)) ((later (t.met.marks i)).was_visible e);
      hidden = λ i e.
          ⊎_elim (λ m. ⊎_elim (λ k. inl k) (λ c. inr (c.0, c.1, c.2, lower c.0 c.3)) (o.hidden i (before i (Some side.Hidden) m))) (λ k. inr (top.1.id, reached k.0, parent i k.1, top_above)) ((later (t.met.marks i)).was_hidden e);
      sound = λ i e.
          ⊎_elim (λ m. ⊎_elim (λ q. ⊎_elim (λ s. inl (waiting_stays t.met side.Hidden i (λ v. cc) s)) (λ k. inr (taken i k.1 (turn_hidden w.marks top k.0)).1)
          (waits_still objects store history rows tips hidden_tips top pops t.takes side.Hidden i q)) (λ s. inr (λ r. s (back r))) (o.sound i (before i (Some side.Hidden) m)))
          (λ k. inl (subst (λ s. IsWaiting new s i) k.0 k.2)) ((later (t.met.marks i)).was_hidden e);
    }
      where
        back : InUse new → InUse w
        back r = used_before objects store history rows tips hidden_tips top pops safe (reread objects store history rows tips hidden_tips top pops safe t) (still_stand objects store rows t.met r)

        safe_mid : IsSafe objects store rows t.mid
        safe_mid = safe_takes objects store history rows tips hidden_tips top pops t.takes safe (used_before objects store history rows tips hidden_tips top pops safe (reread objects store history rows tips hidden_tips top pops safe t))

        before : (i : ObjectId) (m : Option Side) → mark_of t.mid i ≡ m → mark_of w i ≡ m
        before i m e = sym (marks_now objects store history rows tips hidden_tips top pops t.takes i) ∙ e

        -- it is a visible entry's turn while its id isn't hidden
        visible : (i : ObjectId) → (side.Visible ≡ top.1.side) × (i ≡ top.1.id) → mark_of w i ≡ Some side.Visible → is_turn w.marks top ≡ true
        visible i k e = turn_visible w.marks top (ap hides (ap (mark_of w) (sym k.1) ∙ e))

        parent : (i : ObjectId) → Contains t.ids i → Contains (parents_of history top.1.id) i
        parent i c = (named objects store history rows tips hidden_tips top pops safe known t i c).1

        reached : top.1.side ≡ side.Hidden → Reaches (parents_of history) hidden_tips top.1.id
        reached on = subst (λ s. Reaches (parents_of history) (starts_of objects store history rows tips hidden_tips s) top.1.id) on (h.reached top (popped_there pops))

        -- what is added is below the entry that was taken
        keeps_below : InUse new → (n : ℕ) → AreAllBelow w.queue n → AreAllBelow new.queue n
        keeps_below r n b q c = ⊎_elim (λ was. b q (within objects store history rows tips hidden_tips top pops t.takes q was)) (λ a. added a.0 a.2) (t.met.adds q c)
          where
            added : Contains t.ids q.1.id → IsQueued (rows_used t.mid.source) q → (m : ℕ) × (q.0 ≡ Told m) × (m ≤ n)
            added m queued =
                let k : (k : ℕ) × (top.0 ≡ Told k) × (k ≤ n) = b top (popped_there pops) in
                let f : (m : ℕ) × HasGeneration rows q.1.id m × (m < k.0) = falls objects store history rows tips hidden_tips known top.1.id q.1.id k.0 (told_row rows top (safe.queued (back r) top (popped_there pops)) k.0 k.1) (parent q.1.id m) in
                (f.0, told_key rows q (subst (λ rs. IsQueued rs q) (used objects store rows safe_mid (still_stand objects store rows t.met r)) queued) f.1, (let l : f.0 < k.0 = f.2 in let most : k.0 ≤ n = k.2 in omega arith))

        lower : (i : ObjectId) → IsAbove w i → IsAbove new i
        lower i a r row e = keeps_below r row.generation (a (back r) row e)

        top_above : IsAbove new top.1.id
        top_above r row e = keeps_below r row.generation (all_below objects store history rows tips hidden_tips known w safe h started (back r) top (popped_there pops) pops.greatest row e)

        top_sound : is_turn w.marks top ≡ true → InUse new → IsSoundRow rows top.1.id
        top_sound acts r = ⊎_elim (λ g. given_sound g.1 (still_stand objects store rows t.met r)) (λ n. let bad : true ≡ false = sym acts ∙ n.0 in cc) (given objects store history rows tips hidden_tips top pops safe t)

        -- the entry that was taken is above what waits, and its row has no fault
        taken : (i : ObjectId) → i ≡ top.1.id → is_turn w.marks top ≡ true → IsAbove new i × (InUse new → IsSoundRow rows i)
        taken i e acts = subst (λ j. IsAbove new j × (InUse new → IsSoundRow rows j)) (sym e) (top_above, top_sound acts)

  -- all that holds of a history
  abbrev pub HoldsOf : Painter F → Type 0
  HoldsOf p = Stands objects store history rows tips hidden_tips nobody p × IsStarted objects store history rows tips hidden_tips p × IsOrdered p

  pub holds_turn : IsHistory (objects store) rows history → {w v new : Painter F} (top : QueueEntry) (pops : Pops w top v) → IsSafe objects store rows w → HoldsOf w → (IsSettled w → ⊥) → IsTurn objects top pops new → HoldsOf new
  holds_turn known top pops safe k unsettled t =
      let kept = stands_turn objects store history rows tips hidden_tips top pops safe known t k.0 k.1 unsettled in
      (kept.0, kept.1, ordered_turn known top pops safe k.0 k.1 k.2 t)
