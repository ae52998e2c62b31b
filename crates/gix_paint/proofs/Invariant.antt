-- What holds while hidden tips are painted, and what each step keeps of it.
use Rattle.std.proofs.Common.{◌≡◌, ◌≢◌, ◌⊎◌, List, [], true, if◌then◌else◌, ◌&&◌, Option, Some, None, Contains, IsSome, refl, sym, ap, subst, inl, inr, ⊎_elim, ◌∙◌, arith}
use Rattle.std.specs.FinMap as map_of
use Rattle.std.specs.FinSet as set
use Rattle.gix_paint.proofs.Common.{ObjectId, id_cmp, Objects, GraphRow, row_of, Side, Painter, QueueEntry, parents_of, parents_in, IsHistory, DropsBy, AllMarks, bits_of, hides, is_hidden, mark_of, side_by, Becomes}
use Rattle.gix_paint.proofs.Common.{stays, shows, covers, rows_used, Reads, IsQueued, IsWaiting, IsTidy, Meets, Reaches, id_total, id_apart}
use Rattle.gix_paint.specs.declared.Side.TheVariants as side
use Rattle.gix_revwalk.specs.Agreeing.{IsAgreeing}
use Rattle.gix_revwalk.specs.Commits.{commit_at}
use Rattle.gix_paint.specs.Inside.Painter.{hidden_of, rows_of}

-- the ids that are marked hidden, as a set
pub contains-hidden : (marks : AllMarks) (i : ObjectId) → set.contains (hidden_of marks) i ≡ is_hidden marks i
unfolding hidden_of
contains-hidden marks i =
    set.contains-retain (set.from_list (map_of.keys marks)) (is_hidden marks) i (λ x e. ap (is_hidden marks) (sym (id_apart i x e)))
    ∙ ap (λ b. b && is_hidden marks i) (set.contains-from_list id_total (map_of.keys marks) i ∙ sym (map_of.contains_key-keys marks i))
    ∙ (grind arith)

pub hidden-empty : (marks : AllMarks) → marks ≡ map_of.empty → hidden_of marks ≡ set.empty
hidden-empty marks e = set.same_set id_total id_apart _ _ (λ i. contains-hidden marks i ∙ ap (λ m. is_hidden m i) e ∙ ap (λ marks. hides (side_by (bits_of marks))) (map_of.get-empty id_cmp i) ∙ sym (set.contains-empty id_cmp i))

pub reads_parents : (objects : Objects) (i : ObjectId) (ids : List ObjectId) → Reads objects i ids → ids ≡ parents_of objects i
reads_parents objects i ids r = r.2 ∙ sym (ap parents_in r.1)

-- an id that was met stays so, and so does a hidden one
pub record Later (s : Side) (met queued : Type 0) (a b : Option Side) : Type 0 where
  pub met_stays : a ≢ None → b ≢ None
  pub met_now : met → b ≢ None
  pub was_visible : b ≡ Some side.Visible → (a ≡ Some side.Visible) ⊎ ((s ≡ side.Visible) × met × queued)
  pub hidden_stays : a ≡ Some side.Hidden → b ≡ Some side.Hidden
  pub hidden_now : s ≡ side.Hidden → met → b ≡ Some side.Hidden
  pub was_hidden : b ≡ Some side.Hidden → (a ≡ Some side.Hidden) ⊎ ((s ≡ side.Hidden) × met × queued)

pub later : {s : Side} {met queued : Type 0} {a b : Option Side} → Becomes s met queued a b → Later s met queued a b
later (stays f) = record { met_stays = λ n. n; met_now = λ m. (f m).0; was_visible = λ e. inl e; hidden_stays = λ e. e; hidden_now = λ e m. (f m).1 e; was_hidden = λ e. inl e }
later (shows v m q) = record { met_stays = λ n e. cc; met_now = λ k e. cc; was_visible = λ e. inr (v, m, q); hidden_stays = λ e. cc; hidden_now = λ e k. cc; was_hidden = λ e. cc }
later (covers v m q) = record { met_stays = λ n e. cc; met_now = λ k e. cc; was_visible = λ e. cc; hidden_stays = λ e. refl; hidden_now = λ e k. refl; was_hidden = λ e. inr (v, m, q) }

abbrev pub nobody : Side → ObjectId → Type 0
nobody s i = ⊥

-- a store is a history of the rows that agree with it
pub own_history : (objects : Objects) (rows : List GraphRow) → IsAgreeing objects rows → IsHistory objects rows objects
own_history objects rows agrees = record { agreeing = agrees; read = λ i commit r. r }

-- what a store reads is the history's
pub in_history : {objects history : Objects} {rows : List GraphRow} → IsHistory objects rows history → (i : ObjectId) (ids : List ObjectId) → Reads objects i ids → Reads history i ids
in_history h i ids r = (r.0, h.read i r.0 r.1, r.2)

-- what waits on a side still waits after ids were met, but for a visible one that is hidden now
pub waiting_stays : {F : Type 0} {s : Side} {ids : List ObjectId} {p new : Painter F} → Meets s ids p new → (t : Side) (i : ObjectId) → (t ≡ side.Visible → mark_of new i ≢ Some side.Hidden) → IsWaiting p t i → IsWaiting new t i
waiting_stays m t i shown w = record { entry = w.entry; queued = m.keeps w.entry w.queued; on_side = w.on_side; of_id = w.of_id; in_frontier = λ v told. m.keeps_frontier i (w.in_frontier v told) (shown v) }

-- what holds whatever the rows say
module _ {F : Type 0} (objects : F → Objects) (store : F) (rows : List GraphRow) where
  abbrev pub RowsInUse : Painter F → Type 0
  RowsInUse p = p.source.in_use ≡ true

  pub record IsSafe (p : Painter F) : Type 0 where
    pub same_store : p.source.objects.now ≡ store
    pub same_rows : rows_of p.source.graph ≡ rows
    pub queued : RowsInUse p → (q : QueueEntry) → Contains p.queue q → IsQueued rows q

  -- rows in use are these
  pub used : {p : Painter F} → IsSafe p → RowsInUse p → rows_used p.source ≡ rows
  used {p} safe r = ap (λ b. if b then rows_of p.source.graph else []) r ∙ safe.same_rows

  module _ {s : Side} {ids : List ObjectId} {p new : Painter F} (m : Meets s ids p new) where
    pub still_stand : RowsInUse new → RowsInUse p
    still_stand r = ap (λ source. source.in_use) (sym m.source_stays) ∙ r

    pub safe_meets : IsSafe p → IsSafe new
    safe_meets h = record {
      same_store = ap (λ source. source.objects.now) m.source_stays ∙ h.same_store;
      same_rows = ap (λ source. rows_of source.graph) m.source_stays ∙ h.same_rows;
      queued = λ r q c. ⊎_elim (λ o. h.queued (still_stand r) q o) (λ a. subst (λ rs. IsQueued rs q) (used h (still_stand r)) a.2) (m.adds q c);
    }

module _ {F : Type 0} (objects : F → Objects) (store : F) (history : Objects) (rows : List GraphRow) (tips hidden_tips : List ObjectId) where
  abbrev InUse : Painter F → Type 0
  InUse = RowsInUse objects store rows

  abbrev pub starts_of : Side → List ObjectId
  starts_of side.Visible = tips
  starts_of side.Hidden = hidden_tips

  -- an id that isn't hidden, if it has a row
  abbrev pub IsOutside : ObjectId → Type 0
  IsOutside i = (row : GraphRow) → row_of rows i ≡ Some row → Reaches (parents_of history) hidden_tips i → ⊥

  -- a visible id above which the rows aren't dropped
  abbrev pub IsBorder : ObjectId → Type 0
  IsBorder i = Contains tips i ⊎ ((c : ObjectId) × Reaches (parents_of history) tips c × IsOutside c × Contains (parents_of history c) i)

  -- the store has the commit, if it has no row
  abbrev pub WasRead : ObjectId → Type 0
  WasRead i = row_of rows i ≡ None → IsSome (commit_at (objects store) i)

  -- what is known of an id by its mark: it waits, or it was read, while the parents of a busy one are still to be met
  abbrev pub Fact : (Side → ObjectId → Type 0) → Painter F → ObjectId → Option Side → Type 0
  Fact busy p i None = Unit {0}
  Fact busy p i (Some side.Visible) = Reaches (parents_of history) tips i
      × (IsWaiting p side.Visible i ⊎ ((busy side.Visible i ⊎ ((c : ObjectId) → Contains (parents_of history i) c → mark_of p c ≢ None)) × (InUse p → IsOutside i) × WasRead i))
  Fact busy p i (Some side.Hidden) = Reaches (parents_of history) hidden_tips i
      × (IsWaiting p side.Hidden i ⊎ ((busy side.Hidden i ⊎ ((c : ObjectId) → Contains (parents_of history i) c → mark_of p c ≡ Some side.Hidden)) × WasRead i))

  -- what holds where the rows agree
  pub record Stands (busy : Side → ObjectId → Type 0) (p : Painter F) : Type 0 where
    pub facts : (i : ObjectId) → Fact busy p i (mark_of p i)
    pub tidy : IsTidy p
    pub reached : (q : QueueEntry) → Contains p.queue q → Reaches (parents_of history) (starts_of q.1.side) q.1.id
    pub waits : (q : QueueEntry) → Contains p.queue q → q.1.side ≡ side.Hidden → mark_of p q.1.id ≡ Some side.Hidden
    pub border : (q : QueueEntry) → Contains p.queue q → q.1.side ≡ side.Visible → InUse p → IsBorder q.1.id
    pub dropped : (InUse p → ⊥) → DropsBy (parents_of history) rows tips hidden_tips

  -- the tips and the hidden tips were met
  pub record IsStarted (p : Painter F) : Type 0 where
    pub shown : (i : ObjectId) → Contains tips i → mark_of p i ≢ None
    pub hidden : (i : ObjectId) → Contains hidden_tips i → mark_of p i ≡ Some side.Hidden

  module _ {s : Side} {ids : List ObjectId} {p new : Painter F} (m : Meets s ids p new) where
    pub started_meets : IsStarted p → IsStarted new
    started_meets h = record { shown = λ i c. (later (m.marks i)).met_stays (h.shown i c); hidden = λ i c. (later (m.marks i)).hidden_stays (h.hidden i c) }

    -- what is met is known, and nobody is busy any more
    pub stands_meets : (busy : Side → ObjectId → Type 0) → Stands busy p
        → ((i : ObjectId) → Contains ids i → Reaches (parents_of history) (starts_of s) i)
        → (s ≡ side.Visible → InUse p → (i : ObjectId) → Contains ids i → IsBorder i)
        → ((t : Side) (i : ObjectId) → busy t i → (t ≡ s) × ((c : ObjectId) → Contains (parents_of history i) c → Contains ids c))
        → Stands nobody new
    stands_meets busy h reach border done = record {
      facts = λ i. fact i (m.marks i) refl (h.facts i);
      tidy = m.tidies h.tidy;
      reached = λ q c. ⊎_elim (λ o. h.reached q o) (λ a. subst (λ t. Reaches (parents_of history) (starts_of t) q.1.id) (sym a.1) (reach q.1.id a.0)) (m.adds q c);
      waits = λ q c e. ⊎_elim (λ o. (later (m.marks q.1.id)).hidden_stays (h.waits q o e)) (λ a. (later (m.marks q.1.id)).hidden_now (sym a.1 ∙ e) a.0) (m.adds q c);
      border = λ q c e r. ⊎_elim (λ o. h.border q o e (still_stand objects store rows m r)) (λ a. border (sym a.1 ∙ e) (still_stand objects store rows m r) q.1.id a.0) (m.adds q c);
      dropped = λ n. h.dropped (λ r. n (ap (λ source. source.in_use) m.source_stays ∙ r));
    }
      where
        fact : (i : ObjectId) {a b : Option Side} → Becomes s (Contains ids i) (IsWaiting new s i) a b → mark_of new i ≡ b → Fact busy p i a → Fact nobody new i b
        fact i (stays {mark = None} f) e k = tt
        fact i (stays {mark = Some side.Visible} f) e k = (
          k.0,
          ⊎_elim (λ w. inl (waiting_stays m side.Visible i (λ v hidden. cc) w)) (λ r. inr (
            inr (⊎_elim (λ b c n. (later (m.marks c)).met_now ((done side.Visible i b).1 c n)) (λ all c n. (later (m.marks c)).met_stays (all c n)) r.0),
            (λ u. r.1 (still_stand objects store rows m u)),
            r.2,
          )) k.1,
        )
        fact i (stays {mark = Some side.Hidden} f) e k = (
          k.0,
          ⊎_elim (λ w. inl (waiting_stays m side.Hidden i (λ v. cc) w)) (λ r. inr (
            inr (⊎_elim (λ b c n. (later (m.marks c)).hidden_now (sym (done side.Hidden i b).0) ((done side.Hidden i b).1 c n)) (λ all c n. (later (m.marks c)).hidden_stays (all c n)) r.0),
            r.1,
          )) k.1,
        )
        fact i (shows v c w) e k = (subst (λ t. Reaches (parents_of history) (starts_of t) i) v (reach i c), inl (subst (λ t. IsWaiting new t i) v w))
        fact i (covers v c w) e k = (subst (λ t. Reaches (parents_of history) (starts_of t) i) v (reach i c), inl (subst (λ t. IsWaiting new t i) v w))
