-- What ids do to a walk, one after the other, where some of them become ready.
use Rattle.std.proofs.Common.{◌≡◌, ℕ, List, [], ◌∷◌, ◌++◌, Bool, true, false, ◌||◌, cond, Ok, Contains, refl, sym, ap, subst, ⊎_elim, ◌∙◌, arith, true≢false}
use Rattle.gix_topo.proofs.Common.{cases_Bool, nat_tests, Contains-append_cases, ObjectId, is_same, is_among, Objects, GraphRow, same_is, among-append, among-one, Contains-here, Contains-there, no_member, Info, Side, Frontier, Walk}
use Rattle.gix_topo.proofs.Common.{Reads, by_row, by_text, DropsRows, Known, is_seen, known_of, progress_of, reached, is_due, MarksReady, plan_of, with_frontier, Pushes, AreRead, Ready, ready_ids, IsFound, only_member}
use Rattle.gix_revwalk.proofs.Rows.{in_use_before, dropped_by}
use Rattle.gix_topo.proofs.Reading.OnceRead.{all_still, found_later, found_pushed}
use Rattle.gix_topo.proofs.Readiness.ReadyIds.{ids-append}
use Rattle.gix_topo.proofs.Counts.Frontier.{known-insert, kept}
use Rattle.gix_topo.proofs.Counts.Children.{children_of, was_ready_of}

-- whether an id is due, by what is known of it
pub due_by : {found known : Known} {children : ℕ} → found ≡ known → children ≡ found.indegree → is_due known.indegree known ≡ is_due children found
due_by same counted = cc

module _ {F : Type 0} (objects : F → Objects) (faulty : F → ObjectId → Type 0) where
  -- rows that are in use after a reading were in use before
  pub reads_stands : {os : Objects} {fs : ObjectId → Type 0} {rows : List GraphRow} {in_use : Bool} {i : ObjectId} {info : Info} {new : Bool} → Reads os fs rows in_use i (Ok info) new → new ≡ true → in_use ≡ true
  reads_stands (by_row r is) = in_use_before r
  reads_stands (by_text r t) = in_use_before r

  -- rows that fall by reading fall by a row with a fault
  pub reads_drops : {os : Objects} {fs : ObjectId → Type 0} {rows : List GraphRow} {in_use : Bool} {i : ObjectId} {info : Info} {new : Bool} → Reads os fs rows in_use i (Ok info) new → in_use ≡ true → new ≡ false → DropsRows rows i
  reads_drops (by_row r is) = dropped_by r
  reads_drops (by_text r t) = dropped_by r

  -- what making an id ready changes
  pub marks_ready_known : (f g : Frontier) (i : ObjectId) → MarksReady f i g → (p : ObjectId) → (children_of g p ≡ children_of f p) × (was_ready_of g p ≡ (is_same p i || was_ready_of f p))
  marks_ready_known f g i m p =
      let now : known_of g.known p ≡ cond (is_same p i) (record (known_of f.known i) { was_ready = true }) (known_of f.known p) = ap (λ k. known_of k p) m.known ∙ known-insert f.known i (record (known_of f.known i) { was_ready = true }) p in
      (grind (arith, same_is p i), grind arith)

  -- and that it moves no search
  pub makes_moved : (f g : Frontier) (i : ObjectId) → MarksReady f i g → (s : Side) (p : ObjectId) → reached g.known s p ≡ reached f.known s p
  makes_moved f g i m s p = ap (λ k. reached k s p) m.known ∙ kept (progress_of s) f.known i (record (known_of f.known i) { was_ready = true }) p (grind arith)

  -- what being due says
  pub due_parts : (n : ℕ) (k : Known) → is_due n k ≡ true → (n ≡ 0) × (is_seen k.ends ≡ false) × (k.was_ready ≡ false)
  due_parts n k e = (grind (arith, nat_tests), grind (arith, nat_tests), grind (arith, nat_tests))

  -- and when it is so
  pub due_from : (n : ℕ) (k : Known) → n ≡ 0 → is_seen k.ends ≡ false → k.was_ready ≡ false → is_due n k ≡ true
  due_from n k a b c = grind (arith, nat_tests)

  -- what these ids do, of which the added commits became ready
  pub record MakesReady (old : Walk F) (ids : List ObjectId) (added : List Ready) (new : Walk F) : Type 0 where
    pub plan : plan_of new ≡ plan_of old
    pub depth : new.counting.depth ≡ old.counting.depth
    pub expanded : new.counting.expanded ≡ old.counting.expanded
    pub queue : new.counting.frontier.queue ≡ old.counting.frontier.queue
    pub moved : (s : Side) (j : ObjectId) → reached new.counting.frontier.known s j ≡ reached old.counting.frontier.known s j
    pub made : (j : ObjectId) → was_ready_of new.counting.frontier j ≡ (is_among j (ready_ids added) || was_ready_of old.counting.frontier j)
    pub stands : new.counting.reader.in_use ≡ true → old.counting.reader.in_use ≡ true
    pub among : (r : Ready) → Contains added r → Contains ids r.id
    pub each : AreRead objects faulty (plan_of old) old.counting → (r : Ready) → Contains added r → IsFound objects faulty (plan_of old) old.counting.reader.in_use new.counting.reader.in_use r
    pub dropped : old.counting.reader.in_use ≡ true → new.counting.reader.in_use ≡ false → (i : ObjectId) × Contains ids i × DropsRows (plan_of old).rows i

  -- none became ready, and the table may differ in indegrees
  pub made_none : (old : Walk F) (f : Frontier) (ids : List ObjectId) → f.queue ≡ old.counting.frontier.queue → ((s : Side) (j : ObjectId) → reached f.known s j ≡ reached old.counting.frontier.known s j) → ((j : ObjectId) → was_ready_of f j ≡ was_ready_of old.counting.frontier j) → MakesReady old ids [] (with_frontier objects faulty old f)
  made_none old f ids queue moved made = record {
    plan = refl;
    depth = refl;
    expanded = refl;
    queue = queue;
    moved = moved;
    made = made;
    stands = λ e. e;
    among = λ r m. absurd (no_member r m);
    each = λ h r m. absurd (no_member r m);
    dropped = λ a b. absurd (true≢false (sym a ∙ b));
  }

  -- one became ready
  pub made_one : (old : Walk F) (f : Frontier) {i : ObjectId} {r : Ready} {new : Walk F} → f.queue ≡ old.counting.frontier.queue → ((s : Side) (j : ObjectId) → reached f.known s j ≡ reached old.counting.frontier.known s j) → ((j : ObjectId) → was_ready_of f j ≡ was_ready_of old.counting.frontier j) → Pushes objects faulty (with_frontier objects faulty old f) i r new → MakesReady old (i ∷ []) (r ∷ []) new
  made_one old f {i} {r} {new} queue moved made p = record {
    plan = p.same.plan;
    depth = p.same.depth;
    expanded = p.same.expanded;
    queue = p.same.queue ∙ queue;
    moved = λ s j. makes_moved f new.counting.frontier i p.made s j ∙ moved s j;
    made = λ j. grind (arith, (marks_ready_known f new.counting.frontier i p.made j).1, made j, p.id, among-one j r.id);
    stands = λ e. reads_stands p.reads e;
    among = λ x m. subst (λ j. Contains (i ∷ []) j) (sym p.id ∙ ap (λ y. y.id) (only_member r x m)) (Contains-here i []);
    each = λ h x m. subst (IsFound objects faulty (plan_of old) old.counting.reader.in_use new.counting.reader.in_use) (only_member r x m) (found_pushed objects faulty (with_frontier objects faulty old f) old.counting i r new moved h p);
    dropped = λ a b. (i, Contains-here i [], reads_drops p.reads a b);
  }

  -- one id, and then others
  pub made_more : (old mid new : Walk F) (i : ObjectId) (ids : List ObjectId) (first others : List Ready) → MakesReady old (i ∷ []) first mid → MakesReady mid ids others new → MakesReady old (i ∷ ids) (first ++ others) new
  made_more old mid new i ids first others a b = record {
    plan = b.plan ∙ a.plan;
    depth = b.depth ∙ a.depth;
    expanded = b.expanded ∙ a.expanded;
    queue = b.queue ∙ a.queue;
    moved = λ s j. b.moved s j ∙ a.moved s j;
    made = λ j. grind (arith, a.made j, b.made j, ap (is_among j) (ids-append first others) ∙ among-append j (ready_ids first) (ready_ids others));
    stands = λ e. a.stands (b.stands e);
    among = λ r m. ⊎_elim (λ l. here r.id (a.among r l)) (λ t. Contains-there r.id i ids (b.among r t)) (Contains-append_cases first others r m);
    each = λ h r m. ⊎_elim (λ l. found_later objects faulty (plan_of old) (λ e. e) b.stands (a.each h r l)) (λ t. found_later objects faulty (plan_of old) a.stands (λ e. e) (subst (λ p. IsFound objects faulty p mid.counting.reader.in_use new.counting.reader.in_use r) a.plan (b.each (read_mid h) r t))) (Contains-append_cases first others r m);
    dropped = λ e d. ⊎_elim
        (λ m. let h : (j : ObjectId) × Contains ids j × DropsRows (plan_of mid).rows j = b.dropped m d in (h.0, Contains-there h.0 i ids h.1, subst (λ p. DropsRows p.rows h.0) a.plan h.2))
        (λ m. let h : (j : ObjectId) × Contains (i ∷ []) j × DropsRows (plan_of old).rows j = a.dropped e m in (h.0, here h.0 h.1, h.2)) (cases_Bool mid.counting.reader.in_use);
  }
    where
      read_mid : AreRead objects faulty (plan_of old) old.counting → AreRead objects faulty (plan_of mid) mid.counting
      read_mid h = subst (λ p. AreRead objects faulty p mid.counting) (sym a.plan) (all_still objects faulty (plan_of old) old.counting mid.counting a.moved a.stands h)

      here : (j : ObjectId) → Contains (i ∷ []) j → Contains (i ∷ ids) j
      here j m = subst (λ x. Contains (i ∷ ids) x) (only_member i j m) (Contains-here i ids)
