-- Why a reading fails; and what was read once is known, and as long as the rows are in use its row has no fault.
use Rattle.std.proofs.Common.{◌≡◌, List, [], Bool, true, if◌then◌else◌, Ok, Err, Contains, refl, sym, ap, subst, inl, inr, ⊎_elim, ◌∙◌}
use Rattle.gix_topo.proofs.Common.{ObjectId, kind_of, Objects, Info, is_read, GraphRow, Error, Reads, by_row, by_text, ReadFails, ReadsText, Side, Tips, Ends, Frontier, Counting, Walk, is_done, reached, plan_of, LooksUpParent, Pushes}
use Rattle.gix_topo.proofs.Common.{IsReadOnce, AreRead, TopoPlan, Ready, IsCommitRead, IsKnown, IsFound}
use Rattle.gix_revwalk.specs.RowParents.{IsUnrowed}
use Rattle.gix_topo.specs.Reading.{no_memory}
use Rattle.gix_revwalk.proofs.Rows.{IsSoundRow, passes, whole_in_use}
use Rattle.gix_topo.proofs.Reading.Faultless.{faultless}

-- why a reading failed: the store is asked only where no row of the commit is in use
pub reading_fails : {objects : Objects} {faulty : ObjectId → Type 0} {rows : List GraphRow} {in_use new : Bool} {i : ObjectId} (e : Error) → Reads objects faulty rows in_use i (Err e) new → ReadFails objects faulty rows in_use i e
reading_fails {rows = rows} {i = i} e (by_text r t) = (t, λ n u. subst (λ b. IsUnrowed (if b then rows else []) i) u (passes r).0)
reading_fails e no_memory = (tt, λ n. absurd (n refl))

-- a commit that is read from the store has no fault
pub text_read : (objects : Objects) (faulty : ObjectId → Type 0) (i : ObjectId) (info : Info) → ReadsText objects faulty i (Ok info) → IsCommitRead objects i
text_read objects faulty i info t = record { bytes = t.0; stored = t.1; faultless = faultless (kind_of i) t.0 t.2.1 }

module _ {F : Type 0} (objects : F → Objects) (faulty : F → ObjectId → Type 0) (plan : TopoPlan F) where
  -- it has a row, or it is stored as a commit that can be read
  pub once_known : {now : Bool} (in_use : Bool) {i : ObjectId} → in_use ≡ true → IsReadOnce objects faulty plan now i → IsKnown (objects plan.store) plan.rows in_use i
  once_known in_use {i} e h = go h.reads
    where
      go : {before after : Bool} → Reads (objects plan.store) (faulty plan.store) plan.rows before i (Ok h.info) after → IsKnown (objects plan.store) plan.rows in_use i
      go (by_row (is_read h says) is) = inl (e, says.row, says.there)
      go (by_text n t) = inr (text_read (objects plan.store) (faulty plan.store) i h.info t)

  -- rows that are in use after a reading have no fault there
  pub once_whole : {in_use : Bool} {i : ObjectId} → IsReadOnce objects faulty plan in_use i → in_use ≡ true → IsSoundRow plan.rows i
  once_whole {i = i} h e = go h.reads (h.later e)
    where
      go : {before after : Bool} → Reads (objects plan.store) (faulty plan.store) plan.rows before i (Ok h.info) after → after ≡ true → IsSoundRow plan.rows i
      go (by_row r is) = whole_in_use r
      go (by_text r t) = whole_in_use r

module _ {F : Type 0} (objects : F → Objects) (faulty : F → ObjectId → Type 0) where
  -- what was read once was read once also after more was read
  pub once_still : (plan : TopoPlan F) {now later : Bool} {i : ObjectId} → (later ≡ true → now ≡ true) → IsReadOnce objects faulty plan now i → IsReadOnce objects faulty plan later i
  once_still plan s h = record { info = h.info; before = h.before; after = h.after; reads = h.reads; later = λ e. h.later (s e) }

  -- where the searches have done the same, the same was read
  pub all_still : (plan : TopoPlan F) (old new : Counting F) → ((s : Side) (j : ObjectId) → reached new.frontier.known s j ≡ reached old.frontier.known s j) → (new.reader.in_use ≡ true → old.reader.in_use ≡ true) → AreRead objects faulty plan old → AreRead objects faulty plan new
  all_still plan old new moved stands h i d = once_still plan stands (h i (⊎_elim (λ a. inl (sym (ap is_done (moved Tips i)) ∙ a)) (λ b. inr (sym (ap is_done (moved Ends i)) ∙ b)) d))

  -- what the code knows is known
  pub known_by : (plan : TopoPlan F) (c : Counting F) (in_use : Bool) (f : Frontier) → ((s : Side) (j : ObjectId) → reached f.known s j ≡ reached c.frontier.known s j) → AreRead objects faulty plan c → (p : ObjectId) → LooksUpParent (objects plan.store) plan.rows in_use f p → IsKnown (objects plan.store) plan.rows in_use p
  known_by plan c in_use f moved h p k =
      ⊎_elim (λ q. once_known objects faulty plan in_use q.0 (h p (⊎_elim (λ a. inl (sym (ap is_done (moved Tips p)) ∙ a)) (λ b. inr (sym (ap is_done (moved Ends p)) ∙ b)) q.1))) (λ q. q) k

  -- a ready commit as it was found, after more was read
  pub found_later : (plan : TopoPlan F) {was_in_use before now later : Bool} {r : Ready} → (was_in_use ≡ true → before ≡ true) → (later ≡ true → now ≡ true) → IsFound objects faulty plan was_in_use now r → IsFound objects faulty plan before later r
  found_later plan t s h = record { info = h.info; before = h.before; after = h.after; reads = h.reads; is = h.is; earlier = λ e. t (h.earlier e); later = λ e. h.later (s e); known = h.known }

  -- a commit that became ready is found so
  pub found_pushed : (w : Walk F) (c : Counting F) (i : ObjectId) (r : Ready) (new : Walk F) → ((s : Side) (j : ObjectId) → reached w.counting.frontier.known s j ≡ reached c.frontier.known s j) → AreRead objects faulty (plan_of w) c → Pushes objects faulty w i r new → IsFound objects faulty (plan_of w) w.counting.reader.in_use new.counting.reader.in_use r
  found_pushed w c i r new moved h p = record {
    info = p.info;
    before = w.counting.reader.in_use;
    after = new.counting.reader.in_use;
    reads = subst (λ j. Reads (objects (plan_of w).store) (faulty (plan_of w).store) (plan_of w).rows w.counting.reader.in_use j (Ok p.info) new.counting.reader.in_use) (sym p.id) p.reads;
    is = p.is;
    earlier = λ e. e;
    later = λ e. e;
    known = λ q m. known_by (plan_of w) c new.counting.reader.in_use w.counting.frontier moved h q (p.known q (subst (λ ids. Contains ids q) (sym p.is.same_parents) m));
  }
