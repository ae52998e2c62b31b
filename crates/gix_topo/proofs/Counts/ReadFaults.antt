-- When a fault of reading comes: while exploring, and where a commit would become ready.
use Rattle.std.proofs.Common.{◌≡◌, ◌≢◌, ◌⊎◌, List, [], ◌∷◌, Bool, Some, None, Result, Ok, Err, Contains, sym, ap, subst, ◌∙◌, inl, inr, arith}
use Rattle.gix_topo.proofs.Common.{ObjectId, kind_of, Objects, Item, commit_items, first_committer, Contains-here, Contains-there, Sorting, Error, Counting, Side, Tips, Ends, Walk, IsAgreeing, infinity, known_generation}
use Rattle.gix_topo.proofs.Common.{IsExploringFault, ReadsWhole, parents_of, commit_of_object, Reaches, rows_of, IsReadFault, HasNoRowInUse, plan_by, plan_of, IsPushFault, parent, IsCounted, next_by, starts_by, AreDroppedFor, TopoPlan}
use Rattle.gix_topo.proofs.Common.{walked_of, IsSound, IsFault, IsReached, IsLookedUp, DropsBy, no_fault, text_whole}
use Rattle.gix_object.specs.declared.decode.Error.{Error as DecodeError}
use Rattle.gix_object.specs.declared.decode.Error.TheVariants as fault
use Rattle.gix_topo.specs.declared.Error.TheVariants as error
use Rattle.gix_topo.specs.Inside.Releasing.{itself}
use Rattle.gix_topo.proofs.Reading.WholeTexts.{text_tips, text_ends}
use Rattle.gix_revwalk.proofs.Committer.{fault_unread}
use Rattle.gix_topo.proofs.Counts.ExploreKeeps.{explores_same}
use Rattle.gix_topo.proofs.Counts.RowsDropped.{reached_by, read_dropped, unrowed_own, unrowed_parent, queued_within, explores_dropped}
use Rattle.gix_topo.proofs.Reading.ReadsCommit.{reads_text_next}

past : (x : Item) (items : List (Result Item DecodeError)) (e : DecodeError) → first_committer (Ok x ∷ items) ≡ Err e → first_committer items ≡ Err e
past x items e h = grind arith

-- a fault found in place of a committer is an item
pub fault_item : (items : List (Result Item DecodeError)) (e : DecodeError) → first_committer items ≡ Err e → (e ≡ fault.Missing → ⊥) → Contains items (Err e)
fault_item [] e h n = absurd (n cc)
fault_item (Err d ∷ items) e h n = let s : d ≡ e = cc in subst (λ x. Contains (Err x ∷ items) (Err e)) (sym s) (Contains-here (Err e) items)
fault_item (Ok x ∷ items) e h n = Contains-there (Err e) (Ok x) items (fault_item items e (past x items e h) n)

-- reading never answers that a count is missing
pub read_misses_no_count : (objects : Objects) (faulty : ObjectId → Type 0) (i : ObjectId) (e : Error) → IsReadFault objects faulty i e → e ≢ error.MissingIndegreeUnexpected
read_misses_no_count objects faulty i e f = λ q. subst (IsReadFault objects faulty i) q f

module _ {F : Type 0} (objects : F → Objects) (faulty : F → ObjectId → Type 0) (plan : TopoPlan F) where
  -- what is reached reads whole then
  pub reached_whole : IsSound objects faulty plan → (side : Side) (i : ObjectId) → Reaches (next_by (objects plan.store) plan.parents side) (starts_by plan.tips plan.ends side) i → ReadsWhole (objects plan.store) i
  reached_whole s Tips i r = s.tips_whole i (text_tips (objects plan.store) plan.parents plan.tips plan.ends s.tips_whole i r)
  reached_whole s Ends i r = s.ends_whole i (text_ends (objects plan.store) plan.parents plan.tips plan.ends s.ends_whole i r)

  -- a fault at a commit that is looked up with rows that agree, of which no row is in use, and that reads whole in a sound history
  pub read_fault : (Q : ObjectId → Type 0) (i : ObjectId) (e : Error) → (IsAgreeing (objects plan.store) plan.rows → IsLookedUp objects plan Q i) → (e ≢ error.Memory → (known_generation plan.rows i ≡ infinity) ⊎ DropsBy objects plan) → (IsSound objects faulty plan → ReadsWhole (objects plan.store) i) → IsReadFault (objects plan.store) (faulty plan.store) i e → IsFault objects faulty plan Q e
  read_fault Q i error.MissingIndegreeUnexpected a u w f = absurd f
  read_fault Q i error.MissingStateUnexpected a u w f = absurd f
  read_fault Q i (error.Find e) a u w f = (i, f, record { looked_up = a; unrowed = u (λ q. cc); store_fails = λ s. ap error.Find (no_fault (objects plan.store) (faulty plan.store) i (w s).commit e (w s).stored f) })
  read_fault Q i (error.ObjectDecode e) a u w f = (i, (f.0, f.1, fault_item (commit_items (kind_of i) f.0) e f.2 f.3), record { looked_up = a; unrowed = u (λ q. cc); store_fails = λ s. absurd (unread (w s)) })
    where
      unread : ReadsWhole (objects plan.store) i → ⊥
      unread w = let n : None ≡ Some w.commit = sym (fault_unread (commit_items (kind_of i) f.0) e f.2) ∙ sym (ap (commit_of_object i) f.1) ∙ w.stored in cc
  read_fault Q i error.Memory a u w f = tt

-- exploring fails
module _ {F : Type 0} (objects : F → Objects) (faulty : F → ObjectId → Type 0) (sorting : Sorting) (tips ends : List ObjectId) (taken : ObjectId → Bool) (low : Counting F) (counted : IsAgreeing (objects low.reader.find) (rows_of low.reader.graph) → IsCounted (objects low.reader.find) (rows_of low.reader.graph) low.parents tips ends taken low.frontier) (dropped : AreDroppedFor objects (plan_by low sorting tips ends) low.reader.in_use) where
  pub exploring_fault : (Q : ObjectId → Type 0) (e : Error) → IsExploringFault objects faulty low e → IsFault objects faulty (plan_by low sorting tips ends) Q e
  exploring_fault Q e f =
      read_fault objects faulty (plan_by low sorting tips ends) Q f.fault.entry.1.id e (λ a. inl (there a))
      (λ n. unrowed_own objects faulty (plan_by low sorting tips ends) f.so_far.reader.in_use f.fault.entry.1.id there (explores_dropped objects faulty sorting tips ends taken low counted f.explored dropped) (subst (λ g. HasNoRowInUse (rows_of g) f.so_far.reader.in_use f.fault.entry.1.id) (explores_same objects faulty f.explored).graph (f.fault.fault.1 n)))
      (λ s. reached_whole objects faulty (plan_by low sorting tips ends) s f.fault.entry.1.side f.fault.entry.1.id (queued_within objects faulty sorting tips ends taken low counted f.explored f.fault.entry f.fault.queued s.agreeing))
      (subst (λ x. IsReadFault (objects x) (faulty x) f.fault.entry.1.id e) (explores_same objects faulty f.explored).find f.fault.fault.0)
    where
      there : IsAgreeing (objects low.reader.find) (rows_of low.reader.graph) → IsReached objects (plan_by low sorting tips ends) f.fault.entry.1.id
      there a = reached_by objects faulty (plan_by low sorting tips ends) f.fault.entry.1.side f.fault.entry.1.id (queued_within objects faulty sorting tips ends taken low counted f.explored f.fault.entry f.fault.queued a)

module _ {F : Type 0} (objects : F → Objects) (faulty : F → ObjectId → Type 0) where
  -- a commit that tips reach, or a parent of it, can't be read
  pub push_fault : (Q : ObjectId → Type 0) (old : Walk F) (i : ObjectId) (e : Error) → (IsAgreeing (objects (plan_of old).store) (plan_of old).rows → Reaches (next_by (objects (plan_of old).store) (plan_of old).parents Tips) (plan_of old).tips i) → (IsAgreeing (objects (plan_of old).store) (plan_of old).rows → Q i) → AreDroppedFor objects (plan_of old) old.counting.reader.in_use → IsPushFault objects faulty old i e → IsFault objects faulty (plan_of old) Q e
  push_fault Q old i e r q h (itself f) = read_fault objects faulty (plan_of old) Q i e (λ a. inl (inl (r a))) (λ n. unrowed_own objects faulty (plan_of old) old.counting.reader.in_use i (λ a. inl (r a)) h (f.1 n)) (λ s. reached_whole objects faulty (plan_of old) s Tips i (r s.agreeing)) f.0
  push_fault Q old i e r q h (parent {info = info} {in_use = in_use} {p = p} reads m f) = read_fault objects faulty (plan_of old) Q p e (λ a. inr (i, q a, subst (λ ids. Contains ids p) (reads_text_next (objects (plan_of old).store) (faulty (plan_of old).store) (plan_of old).rows a reads) m)) (λ n. unrowed_parent objects faulty (plan_of old) in_use p (read_dropped objects faulty (plan_of old) (λ a. inl (r a)) reads h) f.1) parent_whole f.0
    where
      parent_whole : IsSound objects faulty (plan_of old) → ReadsWhole (objects (plan_of old).store) p
      parent_whole s =
          let reach : Reaches (walked_of objects (plan_of old)) (plan_of old).tips i = text_tips (objects (plan_of old).store) (plan_of old).parents (plan_of old).tips (plan_of old).ends s.tips_whole i (r s.agreeing) in
          let same : info.parent_ids.items ≡ parents_of (objects (plan_of old).store) i = reads_text_next (objects (plan_of old).store) (faulty (plan_of old).store) (plan_of old).rows s.agreeing reads ∙ sym (text_whole (objects (plan_of old).store) i (s.tips_whole i reach)) in
          s.parents_whole i p reach (subst (λ ids. Contains ids p) same m)

  -- nor does making a commit ready
  pub push_misses_no_count : (old : Walk F) (i : ObjectId) (e : Error) → IsPushFault objects faulty old i e → e ≢ error.MissingIndegreeUnexpected
  push_misses_no_count old i e (itself f) = read_misses_no_count (objects old.counting.reader.find) (faulty old.counting.reader.find) i e f.0
  push_misses_no_count old i e (parent {p = p} reads m f) = read_misses_no_count (objects old.counting.reader.find) (faulty old.counting.reader.find) p e f.0
