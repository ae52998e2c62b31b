-- A step of the searches keeps them as they are to be.
use Rattle.std.proofs.Common.{◌≡◌, ◌≤◌, ℕ, List, ◌∷◌, true, ◌&&◌, cond, Contains, IsPermutation, sum_by, get_or, sym, ap, subst, ⊎_elim, ◌∙◌, arith}
use Rattle.std.specs.FinMap as map
use Rattle.gix_topo.proofs.Common.{Contains-permutation, IsPermutation-sym, ObjectId, id_cmp, is_same, is_among, Objects, GraphRow, same_itself, Contains-there, Parents, Side, Progress, Queued, Done, Known, Waiting, Frontier, is_side}
use Rattle.gix_topo.proofs.Common.{is_queued, reached, waits_for, waiting, IsSearch, Finishes, IsSearched, next_by, starts_by}
use Rattle.std.proofs.lemmas.List.Sums.{get_or-le-sum_by}
use Rattle.gix_topo.proofs.Counts.Frontier.{moved, side_is, side_itself, waiting-sum, waiting-permutation}
use Rattle.gix_topo.proofs.Counts.MeetsParents.{AreMet, is_new}
use Rattle.gix_topo.proofs.Counts.OneSearch.{search_steps}

-- a side's progress with each id after some ids were met and one is done
pub step_moved : (rows : List GraphRow) (entry : ℕ × Waiting) (ids : List ObjectId) (counted : ObjectId → ℕ) (old mid new : Frontier) → AreMet rows entry.1.side ids counted old mid → Finishes mid entry.1.id entry.1.side new
    → (s : Side) (j : ObjectId) → reached new.known s j ≡ cond (is_same j entry.1.id && is_side s entry.1.side) Done (cond (is_new entry.1.side ids old s j) Queued (reached old.known s j))
step_moved rows entry ids counted old mid new m f s j =
    ap (λ those. reached those s j) f.known ∙ moved mid.known entry.1.id entry.1.side s Done j ∙ ap (cond (is_same j entry.1.id && is_side s entry.1.side) Done) (m.moved s j)

module _ (objects : Objects) (rows : List GraphRow) (parents : Parents) (tips ends : List ObjectId) where
  abbrev S : List (ℕ × Waiting) → map.FinMap id_cmp Known → Type 0
  S queue known = IsSearched objects rows parents tips ends queue known

  pub searched_same : (queue : List (ℕ × Waiting)) (old new : map.FinMap id_cmp Known) → ((s : Side) (j : ObjectId) → reached new s j ≡ reached old s j) → S queue old → S queue new
  searched_same queue old new p h = record { search = λ s. subst (λ (progress : ObjectId → Progress). IsSearch (next_by objects parents s) (starts_by tips ends s) progress (waiting queue s)) (λ k j. sym (p s j) k) (h.search s); keyed = h.keyed }

  -- an id that waits is queued
  pub waits_queued : (queue : List (ℕ × Waiting)) (known : map.FinMap id_cmp Known) (entry : ℕ × Waiting) → S queue known → Contains queue entry → is_queued (reached known entry.1.side entry.1.id) ≡ true
  waits_queued queue known entry h m =
      let l : waits_for entry.1.side entry.1.id (get_or queue m.0 entry) ≤ sum_by (waits_for entry.1.side entry.1.id) queue = get_or-le-sum_by (waits_for entry.1.side entry.1.id) queue m.0 entry m.1 in
      let e : waits_for entry.1.side entry.1.id (get_or queue m.0 entry) ≡ waits_for entry.1.side entry.1.id entry = ap (waits_for entry.1.side entry.1.id) m.2 in
      grind (arith, waiting-sum queue entry.1.side entry.1.id, (h.search entry.1.side).queued entry.1.id, same_itself entry.1.id, side_itself entry.1.side)

  -- the entry is taken, its next ids are met, and it is done
  pub steps_searched : (old mid new : Frontier) (entry : ℕ × Waiting) (left : List (ℕ × Waiting)) (ids : List ObjectId) (counted : ObjectId → ℕ) → IsPermutation old.queue (entry ∷ left)
      → ((j : ObjectId) → is_among j ids ≡ true → Contains (next_by objects parents entry.1.side entry.1.id) j) → ((j : ObjectId) → Contains (next_by objects parents entry.1.side entry.1.id) j → is_among j ids ≡ true)
      → AreMet rows entry.1.side ids counted (record old { queue = left }) mid → Finishes mid entry.1.id entry.1.side new → S old.queue old.known → S new.queue new.known
  steps_searched old mid new entry left ids counted p from all m f h = record {
    search = λ s. search_steps (next_by objects parents s) (starts_by tips ends s) (is_side s entry.1.side) entry.1.id ids (reached old.known s) (reached new.known s) (waiting old.queue s) (waiting left s) (waiting new.queue s)
        (λ e j a. subst (λ t. Contains (next_by objects parents t entry.1.id) j) (sym (side_is s entry.1.side e)) (from j a))
        (λ e j c. all j (subst (λ t. Contains (next_by objects parents t entry.1.id) j) (side_is s entry.1.side e) c))
        (step_moved rows entry ids counted (record old { queue = left }) mid new m f s) (λ j. sym (waiting-permutation s j old.queue (entry ∷ left) p)) (λ j. ap (λ q. waiting q s j) f.queue ∙ m.waits s j) (h.search s);
    keyed = λ e c. ⊎_elim (λ k. k) (λ t. h.keyed e (Contains-permutation (entry ∷ left) old.queue e (IsPermutation-sym old.queue (entry ∷ left) p) (Contains-there e entry left t))) (m.keyed e (subst (λ q. Contains q e) f.queue c));
  }
